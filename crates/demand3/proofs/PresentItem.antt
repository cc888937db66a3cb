-- A present item: where it stands, and what zeros in its CRC, from the first byte on, make of its page, the invariant and the list. Assumes nothing.
use mathlib.Core.Bool.{Bool, true, false}
use mathlib.Core.List.Memᴰ
use mathlib.Core.List.{List, [], ◌∷◌, ◌++◌, append_assoc, Memᴰ}
use mathlib.Core.Logic.{◌⊎◌, inl, inr}
use mathlib.Core.Path.{◌≡◌, refl, sym, ap, ap₂, ◌∙◌, subst}
use Prim.Native.Nat.{ℕ, ◌+◌, ◌*◌, ◌-◌, ◌≤◌, ◌<◌, suc, min}
use native.Mathlib.Nat.{zero-add}
use native.Mathlib.Omega.{arith}
use borrow.Author.Tests.{eqb-true, eqb-false}
use lib.Dec.{eqb, lit<}
use lib.ListN.{length, take, drop, length-append, length-drop, length-replicate}
use lib.Seq.{drop-drop, drop_at}
use Rattle.paper.specs.declared.Geometry.{Geometry}
use Rattle.paper.specs.declared.PageState.TheVariants.{Open}
use Rattle.paper.specs.Checksum.{length_crc}
use Rattle.paper.specs.Chip.{header_size, data_start, data_size, page_data, part, put, image_after, before, writes}
use Rattle.paper.specs.Slip.{encode, number_of}
use Rattle.paper.specs.Scan.{Head, Walk, walk, page_walk, payloads, present}
use Rattle.paper.specs.Pages.{state, start_mark, end_mark}
use Rattle.paper.specs.Waiting.{waiting}
use Rattle.paper.specs.Fifo.{Bytes}
use Rattle.laws.proofs.Parts.{length_part}
use Rattle.laws.proofs.Ring.{turn, turn_once}
use Rattle.laws.proofs.Rounding.{round_up_ge}
use Rattle.laws.proofs.Headers.{header_ge}
use Rattle.laws.proofs.Looking.{Taken, look_item}
use Rattle.demand3.specs.Addresses.{presents, waiting_heads}
use Rattle.demand3.proofs.Bytes.{bytes_take, bytes_drop, bytes_replicate, put_bytes}
use Rattle.demand3.proofs.Replaced.{NoneAccepted, front_of_lem}
use Rattle.demand3.proofs.Courses.{course_of}
use Rattle.demand3.proofs.ZeroedScan.{zeros, OfCrc, struck_head, struck_gone, low_zero, HeadOn, head_on, zeroed_walk}
use Rattle.demand3.proofs.ZeroedHeader.{Heading, zeroing, zeroing_all}
use Rattle.demand3.proofs.Payloads.{payloads_append}
use Rattle.demand3.proofs.Addresses.{presents_append, payloads_waiting}
use Rattle.demand3.proofs.Views.{View, state_in, view, in_data, put_inner, page_inside, inner_length, inner_high}
use Rattle.demand3.proofs.RingShape.{keep_shape}
use Rattle.demand3.proofs.ListedHeads.{heads_in, run_heads, heads_append, heads_same}
use Rattle.demand3.proofs.Changed.{Changed, still_good, walk_other, walk_this, states_same, inner_changed}
use Rattle.demand3.proofs.Invariant.{CleanRest, Inv, turn_in, current_in, open_walk, listed_heads, pages_still_ok}

-- h is a present item, in the page `turns` places after the oldest one
pub record PresentItem (g : Geometry) (im : List ℕ) (h : Head) : Type 0 where
  pub old : ℕ
  pub runs : ℕ
  pub inv : Inv g im old runs
  pub turns : ℕ
  pub in_run : turns ≤ runs
  pub page : ℕ
  pub page_is : turn g old turns ≡ page
  pub pre : List Head
  pub post : List Head
  pub heads_are : (page_walk g im page).heads ≡ pre ++ (h ∷ post)
  pub is_present : present h ≡ true

pub nil_not : (pre : List Head) (h : Head) (post : List Head) → ◌≡◌ {A = List Head} [] (pre ++ (h ∷ post)) → ⊥
nil_not [] h post e = let z : ◌≡◌ {A = ℕ} 0 1 = cc in omega arith
nil_not (x ∷ pre) h post e = let z : ◌≡◌ {A = ℕ} 0 1 = cc in omega arith

amid : (a pre mid c : List Head) → a ++ (presents (pre ++ mid) ++ c) ≡ (a ++ presents pre) ++ (presents mid ++ c)
amid a pre mid c =
    ap (λ (x : List Head). a ++ (x ++ c)) (presents_append pre mid) ∙ ap (λ (x : List Head). a ++ x) (append_assoc (presents pre) (presents mid) c)
    ∙ sym (append_assoc a (presents pre) (presents mid ++ c))

module _ {g : Geometry} {im : List ℕ} {h : Head} (F : PresentItem g im h) where
  abbrev I : Inv g im F.old F.runs
  I = F.inv

  abbrev o : ℕ
  o = F.old

  abbrev b : ℕ
  b = F.runs

  abbrev t : ℕ
  t = F.turns

  abbrev p : ℕ
  p = F.page

  abbrev d : List ℕ
  d = page_data g im F.page

  pos : 0 < g.word
  pos = I.good.sized.low

  pub item_in : F.page < g.pages
  item_in = subst (λ (x : ℕ). x < g.pages) F.page_is (turn_in I t (omega (arith, F.in_run, I.shape.run_in)))

  pub item_not_empty : (page_walk g im F.page).heads ≡ [] → ⊥
  item_not_empty e = nil_not F.pre h F.post (sym e ∙ F.heads_are)

  -- ---- where it stands

  P : HeadOn g (data_start g F.page) (page_data g im F.page) F.pre h F.post (page_walk g im F.page).refused (page_walk g im F.page).rest
  unfolding page_walk
  P = head_on g pos (course_of g pos (data_start g p) d) F.pre h F.post F.heads_are

  A : Taken g P.from h.crc h.len h.body
  A = look_item g P.from P.seen

  -- what stands before it in its page
  front : List ℕ
  front = (front_of_lem g pos P.first).front

  front_is : page_data g im F.page ≡ front ++ P.from
  unfolding front
  front_is = (front_of_lem g pos P.first).split

  from_is : drop (length front) (page_data g im F.page) ≡ P.from
  from_is = ap (drop (length front)) front_is ∙ drop_at front P.from (length front) refl

  sizes : length front + length P.from ≡ data_size g
  sizes = sym (length-append front P.from) ∙ ap length (sym front_is) ∙ inner_length im I.good p item_in

  at : data_start g F.page + length front ≡ h.place
  at = omega (arith, P.place_is, length-append front P.from, ap length front_is)

  -- bytes of the item, in the image
  there : (i m : ℕ) → i + m ≤ length P.from → part (h.place + i) m im ≡ part i m P.from
  there i m k =
      let f : ℕ = length front in
      let z : h.place + i ≡ data_start g p + (f + i) = omega (arith, at) in
      ap (λ (x : ℕ). part x m im) z ∙ in_data g im p (f + i) m (omega (arith, sizes)) ∙ ap (take m) (sym (drop-drop i f d) ∙ ap (drop i) from_is)

  fits : h.place + header_size g ≤ length im
  fits =
      let k : length front + header_size g ≤ data_size g = omega (arith, sizes, A.room) in
      omega (arith, at, inner_high I.good p (length front) (header_size g) k, page_inside im I.good p item_in)

  same_header : (i m : ℕ) → i + m ≤ header_size g → part i m (drop h.place im) ≡ part i m P.from
  same_header i m k = ap (take m) (drop-drop i h.place im) ∙ there i m (omega (arith, A.room))

  heading : Heading g (drop h.place im) h.len
  heading =
      let k = header_ge g pos in
      let b : Bytes P.from = subst Bytes from_is (bytes_drop (length front) d (I.pages_ok p item_in).bytes) in
      record {
        room = omega (arith, fits, length-drop h.place im);
        bytes = rw (same_header 0 (header_size g) (omega arith)) (bytes_take (header_size g) P.from b);
        check = ap length_crc (same_header 4 2 (omega arith)) ∙ A.check ∙ ap number_of (sym (same_header 6 2 (omega arith)));
        len = ap number_of (same_header 4 2 (omega arith)) ∙ A.len_is;
      }

  body_room : header_size g + h.len ≤ length P.from
  body_room = omega (arith, A.room, round_up_ge g.word h.len pos)

  pub item_body : part (h.place + header_size g) h.len im ≡ h.body
  item_body = there (header_size g) h.len body_room ∙ A.body_is

  pub item_length : length h.body ≡ h.len
  item_length = ap length (sym A.body_is) ∙ length_part (header_size g) h.len P.from body_room

  -- ---- the list: what stands before it, the item, and what stands behind it

  abbrev pub item_before : List Head
  item_before = run_heads g im F.old 0 F.turns ++ presents F.pre

  abbrev pub item_after : List Head
  item_after = presents F.post ++ run_heads g im F.old (suc F.turns) (F.runs - F.turns)

  parted : {jm : List ℕ} → Inv g jm F.old F.runs → waiting_heads g jm
      ≡ run_heads g jm F.old 0 F.turns ++ (heads_in g jm F.page ++ run_heads g jm F.old (suc F.turns) (F.runs - F.turns))
  unfolding run_heads
  parted {jm} J =
      let m : ℕ = b - t in
      let z : suc b ≡ t + suc m = omega (arith, F.in_run) in
      let R : List Head = run_heads g jm o 0 t in
      listed_heads J ∙ ap (run_heads g jm o 0) z ∙ heads_append g jm o 0 t (suc m)
      ∙ ap (λ (x : ℕ). R ++ run_heads g jm o x (suc m)) (zero-add t)
      ∙ ap (λ (x : ℕ). R ++ (heads_in g jm x ++ run_heads g jm o (suc t) m)) F.page_is

  pub item_listed : waiting_heads g im ≡ item_before ++ (h ∷ item_after)
  unfolding presents
  item_listed =
      let R : List Head = run_heads g im o 0 t in
      let T : List Head = run_heads g im o (suc t) (b - t) in
      let y : presents (h ∷ F.post) ≡ h ∷ presents F.post = rw F.is_present in
      parted I ∙ ap (λ (x : List Head). R ++ (presents x ++ T)) F.heads_are ∙ amid R F.pre (h ∷ F.post) T
      ∙ ap (λ (x : List Head). (R ++ presents F.pre) ++ (x ++ T)) y

  pub item_waits : waiting g im ≡ payloads item_before ++ (h.body ∷ payloads item_after)
  unfolding payloads
  item_waits =
      let y : payloads (h ∷ item_after) ≡ h.body ∷ payloads item_after = rw F.is_present in
      sym (payloads_waiting g im) ∙ ap payloads item_listed ∙ payloads_append item_before (h ∷ item_after)
      ∙ ap (λ (x : List (List ℕ)). payloads item_before ++ x) y

  -- ---- its header is stored again with CRC 0

  pub item_zeroed : (j : ℕ) → image_after g (before j (writes g h.place (encode g 0 h.len))) im ≡ put h.place (zeros (min 4 (j * g.word))) im
  item_zeroed = zeroing g im pos h.place h.len fits heading

  pub item_zeroed_all : image_after g (writes g h.place (encode g 0 h.len)) im ≡ put h.place (zeros 4) im
  item_zeroed_all = zeroing_all g im pos h.place h.len fits heading

  module _ {i : ℕ} (Z : OfCrc i)
      (U : NoneAccepted (page_walk g im F.page).refused (page_walk g (put h.place (zeros i) im) F.page).heads) where
    abbrev jm : List ℕ
    jm = put h.place (zeros i) im

    -- the CRC that is then read
    abbrev read : ℕ
    read = number_of (part (length front) 4 (put (length front) (zeros i) (page_data g im F.page)))

    gone : present (struck_head read h) ≡ false
    gone = struck_gone read h (low_zero Z (length front) d (omega (arith, length-append front P.from, ap length front_is)))

    abbrev v : View
    v = record { first = start_mark g im F.page; inner = put (length front) (zeros i) (page_data g im F.page); last = end_mark g im F.page }

    C : Changed g im (put h.place (zeros i) im) F.page v
    C =
        let k = Z.few in
        let room : length front + length (zeros i) ≤ data_size g = omega (arith, sizes, A.room, header_ge g pos, length-replicate {A = ℕ} i 0) in
        subst (λ (x : ℕ). Changed g im (put x (zeros i) im) p v) at
        (inner_changed im I.good p item_in (length front) (zeros i) v room (put_inner im I.good p item_in (zeros i) (length front) room))

    abbrev new : Walk
    new = record { heads = F.pre ++ (struck_head read h ∷ F.post); refused = (page_walk g im F.page).refused; rest = (page_walk g im F.page).rest }

    new_walk : walk g 0 (data_start g F.page) (put (length front) (zeros i) (page_data g im F.page)) ≡ new
    unfolding page_walk
    new_walk = zeroed_walk g pos Z (data_start g p) d F.pre h F.post F.heads_are (length front) at
        (subst (λ (w : Walk). NoneAccepted (page_walk g im p).refused w.heads) (walk_this C) U)

    struck_page : page_walk g (put h.place (zeros i) im) F.page ≡ new
    struck_page = walk_this C ∙ new_walk

    same_state : (q : ℕ) → q < g.pages → state g (put h.place (zeros i) im) q ≡ state g im q
    unfolding state
    same_state = states_same C refl

    not_open : state_in (view g im F.page) ≡ Open → ⊥
    unfolding state
    not_open q = item_not_empty (ap (λ (w : Walk). w.heads) (open_walk I p item_in q))

    pub struck_inv : Inv g (put h.place (zeros i) im) F.old F.runs
    unfolding page_walk
    struck_inv =
        let K = I.pages_ok p item_in in
        record {
          good = still_good C I.good;
          shape = keep_shape g im jm o b I.shape (λ i k ne. same_state (turn g o i) (turn_in I i (omega arith)))
              (rw (same_state (turn g o b) (current_in I)) I.shape.now);
          pages_ok = pages_still_ok I C (record {
            clean = subst (λ (w : Walk). CleanRest g w.rest) (sym new_walk) K.clean;
            quiet = λ k. ap (λ (w : Walk). w.refused) new_walk ∙ K.quiet k;
            untouched = λ q. absurd (not_open q);
            bytes = put_bytes (length front) (zeros i) d (bytes_replicate i 0 (lit< tt)) K.bytes;
          });
        }

    others : (n m : ℕ) → n + m ≤ suc F.runs → ((j : ℕ) → n ≤ j → j < n + m → j ≡ F.turns → ⊥)
        → run_heads g (put h.place (zeros i) im) F.old n m ≡ run_heads g im F.old n m
    others n m l ne =
        let s = I.shape.run_in in
        heads_same g jm im o n m (λ j h₁ h₂. ap (λ (w : Walk). presents w.heads) (walk_other C (turn g o j) (turn_in I j (omega arith))
        (λ q. ne j h₁ h₂ (turn_once g o j t I.shape.old_in (omega arith) (omega (arith, F.in_run)) (q ∙ sym F.page_is)))))

    -- the list without it
    pub struck_listed : waiting_heads g (put h.place (zeros i) im) ≡ item_before ++ item_after
    unfolding presents
    struck_listed =
        let R : List Head = run_heads g im o 0 t in
        let T : List Head = run_heads g im o (suc t) (b - t) in
        let k = F.in_run in
        let r : run_heads g jm o 0 t ≡ R = others 0 t (omega arith) (λ j h₁ h₂ q. let z : ⊥ = omega arith in z) in
        let u : run_heads g jm o (suc t) (b - t) ≡ T = others (suc t) (b - t) (omega arith) (λ j h₁ h₂ q. let z : ⊥ = omega arith in z) in
        let w : presents (struck_head read h ∷ F.post) ≡ presents F.post = rw gone in
        let y : heads_in g jm p ≡ presents (F.pre ++ (struck_head read h ∷ F.post)) = ap (λ (w : Walk). presents w.heads) struck_page in
        parted struck_inv ∙ ap₂ (λ (x z : List Head). x ++ z) r (ap₂ (λ (x z : List Head). x ++ z) y u)
        ∙ amid R F.pre (struck_head read h ∷ F.post) T ∙ ap (λ (x : List Head). (R ++ presents F.pre) ++ (x ++ T)) w

    pub struck_waits : waiting g (put h.place (zeros i) im) ≡ payloads item_before ++ payloads item_after
    struck_waits = sym (payloads_waiting g jm) ∙ ap payloads struck_listed ∙ payloads_append item_before item_after

    -- no address is accepted that was not
    pub struck_places : (q : ℕ) → q < g.pages → (x : Head) → Memᴰ x (page_walk g (put h.place (zeros i) im) q).heads
        → (y : Head) × Memᴰ y (page_walk g im q).heads × (y.place ≡ x.place)
    struck_places q hq x m = by (eqb q p) refl
      where
        Known : List Head → Type 0
        Known hs = (y : Head) × Memᴰ y hs × (y.place ≡ x.place)

        same_place : (x ≡ struck_head read h) ⊎ Memᴰ x F.post → Known (F.pre ++ (h ∷ F.post))
        same_place (inl e) = (h, Memᴰ.append_right F.pre (Memᴰ.head refl), ap (λ (y : Head). y.place) (sym e))
        same_place (inr e) = (x, Memᴰ.append_right F.pre (Memᴰ.tail e), refl)

        in_page : Memᴰ x F.pre ⊎ Memᴰ x (struck_head read h ∷ F.post) → Known (F.pre ++ (h ∷ F.post))
        in_page (inl k) = (x, Memᴰ.append_left (h ∷ F.post) k, refl)
        in_page (inr k) = same_place (Memᴰ.cases_cons k)

        by : (t : Bool) → eqb q p ≡ t → Known (page_walk g im q).heads
        by false k = (x, subst (λ (w : Walk). Memᴰ x w.heads) (walk_other C q hq (eqb-false q p k)) m, refl)
        by true k =
            let e : q ≡ p = eqb-true q p k in
            let n = subst (λ (w : Walk). Memᴰ x w.heads) struck_page (subst (λ (y : ℕ). Memᴰ x (page_walk g jm y).heads) e m) in
            subst (λ (y : ℕ). Known (page_walk g im y).heads) (sym e) (subst Known (sym F.heads_are) (in_page (Memᴰ.append_cases F.pre n)))
