-- A search reads each page as it was when the search began, and so goes its way; its erases are of finished pages. Assumes nothing.
use mathlib.Core.Path.{◌≡◌, refl, sym, ap, ◌∙◌, subst}
use mathlib.Core.Bool.{Bool, true, false, cond, ◌||◌, or-true}
use mathlib.Core.List.{List, [], ◌++◌, append-nil}
use mathlib.Core.Logic.{◌⊎◌, inl, inr}
use Prim.Native.Nat.{ℕ, zero, suc, ◌+◌, ◌*◌, ◌≤◌, ◌<◌}
use native.Mathlib.Omega.{arith}
use borrow.Author.Tests.{eq-eqb}
use lib.Dec.{eqb}
use lib.ListN.{length}
use Rattle.paper.specs.declared.Geometry.{Geometry}
use Rattle.paper.specs.declared.PageState.TheVariants.{Open, Corrupted}
use Rattle.paper.specs.Chip.{data_start, page_of, page_bytes, Event, store, erase, copy, erase_page, image_after, Plan, plan, bind, and_then, Try, fails}
use Rattle.paper.specs.Scan.{Head, page_walk, walk_on, payloads}
use Rattle.paper.specs.Pages.{state, same, next, around}
use Rattle.paper.specs.Search.{Met, passed, long, met, read_heads, Stand, from_address, after_page, Outcome, nothing, short, this, Ended, ended_at, ends_at, on_met, read_page, leave_page, next_item}
use Rattle.laws.proofs.Accepted.{Laid}
use Rattle.laws.proofs.Events.{image_append, IsCopy, copies_image}
use Rattle.laws.proofs.Marks.{same_is}
use Rattle.laws.proofs.Ring.{turn, turn_full, turn_lt, turn_once, next_turn}
use Rattle.laws.proofs.Sides.{Apart, is, differs, apart}
use Rattle.laws.proofs.Standing.{page_of_start, walk_on_start}
use Rattle.demand1.specs.Range.{Each}
use Rattle.demand1.specs.Buffers.{copies_in}
use Rattle.demand1.specs.Rows.{on_the_way}
use Rattle.demand1.proofs.Lists.{each_append, each_weaker, never}
use Rattle.demand1.proofs.Pages.{ReadableWord, inner, start_word, state_same, walk_on_same}
use Rattle.demand1.proofs.EachEvent.{left_does}
use Rattle.demand1.proofs.Frames.{erase_long, erase_other, erase_open}
use Rattle.demand1.proofs.ReadingHeads.{heads_copied, outcome, meet, meets, then_meet, meet_append, passed_payloads, Meets, all, too_long, seen, meet_is}
use Rattle.demand1.proofs.HeadCopies.{copies_join, Kept, copies_none, read_of, copies_read, then_read, read_append}

-- no store, and an erase of a finished page
abbrev pub Clears : Geometry → List ℕ → Event → Type 0
Clears g im (store a word) = ⊥
Clears g im (erase p) = (p < g.pages) × ((state g im p ≡ Corrupted) ⊎ (payloads (page_walk g im p).heads ≡ []))
Clears g im (copy a n) = Unit {0}

copied_clears : (g : Geometry) (im : List ℕ) (e : Event) → IsCopy e → Clears g im e
copied_clears g im (store a word) h = h
copied_clears g im (erase p) h = absurd h
copied_clears g im (copy a n) h = tt

-- im is the image that the search began with, b the buffer's size, old the oldest page
module _ {g : Geometry} {n : ℕ} (S : Laid g n) (im : List ℕ) (b old : ℕ) (ho : old < g.pages) where
  -- every page was erased, or is as it was
  pub record Known (cur : List ℕ) : Type 0 where
    pub long : length cur ≡ n
    pub pages : (q : ℕ) → q < g.pages → (state g cur q ≡ Open) ⊎ (page_bytes g cur q ≡ page_bytes g im q)

  -- the pages from the i-th on are as they were, and the oldest is not Corrupted
  pub record Ahead (i : ℕ) (cur : List ℕ) : Type 0 where
    pub known : Known cur
    pub fresh : (j : ℕ) → i ≤ j → j < g.pages → page_bytes g cur (turn g old j) ≡ page_bytes g im (turn g old j)
    pub safe : same (state g cur old) Corrupted ≡ false

  -- what a plan from the image cur comes to, where hs are the headers on its way: it ends; or it is stuck before a Corrupted page
  pub data Came (hs : List Head) (cur : List ℕ) (p : Plan (Try Stand Ended)) : Type 0 where
    ends : (s : Stand) → p.answer ≡ ended_at s (meet g b hs) → Came hs cur p
    stuck : (q : ℕ) → q < g.pages → p.answer ≡ fails (after_page q) → meet g b hs ≡ nothing → state g (image_after g p.events cur) (next g q) ≡ Corrupted
        → Known (image_after g p.events cur) → Came hs cur p

  pub record Comes (hs : List Head) (cur : List ℕ) (p : Plan (Try Stand Ended)) : Type 0 where
    pub clears : Each (Clears g im) p.events
    pub copies : copies_in p.events ≡ read_of g b hs
    pub came : Came hs cur p

  -- ---- a page is erased

  erase_known : (p : ℕ) → p < g.pages → (cur : List ℕ) → Known cur → Known (image_after g (erase_page g p) cur)
  erase_known p h cur K = record { long = erase_long S cur K.long p h; pages = λ q k. by q k (apart q p) (K.pages q k) }
    where
      by : (q : ℕ) → q < g.pages → Apart q p → (state g cur q ≡ Open) ⊎ (page_bytes g cur q ≡ page_bytes g im q)
          → (state g (image_after g (erase_page g p) cur) q ≡ Open) ⊎ (page_bytes g (image_after g (erase_page g p) cur) q ≡ page_bytes g im q)
      by q k (is e) x = inl (subst (λ (y : ℕ). state g (image_after g (erase_page g p) cur) y ≡ Open) (sym e) (erase_open S cur K.long p h))
      by q k (differs e) (inl o) = inl (state_same S (image_after g (erase_page g p) cur) cur q (erase_other S cur K.long p h q k e) ∙ o)
      by q k (differs e) (inr o) = inr (erase_other S cur K.long p h q k e ∙ o)

  erase_ahead : (i : ℕ) → i < g.pages → (cur : List ℕ) → Ahead i cur → Ahead (suc i) (image_after g (erase_page g (turn g old i)) cur)
  erase_ahead i k cur A = record {
    known = erase_known p h cur A.known;
    fresh = λ j l r. erase_other S cur A.known.long p h (turn g old j) (turn_lt g old j ho (omega arith)) (not_yet j l r) ∙ A.fresh j (omega arith) r;
    safe = by (apart old p);
  }
    where
      p : ℕ
      p = turn g old i

      h : turn g old i < g.pages
      h = turn_lt g old i ho (omega arith)

      not_yet : (j : ℕ) → suc i ≤ j → j < g.pages → turn g old j ≡ p → ⊥
      not_yet j l r e = let z = turn_once g old j i ho r k e in omega arith

      by : Apart old p → same (state g (image_after g (erase_page g p) cur) old) Corrupted ≡ false
      by (is e) = rw (ap (state g (image_after g (erase_page g p) cur)) e ∙ erase_open S cur A.known.long p h)
      by (differs e) = rw (state_same S (image_after g (erase_page g p) cur) cur old (erase_other S cur A.known.long p h old ho e)) A.safe

  -- ---- leaving a page

  -- a page that is left is erased, or stays as it is
  abbrev left : Bool → ℕ → List Event
  left clears p = cond clears (erase_page g p) []

  left_none : (clears : Bool) (p : ℕ) → copies_in (left clears p) ≡ []
  left_none clears p = copies_none (left clears p) (left_does g Kept clears p (λ t. tt))

  left_ahead : (clears : Bool) (i : ℕ) → i < g.pages → (cur : List ℕ) → Ahead i cur → Ahead (suc i) (image_after g (left clears (turn g old i)) cur)
  unfolding image_after
  left_ahead true i k cur A = erase_ahead i k cur A
  left_ahead false i k cur A = record { known = A.known; fresh = λ j l r. A.fresh j (omega arith) r; safe = A.safe }

  -- the next page: the oldest one again, or as it was
  data Next (cur : List ℕ) (q : ℕ) : Type 0 where
    round : q ≡ old → same (state g cur q) Corrupted ≡ false → Next cur q
    onward : state g cur q ≡ state g im q → Next cur q

  next_page : (i k : ℕ) (cur : List ℕ) → i + suc k ≡ g.pages → Ahead i cur → Next cur (next g (turn g old i))
  next_page i k cur e A = subst (Next cur) (sym (next_turn g old i ho (omega arith))) (by k e)
    where
      by : (k : ℕ) → i + suc k ≡ g.pages → Next cur (turn g old (suc i))
      by zero e =
          let z : suc i ≡ g.pages = omega arith in
          let o : turn g old (suc i) ≡ old = ap (turn g old) z ∙ turn_full g old ho in
          round o (rw o A.safe)
      by (suc k) e = onward (state_same S cur im (turn g old (suc i)) (A.fresh (suc i) (omega arith) (omega arith)))

  abbrev stops : List ℕ → ℕ → Bool
  stops jm q = same (state g jm q) Open || same (state g jm q) Corrupted || eqb q old

  come_leave : (clears : Bool) (p : ℕ) (h : p < g.pages) (cur : List ℕ) (further : List ℕ → Plan (Try Stand Ended)) (later : List Head)
      → Known cur → Next cur (next g p)
      → (clears ≡ true → payloads (page_walk g im p).heads ≡ []) → (let i = image_after g (left clears p) cur in Comes later i (further i))
      → Comes (cond (stops im (next g p)) [] later) cur (leave_page g old clears p further cur)
  unfolding leave_page meet bind image_after copies_in read_of
  come_leave clears p h cur further later K (round e c) none C =
      rw (
        c,
        eq-eqb (next g p) old e,
        or-true (same (state g im (next g p)) Open || same (state g im (next g p)) Corrupted),
        or-true (same (state g cur (next g p)) Open),
      )
      (record { clears = tt; copies = refl; came = ends (after_page p) refl })
  come_leave clears p h cur further later K (onward e) none C =
      rw e (by (same (state g im (next g p)) Open) (same (state g im (next g p)) Corrupted) (eqb (next g p) old) refl)
    where
      quiet : Known (image_after g [] cur)
      quiet = K

      es : List Event
      es = left clears p

      i : List ℕ
      i = image_after g (left clears p) cur

      turned : Came later i (further i) → Came later cur (and_then g cur es further)
      turned (ends s q) = ends s q
      turned (stuck q k a m s K) = let z = image_append g es (further i).events cur in stuck q k a m (rw z s) (rw z K)

      by : (o c r : Bool) → same (state g im (next g p)) Corrupted ≡ c
          → Comes (cond (o || c || r) [] later) cur
          (cond c (plan [] (fails (after_page p))) (cond (o || r) (ends_at (after_page p) nothing) (and_then g cur es further)))
      by true true r q = record { clears = tt; copies = refl; came = stuck p h refl refl (e ∙ same_is (state g im (next g p)) Corrupted q) quiet }
      by false true r q = record { clears = tt; copies = refl; came = stuck p h refl refl (e ∙ same_is (state g im (next g p)) Corrupted q) quiet }
      by true false r q = record { clears = tt; copies = refl; came = ends (after_page p) refl }
      by false false true q = record { clears = tt; copies = refl; came = ends (after_page p) refl }
      by false false false q = record {
        clears =
            each_append (Clears g im) es (further i).events (left_does g (Clears g im) clears p (λ t. (h, inr (none t)))) C.clears;
        copies = copies_join es (further i).events ∙ ap (λ (x : List Event). x ++ copies_in (further i).events) (left_none clears p) ∙ C.copies;
        came = turned C.came;
      }

  -- ---- reading a page

  none_present : (hs : List Head) {m : Outcome} → Meets g b hs m → m ≡ nothing → payloads hs ≡ []
  none_present hs (all e) q = passed_payloads g b hs e
  none_present hs (too_long h s a c) q = never (cc)
  none_present hs (seen h s a c) q = never (cc)

  -- from address a on, in page r
  module _ (a r : ℕ) (hs : List Head) (cur : List ℕ) (further : List ℕ → Plan (Try Stand Ended)) where
    abbrev reads : List Event
    reads = (read_heads g b a hs cur).events

    only_copies : Each IsCopy reads
    only_copies = heads_copied g b a hs cur

    done : Each (Clears g im) reads
    done = each_weaker IsCopy (Clears g im) (copied_clears g im) reads only_copies

    bound : (m : Met) → (read_heads g b a hs cur).answer ≡ m
        → bind g cur (read_heads g b a hs cur) (on_met g r further) ≡ plan (reads ++ (on_met g r further m cur).events) (on_met g r further m cur).answer
    unfolding bind
    bound m q = rw (q, copies_image g reads cur only_copies)

    met_so : (m : Met) → (read_heads g b a hs cur).answer ≡ m → meet g b hs ≡ outcome m
    met_so m q = sym (meets g b a hs cur) ∙ ap outcome q

    joined : (later : List Head) (m : Outcome) → meet g b hs ≡ m → meet g b (hs ++ later) ≡ then_meet m (meet g b later)
    joined later m q = meet_append g b hs later ∙ ap (λ (x : Outcome). then_meet x (meet g b later)) q

    -- what is copied here, and then
    read_then : (es : List Event) → copies_in (reads ++ es) ≡ read_of g b hs ++ copies_in es
    read_then es = copies_join reads es ∙ ap (λ (x : List Event). x ++ copies_in es) (copies_read g b a hs cur)

    read_only : (later : List Head) (m : Outcome) → meet g b hs ≡ m → ((es fs : List Event) → then_read g b m es fs ≡ es)
        → copies_in (reads ++ []) ≡ read_of g b (hs ++ later)
    unfolding copies_in
    read_only later m q f =
        read_then [] ∙ append-nil (read_of g b hs) ∙ sym (f (read_of g b hs) (read_of g b later))
        ∙ ap (λ (x : Outcome). then_read g b x (read_of g b hs) (read_of g b later)) (sym q) ∙ sym (read_append g b hs later)

    come_heads : (later : List Head) → (payloads hs ≡ [] → Comes later cur (further cur))
        → Comes (hs ++ later) cur (bind g cur (read_heads g b a hs cur) (on_met g r further))
    unfolding on_met
    come_heads later f = by (read_heads g b a hs cur).answer refl
      where
        after : (es : List Event) → image_after g (reads ++ es) cur ≡ image_after g es cur
        after es = image_append g reads es cur ∙ ap (image_after g es) (copies_image g reads cur only_copies)

        come : meet g b hs ≡ nothing → Came later cur (further cur) → Came (hs ++ later) cur (plan (reads ++ (further cur).events) (further cur).answer)
        come q (ends s e) = ends s (e ∙ ap (ended_at s) (sym (joined later nothing q)))
        come q (stuck r h e m s K) = stuck r h e (joined later nothing q ∙ m) (rw (after (further cur).events) s) (rw (after (further cur).events) K)

        by : (m : Met) → (read_heads g b a hs cur).answer ≡ m → Comes (hs ++ later) cur (bind g cur (read_heads g b a hs cur) (on_met g r further))
        by passed q =
            let z = met_so passed q in
            let C = f (none_present hs (meet_is g b hs) z) in
            subst (Comes (hs ++ later) cur) (sym (bound passed q)) (record {
              clears = each_append (Clears g im) reads (further cur).events done C.clears;
              copies = read_then (further cur).events ∙ ap (λ (x : List Event). read_of g b hs ++ x) C.copies
                  ∙ ap (λ (x : Outcome). then_read g b x (read_of g b hs) (read_of g b later)) (sym z) ∙ sym (read_append g b hs later);
              came = come z C.came;
            })
        by (long s k) q = subst (Comes (hs ++ later) cur) (sym (bound (long s k) q))
            (record {
              clears = each_append (Clears g im) reads [] done tt;
              copies = read_only later (short k) (met_so (long s k) q) (λ es fs. refl);
              came = ends (from_address s) (ap (ended_at (from_address s)) (sym (joined later (short k) (met_so (long s k) q))));
            })
        by (met h) q = subst (Comes (hs ++ later) cur) (sym (bound (met h) q))
            (record {
              clears = each_append (Clears g im) reads [] done tt;
              copies = read_only later (this h) (met_so (met h) q) (λ es fs. refl);
              came = ends _ (ap (ended_at _) (sym (joined later (this h) (met_so (met h) q))));
            })

  -- ---- all the way

  module _ (clears : Bool) where
    -- the i-th page is read from address a on, and left
    come_page : (m k i : ℕ) → i + suc k ≡ g.pages → (cur : List ℕ) → Ahead i cur → (a : ℕ) → ReadableWord g a → page_of g a ≡ turn g old i
        → (clears ≡ true → payloads (walk_on g im a).heads ≡ [] → payloads (page_walk g im (turn g old i)).heads ≡ []) → (later : List Head)
        → ((cur : List ℕ) → Ahead (suc i) cur → Comes later cur (next_item g b old clears m (from_address (data_start g (next g (turn g old i)))) cur))
        → Comes ((walk_on g im a).heads ++ cond (stops im (next g (turn g old i))) [] later) cur (next_item g b old clears (suc (suc m)) (from_address a) cur)
    unfolding next_item read_page
    come_page m k i e cur A a R here finished later f =
        let p : ℕ = turn g old i in
        let h : i < g.pages = omega arith in
        let further : List ℕ → Plan (Try Stand Ended) = next_item g b old clears m (from_address (data_start g (next g p))) in
        rw (walk_on_same S cur im a R (rw here (A.fresh i (omega arith) h)), here)
        (come_heads a p (walk_on g im a).heads cur (leave_page g old clears p further) _
        (λ none. come_leave clears p (turn_lt g old i ho (omega arith)) cur further later A.known (next_page i k cur e A) (λ t. finished t none)
        (f (image_after g (left clears p) cur) (left_ahead clears i h cur A))))

    pub ways : (k i : ℕ) → i + k ≡ g.pages → (cur : List ℕ) → Ahead i cur
        → Comes (on_the_way g im old (around g k (turn g old i))) cur (next_item g b old clears (2 * k) (from_address (data_start g (turn g old i))) cur)
    unfolding on_the_way around next_item meet copies_in read_of
    ways zero i e cur A = record { clears = tt; copies = refl; came = ends (from_address (data_start g (turn g old i))) refl }
    ways (suc k) i e cur A =
        let p : ℕ = turn g old i in
        let z : 2 * suc k ≡ suc (suc (2 * k)) = omega arith in
        let w = walk_on_start g (inner S) im p in
        rw (z, ← w)
        (come_page (2 * k) k i e cur A (data_start g p) (start_word S p (turn_lt g old i ho (omega arith))) (page_of_start g (inner S) p)
        (λ t none. rw (← w) none) _
        (λ cur A. rw (next_turn g old i ho (omega arith)) (ways k (suc i) (omega arith) cur A)))
