-- A header with CRC bytes made 0, its first one and maybe more: the scan of its page. Assumes nothing.
use mathlib.Core.Bool.{true, false, and-false}
use mathlib.Core.List.Memᴰ
use mathlib.Core.List.{List, [], ◌∷◌, ◌++◌, Memᴰ, head-eq_of_cons-eq, tail-eq_of_cons-eq}
use mathlib.Core.Path.{◌≡◌, refl, sym, ap, ap₂, ◌∙◌, subst}
use Prim.Native.Nat.{ℕ, zero, suc, ◌+◌, ◌-◌, ◌%◌, ◌≤◌, ◌<◌}
use native.Mathlib.Omega.{arith}
use borrow.Author.Tests.{ne_eqb}
use lib.ListN.{length, take, drop, replicate, length-append, length-drop, length-replicate}
use lib.Seq.{length-take-le, drop_at, drop-drop}
use Rattle.paper.specs.declared.Geometry.{Geometry}
use Rattle.paper.specs.Checksum.{length_crc, data_crc}
use Rattle.paper.specs.Chip.{header_size, part, put}
use Rattle.paper.specs.Slip.{item, look, blank, number_of}
use Rattle.paper.specs.Scan.{Head, Walk, onward, walk, present, live}
use Rattle.checksum.proofs.Adjusted.{data_low}
use Rattle.laws.proofs.Puts.{put_at_end}
use Rattle.laws.proofs.Headers.{header_ge, header_word}
use Rattle.laws.proofs.Looking.{look_item, look_bad, item_look}
use Rattle.demand3.proofs.Sizes.{item_size}
use Rattle.demand3.proofs.Headers.{first_used}
use Rattle.demand3.proofs.Courses.{Course, here, past, over, walk_step, course_of, walk_stops, course_walk}
use Rattle.demand3.proofs.Replaced.{NoneAccepted, MayReplace, after_these, Front, front_of_lem}

abbrev pub zeros : ℕ → List ℕ
zeros i = replicate i 0

-- i of a CRC's bytes, one at least
pub record OfCrc (i : ℕ) : Type 0 where
  pub some : 0 < i
  pub few : i ≤ 4

-- the head with CRC c
abbrev pub struck_head : ℕ → Head → Head
struck_head c h = record { place = h.place; crc = c; len = h.len; body = h.body }

-- it is not present where c has low byte 0, for the CRC of no payload has
pub struck_gone : (c : ℕ) (h : Head) → c % 256 ≡ 0 → present (struck_head c h) ≡ false
unfolding present
struck_gone c h e =
    let n : data_crc h.body ≡ c → ⊥ = λ q. (data_low h.body).0 (ap (λ (x : ℕ). x % 256) q ∙ e) in
    rw (ne_eqb (data_crc h.body) c n) (and-false (live (struck_head c h)))

first_zero : (i : ℕ) → 0 < i → (r : List ℕ) → zeros i ++ r ≡ 0 ∷ (zeros (i - 1) ++ r)
first_zero zero h r = let z : ⊥ = omega arith in absurd z
first_zero (suc i) h r = let z : suc i - 1 ≡ i = omega arith in rw z

-- the CRC that is read where its first bytes were made 0 has low byte 0
pub low_zero : {i : ℕ} → OfCrc i → (k : ℕ) (d : List ℕ) → k ≤ length d → number_of (part k 4 (put k (zeros i) d)) % 256 ≡ 0
unfolding put number_of
low_zero {i} Z k d h =
    let r : List ℕ = drop (k + length (zeros i)) d in
    rw (drop_at (take k d) (zeros i ++ r) k (length-take-le k d h), first_zero i Z.some r) (omega arith)

-- a head on a course: the course comes to it, the look accepts it, the course goes on
pub record HeadOn (g : Geometry) (a : ℕ) (d : List ℕ) (pre : List Head) (h : Head) (post : List Head) (rs r : List ℕ) : Type 0 where
  pub from : List ℕ
  pub rs₁ : List ℕ
  pub rs₂ : List ℕ
  pub first : Course g a d pre rs₁ from
  pub seen : look g from ≡ item h.crc h.len h.body
  pub later : Course g (h.place + item_size g h.len) (drop (item_size g h.len) from) post rs₂ r
  pub refused_are : rs ≡ rs₁ ++ rs₂
  pub place_is : h.place + length from ≡ a + length d

module _ (g : Geometry) (pos : 0 < g.word) where
  pub head_on : {a : ℕ} {d : List ℕ} {hs : List Head} {rs r : List ℕ} → Course g a d hs rs r
      → (pre : List Head) (h : Head) (post : List Head) → hs ≡ pre ++ (h ∷ post) → HeadOn g a d pre h post rs r
  head_on here [] h post e = let z : ◌≡◌ {A = ℕ} 0 1 = cc in absurd (omega arith)
  head_on here (x ∷ pre) h post e = let z : ◌≡◌ {A = ℕ} 0 1 = cc in absurd (omega arith)
  head_on {a} {d} (past l w) pre h post e =
      let F = head_on w pre h post e in
      let b = look_bad g d l in
      record {
        from = F.from;
        rs₁ = a ∷ F.rs₁;
        rs₂ = F.rs₂;
        first = past l F.first;
        seen = F.seen;
        later = F.later;
        refused_are = ap (λ (x : List ℕ). a ∷ x) F.refused_are;
        place_is = omega (arith, F.place_is, length-drop g.word d, header_word g pos, b.room);
      }
  head_on {a} {d} {rs = rs} {r = r} (over {c = c} {n = n} {body = body} l w) [] h post e =
      let x : Head = record { place = a; crc = c; len = n; body = body } in
      let R : HeadOn g a d [] x _ rs r = record { from = d; rs₁ = []; rs₂ = rs; first = here; seen = l; later = w; refused_are = refl; place_is = refl } in
      subst (λ (y : Head). HeadOn g a d [] y post rs r) (head-eq_of_cons-eq e) (subst (λ (y : List Head). HeadOn g a d [] x y rs r) (tail-eq_of_cons-eq e) R)
  head_on {a} {d} {rs = rs} {r = r} (over {n = n} l w) (x ∷ pre) h post e =
      let F = head_on w pre h post (tail-eq_of_cons-eq e) in
      subst (λ (y : Head). HeadOn g a d (y ∷ pre) h post rs r) (head-eq_of_cons-eq e)
      (record {
        from = F.from;
        rs₁ = F.rs₁;
        rs₂ = F.rs₂;
        first = over l F.first;
        seen = F.seen;
        later = F.later;
        refused_are = F.refused_are;
        place_is = omega (arith, F.place_is, length-drop (item_size g n) d, (look_item g d l).room);
      })

-- ---- the bytes from a header on, the first i of them made 0

module _ (g : Geometry) (pos : 0 < g.word) {i : ℕ} (Z : OfCrc i) where
  abbrev zeroed : List ℕ → List ℕ
  zeroed d = zeros i ++ drop i d

  zeros_length : length (zeros i) ≡ i
  zeros_length = length-replicate {A = ℕ} i 0

  drop_zeroed : (m : ℕ) (d : List ℕ) → 4 ≤ m → drop m (zeroed d) ≡ drop m d
  drop_zeroed m d h =
      let z : i + (m - i) ≡ m = omega (arith, Z.few) in
      ap (λ (k : ℕ). drop k (zeroed d)) (sym z) ∙ sym (drop-drop (m - i) i (zeroed d)) ∙ ap (drop (m - i)) (drop_at (zeros i) (drop i d) i zeros_length)
      ∙ drop-drop (m - i) i d ∙ ap (λ (k : ℕ). drop k d) z

  length_zeroed : (d : List ℕ) → 4 ≤ length d → length (zeroed d) ≡ length d
  length_zeroed d h = omega (arith, Z.few, length-append (zeros i) (drop i d), zeros_length, length-drop i d)

  look_zeroed : (d : List ℕ) {c n : ℕ} {body : List ℕ} → look g d ≡ item c n body
      → look g (zeroed d) ≡ item (number_of (take 4 (zeroed d))) n body
  look_zeroed d {c} {n} {body} e =
      let A = look_item g d e in
      let k = header_ge g pos in
      let f = first_used (header_size g) 0 (zeros (i - 1) ++ drop i d) (omega arith) (λ q. let z : ⊥ = omega arith in z) in
      item_look g (zeroed d) (record {
        room = rw (length_zeroed d (omega (arith, A.room))) A.room;
        used = rw (first_zero i Z.some (drop i d)) f;
        check = ap (λ (x : List ℕ). length_crc (take 2 x)) (drop_zeroed 4 d (omega arith)) ∙ A.check
            ∙ ap (λ (x : List ℕ). number_of (take 2 x)) (sym (drop_zeroed 6 d (omega arith)));
        crc_is = refl;
        len_is = ap (λ (x : List ℕ). number_of (take 2 x)) (drop_zeroed 4 d (omega arith)) ∙ A.len_is;
        body_is = ap (take n) (drop_zeroed (header_size g) d (omega arith)) ∙ A.body_is;
      })

  zeroed_replaces : (d : List ℕ) → 4 ≤ length d → MayReplace d (zeroed d)
  unfolding blank
  zeroed_replaces d h = record { long = length_zeroed d h; ff = by }
    where
      by : (k : ℕ) → blank (take k (zeroed d)) ≡ true → blank (take k d) ≡ true
      by zero e = refl
      by (suc k) e =
          let f = rw (first_zero i Z.some (drop i d)) at e in
          let z : ◌≡◌ {A = ℕ} 0 1 = cc in absurd (omega arith)

  -- ---- the scan

  module _ (a : ℕ) (d : List ℕ) (pre : List Head) (h : Head) (post : List Head) (e : (walk g 0 a d).heads ≡ pre ++ (h ∷ post)) where
    abbrev W : Walk
    W = walk g 0 a d

    P : HeadOn g a d pre h post W.refused W.rest
    P = head_on g pos (course_of g pos a d) pre h post e

    F : Front g a d pre P.rs₁ P.from
    F = front_of_lem g pos P.first

    room : 4 ≤ length P.from
    room = omega (arith, (look_item g P.from P.seen).room, header_ge g pos)

    at : a + length F.front ≡ h.place
    at = omega (arith, P.place_is, length-append F.front P.from, ap length F.split)

    -- from the header on
    tail_walk : walk g 0 h.place (zeroed P.from)
        ≡ record { heads = struck_head (number_of (take 4 (zeroed P.from))) h ∷ post; refused = P.rs₂; rest = W.rest }
    unfolding onward
    tail_walk =
        let m : ℕ = item_size g h.len in
        let l = course_walk g pos P.later (walk_stops g pos a d) in
        let z = drop_zeroed m P.from (omega (arith, header_ge g pos)) in
        let x : Head = struck_head (number_of (take 4 (zeroed P.from))) h in
        walk_step g pos h.place (zeroed P.from) ∙ rw (look_zeroed P.from P.seen)
        (ap (λ (w : Walk). record { heads = x ∷ w.heads; refused = w.refused; rest = w.rest }) (ap (walk g 0 (h.place + m)) z ∙ l))

    -- its CRC is what is then read at its place
    pub zeroed_walk : (k : ℕ) → a + k ≡ h.place → NoneAccepted (walk g 0 a d).refused (walk g 0 a (put k (zeros i) d)).heads
        → walk g 0 a (put k (zeros i) d) ≡ record {
          heads = pre ++ (struck_head (number_of (part k 4 (put k (zeros i) d))) h ∷ post);
          refused = (walk g 0 a d).refused;
          rest = (walk g 0 a d).rest;
        }
    zeroed_walk k kp U =
        let y : List ℕ = zeroed P.from in
        let lk : k ≡ length F.front = omega (arith, at) in
        let s : put k (zeros i) d ≡ F.front ++ y =
        ap₂ (λ (x : ℕ) (l : List ℕ). put x (zeros i) l) lk F.split ∙ put_at_end F.front (zeros i) P.from
        ∙ ap (λ (x : ℕ). F.front ++ (zeros i ++ drop x P.from)) zeros_length in
        let c : part k 4 (F.front ++ y) ≡ take 4 y = ap (take 4) (drop_at F.front y k (sym lk)) in
        rw (s, c) (F.again y (zeroed_replaces P.from room) (less (rw s at U))
        ∙ ap (λ (x : ℕ). after_these pre P.rs₁ (walk g 0 x y)) at ∙ ap (after_these pre P.rs₁) tail_walk
        ∙ ap (λ (x : List ℕ). record { heads = pre ++ (struck_head (number_of (take 4 y)) h ∷ post); refused = x; rest = W.rest }) (sym P.refused_are))
      where
        less : {hs : List Head} → NoneAccepted W.refused hs → NoneAccepted P.rs₁ hs
        less U₀ x m n = U₀ x m (subst (λ (q : List ℕ). Memᴰ x.place q) (sym P.refused_are) (Memᴰ.append_left P.rs₂ n))
