-- The scan as a relation: a course over the bytes. What the walk computes is the one course that ends at a stop. Assumes nothing.
use mathlib.Core.Bool.{true}
use mathlib.Core.List.{List, [], ◌∷◌}
use mathlib.Core.Path.{◌≡◌, refl, sym, ap, ◌∙◌}
use Prim.Native.Nat.{ℕ, zero, suc, ◌+◌, ◌-◌, ◌<◌}
use native.Mathlib.Nat.{add-suc, suc-add, add-zero}
use native.Mathlib.Omega.{arith}
use borrow.Author.Tests.{lt-ltb}
use lib.ListN.{drop}
use Rattle.paper.specs.declared.Geometry.{Geometry}
use Rattle.paper.specs.Chip.{header_size}
use Rattle.paper.specs.Slip.{blank, Look, stop, bad, item, look}
use Rattle.paper.specs.Scan.{Head, Walk, onward, walk}
use Rattle.laws.proofs.Headers.{header_ge}
use Rattle.laws.proofs.Looking.{blank_stop}
use Rattle.demand3.proofs.Sizes.{item_size}
use Rattle.demand3.proofs.Blank.{blank_take}

-- from address a over the bytes d the walk comes to the bytes r; it accepts hs and refuses rs on its course
pub data Course (g : Geometry) : ℕ → List ℕ → List Head → List ℕ → List ℕ → Type 0 where
  here : {a : ℕ} {d : List ℕ} → Course g a d [] [] d
  past : {a : ℕ} {d : List ℕ} {hs : List Head} {rs r : List ℕ} → look g d ≡ bad
      → Course g (a + g.word) (drop g.word d) hs rs r → Course g a d hs (a ∷ rs) r
  over : {a c n : ℕ} {d body : List ℕ} {hs : List Head} {rs r : List ℕ} → look g d ≡ item c n body
      → Course g (a + item_size g n) (drop (item_size g n) d) hs rs r → Course g a d (record { place = a; crc = c; len = n; body = body } ∷ hs) rs r

look_nil : (g : Geometry) → 0 < g.word → look g [] ≡ stop
unfolding look
look_nil g h = rw (lt-ltb 0 (header_size g) (omega (arith, header_ge g h)))

shift : (n b : ℕ) (bs : List ℕ) → 0 < n → drop (n - 1) bs ≡ drop n (b ∷ bs)
shift zero b bs h = let z : ⊥ = omega arith in absurd z
shift (suc m) b bs h = let z : suc m - 1 ≡ m = omega arith in ap (λ (k : ℕ). drop k bs) z

module _ (g : Geometry) (pos : 0 < g.word) where
  item_pos : (n : ℕ) → 0 < item_size g n
  item_pos n = omega (arith, header_ge g pos)

  -- ---- one turn of the walk

  skip : (k a : ℕ) (d : List ℕ) → walk g k a d ≡ walk g 0 (a + k) (drop k d)
  unfolding walk
  skip zero a [] = refl
  skip (suc k) a [] = refl
  skip zero a (b ∷ bs) = rw add-zero
  skip (suc k) a (b ∷ bs) = skip k (suc a) bs ∙ ap (λ (x : ℕ). walk g 0 x (drop k bs)) (suc-add a k ∙ sym (add-suc a k))

  -- after the first byte, n - 1 bytes further on
  resume : (n a b : ℕ) (bs : List ℕ) → 0 < n → walk g (n - 1) (suc a) bs ≡ walk g 0 (a + n) (drop n (b ∷ bs))
  resume n a b bs h =
      let z : suc a + (n - 1) ≡ a + n = omega arith in
      skip (n - 1) (suc a) bs ∙ rw (← shift n b bs h) (ap (λ (x : ℕ). walk g 0 x (drop (n - 1) bs)) z)

  pub walk_step : (a : ℕ) (d : List ℕ) → walk g 0 a d ≡ onward g a d (look g d) (λ n. walk g 0 (a + n) (drop n d))
  unfolding walk onward
  walk_step a [] = rw (look_nil g pos)
  walk_step a (b ∷ bs) = by (look g (b ∷ bs))
    where
      by : (l : Look) → onward g a (b ∷ bs) l (λ n. walk g (n - 1) (suc a) bs) ≡ onward g a (b ∷ bs) l (λ n. walk g 0 (a + n) (drop n (b ∷ bs)))
      by stop = refl
      by bad = ap (λ (w : Walk). record { heads = w.heads; refused = a ∷ w.refused; rest = w.rest }) (resume g.word a b bs pos)
      by (item c n body) =
          let hd : Head = record { place = a; crc = c; len = n; body = body } in
          ap (λ (w : Walk). record { heads = hd ∷ w.heads; refused = w.refused; rest = w.rest }) (resume (item_size g n) a b bs (item_pos n))

  -- ---- the walk and the course

  walk_course : (k a : ℕ) (d : List ℕ) → Course g (a + k) (drop k d) (walk g k a d).heads (walk g k a d).refused (walk g k a d).rest
  unfolding walk onward
  walk_course zero a [] = here
  walk_course (suc k) a [] = here
  walk_course (suc k) a (b ∷ bs) = rw (add-suc, ← suc-add) (walk_course k (suc a) bs)
  walk_course zero a (b ∷ bs) = rw add-zero (by (look g (b ∷ bs)) refl (λ n h. rw (← shift n b bs h, ← moved n h) (walk_course (n - 1) (suc a) bs)))
    where
      moved : (n : ℕ) → 0 < n → suc a + (n - 1) ≡ a + n
      moved n h = omega arith

      f : ℕ → Walk
      f n = walk g (n - 1) (suc a) bs

      by : (l : Look) → look g (b ∷ bs) ≡ l
          → ((n : ℕ) → 0 < n → Course g (a + n) (drop n (b ∷ bs)) (f n).heads (f n).refused (f n).rest)
          → Course g a (b ∷ bs) (onward g a (b ∷ bs) l f).heads (onward g a (b ∷ bs) l f).refused (onward g a (b ∷ bs) l f).rest
      by stop e w = here
      by bad e w = past e (w g.word pos)
      by (item c n body) e w = over e (w (item_size g n) (item_pos n))

  pub course_of : (a : ℕ) (d : List ℕ) → Course g a d (walk g 0 a d).heads (walk g 0 a d).refused (walk g 0 a d).rest
  course_of a d = rw add-zero at (walk_course 0 a d)

  stops : (k a : ℕ) (d : List ℕ) → look g (walk g k a d).rest ≡ stop
  unfolding walk onward
  stops zero a [] = look_nil g pos
  stops (suc k) a [] = look_nil g pos
  stops (suc k) a (b ∷ bs) = stops k (suc a) bs
  stops zero a (b ∷ bs) = by (look g (b ∷ bs)) refl (λ n. stops (n - 1) (suc a) bs)
    where
      by : (l : Look) → look g (b ∷ bs) ≡ l → ((n : ℕ) → look g (walk g (n - 1) (suc a) bs).rest ≡ stop)
          → look g (onward g a (b ∷ bs) l (λ n. walk g (n - 1) (suc a) bs)).rest ≡ stop
      by stop e w = e
      by bad e w = w g.word
      by (item c n body) e w = w (item_size g n)

  pub walk_stops : (a : ℕ) (d : List ℕ) → look g (walk g 0 a d).rest ≡ stop
  walk_stops = stops 0

  pub course_walk : {a : ℕ} {d : List ℕ} {hs : List Head} {rs r : List ℕ} → Course g a d hs rs r → look g r ≡ stop
      → walk g 0 a d ≡ record { heads = hs; refused = rs; rest = r }
  unfolding onward
  course_walk {a} {d} here e = walk_step a d ∙ rw e
  course_walk {a} {d} (past l w) e =
      walk_step a d ∙ rw l (ap (λ (x : Walk). record { heads = x.heads; refused = a ∷ x.refused; rest = x.rest }) (course_walk w e))
  course_walk {a} {d} (over {c = c} {n = n} {body = body} l w) e =
      let hd : Head = record { place = a; crc = c; len = n; body = body } in
      walk_step a d ∙ rw l (ap (λ (x : Walk). record { heads = hd ∷ x.heads; refused = x.refused; rest = x.rest }) (course_walk w e))

pub blank_walk : (g : Geometry) → 0 < g.word → (a : ℕ) (d : List ℕ) → blank d ≡ true → walk g 0 a d ≡ record { heads = []; refused = []; rest = d }
blank_walk g pos a d e = course_walk g pos here (blank_stop g d (blank_take (header_size g) d e))
