-- Bytes put in the place of others: what stands before, in and after them, and puts in a row. Assumes nothing.
use mathlib.Core.List.{List, [], ◌∷◌, ◌++◌, append_assoc}
use mathlib.Core.Path.{◌≡◌, refl, sym, ap, ◌∙◌}
use Prim.Native.Nat.{ℕ, zero, suc, ◌+◌, ◌-◌, ◌≤◌}
use native.Mathlib.Nat.{suc-add, zero-add, le_of_suc-le-suc, add-zero}
use native.Mathlib.Omega.{arith}
use lib.ListN.{length, take, drop, replicate, length-append, length-drop, length-replicate, take-append-drop}
use lib.Seq.{length-take-le, take_at, drop_at, drop-drop, take-take, drop-append-add}
use Rattle.paper.specs.Chip.{put, part}
use Rattle.laws.proofs.Parts.{part_take, length_part, part_replicate}

module _ (a : ℕ) (x l : List ℕ) (h : a + length x ≤ length l) where
  pub length_put : length (put a x l) ≡ length l
  unfolding put
  length_put = simp (length-append, length-drop) (omega (arith, length-take-le a l (omega arith)))

  take_put : take a (put a x l) ≡ take a l
  unfolding put
  take_put = take_at (take a l) (x ++ drop (a + length x) l) a (length-take-le a l (omega arith))

  front_length : length (take a l ++ x) ≡ a + length x
  front_length = length-append (take a l) x ∙ ap (λ (k : ℕ). k + length x) (length-take-le a l (omega arith))

  pub take_through : take (a + length x) (put a x l) ≡ take a l ++ x
  unfolding put
  take_through = rw (← append_assoc) (take_at (take a l ++ x) (drop (a + length x) l) (a + length x) front_length)

  pub drop_through : drop (a + length x) (put a x l) ≡ drop (a + length x) l
  unfolding put
  drop_through = rw (← append_assoc) (drop_at (take a l ++ x) (drop (a + length x) l) (a + length x) front_length)

  -- what ends before, and what begins after
  pub take_before : (n : ℕ) → n ≤ a → take n (put a x l) ≡ take n l
  take_before n k = sym (take-take n a (put a x l) k) ∙ ap (λ (y : List ℕ). take n y) take_put ∙ take-take n a l k

  pub drop_after : (n : ℕ) → a + length x ≤ n → drop n (put a x l) ≡ drop n l
  drop_after n k = split (put a x l) ∙ ap (λ (y : List ℕ). drop (n - (a + length x)) y) drop_through ∙ sym (split l)
    where
      split : (y : List ℕ) → drop n y ≡ drop (n - (a + length x)) (drop (a + length x) y)
      split y =
          let z : a + length x + (n - (a + length x)) ≡ n = omega arith in
          sym (drop-drop (n - (a + length x)) (a + length x) y ∙ ap (λ (k : ℕ). drop k y) z)

  pub part_before : (b n : ℕ) → b + n ≤ a → part b n (put a x l) ≡ part b n l
  part_before b n k = sym (part_take b n a (put a x l) k) ∙ ap (λ (y : List ℕ). part b n y) take_put ∙ part_take b n a l k

  pub part_after : (b n : ℕ) → a + length x ≤ b → part b n (put a x l) ≡ part b n l
  part_after b n k = ap (λ (y : List ℕ). take n y) (drop_after b k)

-- ---- a part of the bytes that were put

pub part_of_put : (a : ℕ) (x l : List ℕ) (i m : ℕ) → a ≤ length l → i + m ≤ length x → part (a + i) m (put a x l) ≡ part i m x
unfolding put
part_of_put a x l i m h k =
    rw (← drop-drop i a (take a l ++ (x ++ drop (a + length x) l)), drop_at (take a l) (x ++ drop (a + length x) l) a (length-take-le a l h))
    (sym (part_take i m (length x) (x ++ drop (a + length x) l) k) ∙ ap (λ (y : List ℕ). part i m y) (take_at x (drop (a + length x) l) (length x) refl))

pub part_put_at : (a : ℕ) (x l : List ℕ) → a + length x ≤ length l → part a (length x) (put a x l) ≡ x
unfolding put
part_put_at a x l h =
    rw (drop_at (take a l) (x ++ drop (a + length x) l) a (length-take-le a l (omega arith))) (take_at x (drop (a + length x) l) (length x) refl)

-- of one byte repeated
pub part_filled : (a k v : ℕ) (l : List ℕ) → a + k ≤ length l → (b n : ℕ) → a ≤ b → b + n ≤ a + k → part b n (put a (replicate k v) l) ≡ replicate n v
part_filled a k v l h b n low high =
    let z : b ≡ a + (b - a) = omega arith in
    ap (λ (c : ℕ). part c n (put a (replicate k v) l)) z
    ∙ part_of_put a (replicate k v) l (b - a) n (omega arith) (omega (arith, length-replicate {A = ℕ} k v))
    ∙ part_replicate (b - a) n k v (omega arith)

-- ---- a part around the bytes that were put

put_cons : (a y : ℕ) (x l : List ℕ) → put (suc a) x (y ∷ l) ≡ y ∷ put a x l
unfolding put
put_cons a y x l = rw suc-add

drop_to_put : (b i : ℕ) (x l : List ℕ) → b ≤ length l → drop b (put (b + i) x l) ≡ put i x (drop b l)
drop_to_put zero i x l h = rw zero-add
drop_to_put (suc b) i x [] h = absurd (omega arith)
drop_to_put (suc b) i x (y ∷ l) h = rw (suc-add, put_cons) (drop_to_put b i x l (le_of_suc-le-suc h))

take_over : (n : ℕ) (x l : List ℕ) → length x ≤ n → n ≤ length l → take n (x ++ drop (length x) l) ≡ x ++ drop (length x) (take n l)
take_over n [] l h k = refl
take_over zero (y ∷ x) l h k = absurd (omega arith)
take_over (suc n) (y ∷ x) [] h k = absurd (omega arith)
take_over (suc n) (y ∷ x) (z ∷ l) h k = ap (λ (r : List ℕ). y ∷ r) (take_over n x l (omega arith) (omega arith))

take_around : (n i : ℕ) (x l : List ℕ) → i + length x ≤ n → n ≤ length l → take n (put i x l) ≡ put i x (take n l)
unfolding put
take_around n zero x l h k = rw zero-add (take_over n x l (omega arith) k)
take_around zero (suc i) x l h k = absurd (omega arith)
take_around (suc n) (suc i) x [] h k = absurd (omega arith)
take_around (suc n) (suc i) x (y ∷ l) h k = rw suc-add (ap (λ (r : List ℕ). y ∷ r) (take_around n i x l (omega arith) (omega arith)))

pub part_around : (b n i : ℕ) (x l : List ℕ) → b + n ≤ length l → i + length x ≤ n → part b n (put (b + i) x l) ≡ put i x (part b n l)
part_around b n i x l h k = rw (drop_to_put b i x l (omega arith)) (take_around n i x (drop b l) k (omega (arith, length-drop b l)))

-- ---- puts in a row

pub put_nil : (a : ℕ) (l : List ℕ) → put a [] l ≡ l
unfolding put
put_nil a l = rw add-zero (take-append-drop a l)

pub put_put : (a : ℕ) (x y l : List ℕ) → a + length x + length y ≤ length l → put (a + length x) y (put a x l) ≡ put a (x ++ y) l
unfolding put
put_put a x y l h =
    let n : ℕ = a + length x in
    let z : n + length y ≡ a + length (x ++ y) = omega (arith, length-append x y) in
    rw (take_through a x l (omega arith), drop_after a x l (omega arith) (n + length y) (omega arith), z) (simp append_assoc)

pub put_at_end : (front x rest : List ℕ) → put (length front) x (front ++ rest) ≡ front ++ (x ++ drop (length x) rest)
unfolding put
put_at_end front x rest = rw (take_at front rest (length front) refl, drop-append-add front rest (length x))

pub put_self : (b k : ℕ) (l : List ℕ) → b + k ≤ length l → put b (part b k l) l ≡ l
unfolding put
put_self b k l h = rw (length_part b k l h, ← drop-drop k b l, take-append-drop k (drop b l), take-append-drop b l)
