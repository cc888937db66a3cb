-- Parts of a list: of its front, of another part, of one byte repeated. Assumes nothing.
use mathlib.Core.List.{List, [], ◌∷◌, ◌++◌}
use mathlib.Core.Path.{◌≡◌, refl, sym, ap, ◌∙◌}
use Prim.Native.Nat.{ℕ, zero, suc, ◌+◌, ◌-◌, ◌≤◌}
use native.Mathlib.Nat.{suc-sub-suc}
use native.Mathlib.Omega.{arith}
use lib.ListN.{length, take, drop, replicate, length-drop, length-append, length-replicate}
use lib.Seq.{take-take, drop-drop, length-take-le}
use Rattle.paper.specs.Chip.{part}

pub length_part : (a n : ℕ) (l : List ℕ) → a + n ≤ length l → length (part a n l) ≡ n
length_part a n l h = length-take-le n (drop a l) (omega (arith, length-drop a l))

-- a part that lies in the first m bytes, and one that lies in another part
pub part_take : (a n m : ℕ) (l : List ℕ) → a + n ≤ m → part a n (take m l) ≡ part a n l
part_take zero n m l h = take-take n m l (omega arith)
part_take (suc a) n zero l h = absurd (omega arith)
part_take (suc a) n (suc m) [] h = refl
part_take (suc a) n (suc m) (b ∷ l) h = part_take a n m l (omega arith)

pub part_part : (b m i n : ℕ) (l : List ℕ) → i + n ≤ m → part i n (part b m l) ≡ part (b + i) n l
part_part b m i n l h = part_take i n m (drop b l) h ∙ ap (λ (x : List ℕ). take n x) (drop-drop i b l)

-- lists with the same part have the same parts inside it
pub parts_same : (b m : ℕ) (l k : List ℕ) → part b m l ≡ part b m k → (a n : ℕ) → b ≤ a → a + n ≤ b + m → part a n l ≡ part a n k
parts_same b m l k e a n low high = sym (inner l) ∙ ap (part (a - b) n) e ∙ inner k
  where
    inner : (x : List ℕ) → part (a - b) n (part b m x) ≡ part a n x
    inner x =
        let z : b + (a - b) ≡ a = omega arith in
        part_part b m (a - b) n x (omega arith) ∙ ap (λ (i : ℕ). part i n x) z

-- ---- two lists in a row

pub take_append : (k : ℕ) (a b : List ℕ) → take k (a ++ b) ≡ take k a ++ take (k - length a) b
take_append k [] b = let z : k - 0 ≡ k = omega arith in rw z (by k)
  where
    by : (k : ℕ) → take k b ≡ take k [] ++ take k b
    by zero = refl
    by (suc k) = refl
take_append zero (x ∷ a) b = let z : 0 - suc (length a) ≡ 0 = omega arith in rw z
take_append (suc k) (x ∷ a) b = let z : suc k - suc (length a) ≡ k - length a = omega arith in rw z (ap (λ (r : List ℕ). x ∷ r) (take_append k a b))

pub drop_append : (k : ℕ) (a b : List ℕ) → drop k (a ++ b) ≡ drop k a ++ drop (k - length a) b
drop_append k [] b = let z : k - 0 ≡ k = omega arith in rw z (by k)
  where
    by : (k : ℕ) → drop k b ≡ drop k [] ++ drop k b
    by zero = refl
    by (suc k) = refl
drop_append zero (x ∷ a) b = let z : 0 - suc (length a) ≡ 0 = omega arith in rw z
drop_append (suc k) (x ∷ a) b = rw suc-sub-suc (drop_append k a b)

-- ---- one byte repeated

pub drop_replicate : (i k v : ℕ) → drop i (replicate k v) ≡ replicate (k - i) v
drop_replicate zero k v = let z : k - 0 ≡ k = omega arith in rw z
drop_replicate (suc i) zero v = let z : 0 - suc i ≡ 0 = omega arith in rw z
drop_replicate (suc i) (suc k) v = let z : suc k - suc i ≡ k - i = omega arith in rw z (drop_replicate i k v)

pub take_replicate : (m k v : ℕ) → m ≤ k → take m (replicate k v) ≡ replicate m v
take_replicate zero k v h = refl
take_replicate (suc m) zero v h = absurd (omega arith)
take_replicate (suc m) (suc k) v h = ap (λ (r : List ℕ). v ∷ r) (take_replicate m k v (omega arith))

-- a word padded with zeros
pub length_padded : (w : ℕ) (l : List ℕ) → length (take w (l ++ replicate w 0)) ≡ w
length_padded w l = length-take-le w (l ++ replicate w 0) (simp (length-append, length-replicate) (omega arith))

pub part_replicate : (i m k v : ℕ) → i + m ≤ k → part i m (replicate k v) ≡ replicate m v
part_replicate i m k v h = ap (λ (l : List ℕ). take m l) (drop_replicate i k v) ∙ take_replicate m (k - i) v (omega arith)
