-- A store and an erase, byte by byte: the turns and ends of the loops that make them. Assumes nothing.
use mathlib.Core.Path.{◌≡◌, sym, ap, ◌∙◌}
use mathlib.Core.List.{List, ◌∷◌, ◌++◌}
use Prim.Native.Nat.{ℕ, suc, ◌+◌, ◌≤◌, ◌<◌}
use native.Mathlib.Numerals.{add-one}
use native.Mathlib.Omega.{arith}
use lib.Bits.{bit_and}
use lib.ListN.{length, get_or, set, take, drop, drop_of_length-le}
use lib.Seq.{append_snoc, drop-cons, drop-drop, drop-set-lt, take-suc-set}
use borrow.Rule.Slice.PartMut.{put_mid}
use Rattle.paper.specs.Chip.{put, ands}
use Rattle.laws.proofs.Ands.{ands_nil}
use Rattle.laws.proofs.Puts.{put_nil}

-- ---- bytes put in the place of others

pub put_cons : (a x : ℕ) (xs l : List ℕ) → a < length l → put a (x ∷ xs) l ≡ put (a + 1) xs (set l a x)
unfolding put
put_cons a x xs l h =
    let e : a + suc (length xs) ≡ a + 1 + length xs = omega arith in
    let d : drop (a + 1 + length xs) (set l a x) ≡ drop (a + 1 + length xs) l = drop-set-lt (a + 1 + length xs) l a x (omega arith) in
    rw (e, d, add-one a, take-suc-set l a x h) (sym (append_snoc (take a l) x (xs ++ drop (suc a + length xs) l)))

-- ---- a store

pub and_step : (im : List ℕ) (a : ℕ) (word : List ℕ) (i : ℕ) → i < length word → a + i < length im
    → put (a + i) (ands (drop (a + i) im) (drop i word)) im
    ≡ put (a + (i + 1)) (ands (drop (a + (i + 1)) (set im (a + i) (bit_and (get_or im (a + i) 0) (get_or word i 0)))) (drop (i + 1) word))
    (set im (a + i) (bit_and (get_or im (a + i) 0) (get_or word i 0)))
unfolding ands
and_step im a word i h k =
    let e : a + (i + 1) ≡ suc (a + i) = omega arith in
    let v : ℕ = bit_and (get_or im (a + i) 0) (get_or word i 0) in
    let rest : List ℕ = ands (drop (suc (a + i)) im) (drop (suc i) word) in
    rw (e, drop-set-lt (suc (a + i)) im (a + i) v (omega arith), drop-cons im (a + i) 0 k, drop-cons word i 0 h, add-one i)
    (put_cons (a + i) v rest im k ∙ ap (λ (n : ℕ). put n rest (set im (a + i) v)) (add-one (a + i)))

pub and_end : (im : List ℕ) (a : ℕ) (word : List ℕ) (i : ℕ) → length word ≤ i → put a (ands (drop a im) (drop i word)) im ≡ im
unfolding ands
and_end im a word i h = rw (drop_of_length-le word h) (ap (λ (x : List ℕ). put a x im) (ands_nil (drop a im)) ∙ put_nil a im)

-- ---- an erase

-- what a write to a part of a slice leaves
pub put_part : (a k : ℕ) (im ys bytes : List ℕ) → ys ≡ bytes → k ≡ length bytes → put_mid a k im ys ≡ put a bytes im
unfolding put
put_part a k im ys bytes e f = rw (e, f) (ap (λ (x : List ℕ). take a im ++ (bytes ++ x)) (drop-drop (length bytes) a im))
