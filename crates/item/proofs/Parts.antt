-- Parts of a list of bytes, further on, and written out. Assumes nothing.
use mathlib.Core.Path.{◌≡◌, sym, ap₂, ◌∙◌}
use mathlib.Core.List.{List, [], ◌∷◌, ◌++◌}
use Prim.Native.Nat.{ℕ, suc, ◌+◌, ◌-◌, ◌≤◌}
use native.Mathlib.Omega.{arith}
use lib.ListN.{length, get_or, take, drop}
use lib.Seq.{drop-drop, take-add, drop-cons}
use Rattle.std.proofs.lemmas.Slice.{between_is}
use Rattle.paper.specs.Chip.{part}

-- what stands up to place e, n bytes further on
pub drop_part : (l : List ℕ) (a e n : ℕ) → drop n (part a (e - a) l) ≡ part (a + n) (e - (a + n)) l
drop_part l a e n =
    let z : e - a - n ≡ e - (a + n) = omega arith in
    sym (between_is (drop a l) n (e - a)) ∙ ap₂ (λ (x : ℕ) (y : List ℕ). take x y) z (drop-drop n a l)

-- two bytes, and the first four
pub part_two : (l : List ℕ) (a : ℕ) → a + 2 ≤ length l → part a 2 l ≡ get_or l a 0 ∷ get_or l (suc a) 0 ∷ []
part_two l a h = rw (drop-cons l a 0 (omega arith), drop-cons l (suc a) 0 (omega arith))

pub take_four : (l : List ℕ) → 4 ≤ length l → take 4 l ≡ get_or l 0 0 ∷ get_or l 1 0 ∷ get_or l 2 0 ∷ get_or l 3 0 ∷ []
take_four l h = take-add 2 2 l ∙ ap₂ (λ (x y : List ℕ). x ++ y) (part_two l 0 (omega arith)) (part_two l 2 (omega arith))
