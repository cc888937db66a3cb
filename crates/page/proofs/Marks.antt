-- The marks: where they stand, and their zero bits, counted byte by byte. Assumes nothing.
use mathlib.Core.Path.{◌≡◌, refl}
use mathlib.Core.List.{List}
use Prim.Native.Nat.{ℕ, ◌+◌, ◌-◌, ◌≤◌, ◌<◌}
use native.Mathlib.Numerals.{add-one}
use native.Mathlib.Omega.{arith}
use lib.Count.{ones}
use lib.ListN.{length, drop, get_or, drop_of_length-le}
use lib.Seq.{drop-cons}
use Rattle.paper.specs.declared.Geometry.{Geometry}
use Rattle.paper.specs.Chip.{part, page_start, data_end}
use Rattle.paper.specs.Pages.{zero_bits, is_set, start_mark, end_mark, state_by, state}
use Rattle.chip.specs.Within.{Within}
use Rattle.chip.proofs.Geometry.{data_in}

-- ---- where they stand

pub state_is : (g : Geometry) (im : List ℕ) (p : ℕ)
    → state g im p ≡ state_by (is_set (part (page_start g p) g.word im)) (is_set (part (data_end g p) g.word im))
unfolding state start_mark end_mark
state_is g im p = refl

-- in an image of n bytes
pub start_in : (g : Geometry) (p n : ℕ) → Within g n → p < g.pages → page_start g p + g.word ≤ n
start_in g p n w h = let d = data_in g p n w h in omega arith

pub end_in : (g : Geometry) (p n : ℕ) → Within g n → p < g.pages → data_end g p + g.word ≤ n
end_in g p n w h = let d = data_in g p n w h in omega arith

-- ---- their zero bits

pub zeros_next : (s : List ℕ) (i : ℕ) → i < length s → zero_bits (drop i s) ≡ 8 - ones (get_or s i 0) + zero_bits (drop (i + 1) s)
unfolding zero_bits
zeros_next s i h = rw (add-one, drop-cons s i 0)

pub zeros_end : (s : List ℕ) (i : ℕ) → length s ≤ i → zero_bits (drop i s) ≡ 0
unfolding zero_bits
zeros_end s i h = rw (drop_of_length-le s h)
