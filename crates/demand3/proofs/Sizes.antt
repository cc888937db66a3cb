-- The size of a header and of an item. Assumes nothing.
use mathlib.Core.Path.{◌≡◌, subst}
use Prim.Native.Nat.{ℕ, ◌+◌, ◌*◌, ◌≤◌, ◌<◌}
use native.Mathlib.Nat.{mul-le-mul_right}
use native.Mathlib.Omega.{arith}
use Rattle.paper.specs.declared.Geometry.{Geometry}
use Rattle.paper.specs.Chip.{round_up, round_down, header_size}
use Rattle.laws.proofs.Accepted.{Word, four, wide}
use Rattle.laws.proofs.Sides.{Side, below, above, side}
use Rattle.laws.proofs.Rounding.{round_down_le, round_up_fits}
use Rattle.laws.proofs.Headers.{header_behind}

-- an item of n bytes takes its header and its rounded payload
abbrev pub item_size : Geometry → ℕ → ℕ
item_size g n = header_size g + round_up g.word n

-- a spot that serves a length has room for the rounded item
pub serves_room : (g : Geometry) (r n : ℕ) → 0 < g.word → header_size g + n ≤ round_down g.word r → header_size g + round_up g.word n ≤ r
serves_room g r n h k = omega (arith, header_behind g h r n k, round_down_le g.word r)

-- whole words that are less than a header are less than its 8 bytes
pub below_header : (g : Geometry) → 0 < g.word → (j : ℕ) → j * g.word < header_size g → j * g.word < 8
unfolding header_size
below_header g pos j h = by (side (j * g.word) 8)
  where
    by : Side (j * g.word) 8 → j * g.word < 8
    by (below l) = l
    by (above l) = let z : ⊥ = omega (arith, round_up_fits g.word 8 j pos l) in absurd z

-- of the words that the check accepts, no number is 7 bytes
pub never_seven : {w : ℕ} → Word w → (j : ℕ) → j * w ≡ 7 → ⊥
never_seven (four e) j h =
    let z : j * 4 ≡ 7 = subst (λ (x : ℕ). j * x ≡ 7) e h in
    omega arith
never_seven {w} (wide l) j h = by (side 0 j)
  where
    by : Side 0 j → ⊥
    by (below k) = omega (arith, mul-le-mul_right w k)
    by (above k) = omega (arith, mul-le-mul_right w k)
