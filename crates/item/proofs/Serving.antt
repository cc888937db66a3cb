-- What the free spot serves, by the bytes that are available there; and that an item which it serves fits. Assumes nothing.
use mathlib.Core.Path.{◌≡◌}
use mathlib.Core.Bool.{true, false}
use mathlib.Core.List.{List}
use Prim.Native.Nat.{ℕ, ◌+◌, ◌≤◌}
use native.Mathlib.Omega.{arith}
use borrow.Author.Tests.{leb-true}
use lib.ListN.{length}
use Rattle.std.specs.Prelude.{Some, None}
use Rattle.std.proofs.lemmas.Bool.Decides.{nat_tests}
use Rattle.paper.specs.declared.Geometry.{Geometry}
use Rattle.paper.specs.Chip.{round_up, round_down, header_size}
use Rattle.paper.specs.Scan.{Walk, serves}
use Rattle.paper.specs.Counts.{longest}
use Rattle.chip.specs.Within.{Good}
use Rattle.chip.specs.declared.Address.{Address}
use Rattle.laws.proofs.Rounding.{round_down_le, round_up_behind}
use Rattle.item.specs.Places.{after}
use Rattle.item.specs.Headers.{available, available_as}
use Rattle.item.specs.Scanning.{Served}

-- ---- what is available, and what is served

module _ (g : Geometry) (rest : List ℕ) where
  pub serves_yes : (k : ℕ) → available g (length rest) ≡ Some k → (n : ℕ) → n ≤ k → serves g rest n ≡ true
  unfolding serves available
  serves_yes k e n l = grind (arith, nat_tests)

  pub serves_none : available g (length rest) ≡ None → (n : ℕ) → serves g rest n ≡ false
  unfolding serves available
  serves_none e n = grind (arith, nat_tests)

-- "the longest length the current page's spot serves, or none"
pub available_longest : (g : Geometry) (rest : List ℕ) → available_as (available g (length rest)) ≡ longest g rest
unfolding available longest
available_longest g rest = grind (arith, nat_tests)

-- ---- an item that the free spot serves

-- it fits there with its padding
pub serves_fits : (g : Geometry) (rest : List ℕ) (n : ℕ) → Good g → serves g rest n ≡ true
    → header_size g + round_up g.word n ≤ length rest
unfolding serves header_size
serves_fits g rest n h e =
    let l : round_up g.word 8 + n ≤ round_down g.word (length rest) = leb-true _ _ e in
    omega (arith, round_up_behind g.word 8 n (length rest) (omega arith) l, round_down_le g.word (length rest))

-- so it lies in the data
pub served_inside : {g : Geometry} {w : Walk} {e n : ℕ} {a : Address} → Good g → Served g w e n a → after g a.0 n ≤ e
served_inside {g} {w} {e} {n} {a} h s = omega (arith, serves_fits g w.rest n h s.enough, s.ends)
