-- The live ones of a list of headers, and what the scan that stops at them tells. Assumes nothing.
use mathlib.Core.Path.{◌≡◌, refl, sym, ap, ◌∙◌, subst}
use mathlib.Core.Bool.{true, false}
use mathlib.Core.List.{List, [], ◌∷◌}
use Prim.Native.Nat.{ℕ}
use borrow.Author.Tests.{eq-eqb, ne_eqb}
use native.Mathlib.Omega.{arith}
use Rattle.std.specs.Prelude.{Option, Some, None, is_some}
use Rattle.paper.specs.declared.Geometry.{Geometry}
use Rattle.paper.specs.Scan.{Head, live, any_live}
use Rattle.item.specs.declared.Item.{Item}
use Rattle.item.specs.Scanning.{walk_from, lives, Reaches, NextIs}

module _ (h : Head) where
  pub live_yes : (h.crc ≡ 0 → ⊥) → live h ≡ true
  unfolding live
  live_yes n = rw (ne_eqb h.crc 0 n)

  pub live_no : h.crc ≡ 0 → live h ≡ false
  unfolding live
  live_no e = rw (eq-eqb h.crc 0 e)

  pub lives_here : (hs : List Head) → live h ≡ true → lives (h ∷ hs) ≡ h ∷ lives hs
  unfolding lives
  lives_here hs e = rw e

  pub lives_on : (hs : List Head) → live h ≡ false → lives (h ∷ hs) ≡ lives hs
  unfolding lives
  lives_on hs e = rw e

-- whether any is live
any_lives : (hs : List Head) → any_live hs ≡ any_live (lives hs)
unfolding lives any_live
any_lives [] = refl
any_lives (h ∷ hs) = grind (arith, any_lives hs)

pub any_none : (hs : List Head) → lives hs ≡ [] → any_live hs ≡ false
unfolding any_live
any_none hs e = any_lives hs ∙ ap any_live e

pub any_some : (hs : List Head) (x : Head) (r : List Head) → live x ≡ true → lives hs ≡ x ∷ r → any_live hs ≡ true
unfolding any_live
any_some hs x r l e = any_lives hs ∙ ap any_live e ∙ rw l

-- ---- the scan that stops at them

module _ (g : Geometry) (im : List ℕ) (e a : ℕ) (r : Option Item) (h : NextIs g im e a r) where
  pub reaches_of : (x : Item) → r ≡ Some x → Reaches g im e a x
  reaches_of x q = subst (NextIs g im e a) q h

  pub none_of_lem : r ≡ None → lives (walk_from g im e a).heads ≡ []
  none_of_lem q = subst (NextIs g im e a) q h

-- it finds one where there is one
pub any_is : (g : Geometry) (im : List ℕ) (e a : ℕ) (r : Option Item) → NextIs g im e a r → is_some r ≡ any_live (walk_from g im e a).heads
any_is g im e a (Some x) h = sym (any_some _ _ _ h.alive h.first)
any_is g im e a None h = sym (any_none _ h)
