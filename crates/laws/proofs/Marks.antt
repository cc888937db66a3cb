-- Four zero bits set a mark; marks of zeros and of FF, what a state says of its marks, and states compared. Assumes nothing.
use mathlib.Core.Bool.{Bool, true, false}
use mathlib.Core.List.{List}
use mathlib.Core.Path.{◌≡◌, refl, sym, ap, ◌∙◌}
use Prim.Native.Nat.{ℕ, zero, suc, ◌≤◌, ◌<◌}
use native.Mathlib.Omega.{arith}
use borrow.Author.Tests.{le-leb, lt-leb, eq-eqb, ne_eqb, eqb-true}
use lib.Count.{ones}
use lib.ListN.{replicate}
use Rattle.paper.specs.declared.PageState.{PageState}
use Rattle.paper.specs.declared.PageState.TheVariants.{Open, PartialOpen, Closed, Corrupted}
use Rattle.paper.specs.Pages.{state_by, is_set, zero_bits, rank, same}

pub four_set : (bs : List ℕ) → 4 ≤ zero_bits bs → is_set bs ≡ true
unfolding is_set
four_set bs h = le-leb 4 (zero_bits bs) h

pub few_unset : (bs : List ℕ) → zero_bits bs < 4 → is_set bs ≡ false
unfolding is_set
few_unset bs h = lt-leb 4 (zero_bits bs) h

pub zeros_set : (w : ℕ) → 0 < w → is_set (replicate w 0) ≡ true
unfolding zero_bits ones
zeros_set zero h = absurd (omega arith)
zeros_set (suc w) h = four_set (replicate (suc w) 0) (omega arith)

no_zero_bits : (w : ℕ) → zero_bits (replicate w 255) ≡ 0
unfolding zero_bits ones
no_zero_bits zero = refl
no_zero_bits (suc w) = rw (no_zero_bits w)

pub ones_unset : (w : ℕ) → is_set (replicate w 255) ≡ false
ones_unset w = few_unset (replicate w 255) (omega (arith, no_zero_bits w))

-- the end mark of an Open page is not set; the start mark of a PartialOpen one is
pub open_end : (a b : Bool) → state_by a b ≡ Open → b ≡ false
open_end false false e = refl
open_end true false e = refl
open_end true true e = cc
open_end false true e = cc

pub partial_start : (a b : Bool) → state_by a b ≡ PartialOpen → a ≡ true
partial_start true false e = refl
partial_start true true e = refl
partial_start false false e = cc
partial_start false true e = cc

-- ---- by their number

unrank : ℕ → PageState
unrank zero = Open
unrank (suc zero) = PartialOpen
unrank (suc (suc zero)) = Closed
unrank (suc (suc (suc n))) = Corrupted

unrank_rank : (s : PageState) → unrank (rank s) ≡ s
unfolding unrank
unrank_rank Open = refl
unrank_rank PartialOpen = refl
unrank_rank Closed = refl
unrank_rank Corrupted = refl

pub same_is : (s t : PageState) → same s t ≡ true → s ≡ t
same_is s t e = sym (unrank_rank s) ∙ ap unrank (eqb-true (rank s) (rank t) e) ∙ unrank_rank t

pub same_self : (s : PageState) → same s s ≡ true
same_self s = eq-eqb (rank s) (rank s) refl

pub not_same : (s t : PageState) → (s ≡ t → ⊥) → same s t ≡ false
not_same s t n = ne_eqb (rank s) (rank t) (λ e. n (sym (unrank_rank s) ∙ ap unrank e ∙ unrank_rank t))
