-- The cases of each call's answer, and of the check's, are told apart: by the paper's answer, and by document 01's row and values. Assumes nothing.
use Rattle.std.specs.Prelude.{◌≡◌}
use Rattle.paper.specs.Refusals.{numbers, checked_numbers, pushed_as, shown_as, fit_as, space_as, erased_as}

abbrev pub Injective : {A B : Type 0} → (A → B) → Type 0
Injective {A} f = (x y : A) → f x ≡ f y → x ≡ y

pub record Distinct : Type 0 where
  pub pushed : Injective pushed_as
  pub shown : Injective shown_as
  pub fit : Injective fit_as
  pub space : Injective space_as
  pub erased : Injective erased_as
  pub pushed_numbers : Injective (λ r. numbers (pushed_as r))
  pub shown_numbers : Injective (λ r. numbers (shown_as r))
  pub fit_numbers : Injective (λ r. numbers (fit_as r))
  pub space_numbers : Injective (λ r. numbers (space_as r))
  pub erased_numbers : Injective (λ r. numbers (erased_as r))
  pub checked_numbers_lem : Injective checked_numbers
