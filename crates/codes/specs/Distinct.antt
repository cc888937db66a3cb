-- Codes tell the answers of a call apart, as long as the values that come with them are small. Assumes nothing.
use Rattle.std.specs.Prelude.{◌≡◌, List, [], ◌∷◌, ℕ, ◌<◌, ◌^◌, ◌-◌, Err}
use Rattle.paper.specs.declared.Refusal.{Refusal}
use Rattle.paper.specs.Refusals.{Answer, row, numbers, pushed_as, shown_as, fit_as, space_as, erased_as}
use Rattle.codes.specs.Codes.{code_of, code_of_check}

-- the value that comes with a row, if one does, is below a bound
abbrev pub Small : ℕ → List ℕ → Type 0
Small bound [] = Unit {0}
Small bound (r ∷ []) = Unit {0}
Small bound (r ∷ value ∷ more) = value < bound

-- two cases of a call's enum with small values and one code are the same
abbrev pub ToldApart : {A : Type 0} → ℕ → (A → Answer) → Type 0
ToldApart {A} bound f = (x y : A) → Small bound (numbers (f x)) → Small bound (numbers (f y)) → code_of (f x) ≡ code_of (f y) → x ≡ y

-- Lengths are at most 65,535 and sizes at most 256 pages of 65,536 bytes, 2^24: far below these bounds.
pub record Distinct : Type 0 where
  pub pushed : ToldApart (2 ^ 32) pushed_as
  pub shown : ToldApart (2 ^ 32) shown_as
  -- the largest value is kept for "done, marked as none"
  pub fit : ToldApart (2 ^ 32 - 1) fit_as
  pub space : ToldApart (2 ^ 32) space_as
  pub erased : ToldApart (2 ^ 32) erased_as
  -- An accepted shape is 0, whatever its geometry is, and no refused one is.
  pub refused : (x y : Refusal) → Small (2 ^ 32) (row x) → Small (2 ^ 32) (row y) → code_of_check (Err x) ≡ code_of_check (Err y) → x ≡ y
  pub not_accepted : (x : Refusal) → code_of_check (Err x) ≡ 0 → ⊥
