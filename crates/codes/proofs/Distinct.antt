-- The answers of a call from their codes: so these tell them apart. Assumes nothing.
use mathlib.Core.Path.{◌≡◌, refl, sym, ap, ◌∙◌}
use mathlib.Core.Bool.{cond}
use mathlib.Core.List.{List, [], ◌∷◌}
use Prim.Native.Nat.{ℕ, ◌+◌, ◌-◌, ◌/◌, ◌%◌, ◌^◌, ◌<◌}
use native.Mathlib.Nat.{mod-eq_of_lt}
use native.Mathlib.Omega.{arith}
use lib.Arith.{digits_mod, digits_div}
use borrow.Author.Tests.{ne_eqb}
use lib.Dec.{eqb}
use lib.ListN.{get_or}
use Rattle.std.specs.Prelude.{Option, Some, None, Result, Ok, Err}
use Rattle.paper.specs.declared.Refusal.{Refusal}
use Rattle.paper.specs.declared.Refusal.TheVariants as refusal
use Rattle.paper.specs.Refusals.{row, numbers, pushed_as, shown_as, fit_as, space_as}
use Rattle.laws.proofs.AnswerNumbers.{read}
use Rattle.codes.specs.Codes.{code, row_code, code_of}
use Rattle.codes.specs.Distinct.{Small, ToldApart, Distinct}

-- ---- a code's halves

abbrev halves : ℕ → List ℕ
halves c = c % 2 ^ 32 ∷ c / 2 ^ 32 ∷ []

halves_code : (r v : ℕ) → r < 2 ^ 32 → v < 2 ^ 32 → halves (code r v) ≡ r ∷ v ∷ []
unfolding code
halves_code r v l m = rw (mod-eq_of_lt m, digits_mod v l, digits_div v l) refl

-- ---- reading back

-- what row 0 stands for by its value, what row 1 stands for, and the refusals
abbrev back : {A : Type 0} → (List ℕ → A) → A → ℕ → Result A Refusal
back done none c = read done none (halves c)

module _ {A : Type 0} (done : List ℕ → A) (none : A) where
  back_row : (b : ℕ) (x : Refusal) → b < 2 ^ 32 + 1 → Small b (row x) → back done none (row_code (row x)) ≡ Err x
  unfolding row
  back_row b refusal.ItemTooBig l s = refl
  back_row b refusal.FullStorage l s = refl
  back_row b (refusal.BufferTooSmall n) l s = ap (read done none) (halves_code 4 n (omega arith) (omega arith))
  back_row b refusal.Corrupted l s = refl
  back_row b refusal.Cut l s = refl
  back_row b refusal.BadGeometry l s = refl
  back_row b refusal.StartRangeNotAtPageBoundary l s = refl
  back_row b refusal.EndRangeNotAtPageBoundary l s = refl
  back_row b refusal.RangeTooSmall l s = refl
  back_row b refusal.PagesTooSmall l s = refl
  back_row b refusal.WordSizeTooLarge l s = refl
  back_row b refusal.BadWord l s = refl
  back_row b refusal.TooLarge l s = refl
  back_row b refusal.OutsideImage l s = refl

  back_value : (n : ℕ) → n < 2 ^ 32 → back done none (code 0 n) ≡ Ok (done (n ∷ []))
  back_value n l = ap (read done none) (halves_code 0 n (omega arith) l)

-- ---- each call's answers

-- what can be read back is told apart
told : {A : Type 0} (P : A → Type 0) (f : A → ℕ) (g : ℕ → A) → ((x : A) → P x → g (f x) ≡ x) → (x y : A) → P x → P y → f x ≡ f y → x ≡ y
told P f g e x y s t q = sym (e x s) ∙ ap g q ∙ e y t

pushed_told : ToldApart (2 ^ 32) pushed_as
unfolding numbers
pushed_told = told (λ r. Small (2 ^ 32) (numbers (pushed_as r))) (λ r. code_of (pushed_as r)) (back (λ v. tt) tt) go
  where
    go : (r : Result (Unit {0}) Refusal) → Small (2 ^ 32) (numbers (pushed_as r)) → back (λ v. tt) tt (code_of (pushed_as r)) ≡ r
    go (Ok u) s = refl
    go (Err x) s = back_row (λ v. tt) tt (2 ^ 32) x (omega arith) s

shown_told : ToldApart (2 ^ 32) shown_as
unfolding numbers
shown_told = told (λ r. Small (2 ^ 32) (numbers (shown_as r))) (λ r. code_of (shown_as r)) (back (λ v. Some (get_or v 0 0)) None) go
  where
    go : (r : Result (Option ℕ) Refusal) → Small (2 ^ 32) (numbers (shown_as r)) → back (λ v. Some (get_or v 0 0)) None (code_of (shown_as r)) ≡ r
    go (Ok (Some n)) s = back_value (λ v. Some (get_or v 0 0)) None n s
    go (Ok None) s = refl
    go (Err x) s = back_row (λ v. Some (get_or v 0 0)) None (2 ^ 32) x (omega arith) s

-- a number, or none
abbrev longest : List ℕ → Option ℕ
longest v = cond (eqb (get_or v 0 0) 4294967295) None (Some (get_or v 0 0))

fit_told : ToldApart (2 ^ 32 - 1) fit_as
unfolding numbers code
fit_told = told (λ r. Small (2 ^ 32 - 1) (numbers (fit_as r))) (λ r. code_of (fit_as r)) (back longest None) go
  where
    go : (r : Result (Option ℕ) Refusal) → Small (2 ^ 32 - 1) (numbers (fit_as r)) → back longest None (code_of (fit_as r)) ≡ r
    go (Ok (Some n)) s =
        let other : n ≡ 4294967295 → ⊥ = λ e. omega arith in
        back_value longest None n (omega arith) ∙ (rw (ne_eqb n 4294967295 other) refl)
    go (Ok None) s = refl
    go (Err x) s = back_row longest None (2 ^ 32 - 1) x (omega arith) s

space_told : ToldApart (2 ^ 32) space_as
unfolding numbers
space_told = told (λ r. Small (2 ^ 32) (numbers (space_as r))) (λ r. code_of (space_as r)) (back (λ v. get_or v 0 0) 0) go
  where
    go : (r : Result ℕ Refusal) → Small (2 ^ 32) (numbers (space_as r)) → back (λ v. get_or v 0 0) 0 (code_of (space_as r)) ≡ r
    go (Ok n) s = back_value (λ v. get_or v 0 0) 0 n s
    go (Err x) s = back_row (λ v. get_or v 0 0) 0 (2 ^ 32) x (omega arith) s

-- ---- the check of a shape

refused_told : (x y : Refusal) → Small (2 ^ 32) (row x) → Small (2 ^ 32) (row y) → row_code (row x) ≡ row_code (row y) → x ≡ y
unfolding numbers
refused_told x y s t q = let e = pushed_told (Err x) (Err y) s t q in cc

-- a refusal's row is 2 to 17
pub row_within : (x : Refusal) → (1 < row_code (row x) % 4294967296) × (row_code (row x) % 4294967296 < 18)
unfolding row code
row_within refusal.ItemTooBig = (omega arith, omega arith)
row_within refusal.FullStorage = (omega arith, omega arith)
row_within (refusal.BufferTooSmall n) = (omega arith, omega arith)
row_within refusal.Corrupted = (omega arith, omega arith)
row_within refusal.Cut = (omega arith, omega arith)
row_within refusal.BadGeometry = (omega arith, omega arith)
row_within refusal.StartRangeNotAtPageBoundary = (omega arith, omega arith)
row_within refusal.EndRangeNotAtPageBoundary = (omega arith, omega arith)
row_within refusal.RangeTooSmall = (omega arith, omega arith)
row_within refusal.PagesTooSmall = (omega arith, omega arith)
row_within refusal.WordSizeTooLarge = (omega arith, omega arith)
row_within refusal.BadWord = (omega arith, omega arith)
row_within refusal.TooLarge = (omega arith, omega arith)
row_within refusal.OutsideImage = (omega arith, omega arith)

not_accepted : (x : Refusal) → row_code (row x) ≡ 0 → ⊥
not_accepted x e =
    let w = row_within x in
    omega arith

pub distinct : Distinct
distinct = record {
  pushed = pushed_told;
  shown = shown_told;
  fit = fit_told;
  space = space_told;
  erased = pushed_told;
  refused = refused_told;
  not_accepted = not_accepted;
}
