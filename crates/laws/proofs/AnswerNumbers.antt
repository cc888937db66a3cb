-- The answers of a call from document 01's row and values: so these tell them apart. Assumes nothing.
use mathlib.Core.Path.{◌≡◌, refl, sym, ap, ◌∙◌}
use mathlib.Core.List.{List, [], ◌∷◌}
use Prim.Native.Nat.{ℕ, zero, suc}
use lib.ListN.{get_or}
use Rattle.std.specs.Prelude.{Option, Some, None, Result, Ok, Err}
use Rattle.paper.specs.declared.Refusal.{Refusal}
use Rattle.paper.specs.declared.Refusal.TheVariants as refusal
use Rattle.paper.specs.declared.Geometry.{Geometry}
use Rattle.paper.specs.Refusals.{row, numbers, checked_numbers, pushed_as, shown_as, fit_as, space_as, erased_as}

-- what can be read back is told apart
abbrev Injective : {A B : Type 0} → (A → B) → Type 0
Injective {A} f = (x y : A) → f x ≡ f y → x ≡ y

told : {A B : Type 0} (f : A → B) (back : B → A) → ((x : A) → back (f x) ≡ x) → Injective f
told f back e x y q = sym (e x) ∙ ap back q ∙ e y

-- ---- reading back

-- the refusals from row 2 on, where the value n comes with the row; no refusal has row 6 or 8
abbrev pub refusals_from_two : ℕ → List Refusal
refusals_from_two n =
    refusal.ItemTooBig ∷ refusal.FullStorage ∷ refusal.BufferTooSmall n ∷ refusal.Corrupted ∷ refusal.Cut ∷ refusal.Cut ∷ refusal.Cut
    ∷ refusal.BadGeometry ∷ refusal.StartRangeNotAtPageBoundary ∷ refusal.EndRangeNotAtPageBoundary ∷ refusal.RangeTooSmall
    ∷ refusal.PagesTooSmall ∷ refusal.WordSizeTooLarge ∷ refusal.BadWord ∷ refusal.TooLarge ∷ refusal.OutsideImage ∷ []

-- what row 0 stands for by its values, what row 1 stands for, and the refusals
abbrev pub read : {A : Type 0} → (List ℕ → A) → A → List ℕ → Result A Refusal
read done none [] = Ok none
read done none (zero ∷ values) = Ok (done values)
read done none (suc zero ∷ values) = Ok none
read done none (suc (suc k) ∷ values) = Err (get_or (refusals_from_two (get_or values 0 0)) k refusal.Cut)

pub read_row : {A : Type 0} (done : List ℕ → A) (none : A) (x : Refusal) → read done none (row x) ≡ Err x
unfolding row
read_row done none refusal.ItemTooBig = refl
read_row done none refusal.FullStorage = refl
read_row done none (refusal.BufferTooSmall n) = refl
read_row done none refusal.Corrupted = refl
read_row done none refusal.Cut = refl
read_row done none refusal.BadGeometry = refl
read_row done none refusal.StartRangeNotAtPageBoundary = refl
read_row done none refusal.EndRangeNotAtPageBoundary = refl
read_row done none refusal.RangeTooSmall = refl
read_row done none refusal.PagesTooSmall = refl
read_row done none refusal.WordSizeTooLarge = refl
read_row done none refusal.BadWord = refl
read_row done none refusal.TooLarge = refl
read_row done none refusal.OutsideImage = refl

-- ---- each call's answers

pub pushed_told : Injective (λ r. numbers (pushed_as r))
unfolding numbers
pushed_told = told (λ r. numbers (pushed_as r)) (read (λ v. tt) tt) go
  where
    go : (r : Result (Unit {0}) Refusal) → read (λ v. tt) tt (numbers (pushed_as r)) ≡ r
    go (Ok u) = refl
    go (Err x) = read_row (λ v. tt) tt x

pub erased_told : Injective (λ r. numbers (erased_as r))
erased_told = pushed_told

pub shown_told : Injective (λ r. numbers (shown_as r))
unfolding numbers
shown_told = told (λ r. numbers (shown_as r)) (read (λ v. Some (get_or v 0 0)) None) go
  where
    go : (r : Result (Option ℕ) Refusal) → read (λ v. Some (get_or v 0 0)) None (numbers (shown_as r)) ≡ r
    go (Ok (Some n)) = refl
    go (Ok None) = refl
    go (Err x) = read_row (λ v. Some (get_or v 0 0)) None x

-- a number, or none
abbrev longest : List ℕ → Option ℕ
longest [] = None
longest (n ∷ v) = Some n

pub fit_told : Injective (λ r. numbers (fit_as r))
unfolding numbers
fit_told = told (λ r. numbers (fit_as r)) (read longest None) go
  where
    go : (r : Result (Option ℕ) Refusal) → read longest None (numbers (fit_as r)) ≡ r
    go (Ok (Some n)) = refl
    go (Ok None) = refl
    go (Err x) = read_row longest None x

pub space_told : Injective (λ r. numbers (space_as r))
unfolding numbers
space_told = told (λ r. numbers (space_as r)) (read (λ v. get_or v 0 0) 0) go
  where
    go : (r : Result ℕ Refusal) → read (λ v. get_or v 0 0) 0 (numbers (space_as r)) ≡ r
    go (Ok n) = refl
    go (Err x) = read_row (λ v. get_or v 0 0) 0 x

-- ---- the check of a shape

abbrev geometry : List ℕ → Geometry
geometry v = record { start = get_or v 0 0; page = get_or v 1 0; word = get_or v 2 0; pages = get_or v 3 0 }

pub checked_told : Injective checked_numbers
unfolding checked_numbers
checked_told = told checked_numbers (read geometry (geometry [])) go
  where
    go : (r : Result Geometry Refusal) → read geometry (geometry []) (checked_numbers r) ≡ r
    go (Ok g) = refl
    go (Err x) = read_row geometry (geometry []) x
