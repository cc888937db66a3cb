-- Demand 1: rows 9 to 17, the check of a shape: given exactly when, in plain numbers; and the image afterwards. Assumes nothing.
use Rattle.std.specs.Prelude.{◌≡◌, List, [], ◌⊎◌, ℕ, ◌+◌, ◌-◌, ◌*◌, ◌/◌, ◌%◌, ◌<◌, length, get_or, Ok, Err}
use Rattle.paper.specs.declared.Shape.{Shape}
use Rattle.paper.specs.declared.Geometry.{Geometry}
use Rattle.paper.specs.declared.Refusal.{Refusal}
use Rattle.paper.specs.declared.Refusal.TheVariants as refusal
use Rattle.paper.specs.Chip.{round_up}
use Rattle.paper.specs.Refusals.{geometry_of, check, row, refused}
use Rattle.paper.specs.Calls.{Call, requested}

-- both ways
abbrev pub Iff : Type 0 → Type 0 → Type 0
Iff A B = (A → B) × (B → A)

-- the refusal's number in the table
unfoldable pub row_number : Refusal → ℕ
row_number r = get_or (row r) 0 0

-- what a row says of a shape, over an image of n bytes: 9 "page or word is 0, or page not a multiple of word"; 10 to 14 "as try_new", with
-- "an end below its start is 12"; 15 "word not 4, 8, 16 or 32"; 16 "page over 65,536, or over 256 pages"; 17 "range end beyond the image"
abbrev pub Broken : ℕ → Shape → Refusal → Type 0
Broken n s refusal.ItemTooBig = ⊥
Broken n s refusal.FullStorage = ⊥
Broken n s (refusal.BufferTooSmall k) = ⊥
Broken n s refusal.Corrupted = ⊥
Broken n s refusal.Cut = ⊥
Broken n s refusal.BadGeometry = ((s.page ≡ 0) ⊎ (s.word ≡ 0)) ⊎ (s.page % s.word ≡ 0 → ⊥)
Broken n s refusal.StartRangeNotAtPageBoundary = s.start % s.page ≡ 0 → ⊥
Broken n s refusal.EndRangeNotAtPageBoundary = s.end % s.page ≡ 0 → ⊥
Broken n s refusal.RangeTooSmall = s.end < s.start + s.page
Broken n s refusal.PagesTooSmall = s.page < 3 * s.word + round_up s.word 8
Broken n s refusal.WordSizeTooLarge = 32 < s.word
Broken n s refusal.BadWord = (s.word ≡ 4 → ⊥) × (s.word ≡ 8 → ⊥) × (s.word ≡ 16 → ⊥) × (s.word ≡ 32 → ⊥)
Broken n s refusal.TooLarge = (65536 < s.page) ⊎ (256 < (s.end - s.start) / s.page)
Broken n s refusal.OutsideImage = n < s.end

pub record OfShape : Type 0 where
  -- "9 comes first, then 10 to 17 in order": the refusal is the broken row of the least number
  pub refuses : (n : ℕ) (s : Shape) (r : Refusal)
      → Iff (check n s ≡ Err r) (Broken n s r × ((q : Refusal) → row_number q < row_number r → Broken n s q → ⊥))
  pub accepts : (n : ℕ) (s : Shape) (g : Geometry) → Iff (check n s ≡ Ok g) ((geometry_of s ≡ g) × ((r : Refusal) → Broken n s r → ⊥))
  -- "unchanged": a call on a shape that is refused answers the refusal and does nothing
  pub answered : (s : Shape) (im : List ℕ) (c : Call) (r : Refusal) → check (length im) s ≡ Err r → (requested s im c).answer ≡ refused r
  pub unchanged : (s : Shape) (im : List ℕ) (c : Call) (r : Refusal) → check (length im) s ≡ Err r → (requested s im c).events ≡ []
