-- When the chip says no: the rows of the table, the check of a shape, and what calls answer. Assumes nothing.
use Rattle.std.specs.Prelude.{Bool, cond, ◌||◌, not, List, [], ◌∷◌, ℕ, ◌+◌, ◌-◌, ◌*◌, ◌/◌, ◌%◌, eqb, ltb, Option, Some, None, Result, Ok, Err}
use Rattle.paper.specs.declared.Shape.{Shape}
use Rattle.paper.specs.Chip.{Geometry, round_up}
pub use Rattle.paper.specs.declared.Refusal.{Refusal}
use Rattle.paper.specs.declared.Refusal.TheVariants as refusal

-- ---- limits

-- "word not 4, 8, 16 or 32"
unfoldable pub allowed_word : ℕ → Bool
allowed_word w = eqb w 4 || eqb w 8 || eqb w 16 || eqb w 32

abbrev pub word_limit : ℕ
word_limit = 32

-- "page over 65,536, or over 256 pages", as 4/14 amends it
abbrev pub page_limit : ℕ
page_limit = 65536

abbrev pub page_count_limit : ℕ
page_count_limit = 256

-- "length over 65,535"
abbrev pub length_limit : ℕ
length_limit = 65535

-- ---- checking a geometry

-- what a shape must not be, and the refusal where it is
pub record Rule : Type 0 where
  pub broken : Bool
  pub refusal : Refusal

unfoldable pub page_count : Shape → ℕ
page_count s = (s.end - s.start) / s.page

-- "9 comes first, then 10 to 17 in order." n is the image's length. "An end below its start is 12."
unfoldable pub rules : ℕ → Shape → List Rule
rules n s =
    record { broken = eqb s.page 0 || eqb s.word 0 || not (eqb (s.page % s.word) 0); refusal = refusal.BadGeometry } ∷
    record { broken = not (eqb (s.start % s.page) 0); refusal = refusal.StartRangeNotAtPageBoundary } ∷
    record { broken = not (eqb (s.end % s.page) 0); refusal = refusal.EndRangeNotAtPageBoundary } ∷
    record { broken = ltb s.end (s.start + s.page); refusal = refusal.RangeTooSmall } ∷
    record { broken = ltb s.page (3 * s.word + round_up s.word 8); refusal = refusal.PagesTooSmall } ∷
    record { broken = ltb word_limit s.word; refusal = refusal.WordSizeTooLarge } ∷
    record { broken = not (allowed_word s.word); refusal = refusal.BadWord } ∷
    record { broken = ltb page_limit s.page || ltb page_count_limit (page_count s); refusal = refusal.TooLarge } ∷
    record { broken = ltb n s.end; refusal = refusal.OutsideImage } ∷ []

unfoldable pub geometry_of : Shape → Geometry
geometry_of s = record { start = s.start; page = s.page; word = s.word; pages = page_count s }

-- the first rule that is broken refuses the shape
unfoldable pub judge : Shape → List Rule → Result Geometry Refusal
judge s [] = Ok (geometry_of s)
judge s (r ∷ rs) = cond r.broken (Err r.refusal) (judge s rs)

unfoldable pub check : ℕ → Shape → Result Geometry Refusal
check n s = judge s (rules n s)

-- ---- answers

-- done; a slip of a length was shown; a number; no number ("done, marked as none"); no present item; a refusal
pub data Answer : Type 0 where
  done : Answer
  shown : ℕ → Answer
  number : ℕ → Answer
  none : Answer
  empty : Answer
  refused : Refusal → Answer

-- the table's number of each refusal, and the value that comes with it
unfoldable pub row : Refusal → List ℕ
row refusal.ItemTooBig = 2 ∷ []
row refusal.FullStorage = 3 ∷ []
row (refusal.BufferTooSmall n) = 4 ∷ n ∷ []
row refusal.Corrupted = 5 ∷ []
row refusal.Cut = 7 ∷ []
row refusal.BadGeometry = 9 ∷ []
row refusal.StartRangeNotAtPageBoundary = 10 ∷ []
row refusal.EndRangeNotAtPageBoundary = 11 ∷ []
row refusal.RangeTooSmall = 12 ∷ []
row refusal.PagesTooSmall = 13 ∷ []
row refusal.WordSizeTooLarge = 14 ∷ []
row refusal.BadWord = 15 ∷ []
row refusal.TooLarge = 16 ∷ []
row refusal.OutsideImage = 17 ∷ []

unfoldable pub numbers : Answer → List ℕ
numbers done = 0 ∷ []
numbers (shown n) = 0 ∷ n ∷ []
numbers (number n) = 0 ∷ n ∷ []
numbers none = 0 ∷ []
numbers empty = 1 ∷ []
numbers (refused r) = row r

-- "For every answer that is an enum, a definition gives this paper's number and values for each case of the enum": the answer that each
-- case of what a call hands out stands for; `numbers` has the rest. An `Err` is a refusal.

-- push is done
abbrev pub pushed_as : Result (Unit {0}) Refusal → Answer
pushed_as (Ok u) = done
pushed_as (Err r) = refused r

-- peek and pop: a slip of this length stands at the buffer's front, or no item is present
abbrev pub shown_as : Result (Option ℕ) Refusal → Answer
shown_as (Ok (Some n)) = shown n
shown_as (Ok None) = empty
shown_as (Err r) = refused r

-- find_max_fit: the longest length, or that there is none
abbrev pub fit_as : Result (Option ℕ) Refusal → Answer
fit_as (Ok (Some n)) = number n
fit_as (Ok None) = none
fit_as (Err r) = refused r

-- space_left: the bytes
abbrev pub space_as : Result ℕ Refusal → Answer
space_as (Ok n) = number n
space_as (Err r) = refused r

-- erase_all is done, as a push is
abbrev pub erased_as : Result (Unit {0}) Refusal → Answer
erased_as = pushed_as

-- the same for the check of a shape: with an accepted one come the numbers of its geometry
unfoldable pub checked_numbers : Result Geometry Refusal → List ℕ
checked_numbers (Ok g) = 0 ∷ g.start ∷ g.page ∷ g.word ∷ g.pages ∷ []
checked_numbers (Err r) = row r
