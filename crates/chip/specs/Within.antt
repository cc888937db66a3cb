-- What the code is given by a geometry that passed the check, and what the check and rounding promise. Assumes nothing.
use Rattle.std.specs.Prelude.{◌≡◌, ℕ, ◌+◌, ◌≤◌, ◌<◌, Result, IfOk}
use Rattle.paper.specs.declared.Shape.{Shape}
use Rattle.paper.specs.declared.Geometry.{Geometry}
use Rattle.paper.specs.declared.Refusal.{Refusal}
use Rattle.paper.specs.Chip.{round_up, header_size, range_end}
use Rattle.paper.specs.Refusals.{check, word_limit}
use Rattle.laws.specs.Sized.{Sized}

-- addresses and counts fit a u32: the code writes this number out
abbrev pub address_limit : ℕ
address_limit = 4294967296

-- a geometry whose sizes pass the check, and whose addresses fit a u32
pub record Good (g : Geometry) : Type 0 where
  pub sized : Sized g
  pub top : range_end g < address_limit
  -- these three follow from the word's size; they stand here as bounds of a definition that stays shut
  pub header_low : 8 ≤ header_size g
  pub header_high : header_size g ≤ word_limit
  pub header_word : g.word ≤ header_size g

-- a good geometry whose range lies in an image of n bytes
pub record Within (g : Geometry) (n : ℕ) : Type 0 where
  pub good : Good g
  pub ends : range_end g ≤ n

-- what checking a shape over an image of n bytes promises
pub record Checks (n : ℕ) (s : Shape) (r : Result Geometry Refusal) : Type 0 where
  pub answer : r ≡ check n s
  pub within : IfOk r (λ g. Within g n)

-- what rounding n up to a word of w bytes promises
pub record RoundedUp (w n r : ℕ) : Type 0 where
  pub answer : r ≡ round_up w n
  pub low : n ≤ r
  pub high : r < n + w
