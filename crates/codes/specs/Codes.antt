-- The answers of the calls, each as one number: document 01's row in its low 32 bits, the value that comes with it above. Assumes nothing.
use Rattle.std.specs.Prelude.{List, [], ◌∷◌, ℕ, ◌+◌, ◌*◌, ◌%◌, ◌^◌, Result, Ok, Err}
use Rattle.paper.specs.declared.Geometry.{Geometry}
use Rattle.paper.specs.declared.Refusal.{Refusal}
use Rattle.paper.specs.Refusals.{Answer, done, shown, number, none, empty, refused, row}

-- a row and a value; lengths and sizes are far below 2^32
unfoldable pub code : ℕ → ℕ → ℕ
code r value = value % 2 ^ 32 * 2 ^ 32 + r

-- a row with the values that come with it, of which there is one at most
abbrev pub row_code : List ℕ → ℕ
row_code [] = 0
row_code (r ∷ []) = r
row_code (r ∷ value ∷ more) = code r value

-- "done, marked as none" is the largest value
abbrev pub code_of : Answer → ℕ
code_of done = 0
code_of (shown n) = code 0 n
code_of (number n) = code 0 n
code_of none = code 0 0xffff_ffff
code_of empty = 1
code_of (refused r) = row_code (row r)

abbrev pub code_of_check : Result Geometry Refusal → ℕ
code_of_check (Ok g) = 0
code_of_check (Err r) = row_code (row r)
