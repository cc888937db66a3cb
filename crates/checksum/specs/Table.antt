-- The rule of the table by which the data checksum takes in a byte. Assumes nothing.
use Rattle.std.specs.Prelude.{ℕ, zero, suc, ◌*◌, ◌/◌, ◌%◌}
use Rattle.paper.specs.Poly.{◌⊕◌}

-- n turns of a bit loop: the low bit goes out, and where it is 1 `poly` is added, which holds the divisor's lower terms
unfoldable pub turns : ℕ → ℕ → ℕ → ℕ
turns poly zero c = c
turns poly (suc n) c = turns poly n (c / 2 ⊕ c % 2 * poly)

-- the entry of a byte: what it has become, as a register, when its eight bits are out
unfoldable pub entry : ℕ → ℕ
entry k = turns 0x82f6_3b78 8 k
