-- What a turn of a checksum's byte loop does to its register. Assumes nothing.
use Rattle.std.specs.Prelude.{ℕ, ◌*◌, ◌^◌, List}
use Rattle.paper.specs.Poly.{Remainder}
use Rattle.paper.specs.Checksum.{mirror}

-- the register r is what is left of the register c, times x^8, by the divisor x^d + x^e₁ + x^e₂ + ..
abbrev pub Shifted : ℕ → List ℕ → ℕ → ℕ → Type 0
Shifted d es c r = Remainder d es (mirror d c * 2 ^ 8) (mirror d r)
