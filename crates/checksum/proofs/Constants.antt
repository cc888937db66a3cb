-- The two divisors: their degrees, and that the constants of their bit loops are their lower terms. Assumes nothing.
use mathlib.Core.Path.{◌≡◌, refl}
use native.Mathlib.Omega.{arith}
use Rattle.paper.specs.Poly.{◌⊕◌, times}
use Rattle.paper.specs.Checksum.{mirror, length_poly, data_poly}
use Rattle.checksum.specs.Claims.{Below}

pub length_degree : Below 16 length_poly
unfolding length_poly
length_degree = omega arith

pub length_constant : mirror 16 0x1a2e ≡ times 1 length_poly
unfolding mirror times length_poly ◌⊕◌
length_constant = refl

pub data_degree : Below 32 data_poly
unfolding data_poly
data_degree = omega arith

pub data_constant : mirror 32 0x82f6_3b78 ≡ times 1 data_poly
unfolding mirror times data_poly ◌⊕◌
data_constant = refl
