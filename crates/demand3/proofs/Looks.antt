-- Which bytes an accepted header depends on. Assumes nothing.
use mathlib.Core.List.{List}
use mathlib.Core.Path.{◌≡◌, sym, ap, ◌∙◌, subst}
use Prim.Native.Nat.{ℕ, ◌+◌, ◌≤◌, ◌<◌}
use native.Mathlib.Omega.{arith}
use lib.ListN.{length, take}
use Rattle.paper.specs.declared.Geometry.{Geometry}
use Rattle.paper.specs.Checksum.{length_crc}
use Rattle.paper.specs.Chip.{header_size, part}
use Rattle.paper.specs.Slip.{item, look, blank, number_of}
use Rattle.laws.proofs.Parts.{part_take}
use Rattle.laws.proofs.Rounding.{round_up_ge}
use Rattle.laws.proofs.Headers.{header_ge}
use Rattle.laws.proofs.Looking.{Taken, look_item, item_look}
use Rattle.demand3.proofs.Sizes.{item_size}

-- a look that accepts depends on the item's own bytes and on the length of what is left
pub look_same : (g : Geometry) → 0 < g.word → (d e : List ℕ) {c n : ℕ} {body : List ℕ} → length d ≡ length e
    → take (item_size g n) d ≡ take (item_size g n) e → look g d ≡ item c n body → look g e ≡ item c n body
look_same g pos d e {c} {n} {body} l s i = item_look g e (record {
  room = subst (λ (x : ℕ). m ≤ x) l a.room;
  used = ap blank (sym (into 0 (header_size g) (omega arith))) ∙ a.used;
  check = ap length_crc (sym (into 4 2 (omega (arith, header_ge g pos)))) ∙ a.check ∙ ap number_of (into 6 2 (omega (arith, header_ge g pos)));
  crc_is = ap number_of (sym (into 0 4 (omega (arith, header_ge g pos)))) ∙ a.crc_is;
  len_is = ap number_of (sym (into 4 2 (omega (arith, header_ge g pos)))) ∙ a.len_is;
  body_is = sym (into (header_size g) n (omega (arith, round_up_ge g.word n pos))) ∙ a.body_is;
})
  where
    a : Taken g d c n body
    a = look_item g d i

    m : ℕ
    m = item_size g n

    into : (x y : ℕ) → x + y ≤ m → part x y d ≡ part x y e
    into x y h = sym (part_take x y m d h) ∙ ap (λ (q : List ℕ). part x y q) s ∙ part_take x y m e h
