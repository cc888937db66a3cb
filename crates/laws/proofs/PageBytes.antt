-- A page's bytes decide its marks, its state and its items; bytes put into one page leave every other page. Assumes nothing.
use mathlib.Core.List.{List}
use mathlib.Core.Path.{◌≡◌, sym, ap, ap₂, ◌∙◌}
use Prim.Native.Nat.{ℕ, ◌+◌, ◌*◌, ◌≤◌, ◌<◌}
use native.Mathlib.Nat.{add-zero, add_assoc}
use native.Mathlib.Omega.{arith}
use lib.ListN.{length}
use Rattle.paper.specs.declared.Geometry.{Geometry}
use Rattle.paper.specs.Chip.{page_start, range_end, data_start, data_size, data_end, page_bytes, page_data, part, put}
use Rattle.paper.specs.Scan.{walk, page_walk}
use Rattle.paper.specs.Pages.{state_by, is_set, start_mark, end_mark, state}
use Rattle.laws.proofs.Sides.{Side, below, above, side}
use Rattle.laws.proofs.Parts.{part_part}
use Rattle.laws.proofs.Places.{page_below, page_in}
use Rattle.laws.proofs.Puts.{part_before, part_after}

module _ (g : Geometry) (marks : 2 * g.word ≤ g.page) where
  pub page_split : g.page ≡ g.word + data_size g + g.word
  unfolding data_size
  page_split = omega arith

  module _ (im : List ℕ) (p : ℕ) where
    pub start_part : start_mark g im p ≡ part 0 g.word (page_bytes g im p)
    unfolding start_mark page_bytes
    start_part =
        sym (part_part (page_start g p) g.page 0 g.word im (omega arith) ∙ ap (λ (a : ℕ). part a g.word im) (add-zero (page_start g p)))

    pub end_part : end_mark g im p ≡ part (g.word + data_size g) g.word (page_bytes g im p)
    unfolding end_mark page_bytes data_end data_start
    end_part =
        ap (λ (a : ℕ). part a g.word im) (add_assoc (page_start g p) g.word (data_size g))
        ∙ sym (part_part (page_start g p) g.page (g.word + data_size g) g.word im (omega (arith, page_split)))

    pub data_part : page_data g im p ≡ part g.word (data_size g) (page_bytes g im p)
    unfolding page_data page_bytes data_start
    data_part = sym (part_part (page_start g p) g.page g.word (data_size g) im (omega (arith, page_split)))

  module _ (im jm : List ℕ) (p : ℕ) (e : page_bytes g im p ≡ page_bytes g jm p) where
    pub state_same : state g im p ≡ state g jm p
    unfolding state
    state_same = ap₂ (λ (a b : List ℕ). state_by (is_set a) (is_set b)) (rw (start_part im p, start_part jm p, e)) (rw (end_part im p, end_part jm p, e))

    pub walk_same : page_walk g im p ≡ page_walk g jm p
    unfolding page_walk
    walk_same = ap (λ (d : List ℕ). walk g 0 (data_start g p) d) (rw (data_part im p, data_part jm p, e))

-- bytes x put at a, within page q
pub put_elsewhere : (g : Geometry) (im : List ℕ) → range_end g ≤ length im → (q a : ℕ) (x : List ℕ) → q < g.pages
    → page_start g q ≤ a → a + length x ≤ page_start g q + g.page
    → (p : ℕ) → p < g.pages → (p ≡ q → ⊥) → page_bytes g (put a x im) p ≡ page_bytes g im p
unfolding page_bytes
put_elsewhere g im ends q a x hq low high p hp ne = by (side p q) (side q p)
  where
    fits : a + length x ≤ length im
    fits = omega (arith, page_in g q hq)

    by : Side p q → Side q p → part (page_start g p) g.page (put a x im) ≡ part (page_start g p) g.page im
    by (below l) k = part_before a x im fits (page_start g p) g.page (omega (arith, page_below g p q l))
    by (above l) (below k) = part_after a x im fits (page_start g p) g.page (omega (arith, page_below g q p k))
    by (above l) (above k) = absurd (ne (omega arith))
