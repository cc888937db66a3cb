-- What an erase and a start mark leave of each page, and what they make of their own. Assumes nothing.
use mathlib.Core.Path.{◌≡◌, ap, ◌∙◌}
use mathlib.Core.List.{List}
use Prim.Native.Nat.{ℕ, ◌+◌, ◌≤◌, ◌<◌}
use native.Mathlib.Omega.{arith}
use lib.ListN.{length, drop, replicate, length-replicate, length-drop}
use Rattle.paper.specs.declared.Geometry.{Geometry}
use Rattle.paper.specs.declared.PageState.TheVariants.{Open, PartialOpen}
use Rattle.paper.specs.Chip.{page_start, range_end, data_start, data_size, data_end, page_bytes, page_data, part, put, erase_page, image_by, image_after}
use Rattle.paper.specs.Scan.{walk, page_walk}
use Rattle.paper.specs.Pages.{is_set, start_mark, end_mark, state, set_start}
use Rattle.laws.proofs.Accepted.{Laid}
use Rattle.laws.proofs.Ands.{ands_zeros}
use Rattle.laws.proofs.ErasePage.{erase_length, erase_filled, erase_others}
use Rattle.laws.proofs.Marks.{zeros_set, ones_unset, open_end}
use Rattle.laws.proofs.PageBytes.{put_elsewhere}
use Rattle.laws.proofs.Places.{page_in}
use Rattle.laws.proofs.Puts.{part_after, part_filled}
use Rattle.demand1.proofs.Pages.{layout}

-- ---- one event

module _ {g : Geometry} {n : ℕ} (S : Laid g n) (im : List ℕ) (long : length im ≡ n) where
  inside : range_end g ≤ length im
  inside = omega (arith, S.ends)

  -- bytes put into page q leave every other page
  put_other : (q a : ℕ) (x : List ℕ) → q < g.pages → page_start g q ≤ a → a + length x ≤ page_start g q + g.page
      → (p : ℕ) → p < g.pages → (p ≡ q → ⊥) → page_bytes g (put a x im) p ≡ page_bytes g im p
  put_other = put_elsewhere g im inside

  module _ (q : ℕ) (hq : q < g.pages) where
    pub erase_long : length (image_after g (erase_page g q) im) ≡ n
    erase_long = erase_length g q im inside hq ∙ long

    pub erase_other : (p : ℕ) → p < g.pages → (p ≡ q → ⊥) → page_bytes g (image_after g (erase_page g q) im) p ≡ page_bytes g im p
    erase_other = erase_others g q im inside hq

    -- the erased page is Open
    pub erase_open : state g (image_after g (erase_page g q) im) q ≡ Open
    unfolding state start_mark end_mark
    erase_open =
        let L = layout S q in
        let filled = erase_filled g q im inside hq in
        rw (filled (page_start g q) g.word (omega arith) (omega arith), filled (data_end g q) g.word (omega arith) (omega arith), ones_unset g.word)

    -- ---- a start mark

    marked_put : image_by g (set_start g q) im ≡ put (page_start g q) (replicate g.word 0) im
    unfolding set_start image_by
    marked_put =
        let L = layout S q in
        ap (λ (x : List ℕ). put (page_start g q) x im)
        (ands_zeros (drop (page_start g q) im) g.word (omega (arith, length-drop (page_start g q) im, page_in g q hq, S.ends)))

    mark_fits : page_start g q + length (replicate {A = ℕ} g.word 0) ≤ length im
    mark_fits = omega (arith, length-replicate {A = ℕ} g.word 0, (layout S q).split, page_in g q hq, S.ends)

    pub mark_other : (p : ℕ) → p < g.pages → (p ≡ q → ⊥) → page_bytes g (image_by g (set_start g q) im) p ≡ page_bytes g im p
    mark_other p hp ne = rw marked_put
        (put_other q (page_start g q) (replicate g.word 0) hq (omega arith) (omega (arith, length-replicate {A = ℕ} g.word 0, (layout S q).split)) p hp ne)

    -- the marked page's items stay
    pub mark_walk : page_walk g (image_by g (set_start g q) im) q ≡ page_walk g im q
    unfolding page_walk page_data
    mark_walk =
        let L = layout S q in
        ap (λ (d : List ℕ). walk g 0 (data_start g q) d) (ap (part (data_start g q) (data_size g)) marked_put
        ∙ part_after (page_start g q) (replicate g.word 0) im mark_fits (data_start g q) (data_size g) (omega (arith, length-replicate {A = ℕ} g.word 0)))

    -- an Open page that is marked is PartialOpen
    pub mark_partial : state g im q ≡ Open → state g (image_by g (set_start g q) im) q ≡ PartialOpen
    unfolding state start_mark end_mark
    mark_partial e =
        let L = layout S q in
        let w = length-replicate {A = ℕ} g.word 0 in
        let a : part (page_start g q) g.word (image_by g (set_start g q) im) ≡ replicate g.word 0 =
        ap (part (page_start g q) g.word) marked_put
        ∙ part_filled (page_start g q) g.word 0 im (omega (arith, mark_fits)) (page_start g q) g.word (omega arith) (omega arith) in
        let b : part (data_end g q) g.word (image_by g (set_start g q) im) ≡ part (data_end g q) g.word im =
        ap (part (data_end g q) g.word) marked_put ∙ part_after (page_start g q) (replicate g.word 0) im mark_fits (data_end g q) g.word (omega arith) in
        rw (a, b, zeros_set g.word S.sized.low, open_end (is_set (part (page_start g q) g.word im)) (is_set (part (data_end g q) g.word im)) e)
