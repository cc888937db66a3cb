-- Erasing a page, by laws: what its events are, how many stores they count, and what they make of image and buffer. A proof that goes by
-- these does not open `erase_page`; `erase_page_is` is for what no other law here says. Assumes nothing.
use mathlib.Core.List.{List, [], ◌∷◌, ◌++◌}
use mathlib.Core.Path.{◌≡◌, refl, ap, ◌∙◌}
use Prim.Native.Nat.{ℕ, ◌+◌, ◌≤◌, ◌<◌}
use native.Mathlib.Omega.{arith}
use lib.ListN.{length, replicate, length-replicate}
use Rattle.paper.specs.declared.Geometry.{Geometry}
use Rattle.paper.specs.Chip.{page_start, range_end, page_bytes, part, Event, erase, put, image_by, image_after, buffer_by, buffer_after, store_count, before, erase_page}
use Rattle.paper.specs.Ways.{Each}
use Rattle.laws.proofs.Events.{image_append}
use Rattle.laws.proofs.PageBytes.{put_elsewhere}
use Rattle.laws.proofs.Places.{page_in}
use Rattle.laws.proofs.Puts.{length_put, part_filled}

module _ (g : Geometry) (p : ℕ) where
  -- ---- its events

  -- the whole of it
  pub erase_page_is : erase_page g p ≡ erase p ∷ []
  unfolding erase_page
  erase_page_is = refl

  -- what holds of the page's erase holds of each of its events
  pub erase_each : (P : Event → Type 0) → P (erase p) → Each P (erase_page g p)
  unfolding erase_page
  erase_each P h = (h, tt)

  pub erase_count : store_count (erase_page g p) ≡ 1
  unfolding erase_page store_count
  erase_count = refl

  -- cut before its first store, it has made nothing
  pub erase_before : before 0 (erase_page g p) ≡ []
  unfolding erase_page before
  erase_before = refl

  -- ---- image and buffer

  pub erase_image : (im : List ℕ) → image_after g (erase_page g p) im ≡ image_by g (erase p) im
  unfolding erase_page image_after
  erase_image im = refl

  pub erase_put : (im : List ℕ) → image_after g (erase_page g p) im ≡ put (page_start g p) (replicate g.page 0xff) im
  unfolding image_by
  erase_put = erase_image

  pub erase_then : (es : List Event) (im : List ℕ) → image_after g (erase_page g p ++ es) im ≡ image_after g es (image_after g (erase_page g p) im)
  erase_then es = image_append g (erase_page g p) es

  pub erase_buffer : (im buf : List ℕ) → buffer_after g (erase_page g p) im buf ≡ buf
  unfolding erase_page buffer_after buffer_by
  erase_buffer im buf = refl

  -- ---- the pages of an image that the range lies in

  module _ (im : List ℕ) (ends : range_end g ≤ length im) (hp : p < g.pages) where
    fits : page_start g p + g.page ≤ length im
    fits = omega (arith, page_in g p hp)

    pub erase_length : length (image_after g (erase_page g p) im) ≡ length im
    erase_length =
        ap length (erase_put im)
        ∙ length_put (page_start g p) (replicate g.page 0xff) im (omega (arith, fits, length-replicate {A = ℕ} g.page 0xff))

    -- every part of the page is FF
    pub erase_filled : (a n : ℕ) → page_start g p ≤ a → a + n ≤ page_start g p + g.page → part a n (image_after g (erase_page g p) im) ≡ replicate n 0xff
    erase_filled a n low high = ap (part a n) (erase_put im) ∙ part_filled (page_start g p) g.page 0xff im fits a n low high

    pub erase_page_lem : page_bytes g (image_after g (erase_page g p) im) p ≡ replicate g.page 0xff
    unfolding page_bytes
    erase_page_lem = erase_filled (page_start g p) g.page (omega arith) (omega arith)

    -- every other page stays
    pub erase_others : (q : ℕ) → q < g.pages → (q ≡ p → ⊥) → page_bytes g (image_after g (erase_page g p) im) q ≡ page_bytes g im q
    erase_others q hq n =
        ap (λ (x : List ℕ). page_bytes g x q) (erase_put im)
        ∙ put_elsewhere g im ends p (page_start g p) (replicate g.page 0xff) hp (omega arith) (omega (arith, length-replicate {A = ℕ} g.page 0xff)) q hq n
