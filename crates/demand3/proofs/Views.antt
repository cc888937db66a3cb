-- A page as its two marks and its data; what a put changes of it, and of no other page. Assumes nothing.
use mathlib.Core.List.{List}
use mathlib.Core.Path.{◌≡◌, sym, ap, ◌∙◌}
use Prim.Native.Nat.{ℕ, ◌+◌, ◌*◌, ◌≤◌, ◌<◌}
use native.Mathlib.Nat.{add-zero}
use native.Mathlib.Omega.{arith}
use lib.ListN.{length, take, drop, replicate, length-replicate}
use lib.Seq.{drop-drop}
use Rattle.paper.specs.declared.Geometry.{Geometry}
use Rattle.paper.specs.declared.PageState.{PageState}
use Rattle.paper.specs.Chip.{page_start, data_start, data_end, data_size, page_data, page_bytes, put, part}
use Rattle.paper.specs.Scan.{walk, page_walk}
use Rattle.paper.specs.Pages.{state_by, is_set, start_mark, end_mark, state}
use Rattle.laws.proofs.Accepted.{Laid}
use Rattle.laws.proofs.PageBytes as page-bytes
use Rattle.laws.proofs.PageBytes.{put_elsewhere}
use Rattle.laws.proofs.Parts.{part_take, length_part, part_replicate}
use Rattle.laws.proofs.Places.{page_in}
use Rattle.laws.proofs.Puts.{part_before, part_after, part_put_at, part_around, part_of_put}

pub record View : Type 0 where
  pub first : List ℕ
  pub inner : List ℕ
  pub last : List ℕ

abbrev pub view : Geometry → List ℕ → ℕ → View
view g im p = record { first = start_mark g im p; inner = page_data g im p; last = end_mark g im p }

abbrev pub state_in : View → PageState
state_in v = state_by (is_set v.first) (is_set v.last)

abbrev pub erased_view : Geometry → View
erased_view g = record { first = replicate g.word 255; inner = replicate (data_size g) 255; last = replicate g.word 255 }

pub view_state : (g : Geometry) (im : List ℕ) (p : ℕ) {v : View} → view g im p ≡ v → state g im p ≡ state_in v
unfolding state
view_state g im p e = ap state_in e

pub view_walk : (g : Geometry) (im : List ℕ) (p : ℕ) {v : View} → view g im p ≡ v → page_walk g im p ≡ walk g 0 (data_start g p) v.inner
unfolding page_walk
view_walk g im p e = ap (λ (x : View). walk g 0 (data_start g p) x.inner) e

view_equal : {a a' b b' c c' : List ℕ} → a ≡ a' → b ≡ b' → c ≡ c'
    → ◌≡◌ {A = View} (record { first = a; inner = b; last = c }) (record { first = a'; inner = b'; last = c' })
view_equal p q r = cc

-- ---- where pages lie

pub page_split : {g : Geometry} {n : ℕ} → Laid g n → g.page ≡ g.word + data_size g + g.word
page_split {g} G = page-bytes.page_split g (omega (arith, G.sized.room))

pub inner_low : (g : Geometry) (p i : ℕ) → page_start g p ≤ data_start g p + i
unfolding data_start
inner_low g p i = omega arith

pub inner_high : {g : Geometry} {n : ℕ} → Laid g n → (p i l : ℕ) → i + l ≤ data_size g → data_start g p + i + l ≤ page_start g p + g.page
unfolding data_start
inner_high G p i l h = omega (arith, page_split G)

-- a part of a page's data, and of a page, as a part of the image
pub in_data : (g : Geometry) (im : List ℕ) (p i m : ℕ) → i + m ≤ data_size g → part (data_start g p + i) m im ≡ part i m (page_data g im p)
unfolding page_data
in_data g im p i m h = ap (take m) (sym (drop-drop i (data_start g p) im)) ∙ sym (part_take i m (data_size g) (drop (data_start g p) im) h)

in_page : (g : Geometry) (im : List ℕ) (p i m : ℕ) → i + m ≤ g.page → part (page_start g p + i) m im ≡ part i m (page_bytes g im p)
unfolding page_bytes
in_page g im p i m h = ap (take m) (sym (drop-drop i (page_start g p) im)) ∙ sym (part_take i m g.page (drop (page_start g p) im) h)

module _ {g : Geometry} (im : List ℕ) (G : Laid g (length im)) where
  pub page_inside : (p : ℕ) → p < g.pages → page_start g p + g.page ≤ length im
  page_inside p h = omega (arith, page_in g p h, G.ends)

  pub inner_length : (p : ℕ) → p < g.pages → length (page_data g im p) ≡ data_size g
  unfolding page_data data_start
  inner_length p h = length_part (page_start g p + g.word) (data_size g) im (omega (arith, page_inside p h, page_split G))

  -- ---- a put

  -- bytes put into page q are in no other page
  pub elsewhere : (q a : ℕ) (x : List ℕ) → q < g.pages → page_start g q ≤ a → a + length x ≤ page_start g q + g.page
      → (p : ℕ) → p < g.pages → (p ≡ q → ⊥) → view g (put a x im) p ≡ view g im p
  elsewhere q a x hq low high p hp ne =
      let m : 2 * g.word ≤ g.page = omega (arith, G.sized.room) in
      let e = put_elsewhere g im G.ends q a x hq low high p hp ne in
      view_equal (page-bytes.start_part g m (put a x im) p ∙ ap (part 0 g.word) e ∙ sym (page-bytes.start_part g m im p))
      (page-bytes.data_part g m (put a x im) p ∙ ap (part g.word (data_size g)) e ∙ sym (page-bytes.data_part g m im p))
      (page-bytes.end_part g m (put a x im) p ∙ ap (part (g.word + data_size g) g.word) e ∙ sym (page-bytes.end_part g m im p))

  module _ (p : ℕ) (hp : p < g.pages) (x : List ℕ) where
    pub put_first : length x ≡ g.word → view g (put (page_start g p) x im) p ≡ record { first = x; inner = page_data g im p; last = end_mark g im p }
    unfolding start_mark end_mark page_data data_start data_end
    put_first e =
        let s : ℕ = page_start g p in
        let f : s + length x ≤ length im = omega (arith, page_inside p hp, page_split G) in
        view_equal (ap (λ (k : ℕ). part s k (put s x im)) (sym e) ∙ part_put_at s x im f)
        (part_after s x im f (s + g.word) (data_size g) (omega arith)) (part_after s x im f (s + g.word + data_size g) g.word (omega arith))

    pub put_last : length x ≡ g.word → view g (put (data_end g p) x im) p ≡ record { first = start_mark g im p; inner = page_data g im p; last = x }
    unfolding start_mark end_mark page_data data_start data_end
    put_last e =
        let s : ℕ = page_start g p in
        let a : ℕ = s + g.word + data_size g in
        let f : a + length x ≤ length im = omega (arith, page_inside p hp, page_split G) in
        view_equal (part_before a x im f s g.word (omega arith)) (part_before a x im f (s + g.word) (data_size g) (omega arith))
        (ap (λ (k : ℕ). part a k (put a x im)) (sym e) ∙ part_put_at a x im f)

    pub put_inner : (i : ℕ) → i + length x ≤ data_size g
        → view g (put (data_start g p + i) x im) p ≡ record { first = start_mark g im p; inner = put i x (page_data g im p); last = end_mark g im p }
    unfolding start_mark end_mark page_data data_start data_end
    put_inner i e =
        let s : ℕ = page_start g p in
        let a : ℕ = s + g.word in
        let f : a + i + length x ≤ length im = omega (arith, page_inside p hp, page_split G) in
        view_equal (part_before (a + i) x im f s g.word (omega arith)) (part_around a (data_size g) i x im (omega (arith, page_inside p hp, page_split G)) e)
        (part_after (a + i) x im f (s + g.word + data_size g) g.word (omega arith))

  -- ---- an erased page

  all_ff : (jm : List ℕ) (p : ℕ) → ((i m : ℕ) → i + m ≤ g.page → part (page_start g p + i) m jm ≡ replicate m 255) → view g jm p ≡ erased_view g
  unfolding start_mark end_mark page_data data_start data_end
  all_ff jm p k =
      let s : ℕ = page_start g p in
      let w = page_split G in
      let z : s + g.word + data_size g ≡ s + (g.word + data_size g) = omega arith in
      view_equal (ap (λ (a : ℕ). part a g.word jm) (sym (add-zero s)) ∙ k 0 g.word (omega arith)) (k g.word (data_size g) (omega arith))
      (ap (λ (a : ℕ). part a g.word jm) z ∙ k (g.word + data_size g) g.word (omega arith))

  pub put_all : (p : ℕ) → p < g.pages → view g (put (page_start g p) (replicate g.page 255) im) p ≡ erased_view g
  put_all p hp =
      let s : ℕ = page_start g p in
      let x : List ℕ = replicate g.page 255 in
      all_ff (put s x im) p (λ i m h. part_of_put s x im i m (omega (arith, page_inside p hp)) (omega (arith, length-replicate {A = ℕ} g.page 255))
      ∙ part_replicate i m g.page 255 h)

  pub erased_view_lem : (p : ℕ) → page_bytes g im p ≡ replicate g.page 255 → view g im p ≡ erased_view g
  erased_view_lem p e = all_ff im p (λ i m h. in_page g im p i m h ∙ ap (part i m) e ∙ part_replicate i m g.page 255 h)
