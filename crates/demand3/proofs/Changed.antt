-- A change of one page: by a mark, or by an erase; what it leaves of states and scans. Assumes nothing.
use mathlib.Core.Bool.{Bool, true, false}
use mathlib.Core.List.{List, []}
use mathlib.Core.Path.{◌≡◌, refl, sym, ap, ◌∙◌, subst}
use Prim.Native.Nat.{ℕ, ◌+◌, ◌≤◌, ◌<◌}
use native.Mathlib.Omega.{arith}
use borrow.Author.Tests.{eqb-true, eqb-false}
use lib.Dec.{eqb}
use lib.ListN.{length, drop, replicate, length-replicate, length-drop}
use Rattle.paper.specs.declared.Geometry.{Geometry}
use Rattle.paper.specs.Chip.{page_start, data_start, data_end, data_size, page_data, put, ands, erase, image_by}
use Rattle.paper.specs.Scan.{walk, page_walk}
use Rattle.paper.specs.Pages.{state, start_mark, end_mark, set_start, set_end}
use Rattle.laws.proofs.Accepted.{Laid}
use Rattle.laws.proofs.Ands.{ands_zeros}
use Rattle.laws.proofs.Puts.{length_put}
use Rattle.demand3.proofs.Blank.{blank_replicate}
use Rattle.demand3.proofs.Courses.{blank_walk}
use Rattle.demand3.proofs.Views.{View, view, state_in, erased_view, view_state, view_walk, elsewhere, put_first, put_last, put_all, page_inside, page_split, inner_low, inner_high}

-- jm is im but for page p, which is v
pub record Changed (g : Geometry) (im jm : List ℕ) (p : ℕ) (v : View) : Type 0 where
  pub long : length jm ≡ length im
  pub others : (q : ℕ) → q < g.pages → (q ≡ p → ⊥) → view g jm q ≡ view g im q
  pub this : view g jm p ≡ v

module _ {g : Geometry} {im jm : List ℕ} {p : ℕ} {v : View} (C : Changed g im jm p v) where
  pub still_good : Laid g (length im) → Laid g (length jm)
  still_good G = subst (λ (k : ℕ). Laid g k) (sym C.long) G

  -- what holds of every page but p before, and of v, holds of every page after
  pub every_page : (P : ℕ → View → Type 0) → ((q : ℕ) → q < g.pages → (q ≡ p → ⊥) → P q (view g im q)) → P p v → (q : ℕ) → q < g.pages
      → P q (view g jm q)
  every_page P f k q h = by (eqb q p) refl
    where
      by : (t : Bool) → eqb q p ≡ t → P q (view g jm q)
      by true e = subst (λ (x : ℕ). P x (view g jm x)) (sym (eqb-true q p e)) (subst (P p) (sym C.this) k)
      by false e = let ne = eqb-false q p e in subst (P q) (sym (C.others q h ne)) (f q h ne)

  pub state_other : (q : ℕ) → q < g.pages → (q ≡ p → ⊥) → state g jm q ≡ state g im q
  unfolding state
  state_other q h ne = ap state_in (C.others q h ne)

  pub walk_other : (q : ℕ) → q < g.pages → (q ≡ p → ⊥) → page_walk g jm q ≡ page_walk g im q
  walk_other q h ne = view_walk g jm q (C.others q h ne) ∙ sym (view_walk g im q refl)

  pub state_this : state g jm p ≡ state_in v
  state_this = view_state g jm p C.this

  pub walk_this : page_walk g jm p ≡ walk g 0 (data_start g p) v.inner
  walk_this = view_walk g jm p C.this

  -- a change that leaves the page's data
  pub walks_same : v.inner ≡ page_data g im p → (q : ℕ) → q < g.pages → page_walk g jm q ≡ page_walk g im q
  unfolding page_walk
  walks_same e = every_page (λ q w. walk g 0 (data_start g q) w.inner ≡ page_walk g im q) (λ q h ne. refl) (ap (walk g 0 (data_start g p)) e)

  -- a change that leaves the page's marks
  pub states_same : state_in v ≡ state g im p → (q : ℕ) → q < g.pages → state g jm q ≡ state g im q
  unfolding state
  states_same e = every_page (λ q w. state_in w ≡ state g im q) (λ q h ne. refl) e

-- ---- marks and erases

-- "Setting a mark stores zeros."
abbrev pub zero_mark : Geometry → List ℕ
zero_mark g = replicate g.word 0

module _ {g : Geometry} (im : List ℕ) (G : Laid g (length im)) (p : ℕ) (hp : p < g.pages) where
  -- bytes put into page p, by the page that they make of it
  put_changed : (a : ℕ) (x : List ℕ) (v : View) → page_start g p ≤ a → a + length x ≤ page_start g p + g.page → view g (put a x im) p ≡ v
      → Changed g im (put a x im) p v
  put_changed a x v low high e = record { long = length_put a x im (omega (arith, page_inside im G p hp)); others = elsewhere im G p a x hp low high; this = e }

  pub inner_changed : (i : ℕ) (x : List ℕ) (v : View) → i + length x ≤ data_size g → view g (put (data_start g p + i) x im) p ≡ v
      → Changed g im (put (data_start g p + i) x im) p v
  inner_changed i x v fit = put_changed (data_start g p + i) x v (inner_low g p i) (inner_high G p i (length x) fit)

  zeros_length : length (zero_mark g) ≡ g.word
  zeros_length = length-replicate {A = ℕ} g.word 0

  -- a word of the page, ANDed with zeros
  zeroed : (a : ℕ) → page_start g p ≤ a → a + g.word ≤ page_start g p + g.page → put a (ands (drop a im) (zero_mark g)) im ≡ put a (zero_mark g) im
  zeroed a low high = rw (ands_zeros (drop a im) g.word (omega (arith, page_inside im G p hp, length-drop a im)))

  pub start_changed : Changed g im (image_by g (set_start g p) im) p (record { first = zero_mark g; inner = page_data g im p; last = end_mark g im p })
  unfolding image_by set_start
  start_changed =
      let s = page_split G in
      rw (zeroed (page_start g p) (omega arith) (omega arith))
      (put_changed (page_start g p) (zero_mark g) _ (omega arith) (omega (arith, zeros_length)) (put_first im G p hp (zero_mark g) zeros_length))

  end_low : page_start g p ≤ data_end g p
  unfolding data_end data_start
  end_low = omega arith

  end_high : data_end g p + g.word ≤ page_start g p + g.page
  unfolding data_end data_start
  end_high = omega (arith, page_split G)

  pub end_changed : Changed g im (image_by g (set_end g p) im) p (record { first = start_mark g im p; inner = page_data g im p; last = zero_mark g })
  unfolding image_by set_end
  end_changed =
      rw (zeroed (data_end g p) end_low end_high)
      (put_changed (data_end g p) (zero_mark g) _ end_low (omega (arith, end_high, zeros_length)) (put_last im G p hp (zero_mark g) zeros_length))

  pub erase_changed : Changed g im (image_by g (erase p) im) p (erased_view g)
  unfolding image_by
  erase_changed =
      put_changed (page_start g p) (replicate g.page 255) _ (omega arith) (omega (arith, length-replicate {A = ℕ} g.page 255)) (put_all im G p hp)

  -- an erased page has no head and refuses nothing
  pub erased_walk : page_walk g (image_by g (erase p) im) p ≡ record { heads = []; refused = []; rest = replicate (data_size g) 255 }
  erased_walk = walk_this erase_changed ∙ blank_walk g G.sized.low (data_start g p) (replicate (data_size g) 255) (blank_replicate (data_size g))
