-- The scan of a page is the walk from the start of its data to their end; an item that ends there lies in the image. Assumes nothing.
use mathlib.Core.Path.{◌≡◌, ap, ap₂, ◌∙◌, subst}
use mathlib.Core.List.{List}
use Prim.Native.Nat.{ℕ, ◌-◌, ◌≤◌, ◌<◌}
use native.Mathlib.Omega.{arith}
use lib.ListN.{length}
use Rattle.std.specs.Prelude.{Option}
use Rattle.paper.specs.declared.Geometry.{Geometry}
use Rattle.paper.specs.Chip.{data_start, data_size, data_end, page_data, part}
use Rattle.paper.specs.Scan.{Walk, walk, page_walk, free_spot}
use Rattle.chip.specs.Within.{Within}
use Rattle.chip.specs.declared.Address.{Address}
use Rattle.chip.proofs.Geometry.{data_in}
use Rattle.item.specs.declared.Free.{Free}
use Rattle.item.specs.Places.{after, Inside, Room}
use Rattle.item.specs.Scanning.{walk_from, FreeIs, PageFree, SpotIs}

module _ {g : Geometry} (im : List ℕ) {p a e : ℕ} (w : Within g (length im)) (h : p < g.pages)
    (ea : a ≡ data_start g p) (ee : e ≡ data_end g p) where
  pub page_inside : Inside g (length im) a e
  page_inside = let d = data_in g p (length im) w h in record { good = w.good; order = omega arith; ends = omega arith }

  pub page_walk_lem : walk_from g im e a ≡ page_walk g im p
  unfolding page_walk page_data
  page_walk_lem =
      let d = data_in g p (length im) w h in
      let z : data_end g p - data_start g p ≡ data_size g = omega arith in
      ap₂ (walk_from g im) ee ea ∙ ap (λ (n : ℕ). walk g 0 (data_start g p) (part (data_start g p) n im)) z

  pub page_free : (r : Free) → FreeIs (walk_from g im e a) e r → PageFree g im p r
  unfolding free_spot
  page_free r f =
      let s : length (walk_from g im e a).rest ≡ length (page_walk g im p).rest = ap (λ (x : Walk). length x.rest) page_walk_lem in
      record { is = record { left = f.left ∙ s; ends = f.ends ∙ ee }; spot = omega (arith, f.left, f.ends) }

  pub page_spot : (n : ℕ) (r : Option Address) → SpotIs g (walk_from g im e a) e n r → SpotIs g (page_walk g im p) (data_end g p) n r
  page_spot n r f = subst (λ (x : ℕ). SpotIs g (page_walk g im p) x n r) ee (subst (λ (x : Walk). SpotIs g x e n r) page_walk_lem f)

pub page_room : {g : Geometry} {n p : ℕ} (a len : ℕ) → Within g n → p < g.pages → after g a len ≤ data_end g p → Room g n a len
page_room {g} {n} {p} a len w h l = let d = data_in g p n w h in record { good = w.good; fits = omega arith; top = omega arith }
