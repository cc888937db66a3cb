-- Every item on the way of a search fits a page's data, so that a buffer of that size is never too small. Assumes nothing.
use mathlib.Core.Bool.{Bool, true, false, cond, ◌||◌}
use mathlib.Core.List.{List, [], ◌∷◌, ◌++◌}
use mathlib.Core.Path.{◌≡◌, refl, subst}
use Prim.Native.Nat.{ℕ, zero, suc, ◌+◌, ◌-◌, ◌≤◌}
use native.Mathlib.Omega.{arith}
use lib.Dec.{eqb}
use lib.ListN.{length, drop, length-take}
use Rattle.paper.specs.declared.Geometry.{Geometry}
use Rattle.paper.specs.declared.PageState.{PageState}
use Rattle.paper.specs.declared.PageState.TheVariants.{Open, Corrupted}
use Rattle.paper.specs.Chip.{round_up, header_size, data_start, data_size, part, page_data}
use Rattle.paper.specs.Slip.{Look, stop, bad, item, look}
use Rattle.paper.specs.Scan.{Head, onward, walk, page_walk}
use Rattle.paper.specs.Pages.{state, same, next}
use Rattle.paper.specs.Ways.{Each, on_the_way, TooLong, Way, direct, mended}
use Rattle.demand1.proofs.Lists.{each_append}
use Rattle.demand1.proofs.Items.{look_room}

-- a header's item is at most m bytes long
abbrev Within : Geometry → ℕ → Head → Type 0
Within g m h = header_size g + round_up g.word h.len ≤ m

each_behind : (P : Head → Type 0) (hs : List Head) (h : Head) (ks : List Head) → Each P (hs ++ (h ∷ ks)) → P h
each_behind P [] h ks e = e.0
each_behind P (x ∷ hs) h ks e = each_behind P hs h ks e.1

module _ (g : Geometry) (m : ℕ) where
  walk_within : (k a : ℕ) (d : List ℕ) → length d ≤ m → Each (Within g m) (walk g k a d).heads
  unfolding walk onward
  walk_within k a [] l = tt
  walk_within (suc k) a (b ∷ bs) l = walk_within k (suc a) bs (omega arith)
  walk_within zero a (b ∷ bs) l = by (look g (b ∷ bs)) refl (λ k. walk_within k (suc a) bs (omega arith))
    where
      by : (x : Look) → look g (b ∷ bs) ≡ x → ((k : ℕ) → Each (Within g m) (walk g k (suc a) bs).heads)
          → Each (Within g m) (onward g a (b ∷ bs) x (λ i. walk g (i - 1) (suc a) bs)).heads
      by stop q f = tt
      by bad q f = f (g.word - 1)
      by (item c n body) q f = (omega (arith, look_room g (b ∷ bs) q), f (header_size g + round_up g.word n - 1))

page_within : (g : Geometry) (im : List ℕ) (p : ℕ) → Each (Within g (data_size g)) (page_walk g im p).heads
unfolding page_walk page_data
page_within g im p =
    walk_within g (data_size g) 0 (data_start g p) (part (data_start g p) (data_size g) im)
    (omega (arith, length-take (data_size g) (drop (data_start g p) im)))

on_the_way_within : (g : Geometry) (im : List ℕ) (old : ℕ) (ps : List ℕ) → Each (Within g (data_size g)) (on_the_way g im old ps)
unfolding on_the_way
on_the_way_within g im old [] = tt
on_the_way_within g im old (p ∷ ps) =
    each_append (Within g (data_size g)) (page_walk g im p).heads _ (page_within g im p)
    (by (same s Open || same s Corrupted || eqb (next g p) old) (on_the_way_within g im old ps))
  where
    s : PageState
    s = state g im (next g p)

    by : (t : Bool) → Each (Within g (data_size g)) (on_the_way g im old ps) → Each (Within g (data_size g)) (cond t [] (on_the_way g im old ps))
    by true f = tt
    by false f = f

way_within : {g : Geometry} {im : List ℕ} {hs : List Head} → Way g im hs → Each (Within g (data_size g)) hs
way_within {g} {im} (direct {old = o} e) = on_the_way_within g im o _
way_within {g} (mended {old = o} f e) = on_the_way_within g _ o _

pub never_too_long : {g : Geometry} {im : List ℕ} {hs : List Head} → Way g im hs → (n k : ℕ) → data_size g ≤ n → TooLong g n hs k → ⊥
never_too_long {g} {im} {hs} w n k l T =
    let s = T.stops in
    let e : Each (Within g (data_size g)) (s.front ++ (T.head ∷ s.rest)) = subst (Each (Within g (data_size g))) s.all (way_within w) in
    let f = each_behind (Within g (data_size g)) s.front T.head s.rest e in
    omega (arith, T.is, T.over)
