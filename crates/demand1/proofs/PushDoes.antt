-- What holds of every store and of every erase holds of all that a push does. Assumes nothing.
use mathlib.Core.Bool.{Bool, true, false, cond, not, ◌&&◌}
use mathlib.Core.List.{List, [], ◌∷◌, ◌++◌}
use Prim.Native.Nat.{ℕ, ◌+◌}
use lib.Dec.{eqb}
use lib.ListN.{length}
use Rattle.paper.specs.declared.Geometry.{Geometry}
use Rattle.paper.specs.declared.PageState.{PageState}
use Rattle.paper.specs.declared.PageState.TheVariants.{Open, PartialOpen, Closed, Corrupted}
use Rattle.paper.specs.Checksum.{data_crc}
use Rattle.paper.specs.Chip.{header_size, Event, store, erase, erase_page, writes, Plan, plan, Try, fails, gives}
use Rattle.paper.specs.Slip.{encode}
use Rattle.paper.specs.Scan.{page_walk, serves, any_live}
use Rattle.paper.specs.Pages.{state, same, set_start, set_end, next, youngest}
use Rattle.paper.specs.Refusals.{Answer}
use Rattle.paper.specs.Push.{Spot, full, at, too_big, take_page, turn_page, find_spot, spot_on, spot_step, spot_for, item_at, push_at, push}
use Rattle.laws.proofs.ErasePage.{erase_each}
use Rattle.demand1.specs.Range.{Each}
use Rattle.demand1.proofs.Lists.{each_append}
use Rattle.demand1.proofs.EachEvent.{Tried, Any, writes_store, Does, does_cond, does_bind, does_steps}

-- what holds of every store and every erase holds of all that a push does
module _ {P : Event → Type 0} (stores : (a : ℕ) (word : List ℕ) → P (store a word)) (erases : (p : ℕ) → P (erase p)) (g : Geometry) (over : Bool) where
  nothing_done : {A : Type 0} {a : A} → Does P Any (plan [] a)
  nothing_done = record { each = tt; answers = tt }

  take_does : (y x : ℕ) (im : List ℕ) → Does {A = Try Unit Spot} P Any (take_page g over y x im)
  unfolding take_page set_start set_end
  take_does y x im = does_cond (not over && any_live (page_walk g im x).heads) (λ e. nothing_done) (λ e. record {
    each = each_append P (erase_page g x) (cond (eqb x y) [] (set_end g y ∷ []) ++ (set_start g x ∷ [])) (erase_each g x P (erases x)) (by (eqb x y));
    answers = tt;
  })
    where
      by : (t : Bool) → Each P (cond t [] (set_end g y ∷ []) ++ (set_start g x ∷ []))
      by true = (stores _ _, tt)
      by false = (stores _ _, (stores _ _, tt))

  turn_does : (y x : ℕ) (s : PageState) (im : List ℕ) → Does {A = Try Unit Spot} P Any (turn_page g over y x s im)
  unfolding turn_page set_start set_end
  turn_does y x Open im = record { each = (stores _ _, (stores _ _, tt)); answers = tt }
  turn_does y x PartialOpen im = does_cond (eqb x y) (λ e. take_does y x im) (λ e. nothing_done)
  turn_does y x Closed im = take_does y x im
  turn_does y x Corrupted im = nothing_done

  find_does : (n y : ℕ) (im : List ℕ) → Does {A = Try Unit Spot} P Any (find_spot g n over y im)
  unfolding find_spot
  find_does n y im = does_cond (serves g (page_walk g im y).rest n) (λ e. nothing_done) (λ e. turn_does y (next g y) (state g im (next g y)) im)

  spot_does : (n : ℕ) (t : Try Unit ℕ) (im : List ℕ) → Does {A = Try Unit Spot} P Any (spot_on g n over t im)
  unfolding spot_on set_start
  spot_does n (fails u) im = nothing_done
  spot_does n (gives y) im =
      does_bind g {A = Unit {0}} Any im (λ u. find_spot g n over y) (record { each = by (same (state g im y) Open); answers = tt }) (λ u v. find_does n y)
    where
      by : (t : Bool) → Each P (cond t (set_start g y ∷ []) [])
      by true = (stores _ _, tt)
      by false = tt

  pub push_does : (im slip : List ℕ) → Does {A = Answer} P Any (push g im slip over)
  unfolding push spot_for spot_step push_at item_at
  push_does im slip = does_cond (too_big g (length slip)) (λ e. nothing_done)
      (λ e. does_bind g (Tried Any Any) im (push_at g slip)
      (does_steps g Any Any (spot_step g (length slip) over) erases (λ u v i. tried (spot_does (length slip) (youngest g i) i)) tt tt im) on)
    where
      tried : {p : Plan (Try Unit Spot)} → Does P Any p → Does P (Tried Any Any) p
      tried {p} d = record { each = d.each; answers = any p.answer }
        where
          any : (t : Try Unit Spot) → Tried Any Any t
          any (fails u) = tt
          any (gives s) = tt

      on : (t : Try Unit Spot) → Tried Any Any t → (im : List ℕ) → Does {A = Answer} P Any (push_at g slip t im)
      on (fails u) v im = nothing_done
      on (gives full) v im = nothing_done
      on (gives (at a)) v im =
          let header : List ℕ = encode g (data_crc slip) (length slip) in
          let b : ℕ = a + header_size g in
          record {
            each =
                each_append P (writes g a header) (writes g b slip) (writes_store g P stores a header) (writes_store g P stores b slip);
            answers = tt;
          }
