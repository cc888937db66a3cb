-- A search from the oldest page goes its way to the end: stuck before a Corrupted page, it ends there after the repair. Assumes nothing.
use mathlib.Core.Path.{◌≡◌, refl, sym, ap, ◌∙◌, subst}
use mathlib.Core.Bool.{Bool, true}
use mathlib.Core.List.{List, [], ◌++◌, append-nil}
use mathlib.Core.Logic.{◌⊎◌, inl, inr}
use Prim.Native.Nat.{ℕ, suc, ◌-◌, ◌*◌, ◌<◌}
use native.Mathlib.Omega.{arith}
use lib.ListN.{length}
use Rattle.paper.specs.declared.Geometry.{Geometry}
use Rattle.paper.specs.declared.PageState.{PageState}
use Rattle.paper.specs.declared.PageState.TheVariants.{Open, Corrupted}
use Rattle.paper.specs.Chip.{data_start, page_bytes, Event, image_after, Plan, plan, bind, Try, gives}
use Rattle.paper.specs.Pages.{state, same, next, around, from, oldest, repair}
use Rattle.paper.specs.Steps.{with_repair}
use Rattle.paper.specs.Search.{Stand, from_address, after_page, Outcome, nothing, Ended, ends_at, leave_page, next_item, next_step, outcome_of, search_on}
use Rattle.laws.proofs.Accepted.{Laid}
use Rattle.laws.proofs.Marks.{same_is}
use Rattle.laws.proofs.Ring.{next_in, turn_zero}
use Rattle.demand1.specs.Range.{Each}
use Rattle.demand1.specs.Buffers.{copies_in}
use Rattle.demand1.specs.Rows.{repaired, on_the_way}
use Rattle.demand1.proofs.Lists.{each_append, never}
use Rattle.demand1.proofs.Pages.{state_same}
use Rattle.demand1.proofs.EachEvent.{repair_does}
use Rattle.demand1.proofs.ReadingHeads.{meet}
use Rattle.demand1.proofs.HeadCopies.{copies_join, Kept, copies_none, read_of}
use Rattle.demand1.proofs.Repairs.{Mended, opened, kept, mended}
use Rattle.demand1.proofs.PageStates.{old_sound}
use Rattle.demand1.proofs.Steps.{steps_gives, steps_fails}
use Rattle.demand1.proofs.Ways.{Clears, Known, Ahead, Came, ends, stuck, Comes, ways}

-- im is the image that the search began with, b the buffer's size, old the oldest page
module _ {g : Geometry} {n : ℕ} (S : Laid g n) (im : List ℕ) (b old : ℕ) (ho : old < g.pages) where
  begins : length im ≡ n → oldest g im ≡ gives old → Ahead S im b old ho 0 im
  begins size e = record {
    known = record { long = size; pages = λ q h. inr refl };
    fresh = λ j l h. refl;
    safe = old_sound g im S.sized.some old e;
  }

  step_comes : (clears : Bool) → length im ≡ n → oldest g im ≡ gives old
      → Comes S im b old ho (on_the_way g im old (from g old)) im (next_step g b old clears (from_address (data_start g old)) im)
  unfolding next_step from
  step_comes clears size e =
      subst (λ (p : ℕ). Comes S im b old ho (on_the_way g im old (around g g.pages p)) im
      (next_item g b old clears (2 * g.pages) (from_address (data_start g p)) im))
      (turn_zero g old ho) (ways S im b old ho clears g.pages 0 (omega arith) im (begins size e))

  -- what is Corrupted later was so from the start
  repair_clears : (cur : List ℕ) → Known S im b old ho cur → Each (Clears g im) (repair g cur)
  repair_clears cur K = repair_does g cur (Clears g im) S.sized.some (λ p h c. (h, inl (by p c (K.pages p h))))
    where
      by : (p : ℕ) → same (state g cur p) Corrupted ≡ true → (state g cur p ≡ Open) ⊎ (page_bytes g cur p ≡ page_bytes g im p) → state g im p ≡ Corrupted
      by p c (inl o) = let s = same_is (state g cur p) Corrupted c in cc
      by p c (inr e) = sym (state_same S cur im p e) ∙ same_is (state g cur p) Corrupted c

  -- after the repair the page before which the search was stuck is Open, and it ends there
  repaired_open : (cur : List ℕ) → length cur ≡ n → (p : ℕ) → p < g.pages → state g cur p ≡ Corrupted → state g (repaired g cur) p ≡ Open
  repaired_open cur size p h c = by (mended S cur size p h)
    where
      by : Mended g cur (repaired g cur) p → state g (repaired g cur) p ≡ Open
      by (opened a o) = o
      by (kept a e) = let s = ap (λ (x : PageState). same x Corrupted) c in never (cc)

  stops_open : (clears : Bool) (jm : List ℕ) (q : ℕ) → state g jm (next g q) ≡ Open
      → next_step g b old clears (after_page q) jm ≡ ends_at (after_page q) nothing
  unfolding next_step next_item leave_page
  stops_open clears jm q o =
      let z : 2 * g.pages ≡ suc (2 * g.pages - 1) = omega (arith, S.sized.some) in
      rw (z, o)

  -- a search from the oldest page, with its repair
  pub record Went (p : Plan Outcome) : Type 0 where
    pub clears : Each (Clears g im) p.events
    pub copies : copies_in p.events ≡ read_of g b (on_the_way g im old (from g old))
    pub answered : p.answer ≡ meet g b (on_the_way g im old (from g old))

  pub search_went : length im ≡ n → oldest g im ≡ gives old → Went (search_on g b (gives old) im)
  unfolding search_on bind
  search_went size e = by C.came
    where
      step : Stand → List ℕ → Plan (Try Stand Ended)
      step = next_step g b old true

      at : Stand
      at = from_address (data_start g old)

      C : Comes S im b old ho (on_the_way g im old (from g old)) im (next_step g b old true (from_address (data_start g old)) im)
      C = step_comes true size e

      settle : {es : List Event} {t : Try Stand Ended} → with_repair g step at im ≡ plan es t → Each (Clears g im) es
          → copies_in es ≡ read_of g b (on_the_way g im old (from g old))
          → outcome_of t ≡ meet g b (on_the_way g im old (from g old)) → Went (search_on g b (gives old) im)
      settle {es} {t} q f r a = rw q (record { clears = each_append (Clears g im) es [] f tt; copies = ap copies_in (append-nil es) ∙ r; answered = a })

      none : (j : List ℕ) → copies_in (repair g j) ≡ []
      none j = copies_none (repair g j) (repair_does g j Kept S.sized.some (λ p h c. tt))

      by : Came S im b old ho (on_the_way g im old (from g old)) im (step at im) → Went (search_on g b (gives old) im)
      by (ends s a) = settle (steps_gives g step at im a) C.clears C.copies refl
      by (stuck q h a m s K) =
          let es : List Event = (step at im).events in
          let j : List ℕ = image_after g es im in
          let l = stops_open true (repaired g j) q (repaired_open j K.long (next g q) (next_in g q h) s) in
          settle (steps_fails g step at im a ∙ ap (λ (p : Plan (Try Stand Ended)). plan (es ++ (repair g j ++ p.events)) p.answer) l)
          (each_append (Clears g im) es (repair g j ++ []) C.clears (each_append (Clears g im) (repair g j) [] (repair_clears j K) tt))
          (copies_join es (repair g j ++ []) ∙ ap (λ (x : List Event). copies_in es ++ x) (ap copies_in (append-nil (repair g j)) ∙ none j)
          ∙ append-nil (copies_in es) ∙ C.copies)
          (sym m)
