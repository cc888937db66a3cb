-- The search goes by turns: what a turn did, and what the search does from there on, is what the search does. Assumes nothing.
use mathlib.Core.Path.{◌≡◌, refl, sym, ap, ◌∙◌}
use mathlib.Core.Bool.{Bool, true, false, cond, ◌||◌}
use mathlib.Core.List.{List, []}
use Prim.Native.Nat.{ℕ, suc}
use lib.Dec.{eqb}
use lib.ListN.{length}
use Rattle.paper.specs.declared.Geometry.{Geometry}
use Rattle.paper.specs.declared.PageState.TheVariants.{Open, Corrupted}
use Rattle.paper.specs.Chip.{data_start, page_of, Event, erase_page, Plan, plan, bind, and_then, Try, fails, gives}
use Rattle.paper.specs.Scan.{walk_on}
use Rattle.paper.specs.Pages.{state, same, next}
use Rattle.paper.specs.Search.{Met, passed, long, met, read_heads, Stand, from_address, after_page, nothing, Ended, ends_at, on_met, read_page, leave_page, next_item}
use Rattle.chip.specs.declared.Budget.{Budget}
use Rattle.chip.specs.Run.{Spent, Showed}
use Rattle.chip.proofs.Binding.{showed_none, showed_bind_cut, showed_bind_then, bind_turned, showed_kept}
use Rattle.search.specs.Turns.{Going, goes, ends, after_items, read_turn, leave_turn, turn_from, on_going}

-- ---- the paper's search, by turns

module _ (g : Geometry) (further : Stand → List ℕ → Plan (Try Stand Ended)) (im : List ℕ) where
  read_on_lem : (n a : ℕ) → read_page g n a (further (after_page (page_of g a))) im ≡ bind g im (read_turn g n a im) (on_going further)
  unfolding read_page read_turn on_met
  read_on_lem n a =
      let hs : Plan Met = read_heads g n a (walk_on g im a).heads im in
      ap (bind g im hs) (λ i m im₁. by m im₁ i) ∙ sym (bind_turned g im hs (after_items g (page_of g a)) (on_going further))
    where
      by : (m : Met) (im₁ : List ℕ) → on_met g (page_of g a) (further (after_page (page_of g a))) m im₁ ≡ on_going further (after_items g (page_of g a) m) im₁
      by passed im₁ = refl
      by (long b k) im₁ = refl
      by (met h) im₁ = refl

  leave_on : (old : ℕ) (clears : Bool) (p : ℕ)
      → leave_page g old clears p (further (from_address (data_start g (next g p)))) im
      ≡ bind g im (leave_turn g old clears p im) (on_going further)
  unfolding leave_page leave_turn bind
  leave_on old clears p = by (same (state g im (next g p)) Corrupted) (same (state g im (next g p)) Open || eqb (next g p) old)
      (cond clears (erase_page g p) []) (from_address (data_start g (next g p)))
    where
      by : (s t : Bool) (es : List Event) (on : Stand)
          → cond s (plan [] (fails (after_page p))) (cond t (ends_at (after_page p) nothing) (and_then g im es (further on)))
          ≡ bind g im (cond s (plan [] (ends (fails (after_page p))))
          (cond t (plan [] (ends (gives (record { stand = after_page p; outcome = nothing })))) (plan es (goes on)))) (on_going further)
      by true t es on = refl
      by false true es on = refl
      by false false es on = refl

next_turn : (g : Geometry) (n old : ℕ) (clears : Bool) (k : ℕ) (s : Stand) (im : List ℕ)
    → next_item g n old clears (suc k) s im ≡ bind g im (turn_from g n old clears s im) (on_going (next_item g n old clears k))
unfolding next_item
next_turn g n old clears k (from_address a) im = read_on_lem g (next_item g n old clears k) im n a
next_turn g n old clears k (after_page p) im = leave_on g (next_item g n old clears k) im old clears p

-- ---- a turn of the loop

-- no turn is left
pub turns_over : (g : Geometry) (b : Budget) (n old : ℕ) (clears : Bool) (s : Stand) (im d : List ℕ)
    → Showed g b (next_item g n old clears 0 s im) im im d d (record { cut = false; budget = b })
    (gives (record { stand = s; outcome = nothing }))
unfolding next_item
turns_over g b n old clears s im d = showed_none g b im (gives (record { stand = s; outcome = nothing })) d

-- of k turns the first is taken, on a buffer of n bytes, and j are left
module _ {g : Geometry} {b : Budget} (old : ℕ) (clears : Bool) (s : Stand) {i o d e : List ℕ} {r : Spent} {x : Going}
    (h : Showed g b (turn_from g (length d) old clears s i) i o d e r x) (n : ℕ) {k : ℕ} (j : ℕ) (one : k ≡ suc j) (size : length d ≡ n) where
  whole : next_item g n old clears k s i ≡ bind g i (turn_from g (length d) old clears s i) (on_going (next_item g n old clears j))
  whole = rw (one, size) (next_turn g n old clears j s i)

  pub turn_cut : (y : Try Stand Ended) → r.cut ≡ true → Showed g b (next_item g n old clears k s i) i o d e r y
  turn_cut y t = rw whole (showed_bind_cut (on_going (next_item g n old clears j)) h y t)

  pub turn_ends : (y : Try Stand Ended) → x ≡ ends y → Showed g b (next_item g n old clears k s i) i o d e r y
  turn_ends y q = go r.cut refl
    where
      go : (t : Bool) → r.cut ≡ t → Showed g b (next_item g n old clears k s i) i o d e r y
      go true t = turn_cut y t
      go false t = rw whole (showed_bind_then (on_going (next_item g n old clears j)) h t (rw q (showed_kept g r o e y t)))

  pub turn_goes : r.cut ≡ false → (next : Stand) → x ≡ goes next → {m f : List ℕ} {z : Spent} {y : Try Stand Ended}
      → Showed g r.budget (next_item g n old clears j next o) o m e f z y
      → Showed g b (next_item g n old clears k s i) i m d f z y
  turn_goes t next q v = rw whole (showed_bind_then (on_going (next_item g n old clears j)) h t (rw q v))
