-- Leaving a page, by the tests that the code makes. Assumes nothing.
use mathlib.Core.Path.{◌≡◌, ap, ◌∙◌}
use mathlib.Core.Bool.{Bool, true, false, cond, true≢false}
use mathlib.Core.List.{List, []}
use Prim.Native.Nat.{ℕ}
use lib.Dec.{eqb}
use Rattle.paper.specs.declared.Geometry.{Geometry}
use Rattle.paper.specs.declared.PageState.{PageState}
use Rattle.paper.specs.declared.PageState.TheVariants.{Open, Corrupted}
use Rattle.paper.specs.Chip.{data_start, erase_page, plan, fails, gives}
use Rattle.paper.specs.Pages.{state, same, next}
use Rattle.paper.specs.Search.{from_address, after_page, nothing}
use Rattle.chip.specs.declared.Budget.{Budget}
use Rattle.chip.specs.Run.{Did}
use Rattle.chip.proofs.Quiet.{acted_quiet, erase_quiet}
use Rattle.chip.proofs.Binding.{showed_none, showed_plan}
use Rattle.search.specs.Turns.{Going, goes, ends, leave_turn}
use Rattle.search.specs.Searching.{Stored}

-- page p is left; x is the page that follows, and s its state
module _ (g : Geometry) (b : Budget) (im : List ℕ) (old : ℕ) (clears : Bool) (p : ℕ) {x : ℕ} (follows : x ≡ next g p) {s : PageState}
    (is : s ≡ state g im x) where
  there : s ≡ state g im (next g p)
  there = is ∙ ap (state g im) follows

  -- the turn comes to that, and nothing is stored
  abbrev Keeps : Going → Type 0
  Keeps a = Stored g b (leave_turn g old clears p im) im im (record { cut = false; budget = b }) a

  pub leave_fails : same s Corrupted ≡ true → Keeps (ends (fails (after_page p)))
  unfolding leave_turn
  leave_fails e d = rw (← there, e) (showed_none g b im _ d)

  module _ (sound : same s Corrupted ≡ false) where
    pub leave_open : same s Open ≡ true → Keeps (ends (gives (record { stand = after_page p; outcome = nothing })))
    unfolding leave_turn
    leave_open e d = rw (← there, sound, e) (showed_none g b im _ d)

    module _ (used : same s Open ≡ false) where
      pub leave_round : eqb x old ≡ true → Keeps (ends (gives (record { stand = after_page p; outcome = nothing })))
      unfolding leave_turn
      leave_round e d = rw (← there, sound, used, ← follows, e) (showed_none g b im _ d)

      -- the search goes on with the page that follows
      module _ (apart : eqb x old ≡ false) where
        goes_on_lem : leave_turn g old clears p im ≡ plan (cond clears (erase_page g p) []) (goes (from_address (data_start g x)))
        unfolding leave_turn
        goes_on_lem = rw (← there, sound, used, ← follows, apart)

        pub leave_kept : clears ≡ false → Keeps (goes (from_address (data_start g x)))
        leave_kept e d = rw (goes_on_lem, e) (showed_none g b im _ d)

        module _ (e : clears ≡ true) {o : List ℕ} {c : Budget} where
          pub leave_erased : Did g b (erase_page g p) im o (record { cut = false; budget = c })
              → Stored g b (leave_turn g old clears p im) im o (record { cut = false; budget = c }) (goes (from_address (data_start g x)))
          leave_erased k d = rw (goes_on_lem, e) (showed_plan (goes (from_address (data_start g x))) (acted_quiet d (erase_quiet g p) k))

          pub leave_cut : Did g b (erase_page g p) im o (record { cut = true; budget = c }) → (y : Going)
              → Stored g b (leave_turn g old clears p im) im o (record { cut = true; budget = c }) y
          leave_cut k y d = rw (goes_on_lem, e) (record { acted = acted_quiet d (erase_quiet g p) k; says = λ f. absurd (true≢false f) })
