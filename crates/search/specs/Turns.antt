-- The search by turns: what one turn does, as a plan that goes on from another stand or ends the search. Assumes nothing.
use Rattle.std.specs.Prelude.{Bool, cond, ◌||◌, List, [], ℕ, eqb}
use Rattle.paper.specs.declared.Geometry.{Geometry}
use Rattle.paper.specs.declared.PageState.TheVariants.{Open, Corrupted}
use Rattle.paper.specs.Chip.{data_start, page_of, erase_page, Plan, plan, bind, Try, fails}
use Rattle.paper.specs.Scan.{walk_on}
use Rattle.paper.specs.Pages.{state, same, next}
use Rattle.paper.specs.Search.{Met, passed, long, met, read_heads, Stand, from_address, after_page, stand_at, item_end, nothing, short, this, Ended, ended_at}

-- what a turn comes to
pub data Going : Type 0 where
  goes : Stand → Going
  ends : Try Stand Ended → Going

-- after items of page p were read
abbrev pub after_items : Geometry → ℕ → Met → Going
after_items g p passed = goes (after_page p)
after_items g p (long a n) = ends (ended_at (from_address a) (short n))
after_items g p (met h) = ends (ended_at (stand_at g p (item_end g h)) (this h))

-- a turn that reads on from address a
unfoldable pub read_turn : Geometry → ℕ → ℕ → List ℕ → Plan Going
read_turn g n a im = bind g im (read_heads g n a (walk_on g im a).heads im) (λ m im₁. plan [] (after_items g (page_of g a) m))

-- a turn that leaves page p
unfoldable pub leave_turn : Geometry → ℕ → Bool → ℕ → List ℕ → Plan Going
leave_turn g old clears p im =
    let s = state g im (next g p) in
    cond (same s Corrupted) (plan [] (ends (fails (after_page p))))
    (cond (same s Open || eqb (next g p) old) (plan [] (ends (ended_at (after_page p) nothing)))
    (plan (cond clears (erase_page g p) []) (goes (from_address (data_start g (next g p))))))

abbrev pub turn_from : Geometry → ℕ → ℕ → Bool → Stand → List ℕ → Plan Going
turn_from g n old clears (from_address a) im = read_turn g n a im
turn_from g n old clears (after_page p) im = leave_turn g old clears p im

-- what follows on a turn
abbrev pub on_going : (Stand → List ℕ → Plan (Try Stand Ended)) → Going → List ℕ → Plan (Try Stand Ended)
on_going further (goes s) im = further s im
on_going further (ends x) im = plan [] x
