-- `search::search` meets its contract: the second step begins where the first one ended. Assumes nothing.
use Rattle.std.proofs.Common.{◌≡◌, List, ℕ, Result, Ok, Err, Option, refl, length}
use Rattle.paper.specs.declared.Geometry.{Geometry}
use Rattle.paper.specs.Chip.{Plan, Try, bind, fails}
use Rattle.paper.specs.Search.{search_on, spoilt, outcome_of}
use Rattle.paper.specs.Search as plans
use Rattle.chip.specs.declared.Budget.{Budget}
use Rattle.chip.specs.declared.Failure.{Failure}
use Rattle.chip.specs.declared.Failure.TheVariants as failure
use Rattle.chip.specs.declared.Page.{Page}
use Rattle.chip.specs.Run.{Showed, spent}
use Rattle.chip.proofs.Binding.{showed_bind_cut, showed_bind_then, showed_turned, showed_none}
use Rattle.chip.proofs.Early.{handed}
use Rattle.item.specs.declared.Item.{Item}
use Rattle.search.specs.declared.NextAddress.{NextAddress}
use Rattle.search.specs.declared.Ended.{Ended}
use Rattle.search.specs.declared.Ended.TheVariants as ended
use Rattle.search.specs.Meanings.{ended_of, ended_as, found_as}
use Rattle.search.specs.Searching.{stopped}
use Rattle.search.proofs.Standing.{start_readable}
use Rattle.search.proofs.search.Goals as goal

-- no start was found
no_start : (f : Failure) (c : Budget) {g : Geometry} {b : Budget} {p : Plan (Try Unit ℕ)} {i o : List ℕ} {d : List ℕ} (n : ℕ)
    → Showed g b p i o d d (spent {X = Page} (Err f) c) (fails tt)
    → Showed g b (bind g i p (search_on g n)) i o d d (stopped (ended_of f) c) (found_as g o (Err (ended_of f)))
unfolding search_on
no_start failure.Corrupted c {g} {o = o} {d = d} n h = showed_bind_then (search_on g n) h refl (showed_none g c o spoilt d)
no_start failure.Cut c {g} n h = showed_bind_cut (search_on g n) h spoilt refl

-- what the second step comes to, as what the search does
found_lem : (g : Geometry) (s : NextAddress) (im : List ℕ) (r : Result (Option Item) Ended) → outcome_of (ended_as g s im r) ≡ found_as g im r
found_lem g s im (Ok x) = refl
found_lem g s im (Err (ended.TooSmall n)) = refl
found_lem g s im (Err ended.Corrupted) = refl
found_lem g s im (Err ended.Cut) = refl

pub returns-in_err-oldest : goal.returns-in_err-oldest
unfolding plans.search
returns-in_err-oldest c =
    let f = c.in_err-oldest.field-0.0 in
    rw (handed _ (ended_of f) c.from_residual.ensures.1)
    (record { shows = no_start f _ (length c.args.buffer.now) (c.in_err-oldest.ensures.shows _); within = tt })

pub next-requires : goal.next-requires
next-requires c =
    (rw (← c.find_start.auto.image) at c.requires, start_readable c.requires c.in_ok-oldest.ensures.within c.page_data_start_address-address.ensures)

pub returns : goal.returns
unfolding plans.search search_on
returns c =
    let n = c.next.ensures in
    let start = rw c.page_data_start_address-address.ensures at n.shows in
    let found = rw (found_lem c.args.g c.next.new.stand c.next.new.image c.next.result) at (showed_turned outcome_of start) in
    record { shows = showed_bind_then (search_on c.args.g _) (c.in_ok-oldest.ensures.shows _) refl found; within = n.within.1 }
