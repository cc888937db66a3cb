-- `push::push_inner` meets its contract. The run of the search, and then by its answer a refusal or the run of the item's stores. Assumes nothing.
use Rattle.std.proofs.Common.{List, ℕ, Option, Err, refl}
use Rattle.paper.specs.declared.Geometry.{Geometry}
use Rattle.paper.specs.declared.Refusal.TheVariants as refusal
use Rattle.paper.specs.Chip.{Plan, Try, fails, bind}
use Rattle.paper.specs.Refusals.{done, refused}
use Rattle.paper.specs.Push.{Spot, push_at}
use Rattle.chip.specs.declared.Address.{Address}
use Rattle.chip.specs.declared.Budget.{Budget}
use Rattle.chip.specs.declared.Failure.{Failure}
use Rattle.chip.specs.declared.Failure.TheVariants as failure
use Rattle.chip.specs.Run.{spent, Ran}
use Rattle.chip.proofs.Binding.{ran_plan, bind_cut, bind_then, bind_ends}
use Rattle.chip.proofs.Limiting.{under_cut, under_done}
use Rattle.chip.proofs.Early.{handed, refused_by}
use Rattle.push.proofs.Sizes.{small_length}
use Rattle.push.proofs.Spots.{holds_room}
use Rattle.push.proofs.push_inner.Goals as goal

-- a search that ended early ends the push
ends : {g : Geometry} {b : Budget} (c : Budget) {p : Plan (Try Unit Spot)} {i o : List ℕ} (slip : List ℕ) (f : Failure)
    → Ran g b p i o (spent {X = Option Address} (Err f) c) (fails tt)
    → Ran g b (bind g i p (push_at g slip)) i o (spent {X = Option Address} (Err f) c) (refused refusal.Corrupted)
unfolding push_at
ends {g} c slip failure.Corrupted r = bind_ends (push_at g slip) r refl _ refl
ends {g} c slip failure.Cut r = bind_cut (push_at g slip) r _ refl

pub returns-in_err-spot : goal.returns-in_err-spot
returns-in_err-spot c =
    let e = c.in_err-spot in
    rw (handed _ _ c.from_residual.ensures.1) (refused_by (Option Address) _ e.field-0.0 (ends _ c.args.slip.now e.field-0.0 e.ensures.ran))

pub write_new-requires : goal.write_new-requires
write_new-requires c =
    let w = rw (← c.spot_for.auto.image) at c.requires.0 in
    let s = rw c.in-Some.is at c.in_ok-spot.ensures in
    (holds_room w s.holds, small_length _ _ c.requires.1)

pub returns-in_default : goal.returns-in_default
unfolding push_at
returns-in_default c =
    let a = c.args in
    let s = rw c.in_default.is at c.in_ok-spot.ensures in
    under_done a.budget _ (bind_ends (push_at a.g a.slip.now) s.ran refl _ refl) refl

pub returns-in_err-write_new : goal.returns-in_err-write_new
unfolding push_at
returns-in_err-write_new c =
    let a = c.args in
    let s = rw c.in-Some.is at c.in_ok-spot.ensures in
    rw (handed _ refusal.Cut c.from_residual-in_err-write_new.ensures.1)
    (under_cut a.budget _ (bind_then (push_at a.g a.slip.now) s.ran refl (ran_plan done c.in_err-write_new.ensures)) refl)

pub returns : goal.returns
unfolding push_at
returns c =
    let a = c.args in
    let s = rw c.in-Some.is at c.in_ok-spot.ensures in
    under_done a.budget _ (bind_then (push_at a.g a.slip.now) s.ran refl (ran_plan done c.in_ok-write_new.ensures)) refl
