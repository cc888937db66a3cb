-- What the cases of the code's answers stand for in the paper, and that what they name lies in the range. Assumes nothing.
use Rattle.std.specs.Prelude.{List, Option, Some, None, Result, Ok, Err, ℕ, ◌≤◌, ◌<◌}
use Rattle.std.specs.declared.ops.ControlFlow.{ControlFlow}
use Rattle.std.specs.declared.ops.ControlFlow.TheVariants.{Continue, Break}
use Rattle.paper.specs.declared.Geometry.{Geometry}
use Rattle.paper.specs.declared.Refusal.{Refusal}
use Rattle.paper.specs.declared.Refusal.TheVariants as refusal
use Rattle.paper.specs.Chip.{Try, fails, gives}
use Rattle.paper.specs.Scan.{Head}
use Rattle.paper.specs.Search.{passed, long, from_address, after_page, Outcome, nothing, short, this, spoilt, ended_at}
use Rattle.paper.specs.Search as plans
use Rattle.laws.specs.Readable.{ReadableFrom}
use Rattle.chip.specs.declared.Failure.{Failure}
use Rattle.chip.specs.declared.Failure.TheVariants as failure
use Rattle.chip.specs.declared.Page.{Page}
use Rattle.item.specs.declared.Item.{Item}
use Rattle.item.specs.Places.{Room}
use Rattle.item.specs.Reading.{head_at}
use Rattle.search.specs.declared.NextAddress.{NextAddress}
use Rattle.search.specs.declared.NextAddress.TheVariants as stand
use Rattle.search.specs.declared.Long.{Long}
use Rattle.search.specs.declared.Ended.{Ended}
use Rattle.search.specs.declared.Ended.TheVariants as ended
use Rattle.search.specs.Turns.{Going, goes, ends}

-- ---- an item

-- the header of item x, as the image im has it
abbrev pub head_of : Geometry → List ℕ → Item → Head
head_of g im x = head_at g im x.address.0 x.header

-- item x lies in an image of n bytes
abbrev pub ItemIn : Geometry → ℕ → Item → Type 0
ItemIn g n x = Room g n x.address.0 x.header.length

-- ---- why a search ends early

-- where a step of it did
abbrev pub ended_of : Failure → Ended
ended_of failure.Corrupted = ended.Corrupted
ended_of failure.Cut = ended.Cut

-- what a call is then refused with
abbrev pub refusal_by : Ended → Refusal
refusal_by (ended.TooSmall n) = refusal.BufferTooSmall n
refusal_by ended.Corrupted = refusal.Corrupted
refusal_by ended.Cut = refusal.Cut

-- ---- what answers stand for

abbrev pub stand_as : NextAddress → plans.Stand
stand_as (stand.Address a) = from_address a.0
stand_as (stand.PageAfter p) = after_page p.0

abbrev pub met_as : Geometry → List ℕ → Result (Option Item) Long → plans.Met
met_as g im (Ok None) = passed
met_as g im (Err e) = long e.from.0 e.size
met_as g im (Ok (Some x)) = plans.met (head_of g im x)

-- the page where a search starts
abbrev pub started_as : Result Page Failure → Try Unit ℕ
started_as (Ok p) = gives p.0
started_as (Err e) = fails tt

-- the present item that was found, if any
abbrev pub item_as : Geometry → List ℕ → Option Item → Outcome
item_as g im None = nothing
item_as g im (Some x) = this (head_of g im x)

-- as the answer of a step that leaves the search at s; of one that was cut nothing is said
abbrev pub ended_as : Geometry → NextAddress → List ℕ → Result (Option Item) Ended → Try plans.Stand plans.Ended
ended_as g s im (Ok x) = ended_at (stand_as s) (item_as g im x)
ended_as g s im (Err (ended.TooSmall n)) = ended_at (stand_as s) (short n)
ended_as g s im (Err ended.Corrupted) = fails (stand_as s)
ended_as g s im (Err ended.Cut) = fails (stand_as s)

-- as that of the search
abbrev pub found_as : Geometry → List ℕ → Result (Option Item) Ended → Outcome
found_as g im (Ok x) = item_as g im x
found_as g im (Err (ended.TooSmall n)) = short n
found_as g im (Err ended.Corrupted) = spoilt
found_as g im (Err ended.Cut) = spoilt

abbrev pub turn_as : Geometry → NextAddress → List ℕ → Result (ControlFlow (Option Item) (Unit {0})) Ended → Going
turn_as g s im (Ok (Continue u)) = goes (stand_as s)
turn_as g s im (Ok (Break x)) = ends (ended_as g s im (Ok x))
turn_as g s im (Err e) = ends (ended_as g s im (Err e))

-- ---- that what they name lies in the range, and in an image of n bytes

abbrev pub StandIn : Geometry → NextAddress → Type 0
StandIn g (stand.Address a) = ReadableFrom g a.0
StandIn g (stand.PageAfter p) = p.0 < g.pages

abbrev pub ChosenIn : Geometry → Result Page Failure → Type 0
ChosenIn g (Ok p) = p.0 < g.pages
ChosenIn g (Err e) = Unit {0}

-- what was looked for between the addresses start and end
abbrev pub MetIn : Geometry → ℕ → ℕ → ℕ → Result (Option Item) Long → Type 0
MetIn g start end n (Ok None) = Unit {0}
MetIn g start end n (Err e) = (start ≤ e.from.0) × (e.from.0 ≤ end)
MetIn g start end n (Ok (Some x)) = ItemIn g n x × (start ≤ x.address.0)

abbrev pub FoundIn : Geometry → ℕ → Result (Option Item) Ended → Type 0
FoundIn g n (Ok None) = Unit {0}
FoundIn g n (Ok (Some x)) = ItemIn g n x
FoundIn g n (Err e) = Unit {0}

-- with where the search then stands
abbrev pub EndedIn : Geometry → NextAddress → ℕ → Result (Option Item) Ended → Type 0
EndedIn g s n r = StandIn g s × FoundIn g n r

abbrev pub TurnIn : Geometry → NextAddress → ℕ → Result (ControlFlow (Option Item) (Unit {0})) Ended → Type 0
TurnIn g s n (Ok (Continue u)) = StandIn g s
TurnIn g s n (Ok (Break x)) = EndedIn g s n (Ok x)
TurnIn g s n (Err e) = StandIn g s
