-- A search that ended early refuses the call, and nothing more is stored; an item that was found is popped by stores that copy nothing. Assumes nothing.
use mathlib.Core.Path.{◌≡◌, refl}
use mathlib.Core.List.{List, []}
use Prim.Native.Nat.{ℕ}
use Rattle.std.proofs.Common.{false, Err}
use Rattle.paper.specs.declared.Geometry.{Geometry}
use Rattle.paper.specs.Chip.{Event, Plan, plan, bind}
use Rattle.paper.specs.Scan.{Head}
use Rattle.paper.specs.Slip.{encode}
use Rattle.paper.specs.Refusals.{Answer, shown, refused}
use Rattle.paper.specs.Search.{Outcome, this, spoilt, shown_by, popped}
use Rattle.chip.specs.declared.Budget.{Budget}
use Rattle.chip.specs.Run.{Spent, Did, Showed, WholeShown, under}
use Rattle.chip.proofs.Quiet.{acted_quiet, writes_quiet}
use Rattle.chip.proofs.Binding.{showed_none, showed_plan, showed_bind_cut, showed_bind_then}
use Rattle.chip.proofs.Limiting.{showed_under_cut, showed_under_done}
use Rattle.search.specs.declared.Ended.{Ended}
use Rattle.search.specs.declared.Ended.TheVariants as ended
use Rattle.search.specs.Meanings.{found_as, refusal_by}
use Rattle.search.specs.Searching.{stopped}

-- where no item was found, none is popped
pub pops_nothing : (g : Geometry) (im : List ℕ) (f : Ended) → popped g (found_as g im (Err f)) ≡ []
pops_nothing g im (ended.TooSmall n) = refl
pops_nothing g im ended.Corrupted = refl
pops_nothing g im ended.Cut = refl

-- what a call does that makes these stores for what its search came to
abbrev pub storing : (Outcome → List Event) → Outcome → List ℕ → Plan Answer
storing stores x im = plan (stores x) (shown_by x)

module _ {g : Geometry} {b : Budget} {p : Plan Outcome} {i o d e : List ℕ} (stores : Outcome → List Event) (c : Budget) where
  -- nothing is stored after the search
  pub stores_nothing : {x : Outcome} → stores x ≡ [] → Showed g b p i o d e (record { cut = false; budget = c }) x
      → WholeShown g (under b (bind g i p (storing stores))) i o d e (shown_by x)
  stores_nothing {x} q h =
      let k : Showed g c (storing stores x o) o o e e (record { cut = false; budget = c }) (shown_by x) = rw q (showed_none g c o (shown_by x) e) in
      showed_under_done b _ (showed_bind_then (storing stores) h refl k) refl

  pub refused_by : (f : Ended) → stores (found_as g o (Err f)) ≡ [] → Showed g b p i o d e (stopped f c) (found_as g o (Err f))
      → WholeShown g (under b (bind g i p (storing stores))) i o d e (refused (refusal_by f))
  refused_by (ended.TooSmall n) q h = stores_nothing q h
  refused_by ended.Corrupted q h = stores_nothing q h
  refused_by ended.Cut q h = showed_under_cut b _ (showed_bind_cut (storing stores) h (shown_by spoilt) refl) refl

-- ---- an item was found

pub pops : {g : Geometry} {b c : Budget} {p : Plan Outcome} {i m o d e : List ℕ} {h : Head} {r : Spent}
    → Showed g b p i m d e (record { cut = false; budget = c }) (this h) → Did g c (popped g (this h)) m o r
    → Showed g b (bind g i p (storing (popped g))) i o d e r (shown h.len)
pops {g} {e = e} {h} f k =
    showed_bind_then (storing (popped g)) f refl (showed_plan (shown h.len) (acted_quiet e (writes_quiet g h.place (encode g 0 h.len)) k))
