-- What holds of every image of a history, beside demand 3. Assumes nothing.
use Rattle.std.specs.Prelude.{◌≡◌, false, List, [], ℕ, ◌≤◌, ◌<◌, length}
use Rattle.paper.specs.declared.Geometry.{Geometry}
use Rattle.paper.specs.declared.Refusal.{Refusal}
use Rattle.paper.specs.declared.Refusal.TheVariants as refusal
use Rattle.paper.specs.declared.PageState.TheVariants.{Corrupted}
use Rattle.paper.specs.Chip.{data_size, gives}
use Rattle.paper.specs.Scan.{page_walk, any_live}
use Rattle.paper.specs.Pages.{state, next, youngest, repair}
use Rattle.paper.specs.Refusals.{done, empty, refused}
use Rattle.paper.specs.Push.{too_big}
use Rattle.paper.specs.Calls.{Call, pushes, peeks, pops, fits, spaces, plan_of}
use Rattle.paper.specs.Waiting.{waiting}
use Rattle.paper.specs.Fifo.{whole, cut_after, Counted, image_next, list_after, Ghost, NoneAgain, NoFalse, Fair, Reached}

pub record Sound (g : Geometry) (im : List ℕ) : Type 0 where
  -- no page is Corrupted
  pub pages : (p : ℕ) → p < g.pages → state g im p ≡ Corrupted → ⊥
  -- so there is nothing to repair
  pub repaired : repair g im ≡ []
  -- of the calls that a history counts only find_max_fit answers Corrupted, on a single page that is in use
  pub answers : (c : Call) → Counted c whole → (c ≡ fits → ⊥) → (plan_of g im c).answer ≡ refused refusal.Corrupted → ⊥
  -- a push that is refused makes no store: of row 3, "repairs and the current page's start mark may be new", nothing is new
  pub refused_push : (slip : List ℕ) (r : Refusal) → (plan_of g im (pushes slip false)).answer ≡ refused r → (plan_of g im (pushes slip false)).events ≡ []
  -- find_max_fit and space_left make no store
  pub counts : ((plan_of g im fits).events ≡ []) × ((plan_of g im spaces).events ≡ [])

abbrev pub AlwaysSound : Type 0
AlwaysSound = (g : Geometry) (im : List ℕ) (gh : Ghost) → Reached g im gh → Sound g im

-- the list changes at most once along a call's stores: it is the one before the call up to some store, and the one after it from there on
pub record ChangesOnce (g : Geometry) (im : List ℕ) (c : Call) : Type 0 where
  pub at : ℕ
  pub before : (k : ℕ) → k < at → waiting g (image_next g im c (cut_after k)) ≡ waiting g im
  pub after : (k : ℕ) → at ≤ k → waiting g (image_next g im c (cut_after k)) ≡ list_after c (plan_of g im c).answer (waiting g im)

abbrev pub AlwaysOnce : Type 0
AlwaysOnce = (g : Geometry) (im : List ℕ) (gh : Ghost) → Reached g im gh → (c : Call) → ((k : ℕ) → Fair g im gh c (cut_after k)) → ChangesOnce g im c

-- document 01's own premise, that no false header is accepted, gives the one that a history assumes
abbrev pub LiteralEnough : Type 0
LiteralEnough = (g : Geometry) (im : List ℕ) (gh : Ghost) → NoFalse g im gh → NoneAgain g im gh

-- ---- room

-- a push of any slip that is not too big is done
abbrev pub TakesAny : Geometry → List ℕ → Type 0
TakesAny g im = (slip : List ℕ) → too_big g (length slip) ≡ false → (plan_of g im (pushes slip false)).answer ≡ done

pub record RoomOfPlans (g : Geometry) (im : List ℕ) : Type 0 where
  -- the room of popped pages is used again: where no header is live on the page after the current one, no push is refused for want of room
  pub again : (y : ℕ) → youngest g im ≡ gives y → any_live (page_walk g im (next g y)).heads ≡ false → TakesAny g im
  -- FullStorage with an empty list ends at the next peek or pop with a buffer of a page's data: it answers empty,
  pub peek_says_so : waiting g im ≡ [] → (b : List ℕ) → data_size g ≤ length b → (plan_of g im (peeks b)).answer ≡ empty
  pub pop_says_so : waiting g im ≡ [] → (b : List ℕ) → data_size g ≤ length b → (plan_of g im (pops b)).answer ≡ empty
  -- and on two pages or more whatever peek or pop answers empty leaves room for any slip
  pub peek_frees : 2 ≤ g.pages → (b : List ℕ) → (plan_of g im (peeks b)).answer ≡ empty → TakesAny g (image_next g im (peeks b) whole)
  pub pop_frees : 2 ≤ g.pages → (b : List ℕ) → (plan_of g im (pops b)).answer ≡ empty → TakesAny g (image_next g im (pops b) whole)
  -- while on one page it leaves the image as it is: a torn slip that fills the page stays, and FullStorage with it
  pub peek_keeps : g.pages ≡ 1 → (b : List ℕ) → (plan_of g im (peeks b)).answer ≡ empty → image_next g im (peeks b) whole ≡ im
  pub pop_keeps : g.pages ≡ 1 → (b : List ℕ) → (plan_of g im (pops b)).answer ≡ empty → image_next g im (pops b) whole ≡ im

abbrev pub RoomAgain : Type 0
RoomAgain = (g : Geometry) (im : List ℕ) (gh : Ghost) → Reached g im gh → RoomOfPlans g im
