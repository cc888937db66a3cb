-- Demand 1: rows 0 to 7 of the table of refusals: given exactly when, and the image afterwards. Assumes nothing.
use Rattle.std.specs.Prelude.{◌≡◌, Bool, false, List, [], ◌∷◌, ◌++◌, ◌⊎◌, ℕ, ◌+◌, ◌*◌, ◌<◌, length, Ok}
use Rattle.paper.specs.declared.Shape.{Shape}
use Rattle.paper.specs.declared.Refusal.TheVariants as refusal
use Rattle.paper.specs.declared.Geometry.{Geometry}
use Rattle.paper.specs.Chip.{header_size, Event, store, erase, copy, image_after, store_count, before, Plan, Try, gives}
use Rattle.paper.specs.Scan.{Head, page_walk, payloads}
use Rattle.paper.specs.declared.PageState.TheVariants.{Corrupted}
use Rattle.paper.specs.Pages.{state, set_start, youngest, oldest, repair}
use Rattle.paper.specs.Refusals.{check, Answer, done, shown, number, none, empty, refused}
use Rattle.paper.specs.Push.{spot_step, push, Full}
use Rattle.paper.specs.Search.{peek, pop}
use Rattle.paper.specs.Counts.{fit, find_max_fit, space, space_left}
use Rattle.paper.specs.Calls.{erase_all, Call, requested, limited}
pub use Rattle.paper.specs.Ways.{Each, repaired, Fails, failed, Passed, Stops, TooLong, Seen, Way, direct, mended}
unfoldable pub use Rattle.paper.specs.Ways.{on_the_way}
use Rattle.demand1.specs.Shapes.{Iff}

-- ---- the limit: row 7

-- "first k stores", and "exactly when k is less than the list's length"
pub record OfCut : Type 0 where
  pub stores : (k : ℕ) (p : Plan Answer) → k < store_count p.events → (limited k p).events ≡ before k p.events
  pub count : (k : ℕ) (p : Plan Answer) → k < store_count p.events → store_count (limited k p).events ≡ k
  pub whole : (k : ℕ) (p : Plan Answer) → (k < store_count p.events → ⊥) → limited k p ≡ p
  pub answered : (k : ℕ) (s : Shape) (im : List ℕ) (c : Call)
      → Iff ((limited k (requested s im c)).answer ≡ refused refusal.Cut) (k < store_count (requested s im c).events)

-- ---- push: rows 0, 2, 3 and 5

-- the start mark of the current page
pub record MarkOf (g : Geometry) (im : List ℕ) (mark : List Event) : Type 0 where
  pub page : ℕ
  pub current : youngest g im ≡ gives page
  pub is : mark ≡ set_start g page ∷ []

-- "repairs and the current page's start mark may be new, nothing else"
pub record OnlyMark (g : Geometry) (im : List ℕ) (es : List Event) : Type 0 where
  pub repairs : List Event
  pub mark : List Event
  pub all : es ≡ repairs ++ mark
  pub maybe_repaired : (repairs ≡ []) ⊎ (repairs ≡ repair g im)
  pub maybe_marked : (mark ≡ []) ⊎ MarkOf g (image_after g repairs im) mark

-- the step of a push ran on the image as it was; or it failed there, and ran on the repaired one
abbrev pub OnStep : Geometry → List ℕ → List ℕ → (List ℕ → Type 0) → Type 0
OnStep g im slip P = P im ⊎ (Fails (spot_step g (length slip) false tt im).answer × P (repaired g im))

-- "length over 65,535, or over page - 2 words - header"
abbrev pub TooBig : Geometry → ℕ → Type 0
TooBig g n = (65535 < n) ⊎ (g.page < 2 * g.word + header_size g + n)

-- of a plan that pushes a slip
pub record OfPush (g : Geometry) (im slip : List ℕ) (over : Bool) (p : Plan Answer) : Type 0 where
  -- "unchanged"
  pub big : Iff (p.answer ≡ refused refusal.ItemTooBig) (TooBig g (length slip))
  pub big_image : p.answer ≡ refused refusal.ItemTooBig → p.events ≡ []
  -- "overwriting off, no spot here, next page Closed or the sole page, and it has a live header"
  pub full : Iff (p.answer ≡ refused refusal.FullStorage)
      ((over ≡ false) × (TooBig g (length slip) → ⊥) × OnStep g im slip (λ i. Full g i (length slip)))
  pub full_image : p.answer ≡ refused refusal.FullStorage → OnlyMark g im p.events
  -- "a step fails with Corrupted, and again after one repair"; "repairs and earlier stores stay": there are no earlier stores
  pub corrupted : Iff (p.answer ≡ refused refusal.Corrupted)
      ((TooBig g (length slip) → ⊥) × Fails (spot_step g (length slip) over tt im).answer × Fails (spot_step g (length slip) over tt (repaired g im)).answer)
  pub corrupted_image : p.answer ≡ refused refusal.Corrupted → p.events ≡ repair g im
  -- "a push .. was made" in every other case
  pub otherwise : (p.answer ≡ refused refusal.ItemTooBig → ⊥) → (p.answer ≡ refused refusal.FullStorage → ⊥) → (p.answer ≡ refused refusal.Corrupted → ⊥)
      → p.answer ≡ done

-- ---- peek and pop: rows 0, 1, 4 and 5

-- "repairs, and finished pages erased as ruled": a Corrupted page is erased, or one on which no present item stood; nothing is stored
abbrev pub Finished : Geometry → List ℕ → Event → Type 0
Finished g im (store a word) = ⊥
Finished g im (erase p) = (state g im p ≡ Corrupted) ⊎ (payloads (page_walk g im p).heads ≡ [])
Finished g im (copy a n) = Unit {0}

-- of a plan that peeks or pops with a buffer of n bytes
pub record OfSearch (g : Geometry) (im : List ℕ) (n : ℕ) (p : Plan Answer) : Type 0 where
  -- "peek or pop meets no present item"
  pub none : {hs : List Head} → Way g im hs → Iff (p.answer ≡ empty) (Each (Passed g n) hs)
  -- "the first live header that doesn't fit the buffer is met; n is its rounded length"
  pub short : {hs : List Head} → Way g im hs → (k : ℕ)
      → Iff (p.answer ≡ refused (refusal.BufferTooSmall k)) (TooLong g n hs k)
  -- a present item is shown
  pub seen : {hs : List Head} → Way g im hs → (k : ℕ) → Iff (p.answer ≡ shown k) (Seen g n hs k)
  pub none_image : p.answer ≡ empty → Each (Finished g im) p.events
  pub short_image : (k : ℕ) → p.answer ≡ refused (refusal.BufferTooSmall k) → Each (Finished g im) p.events
  -- "a step fails with Corrupted, and again after one repair": only finding the start can
  pub corrupted : Iff (p.answer ≡ refused refusal.Corrupted) (Fails (oldest g im) × Fails (oldest g (repaired g im)))
  pub corrupted_image : p.answer ≡ refused refusal.Corrupted → p.events ≡ repair g im
  -- a slip is shown in every other case
  pub otherwise : (p.answer ≡ empty → ⊥) → ((k : ℕ) → p.answer ≡ refused (refusal.BufferTooSmall k) → ⊥) → (p.answer ≡ refused refusal.Corrupted → ⊥)
      → (k : ℕ) × (p.answer ≡ shown k)

-- ---- the counts and erase_all: rows 0 and 5

pub record OfCount (g : Geometry) (im : List ℕ) (count : List ℕ → Try Unit Answer) (p : Plan Answer) : Type 0 where
  pub corrupted : Iff (p.answer ≡ refused refusal.Corrupted) (Fails (count im) × Fails (count (repaired g im)))
  pub image : (p.events ≡ []) ⊎ (p.events ≡ repair g im)
  -- a number, or "done, marked as none", in every other case
  pub otherwise : (p.answer ≡ refused refusal.Corrupted → ⊥) → (p.answer ≡ none) ⊎ ((k : ℕ) × (p.answer ≡ number k))

pub record Rows : Type 0 where
  pub of_cut : OfCut
  pub of_push : (g : Geometry) (im : List ℕ) (s : Shape) → check (length im) s ≡ Ok g → (slip : List ℕ) (over : Bool) → OfPush g im slip over (push g im slip over)
  pub of_peek : (g : Geometry) (im : List ℕ) (s : Shape) → check (length im) s ≡ Ok g → (n : ℕ) → OfSearch g im n (peek g im n)
  pub of_pop : (g : Geometry) (im : List ℕ) (s : Shape) → check (length im) s ≡ Ok g → (n : ℕ) → OfSearch g im n (pop g im n)
  pub of_fit : (g : Geometry) (im : List ℕ) (s : Shape) → check (length im) s ≡ Ok g → OfCount g im (fit g) (find_max_fit g im)
  pub of_space : (g : Geometry) (im : List ℕ) (s : Shape) → check (length im) s ≡ Ok g → OfCount g im (space g) (space_left g im)
  pub of_erase : (g : Geometry) → (erase_all g).answer ≡ done
