-- Demand 3: histories of calls, each whole or cut, from an erased range; what is assumed of them, and what is claimed. Assumes nothing.
use Rattle.std.specs.Prelude.{◌≡◌, Bool, true, false, cond, ◌&&◌, ◌⊎◌, ℕ, ◌+◌, ◌≤◌, ◌<◌, leb, ltb, length, take, replicate, Ok}
use mathlib.Core.List.{List, [], ◌∷◌, ◌++◌, tail, Memᴰ}
use Rattle.paper.specs.declared.Shape.{Shape}
use Rattle.paper.specs.declared.Refusal.TheVariants as refusal
use Rattle.paper.specs.Checksum.{data_crc}
use Rattle.paper.specs.Chip.{Geometry, header_size, page_start, page_bytes, part, Event, store, erase, copy, image_after, buffer_after, store_count, before, Plan, plan, Try, fails, gives}
use Rattle.paper.specs.Slip.{encode}
use Rattle.paper.specs.Scan.{Head, page_walk}
use Rattle.paper.specs.Pages.{all_pages}
use Rattle.paper.specs.Refusals.{check, Answer, done, shown, number, none, empty, refused}
use Rattle.paper.specs.Push.{Full, Spot, full, at, too_big, spot_for}
use Rattle.paper.specs.Calls.{Call, pushes, peeks, pops, fits, spaces, erases_all, plan_of}
use Rattle.paper.specs.Waiting.{list_of, waiting}
use Rattle.paper.specs.Ways.{Each, Passed, TooLong, Seen, Way}

-- ---- the calls of a history

-- "each whole or cut after any number of stores"
pub data Power : Type 0 where
  whole : Power
  cut_after : ℕ → Power

abbrev pub performed : Power → List Event → List Event
performed whole es = es
performed (cut_after k) es = before k es

-- the events that a call performs, and the image that it leaves
unfoldable pub events_of : Geometry → List ℕ → Call → Power → List Event
events_of g im c w = performed w (plan_of g im c).events

unfoldable pub image_next : Geometry → List ℕ → Call → Power → List ℕ
image_next g im c w = image_after g (events_of g im c w) im

-- the calls that a history counts: "push without overwriting, peek and pop"; "find_max_fit and space_left may stand in the history"; "A
-- whole erase_all (page order) empties the list; a cut one ends the account."
abbrev pub Counted : Call → Power → Type 0
Counted (pushes slip false) w = Unit {0}
Counted (pushes slip true) w = ⊥
Counted (peeks buf) w = Unit {0}
Counted (pops buf) w = Unit {0}
Counted fits w = Unit {0}
Counted spaces w = Unit {0}
Counted erases_all whole = Unit {0}
Counted erases_all (cut_after k) = ⊥

-- the slip that a call brings, and the buffer that it is lent; none: the empty list
abbrev pub slip_of : Call → List ℕ
slip_of (pushes slip over) = slip
slip_of (peeks buf) = []
slip_of (pops buf) = []
slip_of fits = []
slip_of spaces = []
slip_of erases_all = []

abbrev pub buffer_of : Call → List ℕ
buffer_of (pushes slip over) = []
buffer_of (peeks buf) = buf
buffer_of (pops buf) = buf
buffer_of fits = []
buffer_of spaces = []
buffer_of erases_all = []

-- ---- where a push writes its header

-- what a call does before a header, and where it then begins one
unfoldable pub header_plan : Geometry → List ℕ → Call → Plan (Try Unit Spot)
header_plan g im (pushes slip over) = cond (too_big g (length slip)) (plan [] (fails tt)) (spot_for g im (length slip) over)
header_plan g im (peeks buf) = plan [] (fails tt)
header_plan g im (pops buf) = plan [] (fails tt)
header_plan g im fits = plan [] (fails tt)
header_plan g im spaces = plan [] (fails tt)
header_plan g im erases_all = plan [] (fails tt)

abbrev pub spots : Try Unit Spot → List ℕ
spots (fails u) = []
spots (gives full) = []
spots (gives (at a)) = a ∷ []

-- whether a call got so far that it made n stores and one more
abbrev pub got : Power → ℕ → Bool
got whole n = true
got (cut_after k) n = ltb n k

-- the address where a call got n stores of a header done and one more
unfoldable pub header_at : Geometry → List ℕ → Call → Power → ℕ → List ℕ
header_at g im c w n =
    let p = header_plan g im c in
    cond (got w (store_count p.events + n)) (spots p.answer) []

-- ---- the premise of the false header: "the scan accepts an address where no push began a header, or accepts one it refused earlier,
-- its page not erased since"

-- addresses whose page was not erased since: where a push began a header; which the scan refused in an earlier image
pub record Ghost : Type 0 where
  pub begun : List ℕ
  pub refused_before : List ℕ

unfoldable pub outside : Geometry → ℕ → List ℕ → List ℕ
outside g p [] = []
outside g p (a ∷ l) =
    let later = outside g p l in
    cond (leb (page_start g p) a && ltb a (page_start g p + g.page)) later (a ∷ later)

unfoldable pub kept : Geometry → List Event → List ℕ → List ℕ
kept g [] l = l
kept g (store a word ∷ es) l = kept g es l
kept g (erase p ∷ es) l = kept g es (outside g p l)
kept g (copy a n ∷ es) l = kept g es l

-- what the scan of pages refuses
unfoldable pub refusals : Geometry → List ℕ → List ℕ → List ℕ
refusals g im [] = []
refusals g im (p ∷ ps) = (page_walk g im p).refused ++ refusals g im ps

unfoldable pub ghost_next : Geometry → List ℕ → Ghost → Call → Power → Ghost
ghost_next g im gh c w =
    record {
      begun = header_at g im c w 0 ++ kept g (events_of g im c w) gh.begun;
      refused_before = kept g (events_of g im c w) (refusals g im (all_pages g) ++ gh.refused_before);
    }

-- every address that the scan accepts
abbrev pub Accepts : Geometry → List ℕ → (ℕ → Type 0) → Type 0
Accepts g im P = (p : ℕ) → p < g.pages → (h : Head) → Memᴰ h (page_walk g im p).heads → P h.place

abbrev pub Begun : Geometry → List ℕ → Ghost → Type 0
Begun g im gh = Accepts g im (λ a. Memᴰ a gh.begun)

abbrev pub NoneAgain : Geometry → List ℕ → Ghost → Type 0
NoneAgain g im gh = Accepts g im (λ a. Memᴰ a gh.refused_before → ⊥)

-- no false header, in document 01's words. A history assumes less: NoneAgain, and this at words below 8 only
abbrev pub NoFalse : Geometry → List ℕ → Ghost → Type 0
NoFalse g im gh = Begun g im gh × NoneAgain g im gh

-- ---- the premise of the cut payload: "no cut payload that differs from its slip passes its checksum"

-- where a cut push began its header, and this now reads whole: what then stands in the payload's place passes only where it is the slip
abbrev pub NoPassing : Geometry → List ℕ → Call → Power → Type 0
NoPassing g im c whole = Unit {0}
NoPassing g im c (cut_after k) =
    (a : ℕ) → Memᴰ a (header_at g im c (cut_after k) 0)
    → part a (header_size g) (image_next g im c (cut_after k)) ≡ encode g (data_crc (slip_of c)) (length (slip_of c))
    → let stored = part (a + header_size g) (length (slip_of c)) (image_next g im c (cut_after k)) in
    data_crc stored ≡ data_crc (slip_of c) → stored ≡ slip_of c

-- ---- a history

abbrev pub Bytes : List ℕ → Type 0
Bytes [] = Unit {0}
Bytes (b ∷ bs) = (b < 256) × Bytes bs

-- what one call of a history is assumed to be
pub record Fair (g : Geometry) (im : List ℕ) (gh : Ghost) (c : Call) (w : Power) : Type 0 where
  pub counted : Counted c w
  pub slip : Bytes (slip_of c)
  pub none_again : g.word < 8 → NoneAgain g (image_next g im c w) (ghost_next g im gh c w)
  pub no_passing : NoPassing g im c w

-- "an erased range"
abbrev pub Erased : Geometry → List ℕ → Type 0
Erased g im = (p : ℕ) → p < g.pages → page_bytes g im p ≡ replicate g.page 0xff

-- the images that a history comes to, "with one geometry throughout"
pub data Reached (g : Geometry) : List ℕ → Ghost → Type 0 where
  fresh : {im : List ℕ} (s : Shape) → check (length im) s ≡ Ok g → Erased g im → Reached g im (record { begun = []; refused_before = [] })
  further : {im : List ℕ} {gh : Ghost} (c : Call) (w : Power) → Reached g im gh → Fair g im gh c w
      → Reached g (image_next g im c w) (ghost_next g im gh c w)

-- ---- the claim

-- a whole call's answer, and the list r that it leaves of the list q, "as a plain first-in-first-out list does, apart from the refusals
-- laid down"; buf is the buffer afterwards. Peek and pop say what they met on their way: nothing but what they go past, or first a live
-- header too long for the buffer (row 4), or first the item that they show
pub data Plain (g : Geometry) (im : List ℕ) : Call → Answer → List ℕ → List (List ℕ) → List (List ℕ) → Type 0 where
  added : {s buf : List ℕ} {q r : List (List ℕ)} → too_big g (length s) ≡ false → (Full g im (length s) → ⊥) → r ≡ q ++ (s ∷ [])
      → Plain g im (pushes s false) done buf q r
  big : {s buf : List ℕ} {q : List (List ℕ)} → too_big g (length s) ≡ true → Plain g im (pushes s false) (refused refusal.ItemTooBig) buf q q
  no_room : {s buf : List ℕ} {q : List (List ℕ)} → too_big g (length s) ≡ false → Full g im (length s)
      → Plain g im (pushes s false) (refused refusal.FullStorage) buf q q
  shows_none : {b buf : List ℕ} {hs : List Head} → Way g im hs → Each (Passed g (length b)) hs → Plain g im (peeks b) empty buf [] []
  shows_not : {n : ℕ} {b buf : List ℕ} {q : List (List ℕ)} {hs : List Head} → Way g im hs → TooLong g (length b) hs n
      → Plain g im (peeks b) (refused (refusal.BufferTooSmall n)) buf q q
  shows : {b buf s : List ℕ} {q : List (List ℕ)} {hs : List Head} → Way g im hs → Seen g (length b) hs (length s) → take (length s) buf ≡ s
      → Plain g im (peeks b) (shown (length s)) buf (s ∷ q) (s ∷ q)
  takes_none : {b buf : List ℕ} {hs : List Head} → Way g im hs → Each (Passed g (length b)) hs → Plain g im (pops b) empty buf [] []
  takes_not : {n : ℕ} {b buf : List ℕ} {q : List (List ℕ)} {hs : List Head} → Way g im hs → TooLong g (length b) hs n
      → Plain g im (pops b) (refused (refusal.BufferTooSmall n)) buf q q
  takes : {b buf s : List ℕ} {q : List (List ℕ)} {hs : List Head} → Way g im hs → Seen g (length b) hs (length s) → take (length s) buf ≡ s
      → Plain g im (pops b) (shown (length s)) buf (s ∷ q) q
  fitted : {a : Answer} {buf : List ℕ} {q : List (List ℕ)} → Plain g im fits a buf q q
  measured : {a : Answer} {buf : List ℕ} {q : List (List ℕ)} → Plain g im spaces a buf q q
  cleared : {buf : List ℕ} {q : List (List ℕ)} → Plain g im erases_all done buf q []

-- the list after a call with a given answer, from the list before it
abbrev pub after_push : List ℕ → List (List ℕ) → Answer → List (List ℕ)
after_push s q done = q ++ (s ∷ [])
after_push s q (shown n) = q
after_push s q (number n) = q
after_push s q none = q
after_push s q empty = q
after_push s q (refused r) = q

abbrev pub after_pop : List (List ℕ) → Answer → List (List ℕ)
after_pop q done = q
after_pop q (shown n) = tail q
after_pop q (number n) = q
after_pop q none = q
after_pop q empty = q
after_pop q (refused r) = q

abbrev pub list_after : Call → Answer → List (List ℕ) → List (List ℕ)
list_after (pushes slip over) a q = after_push slip q a
list_after (peeks buf) a q = q
list_after (pops buf) a q = after_pop q a
list_after fits a q = q
list_after spaces a q = q
list_after erases_all a q = []

-- "After a cut, the list is the one before that call or the one after it."
abbrev pub Behaves : Geometry → List ℕ → Call → Power → Type 0
Behaves g im c whole =
    Plain g im c (plan_of g im c).answer (buffer_after g (plan_of g im c).events im (buffer_of c)) (waiting g im) (waiting g (image_next g im c whole))
Behaves g im c (cut_after k) =
    (waiting g (image_next g im c (cut_after k)) ≡ waiting g im)
    ⊎ (waiting g (image_next g im c (cut_after k)) ≡ list_after c (plan_of g im c).answer (waiting g im))

-- demand 3: every image of a history has a list, which is empty at the start; every call behaves; every header that the scan accepts was
-- begun by a push; and "with words of 8 and more none [no false header] can arise"
pub record Demand3 : Type 0 where
  pub starts : (g : Geometry) (im : List ℕ) (s : Shape) → check (length im) s ≡ Ok g → Erased g im → waiting g im ≡ []
  pub lists : (g : Geometry) (im : List ℕ) (gh : Ghost) → Reached g im gh → list_of g im ≡ gives (waiting g im)
  pub behaves : (g : Geometry) (im : List ℕ) (gh : Ghost) → Reached g im gh → (c : Call) (w : Power) → Fair g im gh c w → Behaves g im c w
  pub begun : (g : Geometry) (im : List ℕ) (gh : Ghost) → Reached g im gh → Begun g im gh
  pub no_false : (g : Geometry) (im : List ℕ) (gh : Ghost) → Reached g im gh → 8 ≤ g.word → NoFalse g im gh
