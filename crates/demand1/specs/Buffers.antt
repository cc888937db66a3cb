-- Demand 1: what a call leaves in the data buffer; and the places where the Rust could say LogicBug. Assumes nothing.
use Rattle.std.specs.Prelude.{◌≡◌, Bool, true, cond, ℕ, ◌+◌, ◌-◌, ◌≤◌, ◌<◌, length, take, drop, Ok, Err}
use mathlib.Core.List.{List, [], ◌∷◌, ◌++◌, Memᴰ}
use Rattle.paper.specs.declared.Shape.{Shape}
use Rattle.paper.specs.declared.Geometry.{Geometry}
use Rattle.paper.specs.Chip.{round_up, round_down, header_size, Event, store, erase, copy, before, buffer_after, Plan}
use Rattle.paper.specs.Scan.{Head, live}
use Rattle.paper.specs.declared.Refusal.{Refusal}
use Rattle.paper.specs.declared.Refusal.TheVariants as refusal
use Rattle.paper.specs.Refusals.{geometry_of, check, Answer, shown, refused}
use Rattle.paper.specs.Search.{met, read_heads, peek, pop}
use Rattle.paper.specs.Calls.{Call, pushes, plan_of, requested}
use Rattle.demand1.specs.Range.{Each}
use Rattle.demand1.specs.Rows.{Way, Passed, TooLong, Seen}

-- a copy takes at most m bytes
abbrev pub CopiesAtMost : ℕ → Event → Type 0
CopiesAtMost m (store a word) = Unit {0}
CopiesAtMost m (erase p) = Unit {0}
CopiesAtMost m (copy a n) = n ≤ m

-- the copies among events, in order
unfoldable pub copies_in : List Event → List Event
copies_in [] = []
copies_in (store a word ∷ es) = copies_in es
copies_in (erase p ∷ es) = copies_in es
copies_in (copy a n ∷ es) = copy a n ∷ copies_in es

-- the copies of the rounded payloads of the live headers of a list, in order
unfoldable pub copies_of : Geometry → List Head → List Event
copies_of g [] = []
copies_of g (h ∷ hs) = let later = copies_of g hs in cond (live h) (copy (h.place + header_size g) (round_up g.word h.len) ∷ later) later

-- "Peek and pop copy the rounded payload of each live header read, in order, .. torn ones too": of a plan that peeks or pops with a buffer of
-- n bytes. It reads the headers on its way up to the first that it does not go past
pub record OfCopies (g : Geometry) (im : List ℕ) (n : ℕ) (p : Plan Answer) : Type 0 where
  -- empty: all that are on the way
  pub none : {hs : List Head} → Way g im hs → Each (Passed g n) hs → copies_in p.events ≡ copies_of g hs
  -- row 4: those before the one that is too long
  pub short : {hs : List Head} → Way g im hs → (k : ℕ) (long : TooLong g n hs k) → copies_in p.events ≡ copies_of g long.stops.front
  -- a slip is shown: those before it, and it
  pub seen : {hs : List Head} → Way g im hs → (k : ℕ) (seen : Seen g n hs k)
      → copies_in p.events ≡ copies_of g (seen.stops.front ++ (seen.head ∷ []))
  -- row 5: none
  pub corrupted : p.answer ≡ refused refusal.Corrupted → copies_in p.events ≡ []

pub record OfBuffer : Type 0 where
  -- "On refusals 2, 3 and 9 to 17 the data buffer keeps its bytes": a push copies nothing, and a refused shape does nothing
  pub push_keeps : (g : Geometry) (im slip buf : List ℕ) (over : Bool) → buffer_after g (plan_of g im (pushes slip over)).events im buf ≡ buf
  pub shape_keeps : (s : Shape) (im buf : List ℕ) (c : Call) (r : Refusal) → check (length im) s ≡ Err r
      → buffer_after (geometry_of s) (requested s im c).events im buf ≡ buf
  -- the copies of a peek or pop fit the buffer, cut or not, and "bytes past the longest copy stay"
  pub peek_fits : (g : Geometry) (im : List ℕ) (n : ℕ) → Each (CopiesAtMost n) (peek g im n).events
  pub pop_fits : (g : Geometry) (im : List ℕ) (n : ℕ) → Each (CopiesAtMost n) (pop g im n).events
  pub cut_fits : (k m : ℕ) (es : List Event) → Each (CopiesAtMost m) es → Each (CopiesAtMost m) (before k es)
  pub tail_stays : (g : Geometry) (im buf : List ℕ) (es : List Event) (m : ℕ) → Each (CopiesAtMost m) es → m ≤ length buf
      → (length (buffer_after g es im buf) ≡ length buf) × (drop m (buffer_after g es im buf) ≡ drop m buf)
  -- "A done peek or pop shows the first `length` bytes of that buffer": the payload of the item that is seen
  pub peek_shows : (g : Geometry) (im : List ℕ) (s : Shape) → check (length im) s ≡ Ok g → (n k : ℕ) (hs : List Head) → Way g im hs
      → (seen : Seen g n hs k) (buf : List ℕ) → n ≤ length buf → take k (buffer_after g (peek g im n).events im buf) ≡ seen.head.body
  pub pop_shows : (g : Geometry) (im : List ℕ) (s : Shape) → check (length im) s ≡ Ok g → (n k : ℕ) (hs : List Head) → Way g im hs
      → (seen : Seen g n hs k) (buf : List ℕ) → n ≤ length buf → take k (buffer_after g (pop g im n).events im buf) ≡ seen.head.body
  -- what they copy
  pub peek_copies : (g : Geometry) (im : List ℕ) (s : Shape) → check (length im) s ≡ Ok g → (n : ℕ) → OfCopies g im n (peek g im n)
  pub pop_copies : (g : Geometry) (im : List ℕ) (s : Shape) → check (length im) s ≡ Ok g → (n : ℕ) → OfCopies g im n (pop g im n)

-- a read is a copy of the rounded payload of a live header of a list
abbrev pub ReadOf : Geometry → List Head → Event → Type 0
ReadOf g hs (store a word) = ⊥
ReadOf g hs (erase p) = ⊥
ReadOf g hs (copy a n) = (h : Head) × Memᴰ h hs × (live h ≡ true) × (a ≡ h.place + header_size g) × (n ≡ round_up g.word h.len)

-- "The crate's LogicBug .. never arise[s]": the tests of next_inner, of reborrow and of write_raw
pub record NoLogicBug : Type 0 where
  -- next_inner: only live headers are read, so none is read as erased
  pub reads_live : (g : Geometry) (n a : ℕ) (hs : List Head) (im : List ℕ) → Each (ReadOf g hs) (read_heads g n a hs im).events
  pub not_erased : (g : Geometry) (n a : ℕ) (hs : List Head) (im : List ℕ) (h : Head) → (read_heads g n a hs im).answer ≡ met h → live h ≡ true
  -- reborrow: what is shown is no longer than the buffer
  pub reborrows : (g : Geometry) (im : List ℕ) (n k : ℕ) → (peek g im n).answer ≡ shown k → k ≤ n
  pub reborrows_pop : (g : Geometry) (im : List ℕ) (n k : ℕ) → (pop g im n).answer ≡ shown k → k ≤ n
  -- write_raw: the payload splits at the last whole word; its tail is shorter than a word, and rounded up it fits 32 bytes
  pub splits : (w n : ℕ) → 0 < w → (round_down w n ≤ n) × (n - round_down w n < w)
  pub extends : (g : Geometry) (im : List ℕ) (s : Shape) → check (length im) s ≡ Ok g → (n : ℕ) → round_up g.word (n - round_down g.word n) ≤ 32
