-- The chip: the numbers of a geometry; what a call does, as one list of events; image and buffer after events; the store limit.
-- An image, a buffer and a slip are lists of bytes; an address is a place in the image. Assumes nothing.
use Rattle.std.specs.Prelude.{List, [], ◌∷◌, ◌++◌, ℕ, zero, suc, ◌+◌, ◌-◌, ◌*◌, ◌/◌, length, take, drop, replicate}
use Rattle.std.specs.Int.Bits.{bit_and}
pub use Rattle.paper.specs.declared.Geometry.{Geometry}

-- ---- numbers

-- how many words of w bytes hold n bytes
unfoldable pub words_for : ℕ → ℕ → ℕ
words_for w n = (n + (w - 1)) / w

-- n rounded up to a word, and down
unfoldable pub round_up : ℕ → ℕ → ℕ
round_up w n = words_for w n * w

unfoldable pub round_down : ℕ → ℕ → ℕ
round_down w n = n / w * w

-- "Header size is 8 rounded up to a word."
unfoldable pub header_size : Geometry → ℕ
header_size g = round_up g.word 8

-- "The range is pages 0 to n-1 from its start address." A page's first and last word are its marks; its data lies between them
unfoldable pub page_start : Geometry → ℕ → ℕ
page_start g p = g.start + p * g.page

unfoldable pub range_end : Geometry → ℕ
range_end g = g.start + g.pages * g.page

unfoldable pub data_start : Geometry → ℕ → ℕ
data_start g p = page_start g p + g.word

unfoldable pub data_size : Geometry → ℕ
data_size g = g.page - 2 * g.word

unfoldable pub data_end : Geometry → ℕ → ℕ
data_end g p = data_start g p + data_size g

-- the page that an address lies in
unfoldable pub page_of : Geometry → ℕ → ℕ
page_of g a = (a - g.start) / g.page

-- n bytes of a list, from place a on
abbrev pub part : ℕ → ℕ → List ℕ → List ℕ
part a n bytes = take n (drop a bytes)

unfoldable pub page_bytes : Geometry → List ℕ → ℕ → List ℕ
page_bytes g im p = part (page_start g p) g.page im

unfoldable pub page_data : Geometry → List ℕ → ℕ → List ℕ
page_data g im p = part (data_start g p) (data_size g) im

-- ---- events

-- a store of one word at an address; an erase of one page, by its number; a copy of n bytes from an address to the buffer's front
pub data Event : Type 0 where
  store : ℕ → List ℕ → Event
  erase : ℕ → Event
  copy : ℕ → ℕ → Event

-- bytes in the place of those that stand from place a on
unfoldable pub put : ℕ → List ℕ → List ℕ → List ℕ
put a bytes l = take a l ++ (bytes ++ drop (a + length bytes) l)

-- AND byte by byte, as far as both lists go
unfoldable pub ands : List ℕ → List ℕ → List ℕ
ands [] ys = []
ands (x ∷ xs) [] = []
ands (x ∷ xs) (y ∷ ys) = bit_and x y ∷ ands xs ys

-- "A store ANDs one whole word into the image. An erase sets one page to FF."
unfoldable pub image_by : Geometry → Event → List ℕ → List ℕ
image_by g (store a word) im = put a (ands (drop a im) word) im
image_by g (erase p) im = put (page_start g p) (replicate g.page 0xff) im
image_by g (copy a n) im = im

unfoldable pub image_after : Geometry → List Event → List ℕ → List ℕ
image_after g [] im = im
image_after g (e ∷ es) im = image_after g es (image_by g e im)

-- a copy reads the image as it then is
unfoldable pub buffer_by : Event → List ℕ → List ℕ → List ℕ
buffer_by (store a word) im buf = buf
buffer_by (erase p) im buf = buf
buffer_by (copy a n) im buf = put 0 (part a n im) buf

unfoldable pub buffer_after : Geometry → List Event → List ℕ → List ℕ → List ℕ
buffer_after g [] im buf = buf
buffer_after g (e ∷ es) im buf = buffer_after g es (image_by g e im) (buffer_by e im buf)

-- "Each counts as one store for the limit."
unfoldable pub store_count : List Event → ℕ
store_count [] = 0
store_count (store a word ∷ es) = suc (store_count es)
store_count (erase p ∷ es) = suc (store_count es)
store_count (copy a n ∷ es) = store_count es

-- "With limit k the limited form has made the first k of them"; "a cut call has made the copies that come before its first unmade store"
unfoldable pub before : ℕ → List Event → List Event
before k [] = []
before k (copy a n ∷ es) = copy a n ∷ before k es
before zero (store a word ∷ es) = []
before zero (erase p ∷ es) = []
before (suc k) (store a word ∷ es) = store a word ∷ before k es
before (suc k) (erase p ∷ es) = erase p ∷ before k es

-- "Multi-word writes go from the lowest word up"; the last of the k words is "padded with zeros"
unfoldable pub words : ℕ → ℕ → ℕ → List ℕ → List Event
words w zero a bytes = []
words w (suc k) a bytes = store a (take w (bytes ++ replicate w 0)) ∷ words w k (a + w) (drop w bytes)

unfoldable pub writes : Geometry → ℕ → List ℕ → List Event
writes g a bytes = words g.word (words_for g.word (length bytes)) a bytes

-- how a page is erased: by one event. Every plan erases by this name
unfoldable pub erase_page : Geometry → ℕ → List Event
erase_page g p = erase p ∷ []

-- ---- plans

-- "Each call's list of stores is defined from image and inputs": what a call does, its events in order and its answer
pub record Plan (A : Type 0) : Type 0 where
  pub events : List Event
  pub answer : A

abbrev pub plan : {A : Type 0} → List Event → A → Plan A
plan es a = record { events = es; answer = a }

-- a plan, and then what is planned on its answer and on the image that it leaves
unfoldable pub bind : {A B : Type 0} → Geometry → List ℕ → Plan A → (A → List ℕ → Plan B) → Plan B
bind g im p next =
    let q = next p.answer (image_after g p.events im) in
    record { events = p.events ++ q.events; answer = q.answer }

-- the same after events that have no answer of their own
abbrev pub and_then : {B : Type 0} → Geometry → List ℕ → List Event → (List ℕ → Plan B) → Plan B
and_then g im es next = bind {A = Unit {0}} g im (plan es tt) (λ u. next)

-- what a step comes to: it fails with Corrupted, and tells where it stood; or it gives something
pub data Try (W A : Type 0) : Type 0 where
  fails : W → Try W A
  gives : A → Try W A

abbrev pub on_given : {W A B : Type 0} → Try W A → (A → Try W B) → Try W B
on_given (fails w) f = fails w
on_given (gives a) f = f a

abbrev pub settled : {W A : Type 0} → A → Try W A → A
settled other (fails w) = other
settled other (gives a) = a
