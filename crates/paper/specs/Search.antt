-- Peek and pop, as plans: the search that they share, and what each makes of what it comes to. Assumes nothing.
use Rattle.std.specs.Prelude.{Bool, true, cond, ◌||◌, not, List, [], ◌∷◌, ℕ, zero, suc, ◌+◌, ◌*◌, eqb, ltb}
use Rattle.paper.specs.declared.Refusal.TheVariants as refusal
use Rattle.paper.specs.Chip.{Geometry, round_up, header_size, data_start, data_end, page_of, Event, copy, writes, erase_page, Plan, plan, bind, and_then, Try, fails, gives}
use Rattle.paper.specs.Slip.{encode}
use Rattle.paper.specs.Scan.{Head, walk_on, live, present}
use Rattle.paper.specs.Pages.{Open, Corrupted, state, same, next, oldest}
use Rattle.paper.specs.Refusals.{Answer, shown, empty, refused}
use Rattle.paper.specs.Steps.{with_repair}

-- ---- on a page

-- the address behind an item
unfoldable pub item_end : Geometry → Head → ℕ
item_end g h = h.place + header_size g + round_up g.word h.len

-- what going through a page's headers comes to: all passed; one too long for the buffer, with the address from which it was looked for and
-- its rounded length; a present one
pub data Met : Type 0 where
  passed : Met
  long : ℕ → ℕ → Met
  met : Head → Met

-- "Peek and pop copy the rounded payload of each live header read, in order, to the buffer's front, torn ones too"; a live header whose
-- rounded length is over the buffer's size n ends it. Headers are looked for from address a, and behind a torn item anew
unfoldable pub read_heads : Geometry → ℕ → ℕ → List Head → List ℕ → Plan Met
read_heads g n a [] im = plan [] passed
read_heads g n a (h ∷ hs) im =
    let size = round_up g.word h.len in
    let read = copy (h.place + header_size g) size ∷ [] in
    let later = and_then g im read (read_heads g n (item_end g h) hs) in
    let skipped = read_heads g n a hs im in
    cond (not (live h)) skipped
    (cond (ltb n size) (plan [] (long a size))
    (cond (present h) (plan read (met h)) later))

-- ---- from a stand on

-- where a search stands: at an address, from which it reads on; or leaving a page
pub data Stand : Type 0 where
  from_address : ℕ → Stand
  after_page : ℕ → Stand

-- at address a, or leaving page p where its data has ended there
unfoldable pub stand_at : Geometry → ℕ → ℕ → Stand
stand_at g p a = cond (ltb a (data_end g p)) (from_address a) (after_page p)

-- what a search comes to: no present item, a live header too long for the buffer, a present item, or Corrupted
pub data Outcome : Type 0 where
  nothing : Outcome
  short : ℕ → Outcome
  this : Head → Outcome
  spoilt : Outcome

-- with where it then stands
pub record Ended : Type 0 where
  pub stand : Stand
  pub outcome : Outcome

abbrev pub ended_at : Stand → Outcome → Try Stand Ended
ended_at s o = gives (record { stand = s; outcome = o })

abbrev pub ends_at : Stand → Outcome → Plan (Try Stand Ended)
ends_at s o = plan [] (ended_at s o)

unfoldable pub on_met : Geometry → ℕ → (List ℕ → Plan (Try Stand Ended)) → Met → List ℕ → Plan (Try Stand Ended)
on_met g p further passed im = further im
on_met g p further (long a n) im = ends_at (from_address a) (short n)
on_met g p further (met h) im = ends_at (stand_at g p (item_end g h)) (this h)

-- "skip popped and torn items", from address a on
unfoldable pub read_page : Geometry → ℕ → ℕ → (List ℕ → Plan (Try Stand Ended)) → List ℕ → Plan (Try Stand Ended)
read_page g n a further im = bind g im (read_heads g n a (walk_on g im a).heads im) (on_met g (page_of g a) further)

-- "Leaving a page, stop if the next page is Open or is the oldest; otherwise erase the page just left", if clears says so
unfoldable pub leave_page : Geometry → ℕ → Bool → ℕ → (List ℕ → Plan (Try Stand Ended)) → List ℕ → Plan (Try Stand Ended)
leave_page g old clears p further im =
    let s = state g im (next g p) in
    let onward = and_then g im (cond clears (erase_page g p) []) further in
    cond (same s Corrupted) (plan [] (fails (after_page p)))
    (cond (same s Open || eqb (next g p) old) (ends_at (after_page p) nothing) onward)

-- the next present item from a stand; two turns for each page are enough, since the search ends before it is back at the oldest page
unfoldable pub next_item : Geometry → ℕ → ℕ → Bool → ℕ → Stand → List ℕ → Plan (Try Stand Ended)
next_item g n old clears zero stand im = ends_at stand nothing
next_item g n old clears (suc k) (from_address a) im = read_page g n a (next_item g n old clears k (after_page (page_of g a))) im
next_item g n old clears (suc k) (after_page p) im = leave_page g old clears p (next_item g n old clears k (from_address (data_start g (next g p)))) im

unfoldable pub next_step : Geometry → ℕ → ℕ → Bool → Stand → List ℕ → Plan (Try Stand Ended)
next_step g n old clears stand im = next_item g n old clears (2 * g.pages) stand im

-- ---- the search

-- "Peek and pop have two: finding the start, and finding the next item from where it stood."
unfoldable pub start_step : Geometry → Unit {0} → List ℕ → Plan (Try Unit ℕ)
start_step g u im = plan [] (oldest g im)

-- what the second step came to: where it failed again, Corrupted
abbrev pub outcome_of : Try Stand Ended → Outcome
outcome_of (fails s) = spoilt
outcome_of (gives e) = e.outcome

unfoldable pub search_on : Geometry → ℕ → Try Unit ℕ → List ℕ → Plan Outcome
search_on g n (fails u) im = plan [] spoilt
search_on g n (gives old) im =
    bind g im (with_repair g (next_step g n old true) (from_address (data_start g old)) im) (λ t im₁. plan [] (outcome_of t))

-- n is the buffer's size
unfoldable pub search : Geometry → List ℕ → ℕ → Plan Outcome
search g im n = bind g im (with_repair g (start_step g) tt im) (search_on g n)

-- ---- peek and pop

abbrev pub shown_by : Outcome → Answer
shown_by nothing = empty
shown_by (short n) = refused (refusal.BufferTooSmall n)
shown_by (this h) = shown h.len
shown_by spoilt = refused refusal.Corrupted

-- "Pop stores the header again with CRC 0."
abbrev pub popped : Geometry → Outcome → List Event
popped g nothing = []
popped g (short n) = []
popped g (this h) = writes g h.place (encode g 0 h.len)
popped g spoilt = []

unfoldable pub peek : Geometry → List ℕ → ℕ → Plan Answer
peek g im n = bind g im (search g im n) (λ o im₁. plan [] (shown_by o))

unfoldable pub pop : Geometry → List ℕ → ℕ → Plan Answer
pop g im n = bind g im (search g im n) (λ o im₁. plan (popped g o) (shown_by o))
