-- Push, as a plan: its events in order and its answer. Assumes nothing.
use Rattle.std.specs.Prelude.{◌≡◌, Bool, true, false, cond, ◌||◌, ◌&&◌, not, List, [], ◌∷◌, ◌++◌, ◌⊎◌, ℕ, ◌+◌, eqb, ltb, length}
use Rattle.paper.specs.declared.Refusal.TheVariants as refusal
use Rattle.paper.specs.Checksum.{data_crc}
use Rattle.paper.specs.Chip.{Geometry, header_size, data_start, data_size, Event, writes, erase_page, Plan, plan, bind, and_then, Try, fails, gives}
use Rattle.paper.specs.Slip.{encode}
use Rattle.paper.specs.Scan.{page_walk, free_spot, serves, any_live}
use Rattle.paper.specs.Pages.{PageState, Open, PartialOpen, Closed, Corrupted, state, same, set_start, set_end, next, youngest}
use Rattle.paper.specs.Refusals.{length_limit, Answer, done, refused}
use Rattle.paper.specs.Steps.{with_repair}

-- "length over 65,535, or over page - 2 words - header"
unfoldable pub too_big : Geometry → ℕ → Bool
too_big g n = ltb length_limit n || ltb (data_size g) (header_size g + n)

-- where a push begins its header; or the storage is full
pub data Spot : Type 0 where
  full : Spot
  at : ℕ → Spot

-- the next page x is used again: "test for live headers (unless overwriting), erase it, close the current page if it is another, start-mark"
unfoldable pub take_page : Geometry → Bool → ℕ → ℕ → List ℕ → Plan (Try Unit Spot)
take_page g over y x im =
    cond (not over && any_live (page_walk g im x).heads) (plan [] (gives full))
    (plan (erase_page g x ++ (cond (eqb x y) [] (set_end g y ∷ []) ++ (set_start g x ∷ []))) (gives (at (data_start g x))))

-- no spot in the current page y; by the state of the next page x: "Open: close the current page, start-mark the next. Closed, or
-- PartialOpen and the sole page": it is used again. "PartialOpen and another page: Corrupted."
unfoldable pub turn_page : Geometry → Bool → ℕ → ℕ → PageState → List ℕ → Plan (Try Unit Spot)
turn_page g over y x Open im = plan (set_end g y ∷ set_start g x ∷ []) (gives (at (data_start g x)))
turn_page g over y x PartialOpen im = cond (eqb x y) (take_page g over y x im) (plan [] (fails tt))
turn_page g over y x Closed im = take_page g over y x im
turn_page g over y x Corrupted im = plan [] (fails tt)

-- "find a spot. None: look at the next page."
unfoldable pub find_spot : Geometry → ℕ → Bool → ℕ → List ℕ → Plan (Try Unit Spot)
find_spot g n over y im =
    cond (serves g (page_walk g im y).rest n) (plan [] (gives (at (free_spot g im y))))
    (turn_page g over y (next g y) (state g im (next g y)) im)

-- "set the youngest page's start mark if Open"
unfoldable pub spot_on : Geometry → ℕ → Bool → Try Unit ℕ → List ℕ → Plan (Try Unit Spot)
spot_on g n over (fails u) im = plan [] (fails u)
spot_on g n over (gives y) im = and_then g im (cond (same (state g im y) Open) (set_start g y ∷ []) []) (find_spot g n over y)

unfoldable pub spot_step : Geometry → ℕ → Bool → Unit {0} → List ℕ → Plan (Try Unit Spot)
spot_step g n over u im = spot_on g n over (youngest g im) im

-- what a push of n bytes does before it begins its header, and where it begins it
unfoldable pub spot_for : Geometry → List ℕ → ℕ → Bool → Plan (Try Unit Spot)
spot_for g im n over = with_repair g (spot_step g n over) tt im

-- "Then header, then payload."
unfoldable pub item_at : Geometry → ℕ → List ℕ → List Event
item_at g a slip = writes g a (encode g (data_crc slip) (length slip)) ++ writes g (a + header_size g) slip

unfoldable pub push_at : Geometry → List ℕ → Try Unit Spot → List ℕ → Plan Answer
push_at g slip (fails u) im = plan [] (refused refusal.Corrupted)
push_at g slip (gives full) im = plan [] (refused refusal.FullStorage)
push_at g slip (gives (at a)) im = plan (item_at g a slip) done

-- over: whether overwriting is on
unfoldable pub push : Geometry → List ℕ → List ℕ → Bool → Plan Answer
push g im slip over =
    let p = bind g im (spot_for g im (length slip) over) (push_at g slip) in
    cond (too_big g (length slip)) (plan [] (refused refusal.ItemTooBig)) p

-- ---- what its answer FullStorage says

-- row 3: "no spot here, next page Closed or the sole page, and it has a live header"; n is the slip's length
pub record Full (g : Geometry) (im : List ℕ) (n : ℕ) : Type 0 where
  pub page : ℕ
  pub current : youngest g im ≡ gives page
  pub no_spot : serves g (page_walk g im page).rest n ≡ false
  pub again : (state g im (next g page) ≡ Closed) ⊎ (next g page ≡ page)
  pub live : any_live (page_walk g im (next g page)).heads ≡ true
