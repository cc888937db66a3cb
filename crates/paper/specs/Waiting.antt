-- The list of demand 3. Assumes nothing.
use Rattle.std.specs.Prelude.{cond, ◌||◌, List, [], ◌∷◌, ◌++◌, ℕ, eqb}
use Rattle.paper.specs.Chip.{Geometry, Try, gives, on_given, settled}
use Rattle.paper.specs.Scan.{page_walk, payloads}
use Rattle.paper.specs.Pages.{Open, state, same, next, from, youngest, oldest}

-- the payloads of the present items of pages, in order, up to page y, "ending before any Open page"
unfoldable pub waiting_on : Geometry → List ℕ → ℕ → List ℕ → List (List ℕ)
waiting_on g im y [] = []
waiting_on g im y (p ∷ ps) =
    let later = waiting_on g im y ps in
    payloads (page_walk g im p).heads ++ cond (eqb p y || same (state g im (next g p)) Open) [] later

-- "The list: payloads of present items, from the oldest page round to the youngest, ending before any Open page after the oldest." Where no
-- such page is found there is none
unfoldable pub list_of : Geometry → List ℕ → Try Unit (List (List ℕ))
list_of g im = on_given (oldest g im) (λ o. on_given (youngest g im) (λ y. gives (waiting_on g im y (from g o))))

-- the slips that wait: those of the list
unfoldable pub waiting : Geometry → List ℕ → List (List ℕ)
waiting g im = settled [] (list_of g im)
