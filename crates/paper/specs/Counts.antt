-- find_max_fit and space_left, as plans: steps that only count. Assumes nothing.
use Rattle.std.specs.Prelude.{cond, ◌&&◌, not, List, [], ◌∷◌, ℕ, ◌+◌, ◌-◌, ltb, length}
use Rattle.paper.specs.declared.Refusal.TheVariants as refusal
use Rattle.paper.specs.Chip.{Geometry, round_down, header_size, data_size, Plan, plan, bind, Try, fails, gives, on_given, settled}
use Rattle.paper.specs.Scan.{page_walk, serves, any_live}
use Rattle.paper.specs.Pages.{PageState, Open, PartialOpen, Closed, Corrupted, state, next, all_pages, youngest}
use Rattle.paper.specs.Refusals.{Answer, number, none, refused}
use Rattle.paper.specs.Steps.{with_repair}

-- a step that only counts
unfoldable pub counted : Geometry → List ℕ → (List ℕ → Try Unit Answer) → Plan Answer
counted g im count =
    bind g im (with_repair {W = Unit {0}} g (λ u im₁. plan [] (count im₁)) tt im) (λ t im₁. plan [] (settled (refused refusal.Corrupted) t))

-- "the longest length the current page's spot serves, or none"
unfoldable pub longest : Geometry → List ℕ → Answer
longest g rest =
    let room = round_down g.word (length rest) in
    cond (ltb room (header_size g)) none (number (room - header_size g))

-- "page - 2 words when the next page is Open, or Closed without live headers; Corrupted when it is PartialOpen"; y is the current page
unfoldable pub fit_by : Geometry → List ℕ → ℕ → PageState → Try Unit Answer
fit_by g im y Open = gives (number (data_size g))
fit_by g im y PartialOpen = fails tt
fit_by g im y Closed = gives (cond (any_live (page_walk g im (next g y)).heads) (longest g (page_walk g im y).rest) (number (data_size g)))
fit_by g im y Corrupted = fails tt

unfoldable pub fit : Geometry → List ℕ → Try Unit Answer
fit g im = on_given (youngest g im) (λ y. fit_by g im y (state g im (next g y)))

unfoldable pub find_max_fit : Geometry → List ℕ → Plan Answer
find_max_fit g im = counted g im (fit g)

-- "Closed with a live header adds nothing; Open, or Closed without, adds page - 2 words; PartialOpen adds end - spot, but page - 2 words
-- if no header fits there and nothing is live"
unfoldable pub space_by : Geometry → List ℕ → ℕ → PageState → Try Unit ℕ
space_by g im p Open = gives (data_size g)
space_by g im p PartialOpen =
    let w = page_walk g im p in
    gives (cond (not (serves g w.rest 0) && not (any_live w.heads)) (data_size g) (length w.rest))
space_by g im p Closed = gives (cond (any_live (page_walk g im p).heads) 0 (data_size g))
space_by g im p Corrupted = fails tt

-- "over all pages"
unfoldable pub space_of : Geometry → List ℕ → List ℕ → Try Unit ℕ
space_of g im [] = gives 0
space_of g im (p ∷ ps) = on_given (space_by g im p (state g im p)) (λ a. on_given (space_of g im ps) (λ b. gives (a + b)))

unfoldable pub space : Geometry → List ℕ → Try Unit Answer
space g im = on_given (space_of g im (all_pages g)) (λ n. gives (number n))

unfoldable pub space_left : Geometry → List ℕ → Plan Answer
space_left g im = counted g im (space g)
