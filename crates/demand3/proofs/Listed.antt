-- The list as the present items of a run of pages, from the oldest to the current one. Assumes nothing.
use mathlib.Core.List.{List, [], ◌++◌}
use mathlib.Core.Path.{◌≡◌, refl, sym, ap, ap₂, ◌∙◌}
use Prim.Native.Nat.{ℕ, zero, suc, ◌+◌, ◌≤◌, ◌<◌}
use native.Mathlib.Omega.{arith}
use Rattle.paper.specs.declared.Geometry.{Geometry}
use Rattle.paper.specs.declared.PageState.TheVariants.{Open}
use Rattle.paper.specs.Chip.{gives}
use Rattle.paper.specs.Scan.{Head, page_walk, payloads}
use Rattle.paper.specs.Pages.{state}
use Rattle.paper.specs.Waiting.{list_of, waiting}
use Rattle.laws.proofs.Ring.{turn, turn_suc}
use Rattle.demand3.specs.Addresses.{presents}
use Rattle.demand3.proofs.Payloads.{payloads_append}
use Rattle.demand3.proofs.Addresses.{payloads_present, payloads_waiting}
use Rattle.demand3.proofs.RingShape.{RingShape, oldest_is, youngest_is}
use Rattle.demand3.proofs.ListedHeads.{heads_in, run_heads, heads_append, waiting_heads_are}

-- the present items of page p
abbrev pub present_in : Geometry → List ℕ → ℕ → List (List ℕ)
present_in g im p = payloads (page_walk g im p).heads

-- those of m pages, from i places after o on
unfoldable pub run : Geometry → List ℕ → ℕ → ℕ → ℕ → List (List ℕ)
run g im o i zero = []
run g im o i (suc m) = present_in g im (turn g o i) ++ run g im o (suc i) m

-- two images whose pages have the same items
pub run_same : (g : Geometry) (im jm : List ℕ) (o i m : ℕ) → ((j : ℕ) → i ≤ j → j < i + m → present_in g im (turn g o j) ≡ present_in g jm (turn g o j))
    → run g im o i m ≡ run g jm o i m
unfolding run
run_same g im jm o i zero f = refl
run_same g im jm o i (suc m) f =
    ap₂ (λ (x y : List (List ℕ)). x ++ y) (f i (omega arith) (omega arith)) (run_same g im jm o (suc i) m (λ j h k. f j (omega arith) (omega arith)))

-- a run from the next page on
pub run_suc : (g : Geometry) (im : List ℕ) (o i m : ℕ) → o < g.pages → i + m ≤ g.pages → run g im (turn g o 1) i m ≡ run g im o (suc i) m
unfolding run
run_suc g im o i zero h k = refl
run_suc g im o i (suc m) h k =
    ap₂ (λ (x : ℕ) (y : List (List ℕ)). present_in g im x ++ y) (turn_suc g o i h (omega arith)) (run_suc g im o (suc i) m h (omega arith))

-- the list of a run is that of its headers
pub payloads_run : (g : Geometry) (im : List ℕ) (o i m : ℕ) → payloads (run_heads g im o i m) ≡ run g im o i m
unfolding run run_heads payloads
payloads_run g im o i zero = refl
payloads_run g im o i (suc m) =
    let hs : List Head = (page_walk g im (turn g o i)).heads in
    payloads_append (presents hs) (run_heads g im o (suc i) m)
    ∙ ap₂ (λ (x y : List (List ℕ)). x ++ y) (payloads_present hs) (payloads_run g im o (suc i) m)

-- where Open pages have no present item, the list is the run from the oldest page to the current one
pub waiting_is : (g : Geometry) (im : List ℕ) (o b : ℕ) → RingShape g im o b → ((p : ℕ) → p < g.pages → state g im p ≡ Open → heads_in g im p ≡ [])
    → waiting g im ≡ run g im o 0 (suc b)
waiting_is g im o b S E = sym (payloads_waiting g im) ∙ ap payloads (waiting_heads_are g im o b S E) ∙ payloads_run g im o 0 (suc b)

pub run_append : (g : Geometry) (im : List ℕ) (o i m k : ℕ) → run g im o i (m + k) ≡ run g im o i m ++ run g im o (i + m) k
run_append g im o i m k =
    sym (payloads_run g im o i (m + k)) ∙ ap payloads (heads_append g im o i m k) ∙ payloads_append (run_heads g im o i m) (run_heads g im o (i + m) k)
    ∙ ap₂ (λ (x y : List (List ℕ)). x ++ y) (payloads_run g im o i m) (payloads_run g im o (i + m) k)

-- there is a list wherever the pages stand in a ring
pub list_there : (g : Geometry) (im : List ℕ) (o b : ℕ) → RingShape g im o b → list_of g im ≡ gives (waiting g im)
unfolding list_of waiting
list_there g im o b S = rw (oldest_is g im o b S, youngest_is g im o b S)
