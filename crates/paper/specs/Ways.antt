-- The way of a search: the headers that peek and pop meet, from the oldest page on, and the first that they do not go past. Assumes nothing.
use Rattle.std.specs.Prelude.{◌≡◌, true, false, cond, ◌||◌, List, [], ◌∷◌, ◌++◌, ◌⊎◌, ℕ, ◌≤◌, ◌<◌, eqb}
use Rattle.paper.specs.Chip.{Geometry, round_up, image_after, Try, fails, gives}
use Rattle.paper.specs.Scan.{Head, page_walk, live, present}
use Rattle.paper.specs.Pages.{Open, Corrupted, state, same, next, from, oldest, repair}

-- every one of a list is so
abbrev pub Each : {A : Type 0} → (A → Type 0) → List A → Type 0
Each P [] = Unit {0}
Each P (x ∷ xs) = P x × Each P xs

-- the image after a repair
abbrev pub repaired : Geometry → List ℕ → List ℕ
repaired g im = image_after g (repair g im) im

-- a step failed
pub data Fails {W A : Type 0} : Try W A → Type 0 where
  failed : {w : W} → Fails (fails w)

-- the headers on the way of a search over pages, from the oldest on: it ends before a page that is Open or Corrupted, and before the oldest
unfoldable pub on_the_way : Geometry → List ℕ → ℕ → List ℕ → List Head
on_the_way g im old [] = []
on_the_way g im old (p ∷ ps) =
    let later = on_the_way g im old ps in
    let s = state g im (next g p) in
    (page_walk g im p).heads ++ cond (same s Open || same s Corrupted || eqb (next g p) old) [] later

-- a header that a search with a buffer of n bytes goes past: popped; or torn, and the buffer takes it
abbrev pub Passed : Geometry → ℕ → Head → Type 0
Passed g n h = (live h ≡ false) ⊎ ((present h ≡ false) × (round_up g.word h.len ≤ n))

-- the first header of a list that a search does not go past
pub record Stops (g : Geometry) (n : ℕ) (hs : List Head) (h : Head) : Type 0 where
  pub front : List Head
  pub rest : List Head
  pub all : hs ≡ front ++ (h ∷ rest)
  pub passed : Each (Passed g n) front

-- it is live, and too long for the buffer: k is its rounded length
pub record TooLong (g : Geometry) (n : ℕ) (hs : List Head) (k : ℕ) : Type 0 where
  pub head : Head
  pub stops : Stops g n hs head
  pub alive : live head ≡ true
  pub is : k ≡ round_up g.word head.len
  pub over : n < k

-- it is present, and the buffer takes it: k is its length
pub record Seen (g : Geometry) (n : ℕ) (hs : List Head) (k : ℕ) : Type 0 where
  pub head : Head
  pub stops : Stops g n hs head
  pub whole : present head ≡ true
  pub is : k ≡ head.len
  pub fits : round_up g.word head.len ≤ n

-- where the search goes: the oldest page is found at once, or after a repair
pub data Way (g : Geometry) (im : List ℕ) : List Head → Type 0 where
  direct : {old : ℕ} → oldest g im ≡ gives old → Way g im (on_the_way g im old (from g old))
  mended : {old : ℕ} → Fails (oldest g im) → oldest g (repaired g im) ≡ gives old → Way g im (on_the_way g (repaired g im) old (from g old))
