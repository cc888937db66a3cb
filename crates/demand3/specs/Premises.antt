-- Both premises of demand 3 are needed: a history without each of them, in which the list is not what the calls say. And they can be met:
-- a history with cuts in which all that is assumed holds. And on one page a torn slip can fill the page. Assumes nothing.
use Rattle.std.specs.Prelude.{◌≡◌, false, List, [], ◌∷◌, ℕ, take, replicate, Ok}
use Rattle.paper.specs.declared.Geometry.{Geometry}
use Rattle.paper.specs.declared.Refusal.TheVariants as refusal
use Rattle.paper.specs.Refusals.{check, done, refused}
use Rattle.paper.specs.Calls.{Call, pushes, pops, plan_of}
use Rattle.paper.specs.Waiting.{waiting}
use Rattle.paper.specs.Fifo.{Power, whole, cut_after, image_next, header_at, Ghost, ghost_next, Fair, Erased, Reached}

-- one erased page of 32 bytes, with words of 4
unfoldable pub sheet : Geometry
sheet = record { start = 0; page = 32; word = 4; pages = 1 }

unfoldable pub blank_sheet : List ℕ
blank_sheet = replicate 32 0xff

-- a push of nothing, cut when the mark and half the header are stored
unfoldable pub half_header : List ℕ
half_header = image_next sheet blank_sheet (pushes [] false) (cut_after 2)

-- a slip whose header makes a header of the half that stands before it
unfoldable pub unlucky : List ℕ
unlucky = 0xb3 ∷ 0x4d ∷ 0xba ∷ 0xed ∷ []

-- a slip of two words, of which the first and FF have its CRC
unfoldable pub ambiguous : List ℕ
ambiguous = 0x64 ∷ 0x04 ∷ 0x00 ∷ 0x00 ∷ 0x0e ∷ 0x89 ∷ 0x13 ∷ 0xfa ∷ []

pub record PremisesNeeded : Type 0 where
  -- the page's shape is one that the check accepts
  pub accepted : check 32 (record { start = 0; end = 32; page = 32; word = 4 }) ≡ Ok sheet
  -- the push is done, and its slip is not on the list: the scan accepts an address that it refused before
  pub said : (plan_of sheet half_header (pushes unlucky false)).answer ≡ done
  pub lost : waiting sheet (image_next sheet half_header (pushes unlucky false) whole) ≡ []
  -- the push is cut, and another slip than its own is on the list: a cut payload passes
  pub altered : waiting sheet (image_next sheet blank_sheet (pushes ambiguous false) (cut_after 4)) ≡ (0x64 ∷ 0x04 ∷ 0x00 ∷ 0x00 ∷ 0xff ∷ 0xff ∷ 0xff ∷ 0xff ∷ []) ∷ []

-- ---- a history with cuts that meets them

-- a call of a history, whole or cut
pub record HistoryCall : Type 0 where
  pub call : Call
  pub power : Power

-- what a history leaves: the image and the ghosts
unfoldable pub image_of : Geometry → List ℕ → List HistoryCall → List ℕ
image_of g im [] = im
image_of g im (s ∷ ss) = image_of g (image_next g im s.call s.power) ss

unfoldable pub ghost_of : Geometry → List ℕ → Ghost → List HistoryCall → Ghost
ghost_of g im gh [] = gh
ghost_of g im gh (s ∷ ss) = ghost_of g (image_next g im s.call s.power) (ghost_next g im gh s.call s.power) ss

-- all that demand 3 assumes of a call holds of every call of a history
abbrev pub AllFair : Geometry → List ℕ → Ghost → List HistoryCall → Type 0
AllFair g im gh [] = Unit {0}
AllFair g im gh (s ∷ ss) =
    Fair g im gh s.call s.power × AllFair g (image_next g im s.call s.power) (ghost_next g im gh s.call s.power) ss

-- the list after each call
unfoldable pub lists_of : Geometry → List ℕ → List HistoryCall → List (List (List ℕ))
lists_of g im [] = []
lists_of g im (s ∷ ss) = let after = image_next g im s.call s.power in waiting g after ∷ lists_of g after ss

-- one erased page of 48 bytes, with words of 4
unfoldable pub strip : Geometry
strip = record { start = 0; page = 48; word = 4; pages = 1 }

unfoldable pub blank_strip : List ℕ
blank_strip = replicate 48 0xff

abbrev pub no_ghost : Ghost
no_ghost = record { begun = []; refused_before = [] }

-- a push; a push cut within its header; a push cut when its header is whole and nothing of its payload is stored; a push; a pop cut
-- between its two stores
unfoldable pub mishaps : List HistoryCall
mishaps =
    record { call = pushes (1 ∷ []) false; power = whole } ∷
    record { call = pushes [] false; power = cut_after 1 } ∷
    record { call = pushes (2 ∷ []) false; power = cut_after 2 } ∷
    record { call = pushes (3 ∷ []) false; power = whole } ∷
    record { call = pops (replicate 4 0); power = cut_after 1 } ∷ []

pub record PremisesMet : Type 0 where
  -- the range is one that a history may begin with, and every premise holds of every call
  pub accepted : check 48 (record { start = 0; end = 48; page = 48; word = 4 }) ≡ Ok strip
  pub erased : Erased strip blank_strip
  pub fair : AllFair strip blank_strip no_ghost mishaps
  -- so that demand 3 speaks of what this history leaves
  pub reached : Reached strip (image_of strip blank_strip mishaps) (ghost_of strip blank_strip no_ghost mishaps)
  -- the lists: the slip of a cut push is on none, and the cut pop has taken the first
  pub lists :
      lists_of strip blank_strip mishaps
      ≡ ((1 ∷ []) ∷ []) ∷ ((1 ∷ []) ∷ []) ∷ ((1 ∷ []) ∷ []) ∷ ((1 ∷ []) ∷ (3 ∷ []) ∷ []) ∷ ((3 ∷ []) ∷ []) ∷ []
  -- neither premise is idle: the scan refused address 16 in three images, and a push was cut with its header whole, at address 20
  pub ghosts : ghost_of strip blank_strip no_ghost mishaps ≡ record { begun = 32 ∷ 20 ∷ 16 ∷ 4 ∷ []; refused_before = 16 ∷ 16 ∷ 16 ∷ [] }
  pub torn : header_at strip (image_of strip blank_strip (take 2 mishaps)) (pushes (2 ∷ []) false) (cut_after 2) 1 ≡ 20 ∷ []

-- ---- a page that a torn slip fills

-- one erased page of 20 bytes, with words of 4: a mark, a header, a slip of 4 bytes, a mark
unfoldable pub slate : Geometry
slate = record { start = 0; page = 20; word = 4; pages = 1 }

unfoldable pub blank_slate : List ℕ
blank_slate = replicate 20 0xff

-- a push cut when its header is whole and nothing of its payload is stored
unfoldable pub torn_push : List HistoryCall
torn_push = record { call = pushes (1 ∷ 2 ∷ 3 ∷ 4 ∷ []) false; power = cut_after 3 } ∷ []

abbrev pub filled_slate : List ℕ
filled_slate = image_of slate blank_slate torn_push

-- on one page `Room.peek_frees` and `pop_frees` do not hold: nothing waits, and a push of nothing is refused
pub record SoleFull : Type 0 where
  pub accepted : check 20 (record { start = 0; end = 20; page = 20; word = 4 }) ≡ Ok slate
  pub reached : Reached slate filled_slate (ghost_of slate blank_slate no_ghost torn_push)
  pub none : waiting slate filled_slate ≡ []
  pub is_refused : (plan_of slate filled_slate (pushes [] false)).answer ≡ refused refusal.FullStorage
