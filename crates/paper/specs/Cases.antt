-- Document 01's cases marked P, in one table; proofs/Computed.antt proves them together, by computation. Assumes nothing.
use Rattle.std.specs.Prelude.{Bool, true, false, ◌&&◌, List, [], ◌∷◌, ◌++◌, map, ℕ, eqb, length, replicate, Result, Ok, Err}
use Rattle.paper.specs.declared.Refusal.{Refusal}
use Rattle.paper.specs.Checksum.{data_crc, length_crc, data_adjusted, length_adjusted}
use Rattle.paper.specs.Chip.{Geometry, image_after, store_count, Plan}
use Rattle.paper.specs.Slip.{bytes_of}
use Rattle.paper.specs.Scan.{free_spot}
use Rattle.paper.specs.Refusals.{check, Answer, row, numbers}
use Rattle.paper.specs.Push.{push}
use Rattle.paper.specs.Search.{pop}
use Rattle.paper.specs.Counts.{find_max_fit, space_left}
use Rattle.paper.specs.Calls.{limited}
use Rattle.paper.specs.Waiting.{waiting}

pub record Case : Type 0 where
  pub computed : List ℕ
  pub expected : List ℕ

abbrev pub expect : List ℕ → List ℕ → Case
expect computed expected = record { computed = computed; expected = expected }

-- "Page 32, word 4, one erased page"
unfoldable pub small : Geometry
small = record { start = 0; page = 32; word = 4; pages = 1 }

unfoldable pub erased : List ℕ
erased = replicate 32 0xff

-- the image that a call leaves; that a push of the empty slip leaves, or a pop
unfoldable pub leaves : Plan Answer → List ℕ → List ℕ
leaves p im = image_after small p.events im

unfoldable pub pushed : List ℕ → List ℕ
pushed im = leaves (push small im [] false) im

unfoldable pub dropped : List ℕ → List ℕ
dropped im = leaves (pop small im 0) im

unfoldable pub three : List ℕ
three = pushed (pushed (pushed erased))

-- the image that a push of the empty slip leaves when it is cut after two stores
unfoldable pub torn : List ℕ
torn = leaves (limited 2 (push small erased [] false)) erased

-- an answer by its numbers; a call's number of stores, and its answer
unfoldable pub says : Plan Answer → List ℕ
says p = numbers p.answer

unfoldable pub tells : Plan Answer → List ℕ
tells p = store_count p.events ∷ says p

-- the check of one page of n bytes, with words of w, from 0 on
unfoldable pub checks : Result Geometry Refusal → List ℕ
checks (Ok g) = 0 ∷ []
checks (Err r) = row r

unfoldable pub one_page : ℕ → ℕ → List ℕ
one_page n w = checks (check n (record { start = 0; end = n; page = n; word = w }))

unfoldable pub table : List Case
table =
    -- final length CRC 0xFFFF gives 0xFFFE
    expect (length_adjusted 0xffff ∷ []) (0xfffe ∷ []) ∷
    -- raw data CRC 0 gives 1; 0x12345600 gives 0x12345601; 0x123456FF gives 0x123456FE; 0x12345678 stays
    expect (map data_adjusted (0 ∷ 0x12345600 ∷ 0x123456ff ∷ 0x12345678 ∷ [])) (1 ∷ 0x12345601 ∷ 0x123456fe ∷ 0x12345678 ∷ []) ∷
    -- empty slip: data CRC 0x11111111, length CRC 0xE203
    expect (data_crc [] ∷ length_crc (bytes_of 2 0) ∷ []) (0x11111111 ∷ 0xe203 ∷ []) ∷
    -- the page after pushing it; after pop the 11s are 00
    expect (pushed erased) (0 ∷ 0 ∷ 0 ∷ 0 ∷ 0x11 ∷ 0x11 ∷ 0x11 ∷ 0x11 ∷ 0 ∷ 0 ∷ 0x03 ∷ 0xe2 ∷ replicate 20 0xff) ∷
    expect (dropped (pushed erased)) (0 ∷ 0 ∷ 0 ∷ 0 ∷ 0 ∷ 0 ∷ 0 ∷ 0 ∷ 0 ∷ 0 ∷ 0x03 ∷ 0xe2 ∷ replicate 20 0xff) ∷
    -- that push makes 3 stores. Limit 2: cut, list empty, free spot at 8. Limit 3: done
    expect (tells (push small erased [] false)) (3 ∷ 0 ∷ []) ∷
    expect (says (limited 2 (push small erased [] false))) (7 ∷ []) ∷
    expect (length (waiting small torn) ∷ free_spot small torn 0 ∷ []) (0 ∷ 8 ∷ []) ∷
    expect (says (limited 3 (push small erased [] false))) (0 ∷ []) ∷
    -- 16 bytes accepted, 17 gives 2
    expect (says (push small erased (replicate 16 7) false)) (0 ∷ []) ∷
    expect (says (push small erased (replicate 17 7) false)) (2 ∷ []) ∷
    -- three empty slips fill the page; a fourth gives 3, also after one pop. After three pops pushing another makes 4 stores and is done
    expect (says (push small (pushed (pushed erased)) [] false)) (0 ∷ []) ∷
    expect (says (push small three [] false)) (3 ∷ []) ∷
    expect (says (push small (dropped three) [] false)) (3 ∷ []) ∷
    expect (tells (push small (dropped (dropped (dropped three))) [] false)) (4 ∷ 0 ∷ []) ∷
    -- word 4, page 16 gives 13; page 20 is accepted. Word 32: 128 accepted, 96 gives 13
    expect (one_page 16 4 ++ (one_page 20 4 ++ (one_page 128 32 ++ one_page 96 32))) (13 ∷ 0 ∷ 0 ∷ 13 ∷ []) ∷
    -- find_max_fit on an erased page says 24; space_left: 24 erased, 16 after one empty slip
    expect (says (find_max_fit small erased)) (0 ∷ 24 ∷ []) ∷
    expect (says (space_left small erased) ++ says (space_left small (pushed erased))) (0 ∷ 24 ∷ 0 ∷ 16 ∷ []) ∷ []

unfoldable pub agree : List ℕ → List ℕ → Bool
agree [] [] = true
agree [] (y ∷ ys) = false
agree (x ∷ xs) [] = false
agree (x ∷ xs) (y ∷ ys) = eqb x y && agree xs ys

unfoldable pub passes : List Case → Bool
passes [] = true
passes (c ∷ cs) = agree c.computed c.expected && passes cs
