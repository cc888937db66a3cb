-- Examples beyond document 01's P cases, each against a reading that looks right and is wrong, in one table; proofs/Computed.antt proves
-- them together, by computation. Assumes nothing.
use Rattle.std.specs.Prelude.{false, List, [], ◌∷◌, ◌++◌, ℕ, ◌+◌, length, replicate}
use Rattle.paper.specs.Checksum.{crc_of, data_poly}
use Rattle.paper.specs.Chip.{Geometry, Event, store, erase, copy, image_after, buffer_after, Plan, Try, fails, gives}
use Rattle.paper.specs.Scan.{free_spot}
use Rattle.paper.specs.Pages.{rank, state, set_start, set_end, youngest, oldest}
use Rattle.paper.specs.Refusals.{check, Answer}
use Rattle.paper.specs.Push.{push}
use Rattle.paper.specs.Search.{peek, pop}
use Rattle.paper.specs.Counts.{find_max_fit, space_left}
use Rattle.paper.specs.Calls.{limited}
use Rattle.paper.specs.Waiting.{waiting}
use Rattle.paper.specs.Cases.{Case, expect, says, checks}

-- n pages of 20 bytes, with words of 4: each holds one slip of at most 4 bytes
unfoldable pub tiny : ℕ → Geometry
tiny n = record { start = 0; page = 20; word = 4; pages = n }

unfoldable pub blanks : ℕ → List ℕ
blanks n = replicate n 0xff

-- the image that a call leaves on tiny pages; that a slip pushed, or a pop, leaves
unfoldable pub leaves : ℕ → Plan Answer → List ℕ → List ℕ
leaves n p im = image_after (tiny n) p.events im

unfoldable pub pushing : ℕ → List ℕ → List ℕ → List ℕ
pushing n slip im = leaves n (push (tiny n) im slip false) im

unfoldable pub popping : ℕ → List ℕ → List ℕ
popping n im = leaves n (pop (tiny n) im 4) im

-- where a call's stores go: an address, or 1000 and a page that is erased
unfoldable pub places : List Event → List ℕ
places [] = []
places (store a word ∷ es) = a ∷ places es
places (erase p ∷ es) = (1000 + p) ∷ places es
places (copy a n ∷ es) = places es

unfoldable pub page : Try Unit ℕ → List ℕ
page (fails u) = []
page (gives p) = p ∷ []

-- a push of four bytes onto one page, cut after its mark and its header: the page holds a torn slip and is full
unfoldable pub torn_page : List ℕ
torn_page = leaves 1 (limited 3 (push (tiny 1) (blanks 20) (1 ∷ 2 ∷ 3 ∷ 4 ∷ []) false)) (blanks 20)

-- one page of 32: a push that was cut after its first header word, and then a whole one behind it
unfoldable pub large : Geometry
large = record { start = 0; page = 32; word = 4; pages = 1 }

unfoldable pub behind_junk : List ℕ
behind_junk =
    let im = image_after large (limited 2 (push large (blanks 32) [] false)).events (blanks 32) in
    image_after large (push large im [] false).events im

-- one page of 32 with a slip of five bytes
unfoldable pub five : List ℕ
five = image_after large (push large (blanks 32) (1 ∷ 2 ∷ 3 ∷ 4 ∷ 5 ∷ []) false).events (blanks 32)

-- words of 16: a page whose first header's place is FF but for one byte of the padding
unfoldable pub wide : Geometry
wide = record { start = 0; page = 64; word = 16; pages = 1 }

unfoldable pub scratched : List ℕ
scratched = blanks 24 ++ (0 ∷ blanks 39)

-- three pages, the middle one Closed
unfoldable pub middle_closed : List ℕ
middle_closed = image_after (tiny 3) (set_start (tiny 3) 1 ∷ set_end (tiny 3) 1 ∷ []) (blanks 60)

-- three pages, the middle one PartialOpen, the others Closed
unfoldable pub middle_partial : List ℕ
middle_partial =
    image_after (tiny 3) (set_start (tiny 3) 0 ∷ set_end (tiny 3) 0 ∷ set_start (tiny 3) 1 ∷ set_start (tiny 3) 2 ∷ set_end (tiny 3) 2 ∷ []) (blanks 60)

-- two pages, the last one Corrupted
unfoldable pub last_corrupted : List ℕ
last_corrupted = image_after (tiny 2) (set_end (tiny 2) 1 ∷ []) (blanks 40)

-- two pages, a slip on each; and the first slip popped
unfoldable pub one_per_page : List ℕ
one_per_page = pushing 2 (2 ∷ []) (pushing 2 (1 ∷ []) (blanks 40))

unfoldable pub first_popped : List ℕ
first_popped = popping 2 one_per_page

unfoldable pub joined : List (List ℕ) → List ℕ
joined [] = []
joined (s ∷ ss) = s ++ joined ss

-- the check of a range from a to b, with pages of p bytes and words of w, in an image of n bytes
unfoldable pub checked : ℕ → ℕ → ℕ → ℕ → ℕ → List ℕ
checked n a b p w = checks (check n (record { start = a; end = b; page = p; word = w }))

unfoldable pub table : List Case
table =
    -- the published check value of CRC-32C
    expect (crc_of 32 data_poly 0xffff_ffff (0x31 ∷ 0x32 ∷ 0x33 ∷ 0x34 ∷ 0x35 ∷ 0x36 ∷ 0x37 ∷ 0x38 ∷ 0x39 ∷ []) ∷ []) (0xe306_9283 ∷ []) ∷
    -- a torn slip is live: it fills the page, waits for nobody, and is copied all the same
    expect (says (push (tiny 1) torn_page [] false) ++ (length (waiting (tiny 1) torn_page) ∷ says (peek (tiny 1) torn_page 4))) (3 ∷ 0 ∷ 1 ∷ []) ∷
    expect (says (peek (tiny 1) torn_page 3)) (4 ∷ 4 ∷ []) ∷
    expect (buffer_after (tiny 1) (peek (tiny 1) torn_page 5).events torn_page (7 ∷ 7 ∷ 7 ∷ 7 ∷ 7 ∷ [])) (0xff ∷ 0xff ∷ 0xff ∷ 0xff ∷ 7 ∷ []) ∷
    -- a bad header is passed by one word only
    expect (length (waiting large behind_junk) ∷ free_spot large behind_junk 0 ∷ []) (1 ∷ 16 ∷ []) ∷
    -- a buffer is refused by the rounded length
    expect (says (peek large five 7) ++ says (peek large five 8)) (4 ∷ 8 ∷ 0 ∷ 5 ∷ []) ∷
    -- a header's padding counts: the word is not free
    expect (free_spot wide scratched 0 ∷ []) (32 ∷ []) ∷
    -- four zero bits set a mark, three do not
    expect (rank (state (tiny 1) (0xf0 ∷ blanks 19) 0) ∷ rank (state (tiny 1) (0x1f ∷ blanks 19) 0) ∷ []) (1 ∷ 0 ∷ []) ∷
    -- youngest is looked for from the Closed page on, oldest from the youngest
    expect (page (youngest (tiny 3) middle_closed) ++ page (oldest (tiny 3) middle_closed)) (2 ∷ 1 ∷ []) ∷
    expect (page (youngest (tiny 3) middle_partial) ++ page (oldest (tiny 3) middle_partial)) (1 ∷ 2 ∷ []) ∷
    -- the list goes from the oldest page on
    expect (joined (waiting (tiny 2) one_per_page)) (1 ∷ 2 ∷ []) ∷
    -- a Corrupted page is erased, and the push goes on
    expect (places (push (tiny 2) last_corrupted [] false).events) (1001 ∷ 0 ∷ 4 ∷ 8 ∷ []) ∷
    -- pop stores the whole header again; peek erases a page that has nothing left; push erases, closes, marks, in this order
    expect (places (pop (tiny 2) (pushing 2 (1 ∷ []) (blanks 40)) 4).events) (4 ∷ 8 ∷ []) ∷
    expect (places (peek (tiny 2) first_popped 4).events ++ says (peek (tiny 2) first_popped 4)) (1000 ∷ 0 ∷ 1 ∷ []) ∷
    expect (places (push (tiny 2) first_popped [] false).events) (1000 ∷ 36 ∷ 0 ∷ 4 ∷ 8 ∷ []) ∷
    -- onto an Open page: the current page is closed, then the next one marked, then header, then payload
    expect (places (push (tiny 2) (pushing 2 (1 ∷ []) (blanks 40)) (2 ∷ []) false).events) (16 ∷ 20 ∷ 24 ∷ 28 ∷ 32 ∷ []) ∷
    -- each row of the check, with later rows broken too where they can be
    expect (checked 0 16 40 32 5 ++ (checked 0 16 40 32 4 ++ (checked 0 32 40 32 4 ++ (checked 0 64 32 32 4 ++ checked 0 0 192 192 64)))) (9 ∷ 10 ∷ 11 ∷ 12 ∷ 13 ∷ []) ∷
    expect (checked 0 0 65600 65600 64 ++ (checked 0 0 65538 65538 6 ++ (checked 0 0 65540 65540 4 ++ (checked 0 0 5140 20 4 ++ checked 5119 0 5120 20 4)))) (14 ∷ 15 ∷ 16 ∷ 16 ∷ 17 ∷ []) ∷
    -- the largest page, the most pages, and both at the top of the addresses
    expect (checked 65536 0 65536 65536 4 ++ (checked 5120 0 5120 20 4 ++ checked 0xffff_0000 0xfeff_0000 0xffff_0000 65536 4)) (0 ∷ 0 ∷ 0 ∷ []) ∷
    -- find_max_fit on a single page after a push; space_left over two pages
    expect (says (find_max_fit large five)) (5 ∷ []) ∷
    expect (says (space_left (tiny 2) first_popped)) (0 ∷ 12 ∷ []) ∷ []
