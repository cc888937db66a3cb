-- The premises of demand 3 can be met: a history with cuts in which they hold; and one that fills a sole page. By computation. Assumes nothing.
use mathlib.Core.Bool.{Bool, true, false, ◌&&◌, not, true≢false}
use mathlib.Core.List.Memᴰ
use mathlib.Core.List.{List, [], ◌∷◌, Memᴰ}
use mathlib.Core.Logic.{⊎_elim}
use mathlib.Core.Path.{◌≡◌, refl, ap, sym, subst, ◌∙◌}
use Prim.Native.Nat.{ℕ, ◌+◌}
use native.Mathlib.Omega.{arith}
use borrow.Author.Tests.{eqb-false, eq-eqb, ltb-true}
use lib.Dec.{eqb, ltb}
use lib.ListN.{length}
use lib.Count.{ones, ones_in}
use Rattle.paper.specs.declared.Geometry.{Geometry}
use Rattle.paper.specs.Poly.{◌⊕◌, times, modulo}
use Rattle.paper.specs.Checksum.{data_crc, length_crc, crc_of, dividend, message, mirror, data_adjusted, length_adjusted, data_poly, length_poly}
use Rattle.paper.specs.Chip.{words_for, round_up, round_down, header_size, page_start, data_start, data_size, data_end, page_of, page_bytes, page_data, part, put, ands, image_by, image_after, store_count, before, words, writes, bind}
use Rattle.paper.specs.Slip.{bytes_of, number_of, encode, blank, decode, look}
use Rattle.paper.specs.Scan.{Head, onward, walk, page_walk, walk_on, free_spot, serves, live, any_live, present, payloads}
use Rattle.paper.specs.Pages.{zero_bits, is_set, start_mark, end_mark, state, set_start, next, around, from, all_pages, first, youngest, oldest}
use Rattle.paper.specs.Refusals.{allowed_word, page_count, rules, geometry_of, judge, check}
use Rattle.paper.specs.Steps.{retry, with_repair}
use Rattle.paper.specs.Push.{too_big, take_page, turn_page, find_spot, spot_on, spot_step, spot_for, item_at, push_at, push}
use Rattle.paper.specs.Search.{read_heads, on_met, read_page, next_item, next_step, start_step, search_on, search, pop}
use Rattle.paper.specs.Calls.{Call, pushes, peeks, pops, fits, spaces, erases_all, plan_of}
use Rattle.paper.specs.Waiting.{waiting_on, list_of, waiting}
use Rattle.paper.specs.Fifo.{Power, whole, cut_after, Counted, slip_of, events_of, image_next, header_plan, header_at, Ghost, kept, refusals, ghost_next, NoneAgain, NoPassing, Bytes, Fair, Erased, Reached, fresh, further}
use Rattle.demand3.specs.Premises.{HistoryCall, image_of, ghost_of, AllFair, lists_of, strip, blank_strip, no_ghost, mishaps, PremisesMet, slate, blank_slate, torn_push, SoleFull}
use Rattle.demand3.proofs.Blank.{and_true}

-- ---- the premises as tests, on a range of one page

counts : Call → Power → Bool
counts (pushes slip false) w = true
counts (pushes slip true) w = false
counts (peeks buf) w = true
counts (pops buf) w = true
counts fits w = true
counts spaces w = true
counts erases_all whole = true
counts erases_all (cut_after k) = false

small : List ℕ → Bool
small [] = true
small (b ∷ bs) = ltb b 256 && small bs

-- an address is not among others
away : ℕ → List ℕ → Bool
away a [] = true
away a (b ∷ bs) = not (eqb a b) && away a bs

-- no header stands at one of the addresses
clear : List Head → List ℕ → Bool
clear [] rs = true
clear (h ∷ hs) rs = away h.place rs && clear hs rs

-- two lists of bytes are the same
alike : List ℕ → List ℕ → Bool
alike [] [] = true
alike [] (y ∷ b) = false
alike (x ∷ a) [] = false
alike (x ∷ a) (y ∷ b) = eqb x y && alike a b

-- at none of the addresses a slip's header reads whole while what stands behind it has the slip's CRC
differs : Geometry → List ℕ → List ℕ → List ℕ → Bool
differs g slip im [] = true
differs g slip im (a ∷ l) =
    not (alike (part a (header_size g) im) (encode g (data_crc slip) (length slip)) && eqb
    (data_crc (part (a + header_size g) (length slip) im)) (data_crc slip))
    && differs g slip im l

stands : Geometry → List ℕ → Call → Power → Bool
stands g im c whole = true
stands g im c (cut_after k) =
    differs g (slip_of c) (image_next g im c (cut_after k)) (header_at g im c (cut_after k) 0)

fairly : Geometry → List ℕ → Ghost → Call → Power → Bool
fairly g im gh c w =
    counts c w && (small (slip_of c)
    && (clear (page_walk g (image_next g im c w) 0).heads (ghost_next g im gh c w).refused_before && stands g im c w))

all_fairly : Geometry → List ℕ → Ghost → List HistoryCall → Bool
all_fairly g im gh [] = true
all_fairly g im gh (s ∷ ss) =
    fairly g im gh s.call s.power
    && all_fairly g (image_next g im s.call s.power) (ghost_next g im gh s.call s.power) ss

-- ---- where a test holds, so does its premise

not_true : (b : Bool) → not b ≡ true → b ≡ false
not_true true e = let z : false ≡ true = e in cc
not_true false e = refl

counts_holds : (c : Call) (w : Power) → counts c w ≡ true → Counted c w
unfolding counts
counts_holds (pushes slip false) w e = tt
counts_holds (pushes slip true) w e = let f : false ≡ true = e in let z : ◌≡◌ {A = ℕ} 0 1 = cc in omega arith
counts_holds (peeks buf) w e = tt
counts_holds (pops buf) w e = tt
counts_holds fits w e = tt
counts_holds spaces w e = tt
counts_holds erases_all whole e = tt
counts_holds erases_all (cut_after k) e = let f : false ≡ true = e in let z : ◌≡◌ {A = ℕ} 0 1 = cc in omega arith

small_holds : (l : List ℕ) → small l ≡ true → Bytes l
unfolding small
small_holds [] e = tt
small_holds (b ∷ bs) e = let p = and_true (ltb b 256) (small bs) e in (ltb-true b 256 p.0, small_holds bs p.1)

away_holds : (a : ℕ) (l : List ℕ) → away a l ≡ true → Memᴰ a l → ⊥
unfolding away
away_holds a [] e m = Memᴰ.not-nil m
away_holds a (b ∷ bs) e m =
    let p = and_true (not (eqb a b)) (away a bs) e in
    ⊎_elim (λ q. eqb-false a b (not_true (eqb a b) p.0) q) (λ k. away_holds a bs p.1 k) (Memᴰ.cases_cons m)

clear_holds : (hs : List Head) (rs : List ℕ) → clear hs rs ≡ true → (h : Head) → Memᴰ h hs → Memᴰ h.place rs → ⊥
unfolding clear
clear_holds [] rs e h m r = Memᴰ.not-nil m
clear_holds (k ∷ hs) rs e h m r =
    let p = and_true (away k.place rs) (clear hs rs) e in
    ⊎_elim (λ q. away_holds h.place rs (ap (λ (x : Head). away x.place rs) q ∙ p.0) r) (λ n. clear_holds hs rs p.1 h n r)
    (Memᴰ.cases_cons m)

alike_same : (a : List ℕ) → alike a a ≡ true
unfolding alike
alike_same [] = refl
alike_same (x ∷ a) = rw (eq-eqb x x refl, alike_same a)

differs_holds :
    (g : Geometry) (slip im l : List ℕ) → differs g slip im l ≡ true → (a : ℕ) → Memᴰ a l
    → part a (header_size g) im ≡ encode g (data_crc slip) (length slip)
    → data_crc (part (a + header_size g) (length slip) im) ≡ data_crc slip → ⊥
unfolding differs
differs_holds g slip im [] e a m whole-header same = Memᴰ.not-nil m
differs_holds g slip im (b ∷ l) e a m whole-header same =
    let header = encode g (data_crc slip) (length slip) in
    let crc : ℕ → ℕ = λ x. data_crc (part (x + header_size g) (length slip) im) in
    let test : ℕ → Bool = λ x. alike (part x (header_size g) im) header && eqb (crc x) (data_crc slip) in
    let p = and_true (not (test b)) (differs g slip im l) e in
    let met : test a ≡ true = rw (whole-header, alike_same header, eq-eqb (crc a) (data_crc slip) same) in
    ⊎_elim (λ q. true≢false (sym met ∙ ap test q ∙ not_true (test b) p.0)) (λ n. differs_holds g slip im l p.1 a n whole-header same)
    (Memᴰ.cases_cons m)

stands_holds : (g : Geometry) (im : List ℕ) (c : Call) (w : Power) → stands g im c w ≡ true → NoPassing g im c w
unfolding stands
stands_holds g im c whole e = tt
stands_holds g im c (cut_after k) e = λ a m h same.
    absurd (differs_holds g (slip_of c) (image_next g im c (cut_after k)) (header_at g im c (cut_after k) 0) e a m h same)

-- the sole page is page 0
sole_page : (g : Geometry) (im : List ℕ) (gh : Ghost) → g.pages ≡ 1 → clear (page_walk g im 0).heads gh.refused_before ≡ true → NoneAgain g im gh
sole_page g im gh one e p hp h m =
    let zero-page : p ≡ 0 = omega arith in
    clear_holds (page_walk g im 0).heads gh.refused_before e h (subst (λ (q : ℕ). Memᴰ h (page_walk g im q).heads) zero-page m)

fairly_holds : (g : Geometry) (im : List ℕ) (gh : Ghost) (c : Call) (w : Power) → g.pages ≡ 1 → fairly g im gh c w ≡ true → Fair g im gh c w
unfolding fairly
fairly_holds g im gh c w one e =
    let after = image_next g im c w in
    let gone = ghost_next g im gh c w in
    let none = clear (page_walk g after 0).heads gone.refused_before in
    let p = and_true (counts c w) (small (slip_of c) && (none && stands g im c w)) e in
    let q = and_true (small (slip_of c)) (none && stands g im c w) p.1 in
    let r = and_true none (stands g im c w) q.1 in
    record {
      counted = counts_holds c w p.0;
      slip = small_holds (slip_of c) q.0;
      none_again = λ narrow. sole_page g after gone one r.0;
      no_passing = stands_holds g im c w r.1;
    }

all_fairly_holds :
    (g : Geometry) (im : List ℕ) (gh : Ghost) (ss : List HistoryCall) → g.pages ≡ 1 → all_fairly g im gh ss ≡ true → AllFair g im gh ss
unfolding all_fairly
all_fairly_holds g im gh [] one e = tt
all_fairly_holds g im gh (s ∷ ss) one e =
    let after = image_next g im s.call s.power in
    let gone = ghost_next g im gh s.call s.power in
    let p = and_true (fairly g im gh s.call s.power) (all_fairly g after gone ss) e in
    (fairly_holds g im gh s.call s.power one p.0, all_fairly_holds g after gone ss one p.1)

-- a fair history leads from a reached image to one
leads : (g : Geometry) (im : List ℕ) (gh : Ghost) (ss : List HistoryCall) → Reached g im gh → AllFair g im gh ss
    → Reached g (image_of g im ss) (ghost_of g im gh ss)
unfolding image_of ghost_of
leads g im gh [] r f = r
leads g im gh (s ∷ ss) r f =
    leads g (image_next g im s.call s.power) (ghost_next g im gh s.call s.power) ss (further s.call s.power r f.0) f.1

-- ---- the history

all_blank : Erased strip blank_strip
unfolding strip blank_strip page_bytes page_start
all_blank p hp = let zero-page : p ≡ 0 = omega arith in rw zero-page

pub premises_met : PremisesMet
unfolding strip blank_strip mishaps image_of ghost_of lists_of read_heads on_met read_page next_item next_step start_step search_on search pop
    header_plan header_at kept refusals ghost_next ones ones_in ◌⊕◌ times modulo data_crc length_crc crc_of dividend message mirror data_adjusted
    length_adjusted data_poly length_poly words_for round_up round_down header_size page_start data_start data_size data_end page_of page_bytes page_data
    put ands image_by image_after store_count before words writes bind bytes_of number_of encode blank decode look onward walk page_walk walk_on
    free_spot serves live any_live present payloads zero_bits is_set start_mark end_mark state set_start next around from all_pages first youngest
    oldest retry with_repair too_big find_spot spot_on spot_step spot_for item_at push_at push allowed_word page_count rules geometry_of judge check
    waiting_on list_of waiting plan_of events_of image_next all_fairly fairly counts small clear away stands differs alike
premises_met =
    let fair = all_fairly_holds strip blank_strip no_ghost mishaps refl refl in
    record {
      accepted = refl;
      erased = all_blank;
      fair = fair;
      reached = leads strip blank_strip no_ghost mishaps (fresh (record { start = 0; end = 48; page = 48; word = 4 }) refl all_blank) fair;
      lists = refl;
      ghosts = refl;
      torn = refl;
    }

-- ---- the page that a torn slip fills

slate_blank : Erased slate blank_slate
unfolding slate blank_slate page_bytes page_start
slate_blank p hp = let zero-page : p ≡ 0 = omega arith in rw zero-page

pub sole_full : SoleFull
unfolding slate blank_slate torn_push image_of ghost_of header_plan header_at kept refusals ghost_next ones ones_in ◌⊕◌ times modulo data_crc length_crc
    crc_of dividend message mirror data_adjusted length_adjusted data_poly length_poly words_for round_up round_down header_size page_start data_start
    data_size data_end page_bytes page_data put ands image_by image_after store_count before words writes bind bytes_of number_of encode blank decode
    look onward walk page_walk free_spot serves live any_live present payloads zero_bits is_set start_mark end_mark state set_start next around from
    all_pages first youngest oldest retry with_repair too_big take_page turn_page find_spot spot_on spot_step spot_for item_at push_at push allowed_word
    page_count rules geometry_of judge check waiting_on list_of waiting plan_of events_of image_next all_fairly fairly counts small clear
    away stands differs alike
sole_full =
    let fair = all_fairly_holds slate blank_slate no_ghost torn_push refl refl in
    record {
      accepted = refl;
      reached = leads slate blank_slate no_ghost torn_push (fresh (record { start = 0; end = 20; page = 20; word = 4 }) refl slate_blank) fair;
      none = refl;
      is_refused = refl;
    }
