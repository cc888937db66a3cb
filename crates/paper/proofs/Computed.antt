-- Document 01's cases marked P and the examples, proved together by computation. Assumes nothing.
use mathlib.Core.Path.{◌≡◌, refl}
use mathlib.Core.Bool.{true}
use lib.Count.{ones, ones_in}
use Rattle.paper.specs.Poly.{◌⊕◌, times, modulo}
use Rattle.paper.specs.Checksum.{data_crc, length_crc, crc_of, dividend, message, mirror, data_adjusted, length_adjusted, data_poly, length_poly}
use Rattle.paper.specs.Chip.{words_for, round_up, round_down, header_size, page_start, data_start, data_size, data_end, page_of, page_bytes, page_data, put, ands, image_by, image_after, store_count, before, words, writes, erase_page, bind, buffer_by, buffer_after}
use Rattle.paper.specs.Slip.{bytes_of, number_of, encode, blank, decode, look}
use Rattle.paper.specs.Scan.{onward, walk, page_walk, walk_on, free_spot, serves, live, any_live, present, payloads}
use Rattle.paper.specs.Pages.{zero_bits, is_set, start_mark, end_mark, state, set_start, set_end, next, around, from, all_pages, first, youngest, oldest, repairs, repair}
use Rattle.paper.specs.Refusals.{allowed_word, page_count, rules, geometry_of, judge, check, row, numbers}
use Rattle.paper.specs.Steps.{retry, with_repair}
use Rattle.paper.specs.Push.{too_big, take_page, turn_page, find_spot, spot_on, spot_step, spot_for, item_at, push_at, push}
use Rattle.paper.specs.Search.{read_heads, on_met, read_page, leave_page, next_item, next_step, start_step, search_on, search, peek, pop}
use Rattle.paper.specs.Counts.{counted, longest, fit_by, fit, find_max_fit, space_by, space_of, space, space_left}
use Rattle.paper.specs.Calls.{erases, erase_all, limited}
use Rattle.paper.specs.Waiting.{waiting_on, list_of, waiting}
use Rattle.paper.specs.Cases as cases
use Rattle.paper.specs.Examples as examples

pub computed : (cases.passes cases.table ≡ true) × (cases.passes examples.table ≡ true)
unfolding cases.small cases.erased cases.leaves cases.pushed cases.dropped cases.three cases.torn cases.says cases.tells cases.checks
    cases.one_page cases.table cases.agree cases.passes examples.tiny examples.blanks examples.leaves examples.pushing examples.popping
    examples.places examples.page examples.torn_page examples.large examples.behind_junk examples.five examples.wide examples.scratched
    examples.middle_closed examples.middle_partial examples.last_corrupted examples.one_per_page examples.first_popped examples.joined
    examples.checked examples.table ◌⊕◌ times modulo data_crc length_crc crc_of dividend message mirror data_adjusted length_adjusted data_poly
    length_poly words_for round_up round_down header_size page_start data_start data_size data_end page_of page_bytes page_data put ands image_by
    image_after store_count before words writes erase_page bind bytes_of number_of encode blank decode look onward walk page_walk walk_on free_spot
    serves live any_live present payloads ones ones_in zero_bits is_set start_mark end_mark state set_start set_end next around from all_pages first
    youngest oldest repairs repair allowed_word page_count rules geometry_of judge check row numbers retry with_repair too_big take_page turn_page
    find_spot spot_on spot_step spot_for item_at push_at push read_heads on_met read_page leave_page next_item next_step start_step search_on search peek
    pop counted longest fit_by fit find_max_fit space_by space_of space space_left erases erase_all limited waiting_on list_of waiting buffer_by buffer_after
computed = (refl, refl)
