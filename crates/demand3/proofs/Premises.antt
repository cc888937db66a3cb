-- Both premises of demand 3 are needed: the two histories, by computation. Assumes nothing.
use mathlib.Core.Path.{refl}
use lib.Count.{ones, ones_in}
use Rattle.paper.specs.Poly.{◌⊕◌, times, modulo}
use Rattle.paper.specs.Checksum.{data_crc, length_crc, crc_of, dividend, message, mirror, data_adjusted, length_adjusted, data_poly, length_poly}
use Rattle.paper.specs.Chip.{words_for, round_up, round_down, header_size, page_start, data_start, data_size, data_end, page_bytes, page_data, put, ands, image_by, image_after, store_count, before, words, writes, erase_page, bind}
use Rattle.paper.specs.Slip.{bytes_of, number_of, encode, blank, decode, look}
use Rattle.paper.specs.Scan.{onward, walk, page_walk, free_spot, serves, live, any_live, present, payloads}
use Rattle.paper.specs.Pages.{zero_bits, is_set, start_mark, end_mark, state, set_start, set_end, next, around, from, all_pages, first, youngest, oldest}
use Rattle.paper.specs.Refusals.{allowed_word, page_count, rules, geometry_of, judge, check}
use Rattle.paper.specs.Steps.{retry, with_repair}
use Rattle.paper.specs.Push.{too_big, take_page, turn_page, find_spot, spot_on, spot_step, spot_for, item_at, push_at, push}
use Rattle.paper.specs.Calls.{plan_of}
use Rattle.paper.specs.Waiting.{waiting_on, list_of, waiting}
use Rattle.paper.specs.Fifo.{events_of, image_next}
use Rattle.demand3.specs.Premises.{sheet, blank_sheet, half_header, unlucky, ambiguous, PremisesNeeded}

pub premises_needed : PremisesNeeded
unfolding sheet blank_sheet half_header unlucky ambiguous ones ones_in ◌⊕◌ times modulo data_crc length_crc crc_of dividend message mirror
    data_adjusted length_adjusted data_poly length_poly words_for round_up round_down header_size page_start data_start data_size data_end page_bytes
    page_data put ands image_by image_after store_count before words writes erase_page bind bytes_of number_of encode blank decode look onward walk
    page_walk free_spot serves live any_live present payloads zero_bits is_set start_mark end_mark state set_start set_end next around from all_pages
    first youngest oldest retry with_repair too_big take_page turn_page find_spot spot_on spot_step spot_for item_at push_at push allowed_word
    page_count rules geometry_of judge check waiting_on list_of waiting plan_of events_of image_next
premises_needed = record { accepted = refl; said = refl; lost = refl; altered = refl }
