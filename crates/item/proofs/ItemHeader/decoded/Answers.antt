-- `item::ItemHeader::decoded` meets its contract: its tests are those of the paper's `decode`, on the same bytes. Assumes nothing.
use Rattle.std.proofs.Common.{ℕ, sym, ap, ap₂, ◌∙◌, arith}
use Rattle.paper.specs.Chip.{round_up, header_size, part}
use Rattle.paper.specs.Slip.{item}
use Rattle.checksum.proofs.Answers.{length_is}
use Rattle.item.proofs.Decoding.{two_at, first_four, decode_unequal, decode_long, decode_item}
use Rattle.item.proofs.ItemHeader.decoded.Goals as goal

pub returns-then-crc16-from_le_bytes : goal.returns-then-crc16-from_le_bytes
returns-then-crc16-from_le_bytes c =
    let d = c.args.bytes.now in
    decode_unequal c.args.g d (λ q. c.if-crc16-from_le_bytes.true
    (length_is c.crc16.ensures ∙ q ∙ sym (c.from_le_bytes.ensures ∙ two_at d 6 (omega arith))))

pub returns-then-bytes-header_size : goal.returns-then-bytes-header_size
returns-then-bytes-header_size c =
    let d = c.args.bytes.now in
    let q = sym (length_is c.crc16.ensures) ∙ c.if-crc16-from_le_bytes.false ∙ c.from_le_bytes.ensures ∙ two_at d 6 (omega arith) in
    let n = c.from_le_bytes-length.ensures ∙ two_at d 4 (omega arith) in
    let u = c.round_up-size.ensures.answer ∙ ap (round_up c.args.g.word) (c.from.ensures ∙ n) in
    decode_long c.args.g d q (omega (arith, c.header_size.ensures, c.if-bytes-header_size.true))

pub returns : goal.returns
returns c =
    let d = c.args.bytes.now in
    let q = sym (length_is c.crc16.ensures) ∙ c.if-crc16-from_le_bytes.false ∙ c.from_le_bytes.ensures ∙ two_at d 6 (omega arith) in
    let n = c.from_le_bytes-length.ensures ∙ two_at d 4 (omega arith) in
    let u = c.round_up-size.ensures.answer ∙ ap (round_up c.args.g.word) (c.from.ensures ∙ n) in
    let k = c.from_le_bytes-crc.ensures ∙ first_four d (omega arith) in
    ap₂ (λ (x y : ℕ). item x y (part (header_size c.args.g) y d)) k n
    ∙ decode_item c.args.g d q (omega (arith, c.header_size.ensures, c.if-bytes-header_size.false))
