-- `item::ItemHeader::read_item` meets its contract: its tests are those of `read_as`; the payload's part is lent. Assumes nothing.
use Rattle.std.proofs.Common.{sym, ap, ◌∙◌, arith}
use Rattle.paper.specs.Checksum.{data_crc}
use Rattle.checksum.proofs.Answers.{data_is}
use Rattle.item.specs.declared.Item.{Item}
use Rattle.item.proofs.ReadingItem.{payload_in, lent, read_present, read_torn}
use Rattle.item.proofs.ItemHeader.read_item.Goals as goal

pub slice_bounds-adapted_crc32-end : goal.slice_bounds-adapted_crc32-end
slice_bounds-adapted_crc32-end c =
    omega (arith, payload_in c.requires c.data_address-start.ensures (ap (λ (x : Item). x.size) c.item-item.ensures))

pub returns-then-adapted_crc32-self : goal.returns-then-adapted_crc32-self
returns-then-adapted_crc32-self c =
    let a = c.args in
    let n = ap (λ (x : Item). x.size) c.item-item.ensures in
    let b = lent a.image.now c.data_address-start.ensures n in
    let p = lent a.image.now c.data_address-start.ensures c.from-length.ensures in
    read_present a.g a.image.now a.buffer.now a.address a.self c.item-item.ensures c.if-self-eq0.false c.if-buffer-size.false _
    (c.copy_bytes.ensures.0 ∙ b) c.copy_bytes.ensures.1
    (ap data_crc (sym p) ∙ sym (data_is c.adapted_crc32.ensures) ∙ c.if-adapted_crc32-self.true)

pub returns : goal.returns
returns c =
    let a = c.args in
    let n = ap (λ (x : Item). x.size) c.item-item.ensures in
    let b = lent a.image.now c.data_address-start.ensures n in
    let p = lent a.image.now c.data_address-start.ensures c.from-length.ensures in
    read_torn a.g a.image.now a.buffer.now a.address a.self c.item-item.ensures c.if-self-eq0.false c.if-buffer-size.false _
    (c.copy_bytes.ensures.0 ∙ b) c.copy_bytes.ensures.1
    (λ q. c.if-adapted_crc32-self.false (data_is c.adapted_crc32.ensures ∙ ap data_crc p ∙ q))
