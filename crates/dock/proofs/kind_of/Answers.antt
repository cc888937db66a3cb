-- `dock::kind_of` meets its contract: its tests are those of `kind`; the payload's part of the image is lent. Assumes nothing.
use Rattle.std.proofs.Common.{refl, sym, ap, ◌∙◌, arith}
use Rattle.paper.specs.Checksum.{data_crc}
use Rattle.paper.specs.Chip.{round_up}
use Rattle.checksum.proofs.Answers.{data_is}
use Rattle.item.specs.Reading.{head_at}
use Rattle.item.proofs.ReadingItem.{payload_in, lent}
use Rattle.dock.proofs.Sights.{kind_popped, kind_waits, kind_torn}
use Rattle.dock.proofs.kind_of.Goals as goal

pub returns-then-header-eq0 : goal.returns-then-header-eq0
returns-then-header-eq0 c =
    (kind_popped (head_at c.args.g c.args.image.now c.args.at.0 c.args.header) c.if-header-eq0.true, omega arith)

pub slice_bounds-adapted_crc32-end : goal.slice_bounds-adapted_crc32-end
slice_bounds-adapted_crc32-end c =
    omega (arith, payload_in c.requires c.data_address-from.ensures (refl {a = round_up c.args.g.word c.args.header.length}))

pub returns-then-adapted_crc32-header : goal.returns-then-adapted_crc32-header
returns-then-adapted_crc32-header c =
    let p = lent c.args.image.now c.data_address-from.ensures c.from.ensures in (
      kind_waits (head_at c.args.g c.args.image.now c.args.at.0 c.args.header) c.if-header-eq0.false
          (ap data_crc (sym p) ∙ sym (data_is c.adapted_crc32.ensures) ∙ c.if-adapted_crc32-header.true),
      omega arith,
    )

pub returns : goal.returns
returns c =
    let p = lent c.args.image.now c.data_address-from.ensures c.from.ensures in (
      kind_torn (head_at c.args.g c.args.image.now c.args.at.0 c.args.header) c.if-header-eq0.false
          (λ q. c.if-adapted_crc32-header.false (data_is c.adapted_crc32.ensures ∙ ap data_crc p ∙ q)),
      omega arith,
    )
