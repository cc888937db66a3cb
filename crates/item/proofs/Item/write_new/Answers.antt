-- `item::Item::write_new` meets its contract: the header's stores, and then the payload's. Assumes nothing.
use Rattle.std.proofs.Common.{refl, ◌+◌}
use Rattle.paper.specs.Chip.{header_size, writes}
use Rattle.paper.specs.Push.{item_at}
use Rattle.checksum.proofs.Answers.{data_is}
use Rattle.chip.proofs.Early.{did_ends}
use Rattle.chip.proofs.Running.{did_then}
use Rattle.item.proofs.Item.write_new.Goals as goal

pub returns-in_err-write : goal.returns-in_err-write
unfolding item_at
returns-in_err-write c =
    let a = c.args in
    let e = data_is c.adapted_crc32.ensures in
    rw (← e) (did_ends _ c.from_residual.ensures.0 c.in_err-write.ensures (writes a.g (a.address.0 + header_size a.g) a.slip.now))

pub returns : goal.returns
unfolding item_at
returns c =
    let e = data_is c.adapted_crc32.ensures in
    rw (← e, ← c.data_address-start.ensures) (did_then c.in_ok-write.ensures refl c.write-2.ensures)
