-- `item::ItemHeader::encoded` meets its contract: its bytes are those of the paper's `encode`. Assumes nothing.
use Rattle.std.proofs.Common.{sym, ap, ◌∙◌}
use Rattle.paper.specs.Checksum.{length_crc}
use Rattle.checksum.proofs.Answers.{length_is}
use Rattle.item.proofs.Encoding.{encode_is}
use Rattle.item.proofs.ItemHeader.encoded.Goals as goal

pub returns : goal.returns
returns c =
    encode_is c.args.g c.requires c.args.self.crc c.args.self.length _ _ _ _ (c.copy_from_slice.ensures.after ∙ c.to_le_bytes.ensures)
    (c.copy_from_slice-2.ensures.after ∙ c.to_le_bytes-length.ensures)
    (length_is c.crc16-length_crc.ensures ∙ ap length_crc (sym c.copy_from_slice-2.ensures.after))
    (c.copy_from_slice-3.ensures.after ∙ c.to_le_bytes-2.ensures)
