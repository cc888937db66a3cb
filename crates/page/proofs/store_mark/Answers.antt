-- `page::store_mark` meets its contract. The front of 32 zeros is a word of zeros. Assumes nothing.
use Rattle.laws.proofs.Parts.{take_replicate}
use Rattle.page.proofs.store_mark.Goals as goal

pub returns : goal.returns
returns c = rw (take_replicate c.args.g.word 32 0 c.requires.0.sized.high) at c.store_word.ensures
