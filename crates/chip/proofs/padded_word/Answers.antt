-- `chip::padded_word` meets its contract: behind the chunk the zeros are left. Assumes nothing.
use Rattle.std.proofs.Common.{ap, ◌++◌, length, ℕ, List}
use Rattle.laws.proofs.Parts.{drop_replicate}
use Rattle.paper.specs.Refusals.{word_limit}
use Rattle.chip.proofs.padded_word.Goals as goal

pub returns : goal.returns
returns c =
    let chunk = c.args.chunk.now in
    let e = c.copy_from_slice.ensures in
    rw e.after (ap (λ (x : List ℕ). chunk ++ x) (drop_replicate (length chunk) word_limit 0))
