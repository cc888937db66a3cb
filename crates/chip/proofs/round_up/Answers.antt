-- What `chip::round_up` ensures: `round_up` is opened, and its bounds are lemmas on rounding. Assumes nothing.
use Rattle.std.proofs.Common.{refl, arith}
use Rattle.paper.specs.Chip.{round_up, words_for}
use Rattle.laws.proofs.Rounding.{round_up_ge, round_up_lt}
use Rattle.chip.proofs.round_up.Goals as goal

pub returns : goal.returns
unfolding round_up words_for
returns c = record { answer = refl; low = round_up_ge c.args.w c.args.n (omega arith); high = round_up_lt c.args.w c.args.n (omega arith) }
