-- The loop's invariant: what is left of the word, put from here on, gives what the whole word gives from the start.
use Rattle.std.proofs.Common.{◌≡◌, ◌+◌, ◌≤◌, length, drop}
use Rattle.paper.specs.Chip.{put, ands}
use Rattle.chip.proofs.store_word.Given as goal

abbrev pub invariant-loop-i : goal.invariant-loop-i
invariant-loop-i l = record {
  within : l.i ≤ length l.word;
  stored : put (l.a + l.i) (ands (drop (l.a + l.i) l.image) (drop l.i l.word)) l.image ≡ put l.a (ands (drop l.a l.fn.image) l.word) l.fn.image;
}
