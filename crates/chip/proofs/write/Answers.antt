-- `chip::write` meets its contract: a word that is cut ends the run, one that is paid for leaves a run of the words behind it, and at the end
-- no word is left. Assumes nothing.
use Rattle.std.proofs.Common.{◌≡◌, refl, ap, ◌∙◌, ◌-◌, arith, length, take, length-drop}
use Rattle.laws.proofs.Parts.{length_padded}
use Rattle.laws.proofs.Rounding.{round_up_step}
use Rattle.chip.proofs.Early.{paid_cut}
use Rattle.chip.proofs.Running.{did_none}
use Rattle.chip.proofs.Writing.{chunk_padded, chunk_later, writes_none, write_cut, write_on}
use Rattle.chip.proofs.write.Goals as goal

pub store_word-requires : goal.store_word-requires
store_word-requires c =
    let w = c.args.g.word in
    let rest = c.loop-chunk.chunk-iterator.rest.now in
    let s = c.in-Some.ensures.steps.1 in
    let word = chunk_padded _ _ rest c.loop-chunk.invariant.size s.0 s.1 _ c.padded_word-word.ensures (omega arith) in
    let f : length (take w c.padded_word-word.result) ≡ w = ap length word ∙ length_padded w rest in
    omega (arith, round_up_step w (length rest) (omega arith) s.2)

pub returns-in_err-store_word : goal.returns-in_err-store_word
returns-in_err-store_word c =
    let l = c.loop-chunk in
    let rest = l.chunk-iterator.rest.now in
    let s = c.in-Some.ensures.steps.1 in
    let word = chunk_padded _ _ rest l.invariant.size s.0 s.1 _ c.padded_word-word.ensures (omega arith) in
    rw (paid_cut _ _ c.from_residual.ensures.0)
    (l.invariant.completes _ _ (write_cut l.a rest c.in_err-store_word.ensures word (omega arith) s.2 refl))

pub overflow_add-a : goal.overflow_add-a
overflow_add-a c =
    let l = c.loop-chunk in
    omega (arith, round_up_step c.args.g.word (length l.chunk-iterator.rest.now) (omega arith) c.in-Some.ensures.steps.1.2)

pub loop-chunk-preserved : goal.loop-chunk-preserved
loop-chunk-preserved c =
    let w = c.args.g.word in
    let l = c.loop-chunk in
    let rest = l.chunk-iterator.rest.now in
    let s = c.in-Some.ensures.steps in
    let i = l.invariant in
    let word = chunk_padded _ _ rest i.size s.1.0 s.1.1 _ c.padded_word-word.ensures (omega arith) in
    let later = chunk_later _ _ rest i.size s.1.0 s.1.1 in
    let k : length c.next.new.self.rest.now ≡ length rest - w = ap length later ∙ length-drop w rest in
    let r = rw (← k) at (round_up_step w (length rest) (omega arith) s.1.2) in
    record {
      size = s.0 ∙ i.size;
      inside = omega arith;
      low = omega arith;
      completes = λ o r y. i.completes o r (write_on l.a rest c.in_ok-store_word.ensures word (omega arith) s.1.2 refl (rw (← later) y));
    }

pub returns : goal.returns
returns c =
    let g = c.args.g in
    let l = c.loop-chunk in
    l.invariant.completes _ _ (rw (writes_none g l.a l.chunk-iterator.rest.now (omega arith) c.in-None.ensures.steps.1.0) (did_none g l.budget l.image))
