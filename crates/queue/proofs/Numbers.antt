-- The answers of a call are told apart by document 01's row and values. Assumes nothing.
use mathlib.Core.Path.{ap}
use Rattle.paper.specs.Refusals.{numbers}
use Rattle.laws.proofs.AnswerNumbers.{pushed_told, shown_told, fit_told, space_told, erased_told, checked_told}
use Rattle.queue.specs.Distinct.{Distinct}

pub distinct : Distinct
distinct = record {
  pushed = λ x y e. pushed_told x y (ap numbers e);
  shown = λ x y e. shown_told x y (ap numbers e);
  fit = λ x y e. fit_told x y (ap numbers e);
  space = λ x y e. space_told x y (ap numbers e);
  erased = λ x y e. erased_told x y (ap numbers e);
  pushed_numbers = pushed_told;
  shown_numbers = shown_told;
  fit_numbers = fit_told;
  space_numbers = space_told;
  erased_numbers = erased_told;
  checked_numbers_lem = checked_told;
}
