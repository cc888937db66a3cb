-- A call of the queue whose answer is handed on as a number. Assumes nothing.
use mathlib.Core.Path.{◌≡◌, ap, ◌∙◌}
use mathlib.Core.List.{List}
use Prim.Native.Nat.{ℕ}
use Rattle.paper.specs.declared.Geometry.{Geometry}
use Rattle.paper.specs.Chip.{Plan}
use Rattle.paper.specs.Refusals.{Answer}
use Rattle.chip.specs.Run.{Whole, WholeShown}
use Rattle.codes.specs.Codes.{code_of}
use Rattle.dock.specs.Promises.{Coded, CodedShown}

module _ {g : Geometry} {p : Plan Answer} {i o : List ℕ} {x : Answer} {r : ℕ} where
  pub coded : Whole g p i o x → r ≡ code_of x → Coded g p i o r
  coded h e = record { image = h.image; answer = e ∙ ap code_of h.answer }

  pub coded_shown : {d e : List ℕ} → WholeShown g p i o d e x → r ≡ code_of x → CodedShown g p i o d e r
  coded_shown h q = record { coded = coded h.whole q; buffer = h.buffer }
