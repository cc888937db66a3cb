-- Demand 1, as theorems about the definitions. Assumes nothing.
use Rattle.demand1.specs.Range.{InRange}
use Rattle.demand1.specs.Shapes.{OfShape}
use Rattle.demand1.specs.Rows.{Rows}
use Rattle.demand1.specs.Buffers.{OfBuffer, NoLogicBug}

pub record Demand1 : Type 0 where
  pub in_range : InRange
  pub of_shape : OfShape
  pub rows : Rows
  pub of_buffer : OfBuffer
  pub no_logic_bug : NoLogicBug
