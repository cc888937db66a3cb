-- Demand 1. Assumes nothing.
use mathlib.Core.Path.{refl}
use lib.ListN.{length}
use Rattle.paper.specs.Calls.{erase_all}
use Rattle.laws.proofs.Accepted.{accepted_from}
use Rattle.demand1.specs.Rows.{Rows}
use Rattle.demand1.specs.Demand1.{Demand1}
use Rattle.demand1.proofs.InRange.{in_range}
use Rattle.demand1.proofs.Buffers.{of_buffer, no_logic_bug}
use Rattle.demand1.proofs.Checks.{of_shape}
use Rattle.demand1.proofs.Cuts.{of_cut}
use Rattle.demand1.proofs.PushRows.{of_push}
use Rattle.demand1.proofs.SearchRows.{of_peek, of_pop}
use Rattle.demand1.proofs.Counts.{of_fit, of_space}

rows : Rows
unfolding erase_all
rows = record {
  of_cut = of_cut;
  of_push = λ g im s e slip over. of_push (accepted_from (length im) s g e).laid im refl slip over;
  of_peek = λ g im s e n. of_peek (accepted_from (length im) s g e).laid im refl n;
  of_pop = λ g im s e n. of_pop (accepted_from (length im) s g e).laid im refl n;
  of_fit = λ g im s e. of_fit g im;
  of_space = λ g im s e. of_space g im;
  of_erase = λ g. refl;
}

pub demand1 : Demand1
demand1 = record { in_range = in_range; of_shape = of_shape; rows = rows; of_buffer = of_buffer; no_logic_bug = no_logic_bug }
