-- What the check of a shape gives the code where it accepts. Assumes nothing.
use mathlib.Core.Path.{◌≡◌, sym}
use Prim.Native.Nat.{ℕ, ◌<◌}
use native.Mathlib.Omega.{arith}
use Rattle.std.specs.Prelude.{Result, Ok, Err, IfOk}
use Rattle.paper.specs.declared.Geometry.{Geometry}
use Rattle.paper.specs.declared.Shape.{Shape}
use Rattle.paper.specs.declared.Refusal.{Refusal}
use Rattle.paper.specs.Chip.{header_size, range_end}
use Rattle.paper.specs.Refusals.{check}
use Rattle.laws.proofs.Accepted.{Laid, accepted_from}
use Rattle.laws.proofs.Rounding.{header_in}
use Rattle.chip.specs.Within.{address_limit, Within, Checks}

laid_within : {g : Geometry} {n : ℕ} → Laid g n → range_end g < address_limit → Within g n
unfolding header_size
laid_within {g} L top =
    let h = header_in g.word L.sized.low L.sized.high in
    record {
      good = record { sized = L.sized; top = top; header_low = h.low; header_high = h.high; header_word = h.word };
      ends = L.ends;
    }

pub accepted_within : (n : ℕ) (s : Shape) (g : Geometry) → check n s ≡ Ok g → s.end < address_limit → Within g n
accepted_within n s g e top = let F = accepted_from n s g e in laid_within F.laid (omega (arith, F.ends_at))

-- what the check's contract asks of an answer
pub check_promised : (n : ℕ) (s : Shape) (r : Result Geometry Refusal) → s.end < address_limit → r ≡ check n s → Checks n s r
check_promised n s r top e = record { answer = e; within = by r e }
  where
    by : (x : Result Geometry Refusal) → x ≡ check n s → IfOk x (λ g. Within g n)
    by (Ok g) f = accepted_within n s g (sym f) top
    by (Err y) f = tt
