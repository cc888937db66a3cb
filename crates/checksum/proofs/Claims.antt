-- All that the record `Claims` states holds. Assumes nothing.
use mathlib.Core.Path.{◌≡◌, ap}
use mathlib.Core.List.{List}
use Prim.Native.Nat.{ℕ, ◌%◌}
use Rattle.paper.specs.Checksum.{DataCrc}
use Rattle.checksum.specs.Claims.{Claims}
use Rattle.checksum.proofs.Sums.{sum_coefficient}
use Rattle.checksum.proofs.Registers.{mirror_inj}
use Rattle.checksum.proofs.Unique.{rem_unique, quotient_unique, crc_unique}
use Rattle.checksum.proofs.LongDivision.{modulo_is, crc_computed, crc_is}
use Rattle.checksum.proofs.Constants.{length_degree, length_constant, data_degree, data_constant}
use Rattle.checksum.proofs.Entries.{entry_shifted, entry_numbers}
use Rattle.checksum.proofs.Answers.{length_unique, length_computed, length_is, data_unique, data_computed, data_is}
use Rattle.checksum.proofs.Adjusted.{length_lt, length_not_ones, data_lt, data_low}

low : {bytes : List ℕ} {r : ℕ} → DataCrc bytes r → (r % 256 ≡ 0 → ⊥) × (r % 256 ≡ 0xff → ⊥)
low {bytes} h = rw (data_is h) (data_low bytes)

pub claims : Claims
claims =
    record {
      sum = sum_coefficient;
      register = mirror_inj;
      division = λ d es b.
          record {
            remainder = rem_unique d es b;
            quotient = quotient_unique d es b;
            found = modulo_is d es b;
            crc_unique = crc_unique d es b;
            crc_computed = crc_computed d es b;
            crc_is = crc_is d es b;
          };
      of_length =
          record {
            degree = length_degree;
            constant = length_constant;
            unique = length_unique;
            computed = length_computed;
            is_computed = length_is;
            fits = λ {bytes} h. rw (length_is h) (length_lt bytes);
            not_ones = λ {bytes} h. rw (length_is h) (length_not_ones bytes);
          };
      of_data =
          record {
            degree = data_degree;
            constant = data_constant;
            table = entry_shifted;
            numbers = entry_numbers;
            unique = data_unique;
            computed = data_computed;
            is_computed = data_is;
            fits = λ {bytes} h. rw (data_is h) (data_lt bytes);
            low_not_zero = λ h. (low h).0;
            low_not_ones = λ h. (low h).1;
            not_zero = λ h e. (low h).0 (ap (λ (x : ℕ). x % 256) e);
          };
    }
