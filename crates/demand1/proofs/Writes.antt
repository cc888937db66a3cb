-- The stores of a mark, of a header and of an item lie in the range. Assumes nothing.
use mathlib.Core.List.{List}
use Prim.Native.Nat.{ℕ, zero, suc, ◌+◌, ◌*◌, ◌≤◌, ◌<◌, ◌∣◌}
use native.Mathlib.Nat.{suc-mul, dvd-add, dvd_refl, mod-eq-zero_of_dvd}
use native.Mathlib.Omega.{arith}
use lib.ListN.{length, drop, length-replicate}
use Rattle.paper.specs.declared.Geometry.{Geometry}
use Rattle.paper.specs.Checksum.{data_crc}
use Rattle.paper.specs.Chip.{words_for, round_up, header_size, range_end, words, writes}
use Rattle.paper.specs.Slip.{encode}
use Rattle.paper.specs.Pages.{set_start, set_end}
use Rattle.paper.specs.Push.{item_at}
use Rattle.laws.proofs.Accepted.{Laid}
use Rattle.laws.proofs.Parts.{length_padded}
use Rattle.laws.proofs.Places.{page_in}
use Rattle.demand1.specs.Range.{Lies, Each}
use Rattle.demand1.proofs.Lists.{each_append}
use Rattle.demand1.proofs.Pages.{layout, header_whole}
use Rattle.laws.proofs.Headers.{encode_whole}
use Rattle.demand1.proofs.Walks.{ItemInRange}

module _ {g : Geometry} {n : ℕ} (S : Laid g n) where
  pub start_lies : (p : ℕ) → p < g.pages → Lies g (set_start g p)
  unfolding set_start
  start_lies p h =
      let L = layout S p in
      (length-replicate g.word 0, mod-eq-zero_of_dvd g.word L.start_whole, L.start_low, omega (arith, page_in g p h))

  pub end_lies : (p : ℕ) → p < g.pages → Lies g (set_end g p)
  unfolding set_end
  end_lies p h =
      let L = layout S p in
      (length-replicate g.word 0, mod-eq-zero_of_dvd g.word L.end_whole, omega arith, omega (arith, page_in g p h))

  words_lie : (k a : ℕ) (bytes : List ℕ) → g.word ∣ a → g.start ≤ a → a + k * g.word ≤ range_end g → Each (Lies g) (words g.word k a bytes)
  unfolding words
  words_lie zero a bytes v l h = tt
  words_lie (suc k) a bytes v l h =
      let s = suc-mul k g.word in (
        (length_padded g.word bytes, mod-eq-zero_of_dvd g.word v, l, omega arith),
        words_lie k (a + g.word) (drop g.word bytes) (dvd-add g.word v (dvd_refl g.word)) (omega arith) (omega arith),
      )

  writes_lie : (a : ℕ) (bytes : List ℕ) → g.word ∣ a → g.start ≤ a → a + round_up g.word (length bytes) ≤ range_end g
      → Each (Lies g) (writes g a bytes)
  unfolding writes round_up
  writes_lie a bytes v l h = words_lie (words_for g.word (length bytes)) a bytes v l h

  -- where an item has room
  module _ (a m : ℕ) (R : ItemInRange g a m) where
    pub header_lies : (c k : ℕ) → Each (Lies g) (writes g a (encode g c k))
    header_lies c k = writes_lie a (encode g c k) R.aligned R.low (omega (arith, encode_whole g S.sized.low c k, R.high))

  pub item_lies : (a : ℕ) (slip : List ℕ) → ItemInRange g a (length slip) → Each (Lies g) (item_at g a slip)
  unfolding item_at
  item_lies a slip R =
      each_append (Lies g) (writes g a (encode g (data_crc slip) (length slip))) (writes g (a + header_size g) slip)
      (header_lies a (length slip) R (data_crc slip) (length slip))
      (writes_lie (a + header_size g) slip (dvd-add g.word R.aligned (header_whole g)) (omega (arith, R.low)) (omega (arith, R.high)))
