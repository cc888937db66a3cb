-- A push's item as one write of words, header and padded slip. Assumes nothing.
use mathlib.Core.List.{List, ◌++◌}
use mathlib.Core.Path.{◌≡◌, sym, ap, ap₂, ◌∙◌}
use Prim.Native.Nat.{ℕ, ◌+◌, ◌-◌, ◌*◌, ◌≤◌, ◌<◌}
use native.Mathlib.Nat.{mul-le-mul_right}
use native.Mathlib.Omega.{arith}
use lib.Dec.{lit<}
use lib.ListN.{length, take, replicate, length-append, length-replicate}
use lib.Seq.{length-take-le}
use Rattle.paper.specs.declared.Geometry.{Geometry}
use Rattle.paper.specs.Checksum.{data_crc}
use Rattle.paper.specs.Chip.{round_up, words_for, header_size, Event, store_count, words, writes}
use Rattle.paper.specs.Slip.{encode}
use Rattle.paper.specs.Push.{item_at}
use Rattle.paper.specs.Fifo.{Bytes}
use Rattle.laws.proofs.Rounding.{round_up_ge}
use Rattle.laws.proofs.Sides.{Side, below, above, side}
use Rattle.laws.proofs.Headers.{header_ge, length_encode}
use Rattle.demand3.proofs.Sizes.{item_size}
use Rattle.demand3.proofs.Bytes.{bytes_append, bytes_replicate, bytes_take}
use Rattle.demand3.proofs.Events.{Avoids, avoid_append}
use Rattle.demand3.proofs.Words.{words_pad, words_append, words_whole, count_words, avoid_writes}
use Rattle.demand3.proofs.Headers.{bytes_encode}

-- a slip's header, and the slip padded with zeros
abbrev pub header_of : Geometry → List ℕ → List ℕ
header_of g slip = encode g (data_crc slip) (length slip)

abbrev padding : Geometry → List ℕ → ℕ
padding g slip = round_up g.word (length slip) - length slip

unfoldable pub padded_slip : Geometry → List ℕ → List ℕ
padded_slip g slip = slip ++ replicate (padding g slip) 0

unfoldable pub item_bytes : Geometry → List ℕ → List ℕ
item_bytes g slip = header_of g slip ++ padded_slip g slip

unfoldable pub item_words : Geometry → List ℕ → ℕ
item_words g slip = words_for g.word 8 + words_for g.word (length slip)

-- the bytes of the first j words
unfoldable pub written : Geometry → List ℕ → ℕ → List ℕ
written g slip j = take (j * g.word) (item_bytes g slip)

module _ (g : Geometry) (pos : 0 < g.word) (slip : List ℕ) where
  pub length_header : length (header_of g slip) ≡ header_size g
  length_header = length_encode g pos (data_crc slip) (length slip)

  pub length_padded : length (padded_slip g slip) ≡ round_up g.word (length slip)
  unfolding padded_slip
  length_padded =
      let Z : List ℕ = replicate (padding g slip) 0 in
      omega (arith, length-append slip Z, length-replicate {A = ℕ} (padding g slip) 0, round_up_ge g.word (length slip) pos)

  pub length_item : length (item_bytes g slip) ≡ item_size g (length slip)
  unfolding item_bytes
  length_item = length-append (header_of g slip) (padded_slip g slip) ∙ ap₂ ◌+◌ length_header length_padded

  pub item_size_lem : item_size g (length slip) ≡ item_words g slip * g.word
  unfolding header_size round_up item_words
  item_size_lem = omega arith

  bytes_item : Bytes slip → Bytes (item_bytes g slip)
  unfolding item_bytes padded_slip
  bytes_item h =
      bytes_append (header_of g slip) _ (bytes_encode g pos (data_crc slip) (length slip))
      (bytes_append slip _ h (bytes_replicate (padding g slip) 0 (lit< tt)))

  pub item_words_lem : (a : ℕ) → item_at g a slip ≡ words g.word (item_words g slip) a (item_bytes g slip)
  unfolding item_at writes item_bytes item_words padded_slip header_size round_up
  item_words_lem a =
      let w : ℕ = g.word in
      let E : List ℕ = header_of g slip in
      let n : ℕ = words_for w (length slip) in
      let k : words_for w (length E) ≡ words_for w 8 = ap (words_for w) length_header ∙ words_whole w (words_for w 8) pos in
      ap₂ (λ (x : ℕ) (y : List Event). words w x a E ++ y) k (sym (words_pad w n (a + words_for w 8 * w) (n * w - length slip) slip))
      ∙ sym (words_append w (words_for w 8) n a E (slip ++ replicate (n * w - length slip) 0) length_header)

  pub count_item : (a : ℕ) → store_count (item_at g a slip) ≡ item_words g slip
  count_item a = ap store_count (item_words_lem a) ∙ count_words g.word (item_words g slip) a (item_bytes g slip)

  pub bytes_written : (j : ℕ) → Bytes slip → Bytes (written g slip j)
  unfolding written
  bytes_written j h = bytes_take (j * g.word) (item_bytes g slip) (bytes_item h)

  pub within_item : (j : ℕ) → j ≤ item_words g slip → j * g.word ≤ item_size g (length slip)
  within_item j h = rw item_size_lem (mul-le-mul_right g.word h)

  pub length_written : (j : ℕ) → j ≤ item_words g slip → length (written g slip j) ≡ j * g.word
  unfolding written
  length_written j h = length-take-le (j * g.word) (item_bytes g slip) (omega (arith, within_item j h, length_item))

  -- fewer than 8 bytes are less than the item
  pub few_words : (j : ℕ) → j * g.word < 8 → j < item_words g slip
  few_words j h = by (side j (item_words g slip))
    where
      by : Side j (item_words g slip) → j < item_words g slip
      by (below l) = l
      by (above l) =
          let k : ⊥ = omega (arith, mul-le-mul_right g.word l, item_size_lem, header_ge g pos) in
          absurd k

pub avoid_item : (g : Geometry) (q a : ℕ) (slip : List ℕ) → Avoids q (item_at g a slip)
unfolding item_at
avoid_item g q a slip =
    avoid_append q (writes g a (header_of g slip)) (writes g (a + header_size g) slip)
    (avoid_writes g q a (header_of g slip)) (avoid_writes g q (a + header_size g) slip)
