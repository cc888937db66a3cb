-- A header stored again with CRC 0, word by word: the CRC's bytes stored so far are zero, and nothing else is changed. Assumes nothing.
use mathlib.Core.List.{List, ◌++◌, append_assoc}
use mathlib.Core.Path.{◌≡◌, refl, sym, ap, ap₂, ◌∙◌}
use Prim.Native.Nat.{ℕ, ◌+◌, ◌-◌, ◌*◌, ◌≤◌, ◌<◌, min}
use native.Mathlib.Nat.{mul-le-mul_right}
use native.Mathlib.Omega.{arith}
use lib.ListN.{length, take, drop, replicate, length-drop}
use lib.Seq.{drop-drop, take-take, take-add, take-append-add}
use Rattle.paper.specs.declared.Geometry.{Geometry}
use Rattle.paper.specs.Checksum.{length_crc}
use Rattle.paper.specs.Chip.{round_up, words_for, header_size, part, put, ands, Event, image_after, before, store_count, words, writes}
use Rattle.paper.specs.Slip.{encode, bytes_of, number_of}
use Rattle.paper.specs.Fifo.{Bytes}
use Rattle.laws.proofs.Ands.{ands_zeros, ands_append}
use Rattle.laws.proofs.Events.{before_all}
use Rattle.laws.proofs.Parts.{part_take, length_part, take_replicate}
use Rattle.laws.proofs.Puts.{length_put, part_after, put_put, put_self}
use Rattle.laws.proofs.Sides.{Side, below, above, side}
use Rattle.laws.proofs.Headers.{header_ge, length_encode}
use Rattle.demand3.proofs.Bytes.{bytes_take, bytes_drop, number_back}
use Rattle.demand3.proofs.Ands.{ands_kept}
use Rattle.demand3.proofs.Words.{words_prefix, words_whole, count_words}
use Rattle.demand3.proofs.ZeroedScan.{zeros, OfCrc}

-- the bytes x begin with a header of length n
pub record Heading (g : Geometry) (x : List ℕ) (n : ℕ) : Type 0 where
  pub room : header_size g ≤ length x
  pub bytes : Bytes (take (header_size g) x)
  pub check : length_crc (part 4 2 x) ≡ number_of (part 6 2 x)
  pub len : number_of (part 4 2 x) ≡ n

module _ (g : Geometry) (pos : 0 < g.word) (x : List ℕ) (n : ℕ) (H : Heading g x n) where
  h8 : 8 ≤ header_size g
  h8 = header_ge g pos

  bytes_part : (i m : ℕ) → i + m ≤ header_size g → Bytes (part i m x)
  bytes_part i m h = rw (← part_take i m (header_size g) x h) (bytes_take m (drop i (take (header_size g) x)) (bytes_drop i (take (header_size g) x) H.bytes))

  -- behind the CRC it is what is there, and FF
  behind_crc : encode g 0 n ≡ zeros 4 ++ (take 4 (drop 4 x) ++ replicate (header_size g - 8) 255)
  unfolding encode bytes_of
  behind_crc =
      let l2 : (i : ℕ) → i + 2 ≤ header_size g → length (part i 2 x) ≡ 2 = λ i h. length_part i 2 x (omega (arith, H.room)) in
      let p : bytes_of 2 n ≡ part 4 2 x = number_back 2 n (part 4 2 x) (l2 4 (omega (arith, h8))) (bytes_part 4 2 (omega (arith, h8))) H.len in
      let k : ℕ = length_crc (bytes_of 2 n) in
      let q : bytes_of 2 k ≡ part 6 2 x =
      number_back 2 k (part 6 2 x) (l2 6 (omega (arith, h8))) (bytes_part 6 2 (omega (arith, h8))) (sym H.check ∙ ap length_crc (sym p)) in
      let d : part 4 2 x ++ part 6 2 x ≡ take 4 (drop 4 x) =
      ap (λ (l : List ℕ). part 4 2 x ++ take 2 l) (sym (drop-drop 2 4 x)) ∙ sym (take-add 2 2 (drop 4 x)) in
      let R : List ℕ = replicate (header_size g - 8) 255 in
      ap (λ (l : List ℕ). zeros 4 ++ l)
      (ap₂ (λ (a b : List ℕ). a ++ (b ++ R)) p q ∙ sym (append_assoc (part 4 2 x) (part 6 2 x) R) ∙ ap (λ (l : List ℕ). l ++ R) d)

  header_and : (m : ℕ) → 4 ≤ m → m ≤ header_size g → ands x (take m (encode g 0 n)) ≡ zeros 4 ++ part 4 (m - 4) x
  header_and m h k =
      let y : List ℕ = drop 4 x in
      let Q : List ℕ = take 4 y ++ replicate (header_size g - 8) 255 in
      let z : m ≡ 4 + (m - 4) = omega arith in
      let e : 4 + (header_size g - 8) ≡ header_size g - 4 = omega (arith, h8) in
      let r = H.room in
      ap (λ (l : List ℕ). ands x (take m l)) behind_crc
      ∙ ap (λ (i : ℕ). ands x (take i (zeros 4 ++ Q))) z
      ∙ ap (ands x) (take-append-add (zeros 4) Q (m - 4))
      ∙ ands_append x (zeros 4) (take (m - 4) Q) (omega (arith, h8))
      ∙ ap₂ (λ (a b : List ℕ). a ++ b) (ands_zeros x 4 (omega (arith, h8)))
      (ands_kept y 4 (header_size g - 8) (m - 4) (omega (arith, h8)) (omega (arith, h8, length-drop 4 x))
      (rw e (bytes_part 4 (header_size g - 4) (omega (arith, h8)))))

module _ (g : Geometry) (im : List ℕ) (pos : 0 < g.word) (a n : ℕ) (fits : a + header_size g ≤ length im) (H : Heading g (drop a im) n) where
  -- no more than the CRC was stored
  zeroed_part : (m : ℕ) → m ≤ 4 → put a (ands (drop a im) (take m (encode g 0 n))) im ≡ put a (zeros m) im
  zeroed_part m h =
      let Q : List ℕ = take 4 (drop 4 (drop a im)) ++ replicate (header_size g - 8) 255 in
      let e : take m (encode g 0 n) ≡ zeros m =
      ap (take m) (behind_crc g pos (drop a im) n H) ∙ sym (take-take m 4 (zeros 4 ++ Q) h) ∙ take_replicate m 4 0 h in
      ap (λ (l : List ℕ). put a (ands (drop a im) l) im) e
      ∙ ap (λ (l : List ℕ). put a l im) (ands_zeros (drop a im) m (omega (arith, H.room, header_ge g pos)))

  -- the CRC was stored, and some of what stands behind it
  zeroed_whole : (m : ℕ) → 4 ≤ m → m ≤ header_size g → put a (ands (drop a im) (take m (encode g 0 n))) im ≡ put a (zeros 4) im
  zeroed_whole m h k =
      let Q : List ℕ = part 4 (m - 4) (drop a im) in
      let d : Q ≡ part (a + 4) (m - 4) im = ap (take (m - 4)) (drop-drop 4 a im) in
      let lq : length Q ≡ m - 4 = ap length d ∙ length_part (a + 4) (m - 4) im (omega arith) in
      let d₁ : Q ≡ part (a + 4) (m - 4) (put a (zeros 4) im) = d ∙ sym (part_after a (zeros 4) im (omega arith) (a + 4) (m - 4) (omega arith)) in
      ap (λ (l : List ℕ). put a l im) (header_and g pos (drop a im) n H m h k)
      ∙ sym (put_put a (zeros 4) Q im (omega arith))
      ∙ ap (λ (l : List ℕ). put (a + 4) l (put a (zeros 4) im)) d₁
      ∙ put_self (a + 4) (m - 4) (put a (zeros 4) im) (omega (arith, length_put a (zeros 4) im (omega arith)))

  zeroed : (m : ℕ) → m ≤ header_size g → put a (ands (drop a im) (take m (encode g 0 n))) im ≡ put a (zeros (min 4 m)) im
  zeroed m k = by (side m 4)
    where
      by : Side m 4 → put a (ands (drop a im) (take m (encode g 0 n))) im ≡ put a (zeros (min 4 m)) im
      by (below l) = let z : min 4 m ≡ m = omega arith in rw z (zeroed_part m (omega arith))
      by (above l) = let z : min 4 m ≡ 4 = omega arith in rw z (zeroed_whole m l k)

  abbrev N : ℕ
  N = words_for g.word 8

  header_words_are : writes g a (encode g 0 n) ≡ words g.word (words_for g.word 8) a (encode g 0 n)
  unfolding writes header_size round_up
  header_words_are =
      ap (λ (k : ℕ). words g.word k a (encode g 0 n)) (ap (words_for g.word) (length_encode g pos 0 n) ∙ words_whole g.word (words_for g.word 8) pos)

  header_size_lem : header_size g ≡ words_for g.word 8 * g.word
  unfolding header_size round_up
  header_size_lem = refl

  some : (j : ℕ) → j ≤ words_for g.word 8 → image_after g (before j (writes g a (encode g 0 n))) im ≡ put a (zeros (min 4 (j * g.word))) im
  some j k =
      ap (λ (es : List Event). image_after g (before j es) im) header_words_are
      ∙ words_prefix g g.word j N a (encode g 0 n) im k (length_encode g pos 0 n ∙ header_size_lem) (omega (arith, header_size_lem))
      ∙ zeroed (j * g.word) (rw header_size_lem (mul-le-mul_right g.word k))

  count : store_count (writes g a (encode g 0 n)) ≡ words_for g.word 8
  count = ap store_count header_words_are ∙ count_words g.word N a (encode g 0 n)

  whole : min 4 (words_for g.word 8 * g.word) ≡ 4
  whole = omega (arith, header_size_lem, header_ge g pos)

  -- after j words
  pub zeroing : (j : ℕ) → image_after g (before j (writes g a (encode g 0 n))) im ≡ put a (zeros (min 4 (j * g.word))) im
  zeroing j = by (side j N)
    where
      all : (i : ℕ) → N ≤ i → before i (writes g a (encode g 0 n)) ≡ writes g a (encode g 0 n)
      all i l = before_all i (writes g a (encode g 0 n)) (omega (arith, count))

      by : Side j N → image_after g (before j (writes g a (encode g 0 n))) im ≡ put a (zeros (min 4 (j * g.word))) im
      by (below l) = some j (omega arith)
      by (above l) =
          let z : min 4 (N * g.word) ≡ min 4 (j * g.word) = omega (arith, whole, mul-le-mul_right g.word l) in
          ap (λ (es : List Event). image_after g es im) (all j l ∙ sym (all N (omega arith))) ∙ some N (omega arith)
          ∙ ap (λ (i : ℕ). put a (zeros i) im) z

  pub zeroing_all : image_after g (writes g a (encode g 0 n)) im ≡ put a (zeros 4) im
  zeroing_all = ap (λ (es : List Event). image_after g es im) (sym (before_all N (writes g a (encode g 0 n)) (omega (arith, count))))
      ∙ zeroing N ∙ ap (λ (i : ℕ). put a (zeros i) im) whole

-- what j words hold of the CRC, and the whole of it
pub crc_words : (w j : ℕ) → 0 < w → 0 < j → OfCrc (min 4 (j * w))
crc_words w j h k = let z : 1 * w ≤ j * w = mul-le-mul_right w k in record { some = omega arith; few = omega arith }

pub crc_whole : OfCrc 4
crc_whole = record { some = omega arith; few = omega arith }
