-- Fewer than 8 bytes of a header, and FF behind them: the walk accepts nothing there, and no header reads whole, but for one case. Assumes nothing.
use mathlib.Core.Bool.{true, ◌&&◌}
use mathlib.Core.List.Memᴰ
use mathlib.Core.List.{List, [], ◌∷◌, ◌++◌, Memᴰ}
use mathlib.Core.Logic.{◌⊎◌, inl, inr}
use mathlib.Core.Path.{◌≡◌, refl, sym, ap, ap₂, ◌∙◌, subst}
use Prim.Native.Nat.{ℕ, zero, suc, ◌+◌, ◌-◌, ◌*◌, ◌/◌, ◌%◌, ◌≤◌, ◌<◌}
use native.Mathlib.Nat.{zero-mul}
use native.Mathlib.Omega.{arith}
use borrow.Author.Tests.{eqb-true}
use lib.Dec.{eqb}
use lib.ListN.{length, take, drop, replicate, length-append, length-drop}
use lib.Seq.{take_all, length-take-le, take-append-add, drop-append-le, drop-append-add}
use Rattle.paper.specs.declared.Geometry.{Geometry}
use Rattle.paper.specs.Checksum.{length_crc}
use Rattle.paper.specs.Chip.{header_size, part}
use Rattle.paper.specs.Slip.{blank, bytes_of, number_of, encode, Look, stop, bad, item, look}
use Rattle.paper.specs.Scan.{Walk, onward, walk}
use Rattle.checksum.proofs.Adjusted.{length_not_ones, length_lt}
use Rattle.laws.proofs.Headers.{header_ge, length_encode}
use Rattle.laws.proofs.Looking.{look_stop, look_item}
use Rattle.laws.proofs.Parts.{part_take, take_append}
use Rattle.laws.proofs.Sides.{Side, below, above, side}
use Rattle.demand3.proofs.Blank.{and_true, blank_append, blank_drop, blank_is}
use Rattle.demand3.proofs.Bytes.{number_bytes}
use Rattle.demand3.proofs.Courses.{walk_step, blank_walk}
use Rattle.demand3.proofs.Invariant.{CleanRest}

-- over m bytes from address a on the walk w accepts nothing, refuses only addresses of theirs, and leaves a clean rest
pub record PassedBy (g : Geometry) (a m : ℕ) (w : Walk) : Type 0 where
  pub none : w.heads ≡ []
  pub refuses : (x : ℕ) → Memᴰ x w.refused → (a ≤ x) × (x < a + m)
  pub clean : CleanRest g w.rest

-- m bytes of the header of a slip of length n: where only the eighth is missing, the high byte of the length CRC, it is not FF
abbrev pub LastTells : ℕ → ℕ → Type 0
LastTells m n = m ≡ 7 → length_crc (bytes_of 2 n) / 256 ≡ 255 → ⊥

-- ---- the length CRC

-- the bytes have the length CRC of the length that they have
abbrev Checked : List ℕ → Type 0
Checked d = length_crc (part 4 2 d) ≡ number_of (part 6 2 d)

-- it is FFFF, which no length has
ones_unchecked : (x z : List ℕ) → length x ≤ 6 → 8 ≤ length x + length z → blank z ≡ true → Checked (x ++ z) → ⊥
unfolding number_of
ones_unchecked x z h l e k =
    let i : ℕ = 6 - length x in
    let y : 6 ≡ length x + i = omega arith in
    let q : part 6 2 (x ++ z) ≡ replicate 2 255 =
    ap (λ (s : ℕ). take 2 (drop s (x ++ z))) y ∙ ap (take 2) (drop-append-add x z i)
    ∙ blank_is 2 (drop i z) (blank_drop i z e) (omega (arith, length-drop i z)) in
    length_not_ones (part 4 2 (x ++ z)) (k ∙ ap number_of q)

module _ (g : Geometry) (pos : 0 < g.word) where
  encode_checked : (c n : ℕ) → Checked (encode g c n)
  unfolding encode bytes_of
  encode_checked c n = sym (number_bytes 2 (length_crc (bytes_of 2 n)) (length_lt (bytes_of 2 n)))

  -- its high byte is FF, and the length's is not
  seven_unchecked : (c n : ℕ) (z : List ℕ) → 8 ≤ 7 + length z → blank z ≡ true → LastTells 7 n → Checked (take 7 (encode g c n) ++ z) → ⊥
  unfolding encode bytes_of blank number_of
  seven_unchecked c n [] l e t k = omega arith
  seven_unchecked c n (p ∷ z) l e t k =
      let f : p ≡ 255 = eqb-true p 255 (and_true (eqb p 255) _ e).0 in
      let q : length_crc (bytes_of 2 n) ≡ length_crc (bytes_of 2 n) % 256 + 256 * (p + 256 * 0) = k in
      t refl (omega arith)

  -- where the length's is FF too, seven bytes and FF read as the whole header
  pub seven_read : (c n : ℕ) (z : List ℕ) → header_size g ≤ 7 + length z → blank z ≡ true → length_crc (bytes_of 2 n) / 256 ≡ 255
      → take (header_size g) (take 7 (encode g c n) ++ z) ≡ encode g c n
  unfolding encode bytes_of
  seven_read c n z l e f =
      let k : ℕ = header_size g - 8 in
      let T : List ℕ = take 7 (encode g c n) in
      let q : header_size g ≡ length T + suc k = omega (arith, header_ge g pos) in
      ap (λ (y : ℕ). take y (T ++ z)) q ∙ take-append-add T z (suc k) ∙ ap (λ (y : List ℕ). T ++ y) (blank_is (suc k) z e (omega (arith, header_ge g pos)))
      ∙ ap (λ (y : ℕ). T ++ (y % 256 ∷ replicate k 255)) (sym f)

  length_begun : (m c n : ℕ) → m < 8 → length (take m (encode g c n)) ≡ m
  length_begun m c n h = length-take-le m (encode g c n) (omega (arith, length_encode g pos c n, header_ge g pos))

  begun_unchecked : (m c n : ℕ) (z : List ℕ) → m < 8 → 8 ≤ m + length z → blank z ≡ true → LastTells m n → Checked (take m (encode g c n) ++ z) → ⊥
  begun_unchecked m c n z h l e t = by (side m 7)
    where
      by : Side m 7 → Checked (take m (encode g c n) ++ z) → ⊥
      by (below s) = ones_unchecked (take m (encode g c n)) z (omega (arith, length_begun m c n h)) (omega (arith, length_begun m c n h)) e
      by (above s) =
          let q : 7 ≡ m = omega arith in
          subst (λ (y : ℕ). 8 ≤ y + length z → LastTells y n → Checked (take y (encode g c n) ++ z) → ⊥) q (λ r. seven_unchecked c n z r e) l t

  -- ---- the walk

  module _ (z : List ℕ) (e : blank z ≡ true) where
    -- FF as far as a header goes, and so to the end
    blank_behind : (x : List ℕ) → length x ≤ header_size g → blank (take (header_size g) (x ++ z)) ≡ true → blank (x ++ z) ≡ true
    blank_behind x h b =
        let n : ℕ = header_size g in
        let s = sym (ap blank (take_append n x z) ∙ blank_append (take n x) (take (n - length x) z)) ∙ b in
        let f : blank x ≡ true = ap blank (sym (take_all n x h)) ∙ (and_true (blank (take n x)) (blank (take (n - length x) z)) s).0 in
        blank_append x z ∙ ap₂ ◌&&◌ f e

    -- fewer than 8 bytes, word by word
    passed : (k a : ℕ) (x : List ℕ) → length x ≡ k * g.word → length x < 8 → (8 ≤ length x + length z → Checked (x ++ z) → ⊥)
        → PassedBy g a (length x) (walk g 0 a (x ++ z))
    unfolding onward
    passed zero a [] h l u = rw (blank_walk g pos a z e) (record { none = refl; refuses = λ y m. absurd (Memᴰ.not-nil m); clean = inr e })
    passed zero a (b ∷ x) h l u = let k : ⊥ = omega (arith, zero-mul g.word) in absurd k
    passed (suc k) a x h l u =
        by (look g (x ++ z)) refl (passed k (a + w) (drop w x) (omega (arith, length-drop w x)) (omega (arith, length-drop w x))
        (λ r. ones_unchecked (drop w x) z (omega (arith, length-drop w x)) r e))
      where
        w : ℕ
        w = g.word

        stopped : (length (x ++ z) < header_size g) ⊎ (blank (take (header_size g) (x ++ z)) ≡ true) → CleanRest g (x ++ z)
        stopped (inl r) = inl r
        stopped (inr b) = inr (blank_behind x (omega (arith, header_ge g pos)) b)

        more : PassedBy g (a + w) (length (drop w x)) (walk g 0 (a + w) (drop w x ++ z)) → (y : ℕ)
            → (y ≡ a) ⊎ Memᴰ y (walk g 0 (a + w) (drop w x ++ z)).refused → (a ≤ y) × (y < a + length x)
        more P y (inl q) = (omega arith, omega arith)
        more P y (inr m) = let r = P.refuses y m in (omega (arith, r.0), omega (arith, r.1, length-drop w x))

        by : (s : Look) → look g (x ++ z) ≡ s → PassedBy g (a + w) (length (drop w x)) (walk g 0 (a + w) (drop w x ++ z))
            → PassedBy g a (length x) (walk g 0 a (x ++ z))
        by stop s P =
            let q : walk g 0 a (x ++ z) ≡ record { heads = []; refused = []; rest = x ++ z } = walk_step g pos a (x ++ z) ∙ rw s in
            rw q (record { none = refl; refuses = λ y m. absurd (Memᴰ.not-nil m); clean = stopped (look_stop g (x ++ z) s) })
        by bad s P =
            let on : Walk = walk g 0 (a + w) (drop w x ++ z) in
            let q : walk g 0 a (x ++ z) ≡ record { heads = on.heads; refused = a ∷ on.refused; rest = on.rest } =
            walk_step g pos a (x ++ z) ∙ rw (s, drop-append-le w x z (omega arith)) in
            rw q (record { none = P.none; refuses = λ y m. more P y (Memᴰ.cases_cons m); clean = P.clean })
        by (item c n body) s P =
            let T = look_item g (x ++ z) s in
            absurd (u (omega (arith, T.room, length-append x z, header_ge g pos)) T.check)

  -- the first m bytes of a header, whole words
  module _ (m c n : ℕ) (z : List ℕ) (h : m < 8) (e : blank z ≡ true) (t : LastTells m n) where
    pub begun_walk : (j b : ℕ) → m ≡ j * g.word → PassedBy g b m (walk g 0 b (take m (encode g c n) ++ z))
    begun_walk j b w =
        let x : List ℕ = take m (encode g c n) in
        let l : length x ≡ m = length_begun m c n h in
        subst (λ (y : ℕ). PassedBy g b y (walk g 0 b (x ++ z))) l
        (passed z e j b x (l ∙ w) (omega arith) (λ r. begun_unchecked m c n z h (omega arith) e t))

    pub begun_unread : header_size g ≤ m + length z → take (header_size g) (take m (encode g c n) ++ z) ≡ encode g c n → ⊥
    begun_unread r q = begun_unchecked m c n z h (omega (arith, header_ge g pos)) e t
        (ap length_crc (same 4 2 (omega arith)) ∙ encode_checked c n ∙ ap number_of (sym (same 6 2 (omega arith))))
      where
        same : (i k : ℕ) → i + k ≤ 8 → part i k (take m (encode g c n) ++ z) ≡ part i k (encode g c n)
        same i k s = sym (part_take i k (header_size g) (take m (encode g c n) ++ z) (omega (arith, header_ge g pos))) ∙ ap (part i k) q
