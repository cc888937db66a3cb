-- A look at some bytes, taken apart: what each of its answers tells of the bytes, and what the bytes have to be for it. Assumes nothing.
use mathlib.Core.Bool.{Bool, true, false, cond, ◌||◌, ◌&&◌, or-true}
use mathlib.Core.List.{List}
use mathlib.Core.Logic.{◌⊎◌, inl, inr}
use mathlib.Core.Path.{◌≡◌, refl, ap, ◌∙◌, subst}
use Prim.Native.Nat.{ℕ, zero, suc, ◌+◌, ◌*◌, ◌≤◌, ◌<◌}
use native.Mathlib.Nat.{mul-zero}
use native.Mathlib.Omega.{arith}
use borrow.Author.Tests.{ltb-true, ltb-false, le-ltb, leb-true, leb-false, eqb-true, eqb-false, eq-eqb, le-leb}
use lib.Dec.{ltb, leb, eqb}
use lib.ListN.{length, take}
use Rattle.paper.specs.declared.Geometry.{Geometry}
use Rattle.paper.specs.Checksum.{length_crc}
use Rattle.paper.specs.Chip.{words_for, round_up, header_size, part}
use Rattle.paper.specs.Slip.{Look, stop, bad, item, look, decode, blank, number_of}

-- what an accepted header says of the bytes
pub record Taken (g : Geometry) (d : List ℕ) (c n : ℕ) (body : List ℕ) : Type 0 where
  pub room : header_size g + round_up g.word n ≤ length d
  pub used : blank (take (header_size g) d) ≡ false
  pub check : length_crc (part 4 2 d) ≡ number_of (part 6 2 d)
  pub crc_is : number_of (take 4 d) ≡ c
  pub len_is : number_of (part 4 2 d) ≡ n
  pub body_is : part (header_size g) n d ≡ body

-- what a refused one says
pub record Refused (g : Geometry) (d : List ℕ) : Type 0 where
  pub room : header_size g ≤ length d
  pub used : blank (take (header_size g) d) ≡ false
  pub wrong : (length_crc (part 4 2 d) ≡ number_of (part 6 2 d) → ⊥) ⊎ (length d < header_size g + round_up g.word (number_of (part 4 2 d)))

-- what each answer says
abbrev pub LookTells : Geometry → List ℕ → Look → Type 0
LookTells g d stop = (length d < header_size g) ⊎ (blank (take (header_size g) d) ≡ true)
LookTells g d bad = Refused g d
LookTells g d (item c n body) = Taken g d c n body

module _ (g : Geometry) (d : List ℕ) where
  -- ---- from the answer to the bytes

  tells : LookTells g d (look g d)
  unfolding look decode
  tells = by (ltb (length d) (header_size g)) (blank (take (header_size g) d)) refl refl
    where
      len : ℕ
      len = number_of (part 4 2 d)

      size : ℕ
      size = header_size g + round_up g.word len

      behind : (s t : Bool) → eqb (length_crc (part 4 2 d)) (number_of (part 6 2 d)) ≡ s → leb size (length d) ≡ t
          → ltb (length d) (header_size g) ≡ false → blank (take (header_size g) d) ≡ false
          → LookTells g d (cond (s && t) (item (number_of (take 4 d)) len (part (header_size g) len d)) bad)
      behind true true s t u v = record {
        room = leb-true size (length d) t;
        used = v;
        check = eqb-true (length_crc (part 4 2 d)) (number_of (part 6 2 d)) s;
        crc_is = refl;
        len_is = refl;
        body_is = refl;
      }
      behind true false s t u v = record { room = ltb-false (length d) (header_size g) u; used = v; wrong = inr (leb-false size (length d) t) }
      behind false t s l u v = record {
        room = ltb-false (length d) (header_size g) u;
        used = v;
        wrong = inl (eqb-false (length_crc (part 4 2 d)) (number_of (part 6 2 d)) s);
      }

      by : (s t : Bool) → ltb (length d) (header_size g) ≡ s → blank (take (header_size g) d) ≡ t → LookTells g d (cond (s || t) stop (decode g d))
      by true t u v = inl (ltb-true (length d) (header_size g) u)
      by false true u v = inr v
      by false false u v = behind (eqb (length_crc (part 4 2 d)) (number_of (part 6 2 d))) (leb size (length d)) refl refl u v

  pub look_stop : look g d ≡ stop → (length d < header_size g) ⊎ (blank (take (header_size g) d) ≡ true)
  look_stop e = subst (LookTells g d) e tells

  pub look_bad : look g d ≡ bad → Refused g d
  look_bad e = subst (LookTells g d) e tells

  pub look_item : {c n : ℕ} {body : List ℕ} → look g d ≡ item c n body → Taken g d c n body
  look_item e = subst (LookTells g d) e tells

  -- where an item is accepted a word has some bytes
  pub look_word : {c n : ℕ} {body : List ℕ} → look g d ≡ item c n body → 0 < g.word
  unfolding header_size round_up blank
  look_word e = go g.word refl (look_item e).used
    where
      go : (w : ℕ) → g.word ≡ w → blank (take (header_size g) d) ≡ false → 0 < w
      go zero q u =
          let z : header_size g ≡ 0 = ap (λ (x : ℕ). words_for x 8 * x) q ∙ mul-zero (words_for 0 8) in
          let b : blank (take (header_size g) d) ≡ true = rw z in
          let f : ◌≡◌ {A = ℕ} 0 1 = cc in absurd (omega arith)
      go (suc w) q u = omega arith

  -- ---- from the bytes to the answer

  pub blank_stop : blank (take (header_size g) d) ≡ true → look g d ≡ stop
  unfolding look
  blank_stop e = rw (e, or-true (ltb (length d) (header_size g)))

  pub item_look : {c n : ℕ} {body : List ℕ} → Taken g d c n body → look g d ≡ item c n body
  unfolding look decode
  item_look {c} {n} {body} h =
      rw (
        le-ltb (length d) (header_size g) (omega (arith, h.room)),
        h.used,
        eq-eqb (length_crc (part 4 2 d)) (number_of (part 6 2 d)) h.check,
        h.len_is,
        le-leb (header_size g + round_up g.word n) (length d) h.room,
        h.crc_is,
        h.body_is,
      )

  -- where a header does not pass the end and its bytes are not all FF, the look does not stop
  pub used_looks : header_size g ≤ length d → blank (take (header_size g) d) ≡ false → look g d ≡ stop → ⊥
  used_looks h u e = by (look_stop e)
    where
      by : (length d < header_size g) ⊎ (blank (take (header_size g) d) ≡ true) → ⊥
      by (inl l) = omega arith
      by (inr b) = let f : ◌≡◌ {A = ℕ} 0 1 = cc in omega arith
