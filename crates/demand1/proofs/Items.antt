-- What a look tells of an item that it accepts; and that a walk's payloads are parts of the image. Assumes nothing.
use mathlib.Core.Path.{◌≡◌, refl, sym, ap, ap₂, ◌∙◌}
use mathlib.Core.List.{List, [], ◌∷◌}
use Prim.Native.Nat.{ℕ, zero, suc, ◌+◌, ◌-◌, ◌≤◌, min}
use native.Mathlib.Omega.{arith}
use lib.ListN.{length, take, drop, length-take, length-drop}
use lib.Seq.{drop-drop, take-nil}
use Rattle.paper.specs.declared.Geometry.{Geometry}
use Rattle.paper.specs.Chip.{round_up, header_size, data_end, page_of, part}
use Rattle.paper.specs.Slip.{Look, stop, bad, item, look}
use Rattle.paper.specs.Scan.{Head, onward, walk, walk_on}
use Rattle.laws.proofs.Looking.{look_item, look_word}
use Rattle.laws.proofs.Parts.{part_part}
use Rattle.laws.proofs.Rounding.{round_up_ge}
use Rattle.demand1.specs.Range.{Each}
use Rattle.demand1.proofs.Lists.{never}

-- ---- one look

-- the item is inside
pub look_room : (g : Geometry) (d : List ℕ) {c n : ℕ} {body : List ℕ} → look g d ≡ item c n body → header_size g + round_up g.word n ≤ length d
look_room g d e = (look_item g d e).room

-- ---- a walk over a part of the image

-- a header's length is no more than rounded, its item is inside the image, and its payload stands there
pub record Intact (g : Geometry) (im : List ℕ) (h : Head) : Type 0 where
  pub rounds : h.len ≤ round_up g.word h.len
  pub inside : h.place + (header_size g + round_up g.word h.len) ≤ length im
  pub stands : part (h.place + header_size g) h.len im ≡ h.body

part_tail : (a m b : ℕ) (bs im : List ℕ) → b ∷ bs ≡ part a m im → bs ≡ part (suc a) (m - 1) im
part_tail a zero b bs im e = never (cc)
part_tail a (suc m) b bs im e =
    let z : a + 1 ≡ suc a = omega arith in
    let y : suc m - 1 ≡ m = omega arith in
    ap (drop 1) e ∙ shift (drop a im) ∙ ap (take m) (drop-drop 1 a im) ∙ ap₂ (λ (i j : ℕ). part i j im) z (sym y)
  where
    shift : (l : List ℕ) → drop 1 (take (suc m) l) ≡ take m (drop 1 l)
    shift [] = sym (take-nil m)
    shift (x ∷ l) = refl

module _ (g : Geometry) (im : List ℕ) where
  walk_whole : (k a m : ℕ) (d : List ℕ) → d ≡ part a m im → Each (Intact g im) (walk g k a d).heads
  unfolding walk onward
  walk_whole k a m [] e = tt
  walk_whole (suc k) a m (b ∷ bs) e = walk_whole k (suc a) (m - 1) bs (part_tail a m b bs im e)
  walk_whole zero a m (b ∷ bs) e = by (look g (b ∷ bs)) refl (λ k. walk_whole k (suc a) (m - 1) bs (part_tail a m b bs im e))
    where
      by : (x : Look) → look g (b ∷ bs) ≡ x → ((k : ℕ) → Each (Intact g im) (walk g k (suc a) bs).heads)
          → Each (Intact g im) (onward g a (b ∷ bs) x (λ i. walk g (i - 1) (suc a) bs)).heads
      by stop q f = tt
      by bad q f = f (g.word - 1)
      by (item c n body) q f =
          let r = round_up_ge g.word n (look_word g (b ∷ bs) q) in
          let k = look_room g (b ∷ bs) q in
          let x : length (b ∷ bs) ≡ min m (length im - a) = ap length e ∙ length-take m (drop a im) ∙ ap (min m) (length-drop a im) in (
            record {
              rounds = r;
              inside = omega arith;
              stands = sym (part_part a m (header_size g) n im (omega arith)) ∙ ap (part (header_size g) n) (sym e) ∙ (look_item g (b ∷ bs) q).body_is;
            },
            f (header_size g + round_up g.word n - 1),
          )

  pub walk_on_whole : (a : ℕ) → Each (Intact g im) (walk_on g im a).heads
  unfolding walk_on
  walk_on_whole a = let m : ℕ = data_end g (page_of g a) - a in walk_whole 0 a m (part a m im) refl
