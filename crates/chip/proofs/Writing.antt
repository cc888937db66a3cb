-- A write, word by word: the padded word, and the turns and the end of the loop that writes. Assumes nothing.
use mathlib.Core.Path.{◌≡◌, refl, sym, ap, ◌∙◌}
use mathlib.Core.Bool.{Bool, true, false}
use mathlib.Core.List.{List, [], ◌∷◌, ◌++◌}
use Prim.Native.Nat.{ℕ, ◌+◌, ◌-◌, ◌≤◌, ◌<◌, min}
use native.Mathlib.Omega.{arith}
use borrow.Author.Tests.{leb-true, leb-false}
use lib.Dec.{leb}
use lib.ListN.{length, take, drop, replicate, length-drop, length-append, drop_of_length-le}
use lib.Seq.{drop-append_seam, take-length, take_at, length-take-le, take-append-le, take-append-add}
use Rattle.std.proofs.lemmas.List.{nil_from_length}
use Rattle.paper.specs.declared.Geometry.{Geometry}
use Rattle.paper.specs.Chip.{store, words, writes}
use Rattle.chip.specs.declared.Budget.{Budget}
use Rattle.chip.specs.Run.{Spent, Did}
use Rattle.laws.proofs.Parts.{take_replicate}
use Rattle.laws.proofs.Rounding.{words_none, words_step}
use Rattle.chip.proofs.Running.{did_then, did_cut}

-- ---- a padded word

-- the first w bytes of D, padded by as many as are wanted, however many stand there
pub pad_end : (D : List ℕ) (v w n m : ℕ) → n ≡ min w (length D) → w ≤ n + m → take w (take n D ++ replicate m v) ≡ take w (D ++ replicate w v)
pad_end D v w n m e h = go (leb w (length D)) refl
  where
    go : (t : Bool) → leb w (length D) ≡ t → take w (take n D ++ replicate m v) ≡ take w (D ++ replicate w v)
    go true q =
        let l : w ≤ length D = leb-true w (length D) q in
        let z : n ≡ w = omega arith in
        rw z (take_at (take w D) (replicate m v) w (length-take-le w D l) ∙ sym (take-append-le w D (replicate w v) l))
    go false q =
        let l : length D < w = leb-false w (length D) q in
        let z : n ≡ length D = omega arith in
        let s : w ≡ length D + (w - length D) = omega arith in
        let k : ℕ = w - length D in
        let f : (m : ℕ) → k ≤ m → take w (D ++ replicate m v) ≡ D ++ replicate k v =
        λ m g. ap (λ (x : ℕ). take x (D ++ replicate m v)) s ∙ take-append-add D (replicate m v) k ∙ ap (λ (x : List ℕ). D ++ x) (take_replicate k m v g) in
        rw (z, take-length D) (f m (omega arith) ∙ sym (f w (omega arith)))

-- ---- a chunk of k bytes, the first ones of D

module _ {w k : ℕ} (chunk later D : List ℕ) (same : k ≡ w) (e : D ≡ chunk ++ later) (f : length chunk ≡ min k (length D)) where
  -- with zeros behind it, it is D's first word
  pub chunk_padded : {padded : List ℕ} (m : ℕ) → padded ≡ chunk ++ replicate m 0 → w ≤ length chunk + m → take w padded ≡ take w (D ++ replicate w 0)
  chunk_padded m q h =
      let t : take (length chunk) D ≡ chunk = ap (take (length chunk)) e ∙ take_at chunk later (length chunk) refl in
      ap (take w) q ∙ ap (λ (x : List ℕ). take w (x ++ replicate m 0)) (sym t) ∙ pad_end D 0 w (length chunk) m (omega (arith, f, same)) h

  -- behind it stands what is left of D
  pub chunk_later : later ≡ drop w D
  chunk_later = grind (arith, length-append, drop-append_seam, nil_from_length, drop_of_length-le)

-- ---- the words of a list

pub writes_none : (g : Geometry) (a : ℕ) (D : List ℕ) → 0 < g.word → length D ≡ 0 → writes g a D ≡ []
unfolding writes words
writes_none g a D h e = rw (e, words_none g.word h)

writes_cons : (g : Geometry) (a : ℕ) (D : List ℕ) → 0 < g.word → 0 < length D
    → writes g a D ≡ store a (take g.word (D ++ replicate g.word 0)) ∷ writes g (a + g.word) (drop g.word D)
unfolding writes words
writes_cons g a D h p = rw (words_step g.word (length D) h p, ← length-drop g.word D)

-- the first word was stored, or was too much for the budget
module _ {g : Geometry} {b : Budget} {i o word : List ℕ} {r : Spent} (a : ℕ) (D : List ℕ)
    (h : Did g b (store a word ∷ []) i o r) (e : word ≡ take g.word (D ++ replicate g.word 0)) (p : 0 < g.word) (l : 0 < length D) where
  pub write_cut : r.cut ≡ true → Did g b (writes g a D) i o r
  write_cut t = rw (writes_cons g a D p l, ← e) (did_cut h (writes g (a + g.word) (drop g.word D)) t)

  pub write_on : {m : List ℕ} {s : Spent} → r.cut ≡ false → Did g r.budget (writes g (a + g.word) (drop g.word D)) o m s → Did g b (writes g a D) i m s
  write_on t y = rw (writes_cons g a D p l, ← e) (did_then h t y)
