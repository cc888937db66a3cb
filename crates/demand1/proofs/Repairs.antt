-- After a repair a Corrupted page is Open and every other page is as it was. Assumes nothing.
use mathlib.Core.Path.{◌≡◌, refl, sym, ap, ◌∙◌, subst}
use mathlib.Core.Bool.{Bool, true, false, cond}
use mathlib.Core.List.{List, [], ◌∷◌, ◌++◌}
use Prim.Native.Nat.{ℕ, zero, suc, ◌+◌, ◌<◌}
use native.Mathlib.Nat.{add-zero}
use native.Mathlib.Numerals.{add-one}
use native.Mathlib.Omega.{arith}
use lib.ListN.{length}
use Rattle.paper.specs.declared.Geometry.{Geometry}
use Rattle.paper.specs.declared.PageState.TheVariants.{Open, Corrupted}
use Rattle.paper.specs.Chip.{page_bytes, erase_page, image_after}
use Rattle.paper.specs.Pages.{state, same, next, around, from, all_pages, repairs, repair}
use Rattle.laws.proofs.Accepted.{Laid}
use Rattle.laws.proofs.ErasePage.{erase_then}
use Rattle.laws.proofs.Ring.{next_on}
use Rattle.laws.proofs.Sides.{Apart, is, differs, apart}
use Rattle.demand1.specs.Range.{Each}
use Rattle.demand1.specs.Rows.{repaired}
use Rattle.demand1.proofs.Lists.{never}
use Rattle.demand1.proofs.Pages.{state_same, all_in}
use Rattle.demand1.proofs.Lying.{frame_after}
use Rattle.demand1.proofs.Searches.{repair_lies}
use Rattle.demand1.proofs.Frames.{erase_long, erase_other, erase_open}

-- what holds of all pages, in page order, holds of each
around_of : (g : Geometry) (P : ℕ → Type 0) (k i p : ℕ) → i < k → p + i < g.pages → Each P (around g k p) → P (p + i)
unfolding around
around_of g P zero i p h l e = absurd (omega arith)
around_of g P (suc k) zero p h l e = subst P (sym (add-zero p)) e.0
around_of g P (suc k) (suc i) p h l e =
    let z : suc p + i ≡ p + suc i = omega arith in
    let n : next g p ≡ suc p = next_on g p (omega arith) ∙ add-one p in
    subst P z (around_of g P k i (suc p) (omega arith) (omega arith) (subst (λ (x : ℕ). Each P (around g k x)) n e.1))

pub all_of : (g : Geometry) (P : ℕ → Type 0) → Each P (all_pages g) → (p : ℕ) → p < g.pages → P p
unfolding all_pages from
all_of g P e p h = let z : 0 + p ≡ p = omega arith in subst P z (around_of g P g.pages p 0 h (omega arith) e)

-- im before, jm after
pub data Mended (g : Geometry) (im jm : List ℕ) (p : ℕ) : Type 0 where
  opened : same (state g im p) Corrupted ≡ true → state g jm p ≡ Open → Mended g im jm p
  kept : same (state g im p) Corrupted ≡ false → page_bytes g jm p ≡ page_bytes g im p → Mended g im jm p

module _ {g : Geometry} {n : ℕ} (S : Laid g n) (im : List ℕ) where
  -- a page stays Open, whatever else is erased
  erase_stays : (p q : ℕ) (jm : List ℕ) → length jm ≡ n → p < g.pages → q < g.pages → state g jm p ≡ Open → state g (image_after g (erase_page g q) jm) p ≡ Open
  erase_stays p q jm long hp hq o = by (apart p q)
    where
      by : Apart p q → state g (image_after g (erase_page g q) jm) p ≡ Open
      by (is e) = subst (λ (x : ℕ). state g (image_after g (erase_page g q) jm) x ≡ Open) (sym e) (erase_open S jm long q hq)
      by (differs e) = state_same S (image_after g (erase_page g q) jm) jm p (erase_other S jm long q hq p hp e) ∙ o

  module _ (p : ℕ) (hp : p < g.pages) where
    open_stays : (ps : List ℕ) → Each (λ q. q < g.pages) ps → (jm : List ℕ) → length jm ≡ n → state g jm p ≡ Open
        → state g (image_after g (repairs g im ps) jm) p ≡ Open
    unfolding repairs image_after
    open_stays [] h jm long o = o
    open_stays (q ∷ ps) h jm long o = by (same (state g im q) Corrupted) (open_stays ps h.1)
      where
        by : (t : Bool) → ((jm : List ℕ) → length jm ≡ n → state g jm p ≡ Open → state g (image_after g (repairs g im ps) jm) p ≡ Open)
            → state g (image_after g (cond t (erase_page g q ++ repairs g im ps) (repairs g im ps)) jm) p ≡ Open
        by true f = rw (erase_then g q (repairs g im ps) jm)
            (f (image_after g (erase_page g q) jm) (erase_long S jm long q h.0) (erase_stays p q jm long hp h.0 o))
        by false f = f jm long o

    kept_stays : same (state g im p) Corrupted ≡ false → (ps : List ℕ) → Each (λ q. q < g.pages) ps → (jm : List ℕ) → length jm ≡ n
        → page_bytes g (image_after g (repairs g im ps) jm) p ≡ page_bytes g jm p
    unfolding repairs image_after
    kept_stays s [] h jm long = refl
    kept_stays s (q ∷ ps) h jm long = by (same (state g im q) Corrupted) refl (kept_stays s ps h.1)
      where
        by : (t : Bool) → same (state g im q) Corrupted ≡ t
            → ((jm : List ℕ) → length jm ≡ n → page_bytes g (image_after g (repairs g im ps) jm) p ≡ page_bytes g jm p)
            → page_bytes g (image_after g (cond t (erase_page g q ++ repairs g im ps) (repairs g im ps)) jm) p ≡ page_bytes g jm p
        by true e f =
            ap (λ (x : List ℕ). page_bytes g x p) (erase_then g q (repairs g im ps) jm)
            ∙ f (image_after g (erase_page g q) jm) (erase_long S jm long q h.0)
            ∙ erase_other S jm long q h.0 p hp
            (λ z. let x : same (state g im q) Corrupted ≡ false = subst (λ (y : ℕ). same (state g im y) Corrupted ≡ false) z s in
            never (cc))
        by false e f = f jm long

  mends : (ps : List ℕ) → Each (λ q. q < g.pages) ps → (jm : List ℕ) → length jm ≡ n
      → Each (λ p. same (state g im p) Corrupted ≡ true → state g (image_after g (repairs g im ps) jm) p ≡ Open) ps
  unfolding repairs image_after
  mends [] h jm long = tt
  mends (q ∷ ps) h jm long = by (same (state g im q) Corrupted) refl (mends ps h.1)
    where
      after : Bool → List ℕ
      after t = image_after g (cond t (erase_page g q ++ repairs g im ps) (repairs g im ps)) jm

      by : (t : Bool) → same (state g im q) Corrupted ≡ t
          → ((jm : List ℕ) → length jm ≡ n → Each (λ p. same (state g im p) Corrupted ≡ true → state g (image_after g (repairs g im ps) jm) p ≡ Open) ps)
          → (same (state g im q) Corrupted ≡ true → state g (after t) q ≡ Open)
          × Each (λ p. same (state g im p) Corrupted ≡ true → state g (after t) p ≡ Open) ps
      by true e f = rw (erase_then g q (repairs g im ps) jm) (
        λ c. open_stays q h.0 ps h.1 (image_after g (erase_page g q) jm) (erase_long S jm long q h.0) (erase_open S jm long q h.0),
        f (image_after g (erase_page g q) jm) (erase_long S jm long q h.0),
      )
      by false e f = (λ c. never (cc), f jm long)

  module _ (long : length im ≡ n) where
    pub repaired_long : length (repaired g im) ≡ n
    repaired_long = (frame_after S (repair g im) im long (repair_lies g im S.sized.some)).size ∙ long

    pub mended : (p : ℕ) → p < g.pages → Mended g im (repaired g im) p
    unfolding repair
    mended p h = by (same (state g im p) Corrupted) refl
      where
        by : (t : Bool) → same (state g im p) Corrupted ≡ t → Mended g im (repaired g im) p
        by true e = opened e (all_of g (λ q. same (state g im q) Corrupted ≡ true → state g (repaired g im) q ≡ Open)
            (mends (all_pages g) (all_in g S.sized.some) im long) p h e)
        by false e = kept e (kept_stays p h e (all_pages g) (all_in g S.sized.some) im long)
