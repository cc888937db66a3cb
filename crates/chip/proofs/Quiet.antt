-- Events that copy nothing leave the buffer: those of a write, of an erase and of a repair. Assumes nothing.
use mathlib.Core.Path.{◌≡◌, refl, sym, ap}
use mathlib.Core.Bool.{Bool, true, false, cond}
use mathlib.Core.List.{List, [], ◌∷◌, ◌++◌}
use Prim.Native.Nat.{ℕ, zero, suc, ◌+◌}
use native.Mathlib.Omega.{arith}
use lib.ListN.{drop}
use Rattle.std.proofs.Common.{Option, Some, None}
use Rattle.paper.specs.declared.Geometry.{Geometry}
use Rattle.paper.specs.declared.PageState.TheVariants.{Corrupted}
use Rattle.paper.specs.Chip.{Event, store, erase, copy, words_for, words, writes, erase_page, image_by, buffer_by, buffer_after, before}
use Rattle.paper.specs.Pages.{state, same, repairs, repair, all_pages}
use Rattle.laws.proofs.ErasePage.{erase_page_is}
use Rattle.chip.specs.declared.Budget.{Budget}
use Rattle.chip.specs.Run.{Spent, allowed, made, Did, Acted}

-- how many copies a list of events makes
unfoldable pub copy_count : List Event → ℕ
copy_count [] = 0
copy_count (store a bs ∷ es) = copy_count es
copy_count (erase p ∷ es) = copy_count es
copy_count (copy a n ∷ es) = suc (copy_count es)

pub quiet_append : (xs ys : List Event) → copy_count xs ≡ 0 → copy_count ys ≡ 0 → copy_count (xs ++ ys) ≡ 0
unfolding copy_count
quiet_append [] ys e f = f
quiet_append (store a bs ∷ xs) ys e f = quiet_append xs ys e f
quiet_append (erase p ∷ xs) ys e f = quiet_append xs ys e f
quiet_append (copy a n ∷ xs) ys e f = absurd (omega arith)

quiet_before : (k : ℕ) (es : List Event) → copy_count es ≡ 0 → copy_count (before k es) ≡ 0
unfolding copy_count before
quiet_before k [] e = refl
quiet_before k (copy a n ∷ es) e = absurd (omega arith)
quiet_before zero (store a bs ∷ es) e = refl
quiet_before (suc k) (store a bs ∷ es) e = quiet_before k es e
quiet_before zero (erase p ∷ es) e = refl
quiet_before (suc k) (erase p ∷ es) e = quiet_before k es e

quiet_made : (b : Budget) (es : List Event) → copy_count es ≡ 0 → copy_count (made b es) ≡ 0
unfolding made
quiet_made b es e = go b.0
  where
    go : (l : Option ℕ) → copy_count (allowed l es) ≡ 0
    go (Some k) = quiet_before k es e
    go None = e

quiet_buffer : (g : Geometry) (es : List Event) (i d : List ℕ) → copy_count es ≡ 0 → buffer_after g es i d ≡ d
unfolding copy_count buffer_after buffer_by
quiet_buffer g [] i d e = refl
quiet_buffer g (store a bs ∷ es) i d e = quiet_buffer g es (image_by g (store a bs) i) d e
quiet_buffer g (erase p ∷ es) i d e = quiet_buffer g es (image_by g (erase p) i) d e
quiet_buffer g (copy a n ∷ es) i d e = absurd (omega arith)

-- ---- so a run of them

pub acted_quiet : {g : Geometry} {b : Budget} {es : List Event} {i o : List ℕ} {r : Spent} (d : List ℕ) → copy_count es ≡ 0
    → Did g b es i o r → Acted g b es i o d d r
acted_quiet {g} {b} {es} {i} d e h = record { did = h; buffer = sym (quiet_buffer g (made b es) i d (quiet_made b es e)) }

-- ---- the events that are such

pub writes_quiet : (g : Geometry) (a : ℕ) (bytes : List ℕ) → copy_count (writes g a bytes) ≡ 0
unfolding copy_count writes words
writes_quiet g a bytes = go (words_for g.word _) a bytes
  where
    go : (k a : ℕ) (bytes : List ℕ) → copy_count (words g.word k a bytes) ≡ 0
    go zero a bytes = refl
    go (suc k) a bytes = go k (a + g.word) (drop g.word bytes)

pub erase_quiet : (g : Geometry) (p : ℕ) → copy_count (erase_page g p) ≡ 0
unfolding copy_count
erase_quiet g p = ap copy_count (erase_page_is g p)

pub repair_quiet : (g : Geometry) (im : List ℕ) → copy_count (repair g im) ≡ 0
unfolding copy_count repair repairs
repair_quiet g im = go (all_pages g)
  where
    by : (t : Bool) (p : ℕ) (es : List Event) → copy_count es ≡ 0 → copy_count (cond t (erase_page g p ++ es) es) ≡ 0
    by true p es e = quiet_append (erase_page g p) es (erase_quiet g p) e
    by false p es e = e

    go : (ps : List ℕ) → copy_count (repairs g im ps) ≡ 0
    go [] = refl
    go (p ∷ ps) = by (same (state g im p) Corrupted) p (repairs g im ps) (go ps)
