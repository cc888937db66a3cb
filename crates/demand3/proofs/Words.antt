-- Multi-word writes, and how far they have come after some of their stores. Assumes nothing.
use mathlib.Core.List.{List, [], ◌∷◌, ◌++◌, append_assoc, append-nil}
use mathlib.Core.Path.{◌≡◌, refl, sym, ap, ap₂, ◌∙◌, subst}
use Prim.Native.Nat.{ℕ, zero, suc, ◌+◌, ◌-◌, ◌*◌, ◌≤◌, ◌<◌}
use native.Mathlib.Nat.{add-zero, zero-add, zero-mul, suc-add, mul-le-mul_right, le_of_suc-le-suc, div-eq_of_lt-le}
use native.Mathlib.Omega.{arith}
use lib.ListN.{length, take, drop, replicate, length-drop, replicate-append-replicate}
use lib.Seq.{drop-drop, take-add, length-take-le, take-append-le, drop-append-le}
use Rattle.paper.specs.declared.Geometry.{Geometry}
use Rattle.paper.specs.Chip.{words_for, put, ands, Event, store, image_by, image_after, store_count, before, words, buffer_by, buffer_after, writes}
use Rattle.laws.proofs.Ands.{ands_length, ands_append, ands_nil}
use Rattle.laws.proofs.Events.{before_more}
use Rattle.laws.proofs.Parts.{drop_replicate, take_replicate, take_append, drop_append}
use Rattle.laws.proofs.Puts.{length_put, drop_through, put_nil, put_put}
use Rattle.demand3.proofs.Events.{Avoids}

pub count_words : (w k a : ℕ) (bs : List ℕ) → store_count (words w k a bs) ≡ k
unfolding words store_count
count_words w zero a bs = refl
count_words w (suc k) a bs = ap suc (count_words w k (a + w) (drop w bs))

-- zeros behind the bytes make no difference
pub words_pad : (w k a m : ℕ) (bs : List ℕ) → words w k a (bs ++ replicate m 0) ≡ words w k a bs
unfolding words
words_pad w zero a m bs = refl
words_pad w (suc k) a m bs =
    let n : ℕ = w - length bs in
    let z : take {A = ℕ} n (replicate m 0 ++ replicate w 0) ≡ take n (replicate w 0) =
    ap (take n) (replicate-append-replicate m w 0) ∙ take_replicate n (m + w) 0 (omega arith) ∙ sym (take_replicate n w 0 (omega arith)) in
    let h : take w ((bs ++ replicate m 0) ++ replicate w 0) ≡ take w (bs ++ replicate w 0) =
    ap (take w) (append_assoc bs (replicate m 0) (replicate w 0)) ∙ take_append w bs (replicate m 0 ++ replicate w 0)
    ∙ ap (λ (l : List ℕ). take w bs ++ l) z ∙ sym (take_append w bs (replicate w 0)) in
    let t : drop w (bs ++ replicate m 0) ≡ drop w bs ++ replicate (m - n) 0 =
    drop_append w bs (replicate m 0) ∙ ap (λ (l : List ℕ). drop w bs ++ l) (drop_replicate n m 0) in
    ap₂ (λ (x : List ℕ) (y : List Event). store a x ∷ y) h (ap (λ (l : List ℕ). words w k (a + w) l) t ∙ words_pad w k (a + w) (m - n) (drop w bs))

pub words_append : (w j k a : ℕ) (bs cs : List ℕ) → length bs ≡ j * w → words w (j + k) a (bs ++ cs) ≡ words w j a bs ++ words w k (a + j * w) cs
unfolding words
words_append w zero k a [] cs h = rw (zero-add, zero-mul, add-zero)
words_append w zero k a (b ∷ bs) cs h = let z : ⊥ = omega arith in absurd z
words_append w (suc j) k a bs cs h =
    let l : w ≤ length bs = omega arith in
    let t : take w ((bs ++ cs) ++ replicate w 0) ≡ take w (bs ++ replicate w 0) =
    ap (λ (q : List ℕ). take w q) (append_assoc bs cs (replicate w 0)) ∙ take-append-le w bs (cs ++ replicate w 0) l
    ∙ sym (take-append-le w bs (replicate w 0) l) in
    let z : a + w + j * w ≡ a + suc j * w = omega arith in
    let ih : words w (j + k) (a + w) (drop w bs ++ cs) ≡ words w j (a + w) (drop w bs) ++ words w k (a + w + j * w) cs =
    words_append w j k (a + w) (drop w bs) cs (omega (arith, length-drop w bs)) in
    rw (suc-add, ← z) (ap₂ (λ (x : List ℕ) (y : List Event). store a x ∷ y) t (ap (λ (q : List ℕ). words w (j + k) (a + w) q) (drop-append-le w bs cs l) ∙ ih))

two : (a w : ℕ) (x y im : List ℕ) → length x ≡ w → a + w + length y ≤ length im → put (a + w) y (put a x im) ≡ put a (x ++ y) im
two a w x y im e = subst (λ (k : ℕ). a + k + length y ≤ length im → put (a + k) y (put a x im) ≡ put a (x ++ y) im) e (put_put a x y im)

beyond : (a w : ℕ) (x im : List ℕ) → length x ≡ w → a + w ≤ length im → drop (a + w) (put a x im) ≡ drop (a + w) im
beyond a w x im e = subst (λ (k : ℕ). a + k ≤ length im → drop (a + k) (put a x im) ≡ drop (a + k) im) e (drop_through a x im)

no_words : (w a : ℕ) (bs im : List ℕ) → im ≡ put a (ands (drop a im) (take (0 * w) bs)) im
no_words w a bs im = rw (zero-mul, ands_nil) (sym (put_nil a im))

-- after j words of a write
pub words_prefix : (g : Geometry) (w j k a : ℕ) (bs im : List ℕ) → j ≤ k → length bs ≡ k * w → a + k * w ≤ length im
    → image_after g (before j (words w k a bs)) im ≡ put a (ands (drop a im) (take (j * w) bs)) im
unfolding words before image_after image_by
words_prefix g w zero zero a bs im h l r = no_words w a bs im
words_prefix g w zero (suc k) a bs im h l r = no_words w a bs im
words_prefix g w (suc j) zero a bs im h l r = let z : ⊥ = omega arith in absurd z
words_prefix g w (suc j) (suc k) a bs im h l r =
    let m : w ≤ length bs = omega arith in
    let x : List ℕ = ands (drop a im) (take w bs) in
    let y : List ℕ = ands (drop (a + w) im) (take (j * w) (drop w bs)) in
    let tw : length (take w bs) ≡ w = length-take-le w bs m in
    let lx : length x ≡ w = ands_length (drop a im) (take w bs) (omega (arith, tw, length-drop a im)) ∙ tw in
    let jk : j * w ≤ k * w = mul-le-mul_right w (le_of_suc-le-suc h) in
    let tj : length (take (j * w) (drop w bs)) ≡ j * w = length-take-le (j * w) (drop w bs) (omega (arith, length-drop w bs)) in
    let ly : length y ≡ j * w = ands_length (drop (a + w) im) (take (j * w) (drop w bs)) (omega (arith, tj, length-drop (a + w) im)) ∙ tj in
    let lp : length (put a x im) ≡ length im = length_put a x im (omega (arith, lx)) in
    let z : suc j * w ≡ w + j * w = omega arith in
    ap (λ (q : List ℕ). image_after g (before j (words w k (a + w) (drop w bs))) (put a (ands (drop a im) q) im)) (take-append-le w bs (replicate w 0) m)
    ∙ words_prefix g w j k (a + w) (drop w bs) (put a x im) (le_of_suc-le-suc h) (omega (arith, length-drop w bs)) (omega (arith, lp))
    ∙ ap (λ (q : List ℕ). put (a + w) (ands q (take (j * w) (drop w bs))) (put a x im)) (beyond a w x im lx (omega arith))
    ∙ two a w x y im lx (omega (arith, ly))
    ∙ ap (λ (q : List ℕ). put a q im)
    (ap (λ (q : List ℕ). x ++ ands q (take (j * w) (drop w bs))) (sym (drop-drop w a im) ∙ ap (λ (q : ℕ). drop q (drop a im)) (sym tw))
    ∙ sym (ands_append (drop a im) (take w bs) (take (j * w) (drop w bs)) (omega (arith, tw, length-drop a im)))
    ∙ ap (λ (q : List ℕ). ands (drop a im) q) (sym (take-add w (j * w) bs) ∙ ap (λ (q : ℕ). take q bs) (sym z)))

pub words_whole : (w k : ℕ) → 0 < w → words_for w (k * w) ≡ k
unfolding words_for
words_whole w k h = div-eq_of_lt-le {k = k} w (omega arith) (omega arith)

before_none : (g : Geometry) (a : ℕ) (bs : List ℕ) → before 0 (writes g a bs) ≡ []
unfolding writes words before
before_none g a bs = by (words_for g.word (length bs))
  where
    by : (k : ℕ) → before 0 (words g.word k a bs) ≡ []
    by zero = refl
    by (suc k) = refl

-- a cut just before a write
pub before_write : (g : Geometry) (a : ℕ) (bs : List ℕ) (k : ℕ) (es : List Event) → store_count es ≤ k → k ≤ store_count es
    → before k (es ++ writes g a bs) ≡ es
before_write g a bs k es h l =
    let z : k - store_count es ≡ 0 = omega arith in
    before_more k es (writes g a bs) h ∙ ap (λ (x : ℕ). es ++ before x (writes g a bs)) z ∙ ap (λ (x : List Event). es ++ x) (before_none g a bs)
    ∙ append-nil es

buffer_words : (g : Geometry) (w k a : ℕ) (bs im buf : List ℕ) → buffer_after g (words w k a bs) im buf ≡ buf
unfolding buffer_after buffer_by words
buffer_words g w zero a bs im buf = refl
buffer_words g w (suc k) a bs im buf = buffer_words g w k (a + w) (drop w bs) _ buf

pub buffer_writes : (g : Geometry) (a : ℕ) (bs im buf : List ℕ) → buffer_after g (writes g a bs) im buf ≡ buf
unfolding writes
buffer_writes g a bs im buf = buffer_words g g.word (words_for g.word (length bs)) a bs im buf

avoid_words : (q w k a : ℕ) (bs : List ℕ) → Avoids q (words w k a bs)
unfolding words
avoid_words q w zero a bs = tt
avoid_words q w (suc k) a bs = avoid_words q w k (a + w) (drop w bs)

pub avoid_writes : (g : Geometry) (q a : ℕ) (bs : List ℕ) → Avoids q (writes g a bs)
unfolding writes
avoid_writes g q a bs = avoid_words q g.word (words_for g.word (length bs)) a bs
