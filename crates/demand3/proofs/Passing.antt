-- A header reads whole exactly when all its stores are made, so the premise of the cut payload may be counted. Assumes nothing.
use mathlib.Core.Bool.{Bool, true, false, cond}
use mathlib.Core.List.Memᴰ
use mathlib.Core.List.{List, [], ◌∷◌, ◌++◌, Memᴰ}
use mathlib.Core.Logic.{⊎_elim}
use mathlib.Core.Path.{◌≡◌, refl, sym, ap, ap₂, ◌∙◌, subst}
use Prim.Native.Nat.{ℕ, suc, ◌+◌, ◌-◌, ◌*◌, ◌≤◌, ◌<◌}
use native.Mathlib.Nat.{mul-le-mul_right}
use native.Mathlib.Omega.{arith}
use borrow.Author.Tests.{ltb-true, lt-ltb}
use lib.Dec.{ltb}
use lib.ListN.{length}
use Rattle.paper.specs.declared.Geometry.{Geometry}
use Rattle.paper.specs.Checksum.{data_crc}
use Rattle.paper.specs.Chip.{words_for, round_up, header_size, part, Event, image_after, store_count, before, plan, gives}
use Rattle.paper.specs.Slip.{encode}
use Rattle.paper.specs.Push.{at, too_big, spot_for, item_at, Full}
use Rattle.paper.specs.Calls.{Call, pushes, peeks, pops, fits, spaces, erases_all}
use Rattle.paper.specs.Fifo.{Power, whole, cut_after, Counted, slip_of, events_of, image_next, header_plan, header_at, Ghost, Bytes, NoPassing}
use Rattle.laws.proofs.Events.{image_append, before_more, before_all}
use Rattle.laws.proofs.Sides.{Side, below, above, side}
use Rattle.demand3.specs.Passing.{PassingCounted, SameCounted}
use Rattle.demand3.proofs.Sizes.{below_header, never_seven}
use Rattle.demand3.proofs.Words.{words_whole}
use Rattle.demand3.proofs.Invariant.{Inv}
use Rattle.demand3.proofs.FreeSpot.{spot_of}
use Rattle.demand3.proofs.Item.{item_words, item_size_lem, count_item, few_words}
use Rattle.demand3.proofs.Written.{Writable, HeaderReads, after_words, written_reads, begun_no_header}
use Rattle.demand3.proofs.SpotReady.{SpotReady}
use Rattle.demand3.proofs.SpotSearch.{Spotted, is_full, is_at, spotted_for}
use Rattle.demand3.proofs.Push.{small_enough, W, pl}
use Rattle.demand3.proofs.Demand3.{held}

abbrev Same : Geometry → List ℕ → Call → Power → Type 0
Same g im c w = (NoPassing g im c w → PassingCounted g im c w) × (PassingCounted g im c w → NoPassing g im c w)

-- ---- a call that begins no header

none_in : (t : Bool) (x : ℕ) → Memᴰ x (cond t [] []) → ⊥
none_in true x m = Memᴰ.not-nil m
none_in false x m = Memᴰ.not-nil m

nowhere : (g : Geometry) (im : List ℕ) (c : Call) → ((k n x : ℕ) → Memᴰ x (header_at g im c (cut_after k) n) → ⊥) → (w : Power) → Same g im c w
nowhere g im c f whole = ((λ P. tt), (λ P. tt))
nowhere g im c f (cut_after k) = ((λ P a m. absurd (f k (words_for g.word (header_size g) - 1) a m)), (λ P a m. absurd (f k 0 a m)))

-- ---- a push at its spot

one_in : (t : Bool) (x a : ℕ) → Memᴰ x (cond t (a ∷ []) []) → (t ≡ true) × (x ≡ a)
one_in true x a m = (refl, ⊎_elim (λ e. e) (λ n. absurd (Memᴰ.not-nil n)) (Memᴰ.cases_cons m))
one_in false x a m = absurd (Memᴰ.not-nil m)

header_count : (g : Geometry) → 0 < g.word → words_for g.word (header_size g) * g.word ≡ header_size g
unfolding header_size round_up
header_count g pos = ap (λ (x : ℕ). x * g.word) (words_whole g.word (words_for g.word 8) pos)

module _ {g : Geometry} {im : List ℕ} {o b : ℕ} (I : Inv g im o b) (gh : Ghost) (slip : List ℕ) (hb : Bytes slip) (t : too_big g (length slip) ≡ false)
    {es : List Event} {a₀ : ℕ} (R : SpotReady g im (length slip) false es a₀) (q : spot_for g im (length slip) false ≡ plan es (gives (at a₀)))
    (N : Full g im (length slip) → ⊥) where
  abbrev it : List Event
  it = item_at g (spot_of R.site) slip

  abbrev more : ℕ
  more = words_for g.word (header_size g) - 1

  abbrev Reads : ℕ → Type 0
  Reads k = part a₀ (header_size g) (image_next g im (pushes slip false) (cut_after k)) ≡ encode g (data_crc slip) (length slip)

  pos : 0 < g.word
  pos = I.good.sized.low

  begins : (k n : ℕ) → header_at g im (pushes slip false) (cut_after k) n ≡ cond (ltb (store_count es + n) k) (a₀ ∷ []) []
  unfolding header_at header_plan
  begins k n = rw (t, q)

  begun : (k n : ℕ) → store_count es + n < k → Memᴰ a₀ (header_at g im (pushes slip false) (cut_after k) n)
  begun k n h = rw (begins k n, lt-ltb (store_count es + n) k h) (Memᴰ.head refl)

  met : (k n x : ℕ) → Memᴰ x (header_at g im (pushes slip false) (cut_after k) n) → (store_count es + n < k) × (x ≡ a₀)
  met k n x m =
      let r = one_in (ltb (store_count es + n) k) x a₀ (subst (λ (l : List ℕ). Memᴰ x l) (begins k n) m) in
      (ltb-true (store_count es + n) k r.0, r.1)

  image : (k : ℕ) → store_count es ≤ k
      → image_next g im (pushes slip false) (cut_after k) ≡ image_after g (es ++ before (k - store_count es) (item_at g (spot_of R.site) slip)) im
  unfolding image_next events_of
  image k l = rw (pl I gh slip hb t R q N, before_more k es it l)

  -- all words of the header, and maybe more
  whole_read : (j : ℕ) → words_for g.word (header_size g) ≤ j → HeaderReads R.site slip (image_after g (es ++ before j it) im)
  whole_read j h = by (side j n)
    where
      n : ℕ
      n = item_words g slip

      F : Writable R.site slip
      F = W I gh slip hb t R

      some_of : (i : ℕ) → i ≤ n → header_size g ≤ i * g.word → HeaderReads R.site slip (image_after g (es ++ before i it) im)
      some_of i k l = ap (part (spot_of R.site) (header_size g)) (image_append g es (before i it) im ∙ after_words F i k) ∙ written_reads F i k l

      all_of : (i : ℕ) → n ≤ i → before i it ≡ it
      all_of i k = before_all i it (omega (arith, count_item g pos slip (spot_of R.site)))

      by : Side j n → HeaderReads R.site slip (image_after g (es ++ before j it) im)
      by (below l) = some_of j (omega arith) (omega (arith, mul-le-mul_right g.word h, header_count g pos))
      by (above l) =
          ap (λ (x : List Event). part (spot_of R.site) (header_size g) (image_after g (es ++ x) im)) (all_of j l ∙ sym (all_of n (omega arith)))
          ∙ some_of n (omega arith) (omega (arith, item_size_lem g pos slip))

  all_read : (k : ℕ) → store_count es + (words_for g.word (header_size g) - 1) < k → Reads k
  all_read k h =
      ap₂ (λ (x : ℕ) (jm : List ℕ). part x (header_size g) jm) R.at_spot (image k (omega arith)) ∙ whole_read (k - store_count es) (omega arith)

  read_all : (k : ℕ) → store_count es + 0 < k → Reads k → store_count es + (words_for g.word (header_size g) - 1) < k
  read_all k h e = by (side (k - store_count es) (words_for g.word (header_size g)))
    where
      j : ℕ
      j = k - store_count es

      by : Side (k - store_count es) (words_for g.word (header_size g)) → store_count es + more < k
      by (above l) = omega arith
      by (below l) =
          let F = W I gh slip hb t R in
          let s : suc j * g.word ≤ words_for g.word (header_size g) * g.word = mul-le-mul_right g.word l in
          let f : j * g.word < 8 = below_header g pos j (omega (arith, header_count g pos)) in
          let hj : j ≤ item_words g slip = omega (arith, few_words g pos slip j f) in
          let z = image k (omega arith) ∙ image_append g es (before j it) im ∙ after_words F j hj in
          absurd (begun_no_header F j hj f (λ q. absurd (never_seven I.good.word j q))
          (sym (ap₂ (λ (x : ℕ) (jm : List ℕ). part x (header_size g) jm) R.at_spot z) ∙ e))

  same_at : (w : Power) → Same g im (pushes slip false) w
  same_at whole = ((λ P. tt), (λ P. tt))
  same_at (cut_after k) = (
    (λ P x m.
        let r = met k more x m in
        P x (rw r.1 (begun k 0 (omega (arith, r.0)))) (rw r.1 (all_read k r.0))),
    (λ P x m e.
        let r = met k 0 x m in
        P x (rw r.1 (begun k more (read_all k r.0 (rw r.1 at e))))),
  )

-- ---- every call

same : {g : Geometry} {im : List ℕ} {o b : ℕ} → Inv g im o b → (gh : Ghost) (c : Call) (w : Power) → Counted c w → Bytes (slip_of c) → Same g im c w
unfolding header_at header_plan store_count
same {g} {im} I gh (pushes slip false) w n hb = by (too_big g (length slip)) refl
  where
    on : too_big g (length slip) ≡ false → Spotted g im (length slip) false (spot_for g im (length slip) false) → Same g im (pushes slip false) w
    on t (is_full v q F) = nowhere g im (pushes slip false) (λ k i x m. none_in (ltb (0 + i) k) x (rw (t, q) at m)) w
    on t (is_at es a q R N) = same_at I gh slip hb t R q (N refl) w

    by : (t : Bool) → too_big g (length slip) ≡ t → Same g im (pushes slip false) w
    by true t = nowhere g im (pushes slip false) (λ k i x m. none_in (ltb (0 + i) k) x (rw t at m)) w
    by false t = on t (spotted_for I (length slip) (small_enough g (length slip) t).1 false)
same I gh (pushes slip true) w n hb = absurd n
same {g} {im} I gh (peeks buf) w n hb = nowhere g im (peeks buf) (λ k i x m. none_in (ltb (0 + i) k) x m) w
same {g} {im} I gh (pops buf) w n hb = nowhere g im (pops buf) (λ k i x m. none_in (ltb (0 + i) k) x m) w
same {g} {im} I gh fits w n hb = nowhere g im fits (λ k i x m. none_in (ltb (0 + i) k) x m) w
same {g} {im} I gh spaces w n hb = nowhere g im spaces (λ k i x m. none_in (ltb (0 + i) k) x m) w
same {g} {im} I gh erases_all w n hb = nowhere g im erases_all (λ k i x m. none_in (ltb (0 + i) k) x m) w

pub same_counted : SameCounted
same_counted g im gh r c w n hb = same (held r).inv gh c w n hb
