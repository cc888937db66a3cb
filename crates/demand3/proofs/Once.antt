-- Along a call's stores the list changes at most once. Assumes nothing.
use mathlib.Core.Bool.{Bool, true, false}
use mathlib.Core.List.{List, [], ◌∷◌, ◌++◌, append-nil, append_cancel_left, tail}
use mathlib.Core.Logic.{◌⊎◌, inl, inr}
use mathlib.Core.Path.{◌≡◌, refl, sym, ap, ◌∙◌}
use Prim.Native.Nat.{ℕ, zero, suc, ◌+◌, ◌-◌, ◌≤◌, ◌<◌}
use native.Mathlib.Omega.{arith}
use lib.ListN.{length}
use Rattle.paper.specs.declared.Geometry.{Geometry}
use Rattle.paper.specs.declared.Refusal.TheVariants as refusal
use Rattle.paper.specs.Chip.{Event, image_after, store_count, before, writes, plan, gives}
use Rattle.paper.specs.Slip.{encode}
use Rattle.paper.specs.Scan.{Head}
use Rattle.paper.specs.Refusals.{Answer, done, shown, empty, refused}
use Rattle.paper.specs.Push.{at, too_big, spot_for, item_at, Full}
use Rattle.paper.specs.Search.{shown_by, popped, this}
use Rattle.paper.specs.Calls.{Call, pushes, peeks, pops, fits, spaces, erases_all, plan_of}
use Rattle.paper.specs.Waiting.{waiting}
use Rattle.paper.specs.Fifo.{cut_after, events_of, image_next, ghost_next, list_after, Bytes, Ghost, Fair}
use Rattle.laws.proofs.Events.{image_append, before_less, before_more}
use Rattle.laws.proofs.Sides.{Side, below, above, side}
use Rattle.demand3.specs.Claims.{ChangesOnce, AlwaysOnce}
use Rattle.demand3.proofs.Events.{avoid_before}
use Rattle.demand3.proofs.Words.{before_write}
use Rattle.demand3.proofs.ZeroedHeader.{crc_words}
use Rattle.demand3.proofs.Invariant.{Inv}
use Rattle.demand3.proofs.FreeSpot.{spot_of}
use Rattle.demand3.proofs.Item.{item_words}
use Rattle.demand3.proofs.Written.{Writable, HeaderReads, after_words}
use Rattle.demand3.proofs.ReadHeader.{read_or_not}
use Rattle.demand3.proofs.Adding.{Added, list_stays}
use Rattle.demand3.proofs.Steady.{Steady, steady_before, steady_after}
use Rattle.demand3.proofs.Ghosts.{StayRefused}
use Rattle.demand3.proofs.SpotReady.{SpotReady, ready_steady}
use Rattle.demand3.proofs.SpotSearch.{Spotted, is_full, is_at, spotted_for}
use Rattle.demand3.proofs.Popping.{zeroed}
use Rattle.demand3.proofs.Search.{FoundFirst, Result, is_nothing, is_short, is_this}
use Rattle.demand3.proofs.Push.{small_enough, plan_big, plan_full, W, words_clear, words_added, same_list, pl, at_step}
use Rattle.demand3.proofs.PeekPop as peekpop
use Rattle.demand3.proofs.OtherCalls.{idle, fit_plan, space_plan}
use Rattle.demand3.proofs.Demand3.{held}

-- ---- a property that comes and stays

up_to : {Q : ℕ → Type 0} → ((k : ℕ) → Q k → Q (suc k)) → Q 0 → (k : ℕ) → Q k
up_to f q zero = q
up_to f q (suc k) = f k (up_to f q k)

-- either P or Q holds of each number, and Q stays and comes: then there is a first number of which Q holds
threshold : {P Q : ℕ → Type 0} → ((k : ℕ) → P k ⊎ Q k) → ((k : ℕ) → Q k → Q (suc k)) → (n : ℕ) → Q n
    → (t : ℕ) × ((k : ℕ) → k < t → P k) × ((k : ℕ) → t ≤ k → Q k)
threshold f m zero q = (0, (λ k h. absurd (omega arith)), (λ k h. up_to m q k))
threshold {P} {Q} f m (suc n) q = by (f 0) (threshold (λ k. f (suc k)) (λ k. m (suc k)) n q)
  where
    Later : Type 0
    Later = (t : ℕ) × ((k : ℕ) → k < t → P (suc k)) × ((k : ℕ) → t ≤ k → Q (suc k))

    low : P 0 → (r : Later) → (k : ℕ) → k < suc r.0 → P k
    low p r zero h = p
    low p r (suc k) h = r.1 k (omega arith)

    high : (r : Later) → (k : ℕ) → suc r.0 ≤ k → Q k
    high r zero h = let z : ⊥ = omega arith in absurd z
    high r (suc k) h = r.2 k (omega arith)

    by : P 0 ⊎ Q 0 → Later → (t : ℕ) × ((k : ℕ) → k < t → P k) × ((k : ℕ) → t ≤ k → Q k)
    by (inr x) r = (0, (λ k h. absurd (omega arith)), (λ k h. up_to m x k))
    by (inl x) r = (suc r.0, low x r, high r)

-- ---- a call whose events leave the list alone

module _ (g : Geometry) (im : List ℕ) (c : Call) {es : List Event} {a : Answer} (p : plan_of g im c ≡ plan es a) where
  list_at : (k : ℕ) {fs : List Event} → before k es ≡ fs → waiting g (image_next g im c (cut_after k)) ≡ waiting g (image_after g fs im)
  unfolding image_next events_of
  list_at k e = rw (p, e)

  after_is : (q : List (List ℕ)) → list_after c a q ≡ list_after c (plan_of g im c).answer q
  after_is q = rw p

  steady_once : Steady g (waiting g im) im es → list_after c a (waiting g im) ≡ waiting g im → ChangesOnce g im c
  steady_once T e = record {
    at = 0;
    before = λ k h. absurd (omega arith);
    after = λ k h. list_at k refl ∙ (steady_after (steady_before k T)).list ∙ sym e ∙ after_is (waiting g im);
  }

-- ---- push

module _ {g : Geometry} {im : List ℕ} {o b : ℕ} (I : Inv g im o b) (gh : Ghost) (slip : List ℕ) (hb : Bytes slip) (t : too_big g (length slip) ≡ false)
    {es : List Event} {a₀ : ℕ} (R : SpotReady g im (length slip) false es a₀) (q₀ : spot_for g im (length slip) false ≡ plan es (gives (at a₀)))
    (N : Full g im (length slip) → ⊥) (Fs : (k : ℕ) → Fair g im gh (pushes slip false) (cut_after k)) where
  abbrev it : List Event
  it = item_at g (spot_of R.site) slip

  abbrev jm : List ℕ
  jm = image_after g es im

  abbrev longer : List (List ℕ)
  longer = waiting g im ++ (slip ∷ [])

  abbrev listed : ℕ → List (List ℕ)
  listed k = waiting g (image_next g im (pushes slip false) (cut_after k))

  is : plan_of g im (pushes slip false) ≡ plan (es ++ it) done
  is = pl I gh slip hb t R q₀ N

  -- after k stores, j of them the item's
  late : (k j : ℕ) → store_count es ≤ k → k - store_count es ≡ j → listed k ≡ waiting g (image_after g (before j it) jm)
  late k j h e =
      list_at g im (pushes slip false) is k (before_more k es it h ∙ ap (λ (x : ℕ). es ++ before x it) e)
      ∙ ap (waiting g) (image_append g es (before j it) im)

  refused_stay : (k j : ℕ) → store_count es ≤ k → k - store_count es ≡ j → StayRefused g im gh (es ++ before j it)
  unfolding image_next ghost_next events_of
  refused_stay k j h e nw = rw (is, before_more k es it h ∙ ap (λ (x : ℕ). es ++ before x it) e) at ((Fs k).none_again nw)

  either : (k : ℕ) → (listed k ≡ waiting g im) ⊎ (listed k ≡ longer)
  either k = rw is at (at_step I gh slip hb t R q₀ N (cut_after k) (Fs k)).claim

  -- the list before is not the list after
  apart : waiting g im ≡ longer → ⊥
  apart e =
      let z = append_cancel_left (waiting g im) [] (slip ∷ []) (append-nil (waiting g im) ∙ e) in
      let y : ◌≡◌ {A = ℕ} 0 1 = cc in omega arith

  abbrev n : ℕ
  n = item_words g slip

  -- the words of the item that are there, where the payload's place is not asked for
  added : (k j : ℕ) → store_count es ≤ k → k - store_count es ≡ j → (HeaderReads R.site slip (image_after g (before j it) jm) → j < n → ⊥)
      → Added R.site slip j (image_after g (before j it) jm)
  added k j h e f =
      let q = image_append g es (before j it) im in
      rw q at (words_added I gh slip hb t R j (refused_stay k j h e) (λ x y. absurd (f (rw q at x) y)))

  all : (k : ℕ) → store_count es + n ≤ k → listed k ≡ longer
  all k h =
      let j : ℕ = k - store_count es in
      let l : store_count es ≤ k = omega arith in
      late k j l refl ∙ (added k j l refl (λ x y. omega arith)).all (omega arith)
      ∙ ap (λ (x : List (List ℕ)). x ++ (slip ∷ [])) (same_list I gh slip hb t R)

  stays : (k : ℕ) → listed k ≡ longer → listed (suc k) ≡ longer
  stays k e = by (side k (store_count es))
    where
      j : ℕ
      j = k - store_count es

      F : Writable R.site slip
      F = W I gh slip hb t R

      same : waiting g jm ≡ waiting g im
      same = same_list I gh slip hb t R

      here : store_count es ≤ k → waiting g (image_after g (before j it) jm) ≡ waiting g jm ++ (slip ∷ [])
      here l = sym (late k j l refl) ∙ e ∙ ap (λ (x : List (List ℕ)). x ++ (slip ∷ [])) (sym same)

      Reads : Type 0
      Reads = HeaderReads R.site slip (image_after g (before j it) jm)

      next_word : store_count es ≤ k → suc j ≤ n → Reads ⊎ (Reads → ⊥) → listed (suc k) ≡ longer
      next_word l m (inr u) = absurd (apart (sym (late k j l refl ∙ (added k j l refl (λ x y. u x)).early u ∙ same) ∙ e))
      next_word l m (inl r) =
          let z : suc k - store_count es ≡ suc j = omega arith in
          let U = words_clear I gh slip hb t R j (refused_stay k j l refl) in
          let U₁ = words_clear I gh slip hb t R (suc j) (refused_stay (suc k) (suc j) (omega arith) z) in
          late (suc k) (suc j) (omega arith) z ∙ list_stays F j m r U U₁ (here l)
          ∙ ap (λ (x : List (List ℕ)). x ++ (slip ∷ [])) same

      by : Side k (store_count es) → listed (suc k) ≡ longer
      by (below l) = absurd (apart (sym (list_at g im (pushes slip false) is k (before_less k es it l)
          ∙ (steady_after (steady_before k (ready_steady R))).list) ∙ e))
      by (above l) = on (side j n)
        where
          on : Side j n → listed (suc k) ≡ longer
          on (below m) = next_word l m (rw (after_words F j (omega arith)) (read_or_not F j (omega arith)))
          on (above m) = all (suc k) (omega arith)

  push_once : ChangesOnce g im (pushes slip false)
  push_once =
      let r = threshold either stays (store_count es + n) (all (store_count es + n) (omega arith)) in
      record { at = r.0; before = r.1; after = λ k h. r.2 k h ∙ after_is g im (pushes slip false) is (waiting g im) }

-- ---- pop

module _ {g : Geometry} {im : List ℕ} {o b : ℕ} (I : Inv g im o b) (gh : Ghost) (buf : List ℕ) (h : Head)
    (a : (peekpop.sought I buf).out ≡ this h) (X : FoundFirst g im (peekpop.sought I buf).events h) (Fs : (k : ℕ) → Fair g im gh (pops buf) (cut_after k)) where
  abbrev E : List Event
  E = (peekpop.sought I buf).events

  abbrev wr : List Event
  wr = writes g h.place (encode g 0 h.len)

  pop_is : plan_of g im (pops buf) ≡ plan (E ++ wr) (shown h.len)
  pop_is = peekpop.pl I buf gh h a X

  unread : (k : ℕ) → k < suc (store_count E) → waiting g (image_next g im (pops buf) (cut_after k)) ≡ waiting g im
  unread k l = by (side k (store_count E))
    where
      by : Side k (store_count E) → waiting g (image_next g im (pops buf) (cut_after k)) ≡ waiting g im
      by (below m) = list_at g im (pops buf) pop_is k (before_less k E wr m) ∙ (steady_after (steady_before k (peekpop.sought I buf).steady)).list
      by (above m) =
          let e = before_write g h.place (encode g 0 h.len) k E m (omega arith) in
          list_at g im (pops buf) pop_is k e ∙ (steady_after (peekpop.sought I buf).steady).list

  pop_once : ChangesOnce g im (pops buf)
  unfolding image_next ghost_next events_of
  pop_once = record { at = suc (store_count E); before = unread; after = λ k l. taken k l ∙ after_is g im (pops buf) pop_is (waiting g im) }
    where
      taken : (k : ℕ) → suc (store_count E) ≤ k → waiting g (image_next g im (pops buf) (cut_after k)) ≡ tail (waiting g im)
      taken k l =
          let j : ℕ = k - store_count E in
          let bm : before k (E ++ wr) ≡ E ++ before j wr = before_more k E wr (omega arith) in
          let st : StayRefused g im gh (E ++ before j wr) = λ nw. rw (pop_is, bm) at ((Fs k).none_again nw) in
          list_at g im (pops buf) pop_is k bm
          ∙ peekpop.taken_list I buf gh h a X (crc_words g.word j I.good.sized.low (omega arith)) (before j wr)
          (λ p. avoid_before p j wr (peekpop.avoids I buf gh h a X p)) st (zeroed X.first j)

-- ---- every call

once : {g : Geometry} {im : List ℕ} {o b : ℕ} → Inv g im o b → (gh : Ghost) (c : Call) → ((k : ℕ) → Fair g im gh c (cut_after k)) → ChangesOnce g im c
once {g} {im} I gh (pushes slip false) Fs = by (too_big g (length slip)) refl
  where
    on : too_big g (length slip) ≡ false → Spotted g im (length slip) false (spot_for g im (length slip) false) → ChangesOnce g im (pushes slip false)
    on t (is_full v q F) = steady_once g im (pushes slip false) (plan_full g im slip t q) (idle I) refl
    on t (is_at es a q R N) = push_once I gh slip (Fs 0).slip t R q (N refl) Fs

    by : (t : Bool) → too_big g (length slip) ≡ t → ChangesOnce g im (pushes slip false)
    by true t = steady_once g im (pushes slip false) (plan_big g im slip t) (idle I) refl
    by false t = on t (spotted_for I (length slip) (small_enough g (length slip) t).1 false)
once I gh (pushes slip true) Fs = absurd (Fs 0).counted
once {g} {im} I gh (peeks buf) Fs = steady_once g im (peeks buf) (peekpop.peek_plan I buf) (peekpop.sought I buf).steady refl
once {g} {im} I gh (pops buf) Fs = by (peekpop.sought I buf).result
  where
    by : Result g (waiting g im) im (length buf) (peekpop.sought I buf).events (peekpop.sought I buf).out → ChangesOnce g im (pops buf)
    by (is_nothing a z r) = steady_once g im (pops buf) (peekpop.idle_plan I buf empty (ap (popped g) a) (ap shown_by a)) (peekpop.sought I buf).steady refl
    by (is_short k a) =
        let p = peekpop.idle_plan I buf (refused (refusal.BufferTooSmall k)) (ap (popped g) a) (ap shown_by a) in
        steady_once g im (pops buf) p (peekpop.sought I buf).steady refl
    by (is_this h a X) = pop_once I gh buf h a X Fs
once {g} {im} I gh fits Fs = steady_once g im fits (fit_plan I) (idle I) refl
once {g} {im} I gh spaces Fs = steady_once g im spaces (space_plan I) (idle I) refl
once I gh erases_all Fs = absurd (Fs 0).counted

pub always_once : AlwaysOnce
always_once g im gh r c Fs = once (held r).inv gh c Fs
