-- A peek and a pop in a history. Assumes nothing.
use mathlib.Core.List.{List, [], ◌∷◌, ◌++◌, append-nil, tail, Memᴰ}
use mathlib.Core.Logic.{inr}
use mathlib.Core.Path.{◌≡◌, refl, sym, ap, ◌∙◌, subst}
use Prim.Native.Nat.{ℕ, ◌-◌, ◌≤◌}
use native.Mathlib.Omega.{arith}
use lib.ListN.{length, take}
use Rattle.paper.specs.declared.Geometry.{Geometry}
use Rattle.paper.specs.declared.Refusal.TheVariants as refusal
use Rattle.paper.specs.Chip.{put, Event, image_after, buffer_after, store_count, before, writes, Plan, plan}
use Rattle.paper.specs.Slip.{encode}
use Rattle.paper.specs.Scan.{Head, page_walk}
use Rattle.paper.specs.Refusals.{Answer, shown, empty, refused}
use Rattle.paper.specs.Search.{Outcome, this, shown_by, popped, peek, pop}
use Rattle.paper.specs.Calls.{peeks, pops, plan_of}
use Rattle.paper.specs.Pages.{from}
use Rattle.paper.specs.Waiting.{waiting}
use Rattle.paper.specs.Ways.{on_the_way, Seen, Way, direct}
use Rattle.paper.specs.Fifo.{Power, whole, cut_after, events_of, image_next, Ghost, ghost_next, Fair, Plain, shows_none, shows_not, shows, takes_none, takes_not, takes}
use Rattle.laws.proofs.Events.{image_append, buffer_append, before_less, before_more}
use Rattle.laws.proofs.Sides.{Side, below, above, side}
use Rattle.demand1.specs.Rows.{OfSearch}
use Rattle.demand1.proofs.SearchRows.{of_peek, of_pop}
use Rattle.demand3.proofs.RingShape.{oldest_is}
use Rattle.demand3.proofs.Events.{Avoids, avoid_append, avoid_before}
use Rattle.demand3.proofs.Words.{buffer_writes, before_write, avoid_writes}
use Rattle.demand3.proofs.Plans.{bind_known, bind_last}
use Rattle.demand3.proofs.Replaced.{NoneAccepted}
use Rattle.demand3.proofs.ZeroedScan.{zeros, OfCrc}
use Rattle.demand3.proofs.ZeroedHeader.{crc_words, crc_whole}
use Rattle.demand3.proofs.Invariant.{Inv}
use Rattle.demand3.proofs.Steady.{steady_before, steady_after, was_there}
use Rattle.demand3.proofs.Ghosts.{StayRefused, unmet}
use Rattle.demand3.proofs.Popping.{FirstPresent, first_in, body_length, zeroed, zeroed_all, first_listed, popped_inv, popped_list, popped_heads}
use Rattle.demand3.proofs.Search.{FoundFirst, Result, is_nothing, is_short, is_this, Searched, searched}
use Rattle.demand3.proofs.Step.{Traced, Step, whole_step, cut_step, early_step, steady_step}

-- a list that begins with s, of which n bytes are shown
module _ (g : Geometry) (im b buf : List ℕ) {s : List ℕ} {n : ℕ} (e : length s ≡ n) (t : take n buf ≡ s) {q l : List (List ℕ)} (f : q ≡ s ∷ l)
    {hs : List Head} (w : Way g im hs) (v : Seen g (length b) hs n) where
  shows_first : Plain g im (peeks b) (shown n) buf q q
  shows_first = rw (f, ← e) (shows w (rw (← e) at v) (rw (← e) at t))

  takes_first : {r : List (List ℕ)} → r ≡ tail q → Plain g im (pops b) (shown n) buf q r
  takes_first {r} k = let z : r ≡ l = k ∙ ap tail f in rw (f, z, ← e) (takes w (rw (← e) at v) (rw (← e) at t))

module _ {g : Geometry} {im : List ℕ} {o b : ℕ} (I : Inv g im o b) (buf : List ℕ) where
  pub sought : Searched g im (length buf)
  sought = searched I (length buf)

  abbrev E : List Event
  E = sought.events

  abbrev fin : List ℕ
  fin = image_after g sought.events im

  same_list : waiting g (image_after g sought.events im) ≡ waiting g im
  same_list = (steady_after sought.steady).list

  -- the search begins at the oldest page
  the_way : Way g im (on_the_way g im o (from g o))
  the_way = direct (oldest_is g im o b I.shape)

  -- ---- peek

  pub peek_plan : plan_of g im (peeks buf) ≡ plan sought.events (shown_by sought.out)
  unfolding plan_of peek
  peek_plan = bind_last g im (λ o im₁. plan [] (shown_by o)) sought.is refl

  -- demand 1 says what it met
  peek_rows : OfSearch g im (length buf) (peek g im (length buf))
  peek_rows = of_peek I.good im refl (length buf)

  peek_says : {a : Outcome} → sought.out ≡ a → (peek g im (length buf)).answer ≡ shown_by a
  unfolding plan_of
  peek_says e = ap (λ (p : Plan Answer). p.answer) peek_plan ∙ ap shown_by e

  pub peek_step : (w : Power) → Step g im (peeks buf) w
  peek_step w = steady_step im (peeks buf) peek_plan sought.steady (by sought.result) w
    where
      by : Result g (waiting g im) im (length buf) E sought.out
          → Plain g im (peeks buf) (shown_by sought.out) (buffer_after g E im buf) (waiting g im) (waiting g im)
      by (is_nothing a z r) = rw (a, z) (shows_none the_way ((peek_rows.none the_way).0 (peek_says a)))
      by (is_short k a) = rw a (shows_not the_way ((peek_rows.short the_way k).0 (peek_says a)))
      by (is_this h a X) =
          let v = (peek_rows.seen the_way h.len).0 (peek_says a) in
          let f = sym same_list ∙ first_listed X.first in
          rw a (shows_first g im buf (buffer_after g E im buf) (body_length X.first) (X.shown buf) f the_way v)

  -- ---- pop

  pub pop_plan : plan_of g im (pops buf) ≡ plan (sought.events ++ popped g sought.out) (shown_by sought.out)
  unfolding plan_of pop
  pop_plan = bind_known g im (λ o im₁. plan (popped g o) (shown_by o)) sought.is

  pop_rows : OfSearch g im (length buf) (pop g im (length buf))
  pop_rows = of_pop I.good im refl (length buf)

  pop_says : {a : Outcome} → sought.out ≡ a → (pop g im (length buf)).answer ≡ shown_by a
  unfolding plan_of
  pop_says e = ap (λ (p : Plan Answer). p.answer) pop_plan ∙ ap shown_by e

  -- nothing was found
  pub idle_plan : (a : Answer) → popped g sought.out ≡ [] → shown_by sought.out ≡ a → plan_of g im (pops buf) ≡ plan sought.events a
  idle_plan a p q = pop_plan ∙ rw (p, q) (ap (λ (es : List Event). plan es a) (append-nil E))

  -- the first present item h was found
  module _ (gh : Ghost) (h : Head) (a : sought.out ≡ this h) (X : FoundFirst g im sought.events h) where
    abbrev F : FirstPresent g (image_after g sought.events im) h
    F = X.first

    abbrev wr : List Event
    wr = writes g h.place (encode g 0 h.len)

    pub pl : plan_of g im (pops buf) ≡ plan (sought.events ++ wr) (shown h.len)
    pl = pop_plan ∙ ap (λ (x : Outcome). plan (E ++ popped g x) (shown_by x)) a

    pub avoids : (p : ℕ) → Avoids p wr
    avoids p = avoid_writes g p h.place (encode g 0 h.len)

    -- words of its header were stored that hold some of the CRC, or all of it
    module _ {i : ℕ} (Z : OfCrc i) (fs : List Event) (av : (p : ℕ) → Avoids p fs) (st : StayRefused g im gh (sought.events ++ fs))
        (z : image_after g fs fin ≡ put h.place (zeros i) fin) where
      is : image_after g (sought.events ++ fs) im ≡ put h.place (zeros i) fin
      is = image_append g E fs im ∙ z

      U : NoneAccepted (page_walk g fin X.first.old).refused (page_walk g (put h.place (zeros i) fin) X.first.old).heads
      U = rw is at (unmet im I.good gh E F.inv fs F.old (first_in F) (inr (X.unerased, X.as_it_was)) (av F.old) st)

      taken_inv : Inv g (image_after g (sought.events ++ fs) im) X.first.old X.first.runs
      taken_inv = rw is (popped_inv F Z U)

      pub taken_list : waiting g (image_after g (sought.events ++ fs) im) ≡ tail (waiting g im)
      taken_list = rw is (popped_list F Z U ∙ ap tail (sym (first_listed F) ∙ same_list))

      taken_traced : (w : Power) → Traced g im (pops buf) w (sought.events ++ fs)
      taken_traced w p hp x m =
          let y = popped_heads F Z U p hp x (subst (λ (l : List ℕ). Memᴰ x (page_walk g l p).heads) is m) in
          let r = was_there sought.steady p hp y.0 y.1 in
          inr (record { head = y.0; there = r.0; at = y.2; unerased = avoid_append p E fs r.1 (av p) })

    found_step : (w : Power) → Fair g im gh (pops buf) w → Step g im (pops buf) w
    unfolding image_next ghost_next events_of
    found_step whole Fr =
        let st : StayRefused g im gh (E ++ wr) = λ nw. rw pl at (Fr.none_again nw) in
        let z = zeroed_all F in
        let shown-buf : List ℕ = buffer_after g E im buf in
        let B : buffer_after g (E ++ wr) im buf ≡ shown-buf = buffer_append g E wr im buf ∙ buffer_writes g h.place (encode g 0 h.len) fin shown-buf in
        let f = sym same_list ∙ first_listed F in
        let v = (pop_rows.seen the_way h.len).0 (pop_says a) in
        whole_step im (pops buf) pl (taken_inv crc_whole wr avoids st z)
        (rw B (takes_first g im buf shown-buf (body_length F) (X.shown buf) f the_way v (taken_list crc_whole wr avoids st z)))
        (taken_traced crc_whole wr avoids st z whole)
    found_step (cut_after k) Fr = by (side k (store_count E))
      where
        later : store_count E ≤ k → Side 0 (k - store_count E) → Step g im (pops buf) (cut_after k)
        later l (above m) =
            let e = before_write g h.place (encode g 0 h.len) k E l (omega arith) in
            early_step im (pops buf) pl k e sought.steady
        later l (below m) =
            let j : ℕ = k - store_count E in
            let bm : before k (E ++ wr) ≡ E ++ before j wr = before_more k E wr l in
            let st : StayRefused g im gh (E ++ before j wr) = λ nw. rw (pl, bm) at (Fr.none_again nw) in
            let av : (p : ℕ) → Avoids p (before j wr) = λ p. avoid_before p j wr (avoids p) in
            let Z = crc_words g.word j I.good.sized.low m in
            let z = zeroed F j in
            cut_step im (pops buf) pl k {o = F.old} {b = F.runs} (rw bm (taken_inv Z (before j wr) av st z))
            (inr (rw bm (taken_list Z (before j wr) av st z))) (rw bm (taken_traced Z (before j wr) av st z (cut_after k)))

        by : Side k (store_count E) → Step g im (pops buf) (cut_after k)
        by (below l) = early_step im (pops buf) pl k (before_less k E wr l) (steady_before k sought.steady)
        by (above l) = later l (side 0 (k - store_count E))

  pub pop_step : (gh : Ghost) (w : Power) → Fair g im gh (pops buf) w → Step g im (pops buf) w
  pop_step gh w Fr = by sought.result
    where
      by : Result g (waiting g im) im (length buf) E sought.out → Step g im (pops buf) w
      by (is_nothing a z r) = steady_step im (pops buf) (idle_plan empty (ap (popped g) a) (ap shown_by a)) sought.steady
          (rw z (takes_none the_way ((pop_rows.none the_way).0 (pop_says a)))) w
      by (is_short k a) =
          let no : Answer = refused (refusal.BufferTooSmall k) in
          steady_step im (pops buf) (idle_plan no (ap (popped g) a) (ap shown_by a)) sought.steady
          (takes_not the_way ((pop_rows.short the_way k).0 (pop_says a))) w
      by (is_this h a X) = found_step gh h a X w Fr
