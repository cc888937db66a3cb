-- Peek and pop on images that are alike: the same plan, and its events lie in the range. Assumes nothing.
use mathlib.Core.Path.{refl, ap}
use mathlib.Core.Bool.{Bool, true, cond, not, ◌||◌}
use mathlib.Core.List.{List, [], ◌∷◌}
use Prim.Native.Nat.{ℕ, zero, suc, ◌+◌, ◌*◌, ◌<◌}
use native.Mathlib.Omega.{arith}
use lib.Dec.{eqb, ltb}
use Rattle.paper.specs.declared.Geometry.{Geometry}
use Rattle.paper.specs.declared.PageState.TheVariants.{Open, Corrupted}
use Rattle.paper.specs.Chip.{round_up, header_size, data_start, page_of, copy, erase_page, Plan, plan, Try, fails, gives}
use Rattle.paper.specs.Scan.{Head, walk_on, live, present}
use Rattle.paper.specs.Pages.{state, same, next}
use Rattle.paper.specs.Search.{Met, passed, long, met, item_end, read_heads, Stand, from_address, after_page, Outcome, nothing, short, this, spoilt, Ended, on_met, read_page, leave_page, next_item, next_step, start_step, outcome_of, search_on, search, shown_by, popped, peek, pop}
use Rattle.laws.proofs.Accepted.{Laid}
use Rattle.laws.proofs.Ring.{next_in}
use Rattle.demand1.specs.Range.{Lies, Each}
use Rattle.demand1.proofs.Pages.{ReadableWord, page_in_range, start_word, walk_on_same}
use Rattle.demand1.proofs.Walks.{Placed, heads_placed}
use Rattle.demand1.proofs.Lying.{Alike, alike_page}
use Rattle.demand1.proofs.EachEvent.{Tried, Any, left_does}
use Rattle.demand1.proofs.Searches.{oldest_in}
use Rattle.demand1.proofs.AlikePlans.{Both, both_cond, both_bind, both_then, both_steps, states, oldest_same}
use Rattle.demand1.proofs.Writes.{header_lies}

abbrev MetPlaced : Geometry → Met → Type 0
MetPlaced g passed = Unit {0}
MetPlaced g (long a k) = Unit {0}
MetPlaced g (met h) = Placed g h

abbrev OutPlaced : Geometry → Outcome → Type 0
OutPlaced g nothing = Unit {0}
OutPlaced g (short k) = Unit {0}
OutPlaced g (this h) = Placed g h
OutPlaced g spoilt = Unit {0}

abbrev StandIn : Geometry → Stand → Type 0
StandIn g (from_address a) = ReadableWord g a
StandIn g (after_page p) = p < g.pages

-- b is the buffer's size
module _ {g : Geometry} {n : ℕ} (S : Laid g n) (b : ℕ) where
  both_heads : (a : ℕ) (hs : List Head) → Each (Placed g) hs → (im jm : List ℕ) → Alike g n im jm
      → Both g (MetPlaced g) (read_heads g b a hs im) (read_heads g b a hs jm)
  unfolding read_heads
  both_heads a [] e im jm L = record { one = refl; lies = tt; fine = tt }
  both_heads a (h ∷ hs) e im jm L =
      let R = e.0 in
      let size : ℕ = round_up g.word h.len in
      let read : Lies g (copy (h.place + header_size g) size) = (omega (arith, R.low), omega (arith, R.high)) in
      both_cond (not (live h)) (λ t. both_heads a hs e.1 im jm L)
      (λ t. both_cond (ltb b size) (λ t. record { one = refl; lies = tt; fine = tt })
      (λ t. both_cond (present h) (λ t. record { one = refl; lies = (read, tt); fine = R })
      (λ t. both_then S im jm (copy (h.place + header_size g) size ∷ []) (read_heads g b (item_end g h) hs) L (read, tt) (both_heads (item_end g h) hs e.1))))

  abbrev EndPlaced : Ended → Type 0
  EndPlaced e = OutPlaced g e.outcome

  abbrev NextFine : Try Stand Ended → Type 0
  NextFine = Tried (StandIn g) EndPlaced

  both_read : (a : ℕ) → ReadableWord g a → (further : List ℕ → Plan (Try Stand Ended))
      → ((im jm : List ℕ) → Alike g n im jm → Both g NextFine (further im) (further jm))
      → (im jm : List ℕ) → Alike g n im jm → Both g NextFine (read_page g b a further im) (read_page g b a further jm)
  unfolding read_page on_met
  both_read a R further f im jm L =
      rw (← walk_on_same S im jm a R (alike_page S im jm L (page_of g a) (page_in_range S R)))
      (both_bind S (MetPlaced g) im jm (on_met g (page_of g a) further) L (both_heads a (walk_on g im a).heads (heads_placed S im L.long a R) im jm L) on)
    where
      on : (m : Met) → MetPlaced g m → (im jm : List ℕ) → Alike g n im jm
          → Both g NextFine (on_met g (page_of g a) further m im) (on_met g (page_of g a) further m jm)
      on passed v im jm L = f im jm L
      on (long s k) v im jm L = record { one = refl; lies = tt; fine = tt }
      on (met x) v im jm L = record { one = refl; lies = tt; fine = v }

  both_leave : (old : ℕ) (clears : Bool) (p : ℕ) → p < g.pages → (further : List ℕ → Plan (Try Stand Ended))
      → ((im jm : List ℕ) → Alike g n im jm → Both g NextFine (further im) (further jm))
      → (im jm : List ℕ) → Alike g n im jm → Both g NextFine (leave_page g old clears p further im) (leave_page g old clears p further jm)
  unfolding leave_page
  both_leave old clears p h further f im jm L =
      rw (← states S L (next g p) (next_in g p h))
      (both_cond (same (state g im (next g p)) Corrupted) (λ t. record { one = refl; lies = tt; fine = h })
      (λ t. both_cond (same (state g im (next g p)) Open || eqb (next g p) old) (λ t. record { one = refl; lies = tt; fine = tt })
      (λ t. both_then S im jm (cond clears (erase_page g p) []) further L (left_does g (Lies g) clears p (λ t. h)) f)))

  both_next : (old : ℕ) (clears : Bool) (k : ℕ) (s : Stand) → StandIn g s → (im jm : List ℕ) → Alike g n im jm
      → Both g NextFine (next_item g b old clears k s im) (next_item g b old clears k s jm)
  unfolding next_item
  both_next old clears zero s h im jm L = record { one = refl; lies = tt; fine = tt }
  both_next old clears (suc k) (from_address a) R im jm L =
      both_read a R (next_item g b old clears k (after_page (page_of g a))) (both_next old clears k (after_page (page_of g a)) (page_in_range S R)) im jm L
  both_next old clears (suc k) (after_page p) h im jm L =
      let s : Stand = from_address (data_start g (next g p)) in
      both_leave old clears p h (next_item g b old clears k s) (both_next old clears k s (start_word S (next g p) (next_in g p h))) im jm L

  both_on : (t : Try Unit ℕ) → Tried Any (λ p. p < g.pages) t → (im jm : List ℕ) → Alike g n im jm
      → Both g (OutPlaced g) (search_on g b t im) (search_on g b t jm)
  unfolding search_on next_step
  both_on (fails u) h im jm L = record { one = refl; lies = tt; fine = tt }
  both_on (gives old) h im jm L =
      both_bind S NextFine im jm (λ t im₁. plan [] (outcome_of t)) L
      (both_steps S (StandIn g) EndPlaced (next_step g b old true) (both_next old true (2 * g.pages)) (from_address (data_start g old))
      (start_word S old h) im jm L) end
    where
      end : (t : Try Stand Ended) → NextFine t → (im jm : List ℕ) → Alike g n im jm
          → Both g (OutPlaced g) (plan [] (outcome_of t)) (plan [] (outcome_of t))
      end (fails s) v im jm L = record { one = refl; lies = tt; fine = tt }
      end (gives o) v im jm L = record { one = refl; lies = tt; fine = v }

  both_search : (im jm : List ℕ) → Alike g n im jm → Both g (OutPlaced g) (search g im b) (search g jm b)
  unfolding search start_step
  both_search im jm L =
      both_bind S (Tried Any (λ p. p < g.pages)) im jm (search_on g b) L
      (both_steps S Any (λ p. p < g.pages) (start_step g) start tt tt im jm L) both_on
    where
      start : (u : Unit {0}) → Any u → (im jm : List ℕ) → Alike g n im jm → Both g (Tried Any (λ p. p < g.pages)) (start_step g u im) (start_step g u jm)
      start u v im jm L = record { one = ap (λ (t : Try Unit ℕ). plan [] t) (oldest_same S L); lies = tt; fine = oldest_in g im S.sized.some }

  pub both_peek : (im jm : List ℕ) → Alike g n im jm → Both g Any (peek g im b) (peek g jm b)
  unfolding peek
  both_peek im jm L = both_bind S (OutPlaced g) im jm (λ o im₁. plan [] (shown_by o)) L (both_search im jm L) (λ o v im jm L. record {
    one = refl;
    lies = tt;
    fine = tt;
  })

  pub both_pop : (im jm : List ℕ) → Alike g n im jm → Both g Any (pop g im b) (pop g jm b)
  unfolding pop
  both_pop im jm L = both_bind S (OutPlaced g) im jm (λ o im₁. plan (popped g o) (shown_by o)) L (both_search im jm L)
      (λ o v im jm L. record { one = refl; lies = pops o v; fine = tt })
    where
      pops : (o : Outcome) → OutPlaced g o → Each (Lies g) (popped g o)
      pops nothing v = tt
      pops (short k) v = tt
      pops (this h) v = header_lies S h.place h.len v 0 h.len
      pops spoilt v = tt
