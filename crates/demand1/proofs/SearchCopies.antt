-- A peek or pop copies no more than the buffer takes, and what it shows fits the buffer. Assumes nothing.
use mathlib.Core.Path.{◌≡◌, refl, subst}
use mathlib.Core.Bool.{Bool, true, not, ◌||◌}
use mathlib.Core.List.Memᴰ
use mathlib.Core.List.{List, [], ◌∷◌}
use Prim.Native.Nat.{ℕ, zero, suc, ◌+◌, ◌*◌, ◌≤◌}
use native.Mathlib.Omega.{arith}
use borrow.Author.Tests.{ltb-false, not-false}
use lib.Dec.{eqb, ltb}
use Rattle.paper.specs.declared.Geometry.{Geometry}
use Rattle.paper.specs.declared.PageState.TheVariants.{Open, Corrupted}
use Rattle.paper.specs.Chip.{round_up, header_size, data_start, page_of, Event, store, erase, copy, plan, Try, fails, gives}
use Rattle.paper.specs.Slip.{encode}
use Rattle.paper.specs.Scan.{Head, walk_on, live, present}
use Rattle.paper.specs.Pages.{state, same, next, oldest}
use Rattle.paper.specs.Refusals.{Answer, shown}
use Rattle.paper.specs.Search.{Met, passed, long, met, item_end, read_heads, Stand, from_address, after_page, Outcome, nothing, short, this, spoilt, Ended, on_met, read_page, leave_page, next_item, next_step, start_step, outcome_of, search_on, search, shown_by, popped, peek, pop}
use Rattle.demand1.specs.Range.{Each}
use Rattle.demand1.specs.Buffers.{CopiesAtMost, ReadOf}
use Rattle.demand1.proofs.Lists.{each_weaker, each_any, never}
use Rattle.demand1.proofs.Items.{Intact, walk_on_whole}
use Rattle.demand1.proofs.EachEvent.{Tried, Any, left_does, writes_store, Does, does_cond, does_bind, does_steps}

-- a header that was met is one of those read, live, and the buffer takes it
abbrev MetOf : Geometry → ℕ → (Head → Type 0) → Met → Type 0
MetOf g n Q passed = Unit {0}
MetOf g n Q (long a k) = Unit {0}
MetOf g n Q (met h) = Q h × (live h ≡ true) × (round_up g.word h.len ≤ n)

abbrev OutFits : ℕ → Outcome → Type 0
OutFits n nothing = Unit {0}
OutFits n (short k) = Unit {0}
OutFits n (this h) = h.len ≤ n
OutFits n spoilt = Unit {0}

module _ (g : Geometry) (n : ℕ) where
  heads_do : (Q : Head → Type 0) (a : ℕ) (hs : List Head) → Each Q hs → (im : List ℕ) → Does (CopiesAtMost n) (MetOf g n Q) (read_heads g n a hs im)
  unfolding read_heads
  heads_do Q a [] e im = record { each = tt; answers = tt }
  heads_do Q a (h ∷ hs) e im =
      let size : ℕ = round_up g.word h.len in
      does_cond (not (live h)) (λ t. heads_do Q a hs e.1 im)
      (λ v. does_cond (ltb n size) (λ t. record { each = tt; answers = tt })
      (λ s. let k : size ≤ n = ltb-false n size s in
      does_cond (present h) (λ t. record { each = (k, tt); answers = (e.0, not-false (live h) v, k) })
      (λ t. does_bind g {A = Unit {0}} Any im (λ u. read_heads g n (item_end g h) hs) (record { each = (k, tt); answers = tt })
      (λ u x. heads_do Q (item_end g h) hs e.1))))

  -- what is read is one of the headers, and live
  read_of : (h : Head) (hs : List Head) (e : Event) → ReadOf g hs e → ReadOf g (h ∷ hs) e
  read_of h hs (store a word) r = r
  read_of h hs (erase p) r = r
  read_of h hs (copy a m) r = (r.0, Memᴰ.tail r.1, r.2, r.3, r.4)

  pub heads_read : (a : ℕ) (hs : List Head) (im : List ℕ) → Does (ReadOf g hs) Any (read_heads g n a hs im)
  unfolding read_heads
  heads_read a [] im = record { each = tt; answers = tt }
  heads_read a (h ∷ hs) im =
      let size : ℕ = round_up g.word h.len in
      let on : (a : ℕ) (i : List ℕ) → Does (ReadOf g (h ∷ hs)) Any (read_heads g n a hs i) =
      λ a i. record {
        each = each_weaker (ReadOf g hs) (ReadOf g (h ∷ hs)) (read_of h hs) (read_heads g n a hs i).events (heads_read a hs i).each;
        answers = tt;
      } in
      does_cond (not (live h)) (λ t. on a im)
      (λ v. does_cond (ltb n size) (λ t. record { each = tt; answers = tt })
      (λ s. let read : ReadOf g (h ∷ hs) (copy (h.place + header_size g) size) = (h, Memᴰ.head refl, not-false (live h) v, refl, refl) in
      does_cond (present h) (λ t. record { each = (read, tt); answers = tt })
      (λ t. does_bind g {A = Unit {0}} Any im (λ u. read_heads g n (item_end g h) hs) (record { each = (read, tt); answers = tt }) (λ u x. on (item_end g h)))))

  abbrev EndFits : Ended → Type 0
  EndFits e = OutFits n e.outcome

  abbrev NextFits : Try Stand Ended → Type 0
  NextFits = Tried Any EndFits

  next_does : (old : ℕ) (clears : Bool) (k : ℕ) (s : Stand) (im : List ℕ) → Does (CopiesAtMost n) NextFits (next_item g n old clears k s im)
  unfolding next_item read_page on_met leave_page
  next_does old clears zero s im = record { each = tt; answers = tt }
  next_does old clears (suc k) (from_address a) im =
      does_bind g (MetOf g n (Intact g im)) im (on_met g (page_of g a) (next_item g n old clears k s))
      (heads_do (Intact g im) a (walk_on g im a).heads (walk_on_whole g im a) im) (on (next_does old clears k s))
    where
      s : Stand
      s = after_page (page_of g a)

      on : ((im : List ℕ) → Does (CopiesAtMost n) NextFits (next_item g n old clears k s im))
          → (m : Met) → MetOf g n (Intact g im) m → (im : List ℕ) → Does (CopiesAtMost n) NextFits (on_met g (page_of g a) (next_item g n old clears k s) m im)
      on f passed v im = f im
      on f (long x j) v im = record { each = tt; answers = tt }
      on f (met h) v im = record { each = tt; answers = omega (arith, v.0, v.2) }
  next_does old clears (suc k) (after_page p) im =
      let s : Stand = from_address (data_start g (next g p)) in
      does_cond (same (state g im (next g p)) Corrupted) (λ t. record { each = tt; answers = tt })
      (λ t. does_cond (same (state g im (next g p)) Open || eqb (next g p) old) (λ t. record { each = tt; answers = tt })
      (λ t. does_bind g {A = Unit {0}} Any im (λ u. next_item g n old clears k s) (record {
        each = left_does g (CopiesAtMost n) clears p (λ t. tt);
        answers = tt;
      }) (λ u v. next_does old clears k s)))

  search_does : (im : List ℕ) → Does (CopiesAtMost n) (OutFits n) (search g im n)
  unfolding search start_step search_on next_step
  search_does im =
      does_bind g (Tried Any Any) im (search_on g n)
      (does_steps g Any Any (start_step g) (λ p. tt) (λ u v i. record { each = tt; answers = any (oldest g i) }) tt tt im) on
    where
      any : (t : Try Unit ℕ) → Tried Any Any t
      any (fails u) = tt
      any (gives p) = tt

      end : (t : Try Stand Ended) → NextFits t → (im : List ℕ) → Does (CopiesAtMost n) (OutFits n) (plan [] (outcome_of t))
      end (fails s) v im = record { each = tt; answers = tt }
      end (gives o) v im = record { each = tt; answers = v }

      on : (t : Try Unit ℕ) → Tried Any Any t → (im : List ℕ) → Does (CopiesAtMost n) (OutFits n) (search_on g n t im)
      on (fails u) v im = record { each = tt; answers = tt }
      on (gives old) v im =
          does_bind g NextFits im (λ t im₁. plan [] (outcome_of t))
          (does_steps g Any EndFits (next_step g n old true) (λ p. tt) (λ s v. next_does old true (2 * g.pages) s)
          (from_address (data_start g old)) tt im) end

  -- what is shown fits the buffer
  abbrev Shows : Answer → Type 0
  Shows a = (k : ℕ) → a ≡ shown k → k ≤ n

  shows : (o : Outcome) → OutFits n o → Shows (shown_by o)
  shows nothing v k e = never (cc)
  shows (short j) v k e = never (cc)
  shows (this h) v k e = let z : h.len ≡ k = cc in omega arith
  shows spoilt v k e = never (cc)

  pub peek_does : (im : List ℕ) → Does (CopiesAtMost n) Shows (peek g im n)
  unfolding peek
  peek_does im = does_bind g (OutFits n) im (λ o im₁. plan [] (shown_by o)) (search_does im) (λ o v im. record { each = tt; answers = shows o v })

  pub pop_does : (im : List ℕ) → Does (CopiesAtMost n) Shows (pop g im n)
  unfolding pop
  pop_does im = does_bind g (OutFits n) im (λ o im₁. plan (popped g o) (shown_by o)) (search_does im) (λ o v im. record { each = by o; answers = shows o v })
    where
      by : (o : Outcome) → Each (CopiesAtMost n) (popped g o)
      by nothing = tt
      by (short k) = tt
      by (this h) = writes_store g (CopiesAtMost n) (λ a word. tt) h.place (encode g 0 h.len)
      by spoilt = tt

  pub met_live : (a : ℕ) (hs : List Head) (im : List ℕ) (h : Head) → (read_heads g n a hs im).answer ≡ met h → live h ≡ true
  met_live a hs im h e = (subst (MetOf g n Any) e (heads_do Any a hs (each_any hs) im).answers).1
