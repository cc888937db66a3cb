-- The rows of peek and pop, by the headers on the way of the search. Assumes nothing.
use mathlib.Core.Path.{◌≡◌, sym, ap, ◌∙◌}
use mathlib.Core.List.{List, [], ◌∷◌, append-nil}
use Prim.Native.Nat.{ℕ, ◌<◌}
use native.Mathlib.Omega.{arith}
use Rattle.paper.specs.declared.Geometry.{Geometry}
use Rattle.paper.specs.declared.Refusal.TheVariants as refusal
use Rattle.paper.specs.Chip.{round_up}
use Rattle.paper.specs.Scan.{Head}
use Rattle.paper.specs.Refusals.{shown, empty, refused}
use Rattle.paper.specs.Search.{Outcome, short, this, spoilt, shown_by}
use Rattle.demand1.specs.Range.{Each}
use Rattle.demand1.specs.Shapes.{Iff}
use Rattle.demand1.specs.Rows.{Passed, Stops, TooLong, Seen}
use Rattle.demand1.proofs.Lists.{never}
use Rattle.demand1.proofs.ReadingHeads.{meet, passed_all, meet_long, meet_met, Meets, all, too_long, seen, meet_is}

-- b is the buffer's size
module _ (g : Geometry) (b : ℕ) (hs : List Head) where
  pub row_none : Iff (shown_by (meet g b hs) ≡ empty) (Each (Passed g b) hs)
  unfolding meet
  row_none = (λ e. by (meet_is g b hs) e, λ p. ap shown_by (ap (meet g b) (sym (append-nil hs)) ∙ passed_all g b hs [] p))
    where
      by : {m : Outcome} → Meets g b hs m → shown_by m ≡ empty → Each (Passed g b) hs
      by (all p) e = p
      by (too_long h s a c) e = never (cc)
      by (seen h s a c) e = never (cc)

  -- a search comes to the header at which it stops
  stopped : (h : Head) (s : Stops g b hs h) (m : Outcome) → ((rest : List Head) → meet g b (h ∷ rest) ≡ m) → meet g b hs ≡ m
  stopped h s m f = ap (meet g b) s.all ∙ passed_all g b s.front (h ∷ s.rest) s.passed ∙ f s.rest

  pub row_short : (k : ℕ) → Iff (shown_by (meet g b hs) ≡ refused (refusal.BufferTooSmall k)) (TooLong g b hs k)
  row_short k = (λ e. by (meet_is g b hs) e, back)
    where
      by : {m : Outcome} → Meets g b hs m → shown_by m ≡ refused (refusal.BufferTooSmall k) → TooLong g b hs k
      by (all p) e = never (cc)
      by (too_long h s a c) e = let q : round_up g.word h.len ≡ k = cc in record { head = h; stops = s; alive = a; is = sym q; over = omega arith }
      by (seen h s a c) e = never (cc)

      back : TooLong g b hs k → shown_by (meet g b hs) ≡ refused (refusal.BufferTooSmall k)
      back T =
          let l : b < round_up g.word T.head.len = omega (arith, T.over, T.is) in
          ap shown_by
          (stopped T.head T.stops (short (round_up g.word T.head.len)) (λ rest. meet_long g b T.head rest T.alive l))
          ∙ ap (λ (x : ℕ). refused (refusal.BufferTooSmall x)) (sym T.is)

  pub seen_meet : {k : ℕ} (seen : Seen g b hs k) → meet g b hs ≡ this seen.head
  seen_meet T = stopped T.head T.stops (this T.head) (λ rest. meet_met g b T.head rest T.whole T.fits)

  pub row_seen : (k : ℕ) → Iff (shown_by (meet g b hs) ≡ shown k) (Seen g b hs k)
  row_seen k = (λ e. by (meet_is g b hs) e, back)
    where
      by : {m : Outcome} → Meets g b hs m → shown_by m ≡ shown k → Seen g b hs k
      by (all p) e = never (cc)
      by (too_long h s a c) e = never (cc)
      by (seen h s a c) e = let q : h.len ≡ k = cc in record { head = h; stops = s; whole = a; is = sym q; fits = c }

      back : Seen g b hs k → shown_by (meet g b hs) ≡ shown k
      back T = ap shown_by (seen_meet T) ∙ ap shown (sym T.is)

  -- reading headers never comes to Corrupted
  pub never_spoilt : meet g b hs ≡ spoilt → ⊥
  never_spoilt e = by (meet_is g b hs) e
    where
      by : {m : Outcome} → Meets g b hs m → m ≡ spoilt → ⊥
      by (all p) e = never (cc)
      by (too_long h s a c) e = never (cc)
      by (seen h s a c) e = never (cc)
