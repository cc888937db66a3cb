-- Peek and pop copy the live headers on the way of the search, up to the first that it does not go past. Assumes nothing.
use mathlib.Core.Path.{◌≡◌, refl, sym, ap, ◌∙◌}
use mathlib.Core.List.{List, [], ◌∷◌, ◌++◌, append-nil}
use Prim.Native.Nat.{ℕ}
use native.Mathlib.Omega.{arith}
use lib.ListN.{length}
use Rattle.paper.specs.declared.Geometry.{Geometry}
use Rattle.paper.specs.declared.Refusal.TheVariants as refusal
use Rattle.paper.specs.Chip.{Event, Plan, bind}
use Rattle.paper.specs.Slip.{encode}
use Rattle.paper.specs.Scan.{Head}
use Rattle.paper.specs.Pages.{repair}
use Rattle.paper.specs.Refusals.{Answer, refused}
use Rattle.paper.specs.Search.{Outcome, nothing, short, this, spoilt, search, popped, peek, pop}
use Rattle.laws.proofs.Accepted.{Laid}
use Rattle.demand1.specs.Range.{Each}
use Rattle.demand1.specs.Buffers.{copies_in, copies_of, OfCopies}
use Rattle.demand1.specs.Rows.{Passed, TooLong, Seen, Way}
use Rattle.demand1.proofs.EachEvent.{writes_store, repair_does}
use Rattle.demand1.proofs.HeadCopies.{copies_join, Kept, copies_none, read_of, copies_append, front_read, long_read, met_read}
use Rattle.demand1.proofs.SearchRows.{search_copies, of_peek, of_pop}

-- ---- by the headers on the way; b is the buffer's size

module _ (g : Geometry) (b : ℕ) (hs : List Head) where
  none_read : Each (Passed g b) hs → read_of g b hs ≡ copies_of g hs
  unfolding read_of
  none_read p = ap (read_of g b) (sym (append-nil hs)) ∙ front_read g b hs [] p ∙ append-nil (copies_of g hs)

  short_read : {k : ℕ} (T : TooLong g b hs k) → read_of g b hs ≡ copies_of g T.stops.front
  short_read T =
      let s = T.stops in
      ap (read_of g b) s.all ∙ front_read g b s.front (T.head ∷ s.rest) s.passed
      ∙ ap (λ (es : List Event). copies_of g s.front ++ es) (long_read g b T.head s.rest T.alive (omega (arith, T.over, T.is)))
      ∙ append-nil (copies_of g s.front)

  seen_read : {k : ℕ} (T : Seen g b hs k) → read_of g b hs ≡ copies_of g (T.stops.front ++ (T.head ∷ []))
  seen_read T =
      let s = T.stops in
      ap (read_of g b) s.all ∙ front_read g b s.front (T.head ∷ s.rest) s.passed
      ∙ ap (λ (es : List Event). copies_of g s.front ++ es) (met_read g b T.head s.rest T.whole T.fits)
      ∙ sym (copies_append g b s.front (T.head ∷ []))

-- ---- the call: the search, and then events that copy nothing

module _ {g : Geometry} {n : ℕ} (S : Laid g n) (im : List ℕ) (size : length im ≡ n) (b : ℕ) where
  of_events : (p : Plan Answer) (more : List Event) → p.events ≡ (search g im b).events ++ more → Each Kept more
      → (p.answer ≡ refused refusal.Corrupted → p.events ≡ repair g im) → OfCopies g im b p
  of_events p more e k lost = record {
    none = λ {hs} w h. read w ∙ none_read g b hs h;
    short = λ {hs} w k T. read w ∙ short_read g b hs T;
    seen = λ {hs} w k T. read w ∙ seen_read g b hs T;
    corrupted = λ a. ap copies_in (lost a) ∙ copies_none (repair g im) (repair_does g im Kept S.sized.some (λ p h c. tt));
  }
    where
      read : {hs : List Head} → Way g im hs → copies_in p.events ≡ read_of g b hs
      read {hs} w =
          ap copies_in e ∙ copies_join (search g im b).events more
          ∙ ap (λ (es : List Event). copies_in (search g im b).events ++ es) (copies_none more k)
          ∙ append-nil (copies_in (search g im b).events) ∙ search_copies S im size b w

  pub peek_copies : OfCopies g im b (peek g im b)
  unfolding peek bind
  peek_copies = of_events (peek g im b) [] refl tt (of_peek S im size b).corrupted_image

  pub pop_copies : OfCopies g im b (pop g im b)
  unfolding pop bind
  pop_copies = of_events (pop g im b) (popped g (search g im b).answer) refl (by (search g im b).answer) (of_pop S im size b).corrupted_image
    where
      by : (o : Outcome) → Each Kept (popped g o)
      by nothing = tt
      by (short k) = tt
      by (this h) = writes_store g Kept (λ a word. tt) h.place (encode g 0 h.len)
      by spoilt = tt
