-- Peek and pop, row by row: empty, BufferTooSmall, a slip that is shown, and Corrupted. Assumes nothing.
use mathlib.Core.Path.{◌≡◌, refl, sym, ap, ◌∙◌, subst}
use mathlib.Core.List.{List, [], ◌++◌, append-nil}
use mathlib.Core.Logic.{◌⊎◌, inl, inr}
use Prim.Native.Nat.{ℕ, ◌<◌}
use lib.ListN.{length}
use Rattle.paper.specs.declared.Geometry.{Geometry}
use Rattle.paper.specs.declared.PageState.TheVariants.{Corrupted}
use Rattle.paper.specs.declared.Refusal.TheVariants as refusal
use Rattle.paper.specs.Chip.{Event, store, erase, copy, image_after, Plan, plan, bind, Try, fails, gives}
use Rattle.paper.specs.Scan.{Head, page_walk, payloads}
use Rattle.paper.specs.Pages.{state, from, oldest, repair}
use Rattle.paper.specs.Refusals.{shown, empty, refused}
use Rattle.paper.specs.Steps.{with_repair}
use Rattle.paper.specs.Search.{Outcome, nothing, short, this, spoilt, start_step, search_on, search, shown_by, popped, peek, pop}
use Rattle.laws.proofs.Accepted.{Laid}
use Rattle.laws.proofs.Marks.{same_is}
use Rattle.demand1.specs.Range.{Each}
use Rattle.demand1.specs.Shapes.{Iff}
use Rattle.demand1.specs.Buffers.{copies_in}
use Rattle.demand1.specs.Rows.{repaired, Fails, on_the_way, Passed, TooLong, Seen, Way, direct, mended, Finished, OfSearch}
use Rattle.demand1.proofs.Lists.{each_append, each_weaker, never}
use Rattle.demand1.proofs.Pages.{state_same, walk_same}
use Rattle.demand1.proofs.EachEvent.{Tried, Any, repair_does}
use Rattle.demand1.proofs.Searches.{oldest_in}
use Rattle.demand1.proofs.Repairs.{Mended, opened, kept, repaired_long}
use Rattle.demand1.proofs.Repairs as repairs
use Rattle.demand1.proofs.Steps.{is_fails, fails_not, steps_gives, steps_again}
use Rattle.demand1.proofs.ReadingHeads.{meet}
use Rattle.demand1.proofs.HeadCopies.{copies_join, Kept, copies_none, read_of}
use Rattle.demand1.proofs.Ways.{Clears}
use Rattle.demand1.proofs.Searching.{Went, search_went}
use Rattle.demand1.proofs.WayRows.{row_none, seen_meet, row_short, row_seen, never_spoilt}

clears_finished : (g : Geometry) (im : List ℕ) (e : Event) → Clears g im e → Finished g im e
clears_finished g im (store a word) h = h
clears_finished g im (erase p) h = h.1
clears_finished g im (copy a n) h = tt

module _ {g : Geometry} {n : ℕ} (S : Laid g n) (im : List ℕ) (size : length im ≡ n) (b : ℕ) where
  -- what is known of a search
  record Searched (p : Plan Outcome) : Type 0 where
    pub goes : {hs : List Head} → Way g im hs → p.answer ≡ meet g b hs
    pub copies : {hs : List Head} → Way g im hs → copies_in p.events ≡ read_of g b hs
    pub clears : Each (Clears g im) p.events
    pub lost_is : p.answer ≡ spoilt → Fails (oldest g im) × Fails (oldest g (repaired g im))
    pub is_lost : Fails (oldest g im) × Fails (oldest g (repaired g im)) → p.answer ≡ spoilt
    pub lost_only : p.answer ≡ spoilt → p.events ≡ repair g im

  old_in : (jm : List ℕ) (old : ℕ) → oldest g jm ≡ gives old → old < g.pages
  old_in jm old e = subst (Tried {W = Unit {0}} Any (λ p. p < g.pages)) e (oldest_in g jm S.sized.some)

  -- a page finished after the repair was so before it, or Corrupted
  clears_before : (e : Event) → Clears g (repaired g im) e → Clears g im e
  clears_before (store a word) h = h
  clears_before (copy a m) h = tt
  clears_before (erase p) h = (h.0, by (repairs.mended S im size p h.0) h.1)
    where
      by : Mended g im (repaired g im) p → (state g (repaired g im) p ≡ Corrupted) ⊎ (payloads (page_walk g (repaired g im) p).heads ≡ [])
          → (state g im p ≡ Corrupted) ⊎ (payloads (page_walk g im p).heads ≡ [])
      by (opened c o) f = inl (same_is (state g im p) Corrupted c)
      by (kept c e) (inl f) = inl (sym (state_same S (repaired g im) im p e) ∙ f)
      by (kept c e) (inr f) = inr (rw (← walk_same S (repaired g im) im p e) f)

  repair_clears : Each (Clears g im) (repair g im)
  repair_clears = repair_does g im (Clears g im) S.sized.some (λ p h c. (h, inl (same_is (state g im p) Corrupted c)))

  none_copied : copies_in (repair g im) ≡ []
  none_copied = copies_none (repair g im) (repair_does g im Kept S.sized.some (λ p h c. tt))

  -- the oldest page is found in the image jm, which the events es leave
  searched_from : (jm : List ℕ) (es : List Event) → length jm ≡ n → Each (Clears g im) es → copies_in es ≡ [] → ((e : Event) → Clears g jm e → Clears g im e)
      → (old : ℕ) → oldest g jm ≡ gives old → ((hs : List Head) → Way g im hs → on_the_way g jm old (from g old) ≡ hs)
      → (Fails (oldest g im) × Fails (oldest g (repaired g im)) → ⊥)
      → Searched (plan (es ++ (search_on g b (gives old) jm).events) (search_on g b (gives old) jm).answer)
  searched_from jm es l c none back old e way not = record {
    copies = λ {hs} w. copies_join es found ∙ ap (λ (x : List Event). x ++ copies_in found) none ∙ W.copies ∙ ap (read_of g b) (way hs w);
    goes = λ {hs} w. W.answered ∙ ap (meet g b) (way hs w);
    clears = each_append (Clears g im) es found c (each_weaker (Clears g jm) (Clears g im) back found W.clears);
    lost_is = λ q. absurd (whole q);
    is_lost = λ k. absurd (not k);
    lost_only = λ q. absurd (whole q);
  }
    where
      found : List Event
      found = (search_on g b (gives old) jm).events

      W : Went S jm b old (old_in jm old e) (search_on g b (gives old) jm)
      W = search_went S jm b old (old_in jm old e) l e

      whole : (search_on g b (gives old) jm).answer ≡ spoilt → ⊥
      whole q = never_spoilt g b (on_the_way g jm old (from g old)) (sym W.answered ∙ q)

  searched_once : (old : ℕ) → oldest g im ≡ gives old → Searched (search_on g b (gives old) im)
  searched_once old e = searched_from im [] size tt none_here (λ x h. h) old e (λ hs w. by w) (λ k. fails_not k.0 e)
    where
      none_here : copies_in [] ≡ []
      none_here = copies_none [] tt

      by : {hs : List Head} → Way g im hs → on_the_way g im old (from g old) ≡ hs
      by (direct {old = o} f) = let z : old ≡ o = cc in ap (λ (x : ℕ). on_the_way g im x (from g x)) z
      by (mended f q) = absurd (fails_not f e)

  searched_mended : {u : Unit {0}} → oldest g im ≡ fails u → (old : ℕ) → oldest g (repaired g im) ≡ gives old
      → Searched (plan (repair g im ++ (search_on g b (gives old) (repaired g im)).events) (search_on g b (gives old) (repaired g im)).answer)
  searched_mended v old e = searched_from (repaired g im) (repair g im) (repaired_long S im size) repair_clears none_copied clears_before old e
      (λ hs w. by w) (λ k. fails_not k.1 e)
    where
      by : {hs : List Head} → Way g im hs → on_the_way g (repaired g im) old (from g old) ≡ hs
      by (direct f) = absurd (fails_not (is_fails v) f)
      by (mended {old = o} f q) = let z : old ≡ o = cc in ap (λ (x : ℕ). on_the_way g (repaired g im) x (from g x)) z

  -- it is not found
  searched_lost : {u v : Unit {0}} → oldest g im ≡ fails u → oldest g (repaired g im) ≡ fails v → Searched (plan (repair g im) spoilt)
  searched_lost e f = record {
    goes = λ w. absurd (by w);
    copies = λ w. absurd (by w);
    clears = repair_clears;
    lost_is = λ q. (is_fails e, is_fails f);
    is_lost = λ k. refl;
    lost_only = λ q. refl;
  }
    where
      by : {hs : List Head} → Way g im hs → ⊥
      by (direct q) = fails_not (is_fails e) q
      by (mended x q) = fails_not (is_fails f) q

  start_again : {u : Unit {0}} → oldest g im ≡ fails u → with_repair g (start_step g) tt im ≡ plan (repair g im) (oldest g (repaired g im))
  unfolding start_step
  start_again e =
      steps_again g (start_step g) tt im (ap (λ (t : Try Unit ℕ). plan [] t) e)
      ∙ ap (λ (es : List Event). plan es (oldest g (repaired g im))) (append-nil (repair g im))

  searched : Searched (search g im b)
  unfolding search start_step bind image_after search_on
  searched = by (oldest g im) refl
    where
      on : {u : Unit {0}} → oldest g im ≡ fails u → (t : Try Unit ℕ) → oldest g (repaired g im) ≡ t
          → Searched (plan (repair g im ++ (search_on g b t (repaired g im)).events) (search_on g b t (repaired g im)).answer)
      on e (gives old) f = searched_mended e old f
      on e (fails v) f = subst (λ (es : List Event). Searched (plan es spoilt)) (sym (append-nil (repair g im))) (searched_lost e f)

      by : (t : Try Unit ℕ) → oldest g im ≡ t → Searched (search g im b)
      by (gives old) e = rw (steps_gives g (start_step g) tt im e) (searched_once old e)
      by (fails u) e = rw (start_again e) (on e (oldest g (repaired g im)) refl)

  -- ---- the call: the search, and then some events by its outcome

  module _ (more : Outcome → List Event) (none : more nothing ≡ []) (less : (k : ℕ) → more (short k) ≡ []) (lost : more spoilt ≡ []) where
    finished : (es : List Event) → Each (Clears g im) es → (fs : List Event) → fs ≡ [] → Each (Finished g im) (es ++ fs)
    finished es c fs e =
        subst (λ (x : List Event). Each (Finished g im) x) (sym (ap (λ (x : List Event). es ++ x) e ∙ append-nil es))
        (each_weaker (Clears g im) (Finished g im) (clears_finished g im) es c)

    of_outcome : (es : List Event) (o : Outcome) → Searched (plan es o) → OfSearch g im b (plan (es ++ more o) (shown_by o))
    of_outcome es o P = record {
      none = λ {hs} w. subst (λ (x : Outcome). Iff (shown_by x ≡ empty) (Each (Passed g b) hs)) (sym (P.goes w)) (row_none g b hs);
      short = λ {hs} w k. subst (λ (x : Outcome). Iff (shown_by x ≡ refused (refusal.BufferTooSmall k)) (TooLong g b hs k)) (sym (P.goes w))
          (row_short g b hs k);
      seen = λ {hs} w k. subst (λ (x : Outcome). Iff (shown_by x ≡ shown k) (Seen g b hs k)) (sym (P.goes w)) (row_seen g b hs k);
      none_image = by_none o;
      short_image = by_short o;
      corrupted = (λ e. P.lost_is (spoils o e), λ k. ap shown_by (P.is_lost k));
      corrupted_image = λ e. ap (λ (x : List Event). es ++ x) (ap more (spoils o e) ∙ lost) ∙ append-nil es ∙ P.lost_only (spoils o e);
      otherwise = shows o;
    }
      where
        shows : (x : Outcome) → (shown_by x ≡ empty → ⊥) → ((k : ℕ) → shown_by x ≡ refused (refusal.BufferTooSmall k) → ⊥)
            → (shown_by x ≡ refused refusal.Corrupted → ⊥)
            → (k : ℕ) × (shown_by x ≡ shown k)
        shows nothing a b c = absurd (a refl)
        shows (short k) a b c = absurd (b k refl)
        shows (this h) a b c = (h.len, refl)
        shows spoilt a b c = absurd (c refl)

        spoils : (x : Outcome) → shown_by x ≡ refused refusal.Corrupted → x ≡ spoilt
        spoils nothing e = cc
        spoils (short k) e = cc
        spoils (this h) e = cc
        spoils spoilt e = refl

        by_none : (x : Outcome) → shown_by x ≡ empty → Each (Finished g im) (es ++ more x)
        by_none nothing e = finished es P.clears (more nothing) none
        by_none (short k) e = never (cc)
        by_none (this h) e = never (cc)
        by_none spoilt e = never (cc)

        by_short : (x : Outcome) (k : ℕ) → shown_by x ≡ refused (refusal.BufferTooSmall k) → Each (Finished g im) (es ++ more x)
        by_short nothing k e = never (cc)
        by_short (short j) k e = finished es P.clears (more (short j)) (less j)
        by_short (this h) k e = never (cc)
        by_short spoilt k e = never (cc)

  -- an item that is seen on the way is what the search comes to
  pub search_seen : {hs : List Head} {k : ℕ} → Way g im hs → (seen : Seen g b hs k) → (search g im b).answer ≡ this seen.head
  search_seen {hs} w T = searched.goes w ∙ seen_meet g b hs T

  pub search_copies : {hs : List Head} → Way g im hs → copies_in (search g im b).events ≡ read_of g b hs
  search_copies w = searched.copies w

  pub of_peek : OfSearch g im b (peek g im b)
  unfolding peek bind
  of_peek = of_outcome (λ o. []) refl (λ k. refl) refl (search g im b).events (search g im b).answer searched

  pub of_pop : OfSearch g im b (pop g im b)
  unfolding pop bind
  of_pop = of_outcome (popped g) refl (λ k. refl) refl (search g im b).events (search g im b).answer searched
