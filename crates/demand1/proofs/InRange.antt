-- Every event of every call lies in the range; bytes outside it never change and have no say. Assumes nothing.
use mathlib.Core.Path.{◌≡◌, refl, sym, ap, ◌∙◌, subst}
use mathlib.Core.Bool.{Bool, true, false, cond}
use mathlib.Core.List.{List, []}
use Prim.Native.Nat.{ℕ, ◌-◌, ◌*◌}
use native.Mathlib.Omega.{arith}
use lib.Dec.{ltb}
use lib.ListN.{length}
use Rattle.std.specs.Prelude.{Result, Ok, Err}
use Rattle.paper.specs.declared.Shape.{Shape}
use Rattle.paper.specs.declared.Geometry.{Geometry}
use Rattle.paper.specs.declared.Refusal.{Refusal}
use Rattle.paper.specs.declared.Refusal.TheVariants as refusal
use Rattle.paper.specs.Chip.{part, Event, store_count, before, image_after, buffer_after, Plan, plan}
use Rattle.paper.specs.Refusals.{geometry_of, check, Answer, refused}
use Rattle.paper.specs.Calls.{Call, pushes, peeks, pops, fits, spaces, erases_all, planned, call, plan_of, requested, limited}
use Rattle.laws.proofs.Accepted.{Laid, accepted_is, accepted_from}
use Rattle.demand1.specs.Range.{Lies, Each, Outside, Agree, image_limit, buffer_limit, InRange}
use Rattle.demand1.proofs.Lists.{each_before}
use Rattle.demand1.proofs.Lying.{Alike, range_end_lem, alike_after, alike_self, frame_after, alike_buffer}
use Rattle.demand1.proofs.EachEvent.{Any}
use Rattle.demand1.proofs.AlikePlans.{Both}
use Rattle.demand1.proofs.PushLies.{both_push}
use Rattle.demand1.proofs.SearchLies.{both_peek, both_pop}
use Rattle.demand1.proofs.CountLies.{both_fit, both_space, both_erase}

both_for : {g : Geometry} {n : ℕ} → Laid g n → (c : Call) (im jm : List ℕ) → Alike g n im jm → Both g Any (plan_of g im c) (plan_of g jm c)
unfolding plan_of
both_for S (pushes slip over) im jm L = both_push S slip over im jm L
both_for S (peeks b) im jm L = both_peek S (length b) im jm L
both_for S (pops b) im jm L = both_pop S (length b) im jm L
both_for S fits im jm L = both_fit S im jm L
both_for S spaces im jm L = both_space S im jm L
both_for S erases_all im jm L = both_erase S

events_lie : (g : Geometry) (im : List ℕ) (s : Shape) → check (length im) s ≡ Ok g → (c : Call) → Each (Lies g) (plan_of g im c).events
events_lie g im s e c = let S = (accepted_from (length im) s g e).laid in (both_for S c im im (alike_self S im refl)).lies

-- ---- outside

-- events that a shape's range holds
Held : Shape → List ℕ → List Event → Type 0
Held s im es = Outside s im (image_after (geometry_of s) es im)

module _ (s : Shape) (im : List ℕ) where
  none_held : Held s im []
  unfolding image_after Held
  none_held = record { size = refl; below = refl; above = refl }

  lie_held : (g : Geometry) → check (length im) s ≡ Ok g → (es : List Event) → Each (Lies g) es → Held s im es
  unfolding Held
  lie_held g e es h =
      let F = frame_after (accepted_from (length im) s g e).laid es im refl h in
      rw (accepted_is (length im) s g e) (record {
        size = F.size;
        below = rw (← (accepted_from (length im) s g e).starts_at) F.below;
        above = F.above s.end (omega (arith, (accepted_from (length im) s g e).ends_at));
      })

  -- what a call may do in place of its plan: nothing but the plan's own events
  module _ (c : Call) (some : Plan Answer → List Event)
      (less : (P : Event → Type 0) (p : Plan Answer) → Each P p.events → Each P (some p))
      (none : (a : Answer) → some (plan [] a) ≡ []) where
    held : Held s im (some (requested s im c))
    unfolding requested call
    held = on (check (length im) s) refl
      where
        on : (t : Result Geometry Refusal) → check (length im) s ≡ t → Held s im (some (planned t (λ g. plan_of g im c)))
        on (Ok g) e = lie_held g e (some (plan_of g im c)) (less (Lies g) (plan_of g im c) (events_lie g im s e c))
        on (Err r) e = rw (none (refused r)) none_held

-- a limited plan makes no event but the plan's
limited_less : (k : ℕ) (P : Event → Type 0) (p : Plan Answer) → Each P p.events → Each P (limited k p).events
unfolding limited
limited_less k P p h = by (ltb k (store_count p.events))
  where
    by : (t : Bool) → Each P (cond t (plan (before k p.events) (refused refusal.Cut)) p).events
    by true = each_before P k p.events h
    by false = h

limited_none : (k : ℕ) (a : Answer) → (limited k (plan [] a)).events ≡ []
unfolding limited before
limited_none k a = by (ltb k (store_count []))
  where
    by : (t : Bool) → (cond t (plan (before k []) (refused refusal.Cut)) (plan [] a)).events ≡ []
    by true = refl
    by false = refl

-- ---- no say

abbrev SameRange : Shape → List ℕ → List ℕ → Type 0
SameRange s i j = part s.start (s.end - s.start) i ≡ part s.start (s.end - s.start) j

-- the check says of an image what it says of the image that a call leaves
same_check : (k : ℕ) (s : Shape) (im : List ℕ) (c : Call) → check (length (image_limit k s im c)) s ≡ check (length im) s
unfolding Held
same_check k s im c = ap (λ (n : ℕ). check n s) (held s im c (λ p. (limited k p).events) (limited_less k) (limited_none k)).size

module _ (n : ℕ) (s : Shape) (g : Geometry) (q : check n s ≡ Ok g) where
  size_is : s.end - s.start ≡ g.pages * g.page
  size_is = omega (arith, range_end_lem g, (accepted_from n s g q).ends_at, (accepted_from n s g q).starts_at)

  agree_alike : (im jm : List ℕ) → length im ≡ n → Agree s im jm → Alike g n im jm
  agree_alike im jm l A =
      let t : check (length jm) s ≡ Ok g = sym A.0 ∙ ap (λ (x : ℕ). check x s) l ∙ q in
      record { long = l; also = (accepted_from (length jm) s g t).laid.ends; same = rw ((accepted_from n s g q).starts_at, ← size_is) A.1 }

  alike_range : (im jm : List ℕ) → Alike g n im jm → SameRange s im jm
  alike_range im jm L = rw (size_is, ← (accepted_from n s g q).starts_at) L.same

module _ (s : Shape) (im jm : List ℕ) (A : Agree s im jm) (c : Call) where
  no_say : requested s im c ≡ requested s jm c
  unfolding requested call
  no_say = on (check (length im) s) refl ∙ ap (λ (t : Result Geometry Refusal). planned t (λ g. plan_of g jm c)) A.0
    where
      on : (t : Result Geometry Refusal) → check (length im) s ≡ t → planned t (λ g. plan_of g im c) ≡ planned t (λ g. plan_of g jm c)
      on (Err r) q = refl
      on (Ok g) q = (both_for (accepted_from (length im) s g q).laid c im jm (agree_alike (length im) s g q im jm refl A)).one

  -- what k stores leave
  module _ (k : ℕ) where
    -- of events that are the plan's, or none
    same_image : SameRange s (image_limit k s im c) (image_after (geometry_of s) (limited k (requested s im c)).events jm)
    unfolding requested call image_after
    same_image = on (check (length im) s) refl
      where
        on : (t : Result Geometry Refusal) → check (length im) s ≡ t → (let es = (limited k (planned t (λ g. plan_of g im c))).events in
            SameRange s (image_after (geometry_of s) es im) (image_after (geometry_of s) es jm))
        on (Err r) q = rw (limited_none k (refused r)) A.1
        on (Ok g) q =
            let S = (accepted_from (length im) s g q).laid in
            let h = limited_less k (Lies g) (plan_of g im c) (events_lie g im s q c) in
            rw (accepted_is (length im) s g q)
            (alike_range (length im) s g q _ _ (alike_after S (limited k (plan_of g im c)).events (agree_alike (length im) s g q im jm refl A) h))

    same_buffer : (buf : List ℕ) → buffer_limit k s im c buf ≡ buffer_after (geometry_of s) (limited k (requested s im c)).events jm buf
    unfolding requested call buffer_after
    same_buffer buf = on (check (length im) s) refl
      where
        on : (t : Result Geometry Refusal) → check (length im) s ≡ t → (let es = (limited k (planned t (λ g. plan_of g im c))).events in
            buffer_after (geometry_of s) es im buf ≡ buffer_after (geometry_of s) es jm buf)
        on (Err r) q = rw (limited_none k (refused r))
        on (Ok g) q =
            let S = (accepted_from (length im) s g q).laid in
            let h = limited_less k (Lies g) (plan_of g im c) (events_lie g im s q c) in
            rw (accepted_is (length im) s g q) (alike_buffer S (limited k (plan_of g im c)).events (agree_alike (length im) s g q im jm refl A) h buf)

pub in_range : InRange
unfolding Held
in_range = record {
  events_lie = events_lie;
  outside_whole = λ s im c. held s im c (λ p. p.events) (λ P p h. h) (λ a. refl);
  outside_limited = λ k s im c. held s im c (λ p. (limited k p).events) (limited_less k) (limited_none k);
  no_say = no_say;
  no_say_image = λ k s im jm A c.
      let p : Plan Answer → Type 0 = λ p. SameRange s (image_limit k s im c) (image_after (geometry_of s) (limited k p).events jm) in
      (same_check k s im c ∙ A.0 ∙ sym (same_check k s jm c), subst p (no_say s im jm A c) (same_image s im jm A c k));
  no_say_buffer = λ k s im jm A c buf.
      same_buffer s im jm A c k buf ∙ ap (λ (p : Plan Answer). buffer_after (geometry_of s) (limited k p).events jm buf) (no_say s im jm A c);
}
