-- A slip that is shown stands at the buffer's front: the last copy is of its payload. Assumes nothing.
use mathlib.Core.Path.{◌≡◌, refl, ap, ◌∙◌, subst}
use mathlib.Core.Bool.{Bool, true, false, cond, not, ◌||◌}
use mathlib.Core.List.{List, [], ◌∷◌, ◌++◌}
use Prim.Native.Nat.{ℕ, zero, suc, ◌+◌, ◌*◌, ◌≤◌}
use native.Mathlib.Omega.{arith}
use lib.Dec.{eqb, ltb}
use lib.ListN.{length, take, drop}
use lib.Seq.{take-take, take-append-le}
use Rattle.paper.specs.declared.Geometry.{Geometry}
use Rattle.paper.specs.declared.PageState.TheVariants.{Open, Corrupted}
use Rattle.paper.specs.Chip.{round_up, header_size, data_start, page_of, part, Event, copy, put, erase_page, image_by, image_after, buffer_by, buffer_after, Plan, plan, bind, and_then, Try, fails, gives}
use Rattle.paper.specs.Slip.{encode}
use Rattle.paper.specs.Scan.{Head, walk_on, live, present}
use Rattle.paper.specs.Pages.{state, same, next, repair}
use Rattle.paper.specs.Steps.{retry, with_repair}
use Rattle.paper.specs.Search.{Met, passed, long, met, item_end, read_heads, Stand, from_address, after_page, nothing, this, Ended, ends_at, on_met, read_page, leave_page, next_item, next_step, start_step, outcome_of, search_on, search, popped, peek, pop}
use Rattle.laws.proofs.Parts.{length_part}
use Rattle.demand1.specs.Range.{Each}
use Rattle.demand1.specs.Buffers.{CopiesAtMost}
use Rattle.demand1.proofs.Lists.{each_append, never}
use Rattle.demand1.proofs.Items.{Intact, walk_on_whole}
use Rattle.demand1.proofs.EachEvent.{writes_store}
use Rattle.demand1.proofs.Tails.{tail_stays}

-- ---- the last copy

-- events from the image im on: the last one that copies takes the payload of h, as it then stands
pub data Lasts (g : Geometry) (h : Head) : List ℕ → List Event → Type 0 where
  last : {im : List ℕ} {es : List Event} → Intact g im h → Each (CopiesAtMost 0) es
      → Lasts g h im (copy (h.place + header_size g) (round_up g.word h.len) ∷ es)
  later : {im : List ℕ} (e : Event) {es : List Event} → Lasts g h (image_by g e im) es → Lasts g h im (e ∷ es)

-- what comes before has no say, and what comes after copies nothing
lasts_behind : {g : Geometry} {h : Head} (fs es : List Event) (im : List ℕ) → Lasts g h (image_after g fs im) es → Lasts g h im (fs ++ es)
unfolding image_after
lasts_behind [] es im l = l
lasts_behind {g} (f ∷ fs) es im l = later f (lasts_behind fs es (image_by g f im) l)

lasts_before : {g : Geometry} {h : Head} {im : List ℕ} {es : List Event} (fs : List Event) → Each (CopiesAtMost 0) fs → Lasts g h im es
    → Lasts g h im (es ++ fs)
lasts_before fs c (last {es = es} w d) = last w (each_append (CopiesAtMost 0) es fs d c)
lasts_before fs c (later e l) = later e (lasts_before fs c l)

-- b is the buffer's size
pub lasts_front : {g : Geometry} {h : Head} {im : List ℕ} {es : List Event} (b : ℕ) → Lasts g h im es → Each (CopiesAtMost b) es
    → (buf : List ℕ) → b ≤ length buf
    → take h.len (buffer_after g es im buf) ≡ h.body
unfolding buffer_after buffer_by put
lasts_front {g} {h} {im} b (last {es = es} w d) c buf l =
    let a : ℕ = h.place + header_size g in
    let m : ℕ = round_up g.word h.len in
    let x : List ℕ = part a m im in
    let k : h.len ≤ length x = omega (arith, length_part a m im (omega (arith, w.inside)), w.rounds) in
    ap (take h.len) (tail_stays g (image_by g (copy a m) im) (buffer_by (copy a m) im buf) es 0 d (omega arith)).1
    ∙ take-append-le h.len x (drop (0 + length x) buf) k ∙ take-take h.len m (drop a im) w.rounds ∙ w.stands
lasts_front {g} {h} {im} b (later e {es} x) c buf l =
    lasts_front b x c.1 (buffer_by e im buf) (omega (arith, (tail_stays g im buf (e ∷ []) b (c.0, tt) l).0))

-- ---- reading

module _ (g : Geometry) (b : ℕ) where
  heads_last : (a : ℕ) (hs : List Head) (im : List ℕ) → Each (Intact g im) hs → (h : Head) → (read_heads g b a hs im).answer ≡ met h
      → Lasts g h im (read_heads g b a hs im).events
  unfolding read_heads bind image_after image_by
  heads_last a [] im w h e = never (cc)
  heads_last a (x ∷ hs) im w h e =
      by (not (live x)) (ltb b (round_up g.word x.len)) (present x) e (λ a. heads_last a hs im w.1 h)
    where
      read : List Event
      read = copy (x.place + header_size g) (round_up g.word x.len) ∷ []

      by : (s t u : Bool) → (cond s (read_heads g b a hs im)
          (cond t (plan [] (long a (round_up g.word x.len))) (cond u (plan read (met x)) (and_then g im read (read_heads g b (item_end g x) hs))))).answer
          ≡ met h
          → ((a : ℕ) → (read_heads g b a hs im).answer ≡ met h → Lasts g h im (read_heads g b a hs im).events)
          → Lasts g h im (cond s (read_heads g b a hs im)
          (cond t (plan [] (long a (round_up g.word x.len)))
          (cond u (plan read (met x)) (and_then g im read (read_heads g b (item_end g x) hs))))).events
      by true t u e f = f a e
      by false true u e f = never (cc)
      by false false true e f = let z : x ≡ h = cc in subst (λ (y : Head). Lasts g y im (plan {A = Met} read (met x)).events) z (last w.0 tt)
      by false false false e f = later (copy (x.place + header_size g) (round_up g.word x.len)) (f (item_end g x) e)

  -- ---- the search

  -- a plan whose answer is an item ends with its copy
  abbrev Ends : List ℕ → Plan (Try Stand Ended) → Type 0
  Ends im p = (h : Head) → outcome_of p.answer ≡ this h → Lasts g h im p.events

  read_ends : (a : ℕ) (further : List ℕ → Plan (Try Stand Ended)) → ((im : List ℕ) → Ends im (further im)) → (im : List ℕ)
      → Ends im (read_page g b a further im)
  unfolding read_page bind on_met
  read_ends a further f im h = by (read_heads g b a (walk_on g im a).heads im).answer refl
    where
      r : Plan Met
      r = read_heads g b a (walk_on g im a).heads im

      i : List ℕ
      i = image_after g (read_heads g b a (walk_on g im a).heads im).events im

      by : (m : Met) → (read_heads g b a (walk_on g im a).heads im).answer ≡ m → outcome_of (on_met g (page_of g a) further m i).answer ≡ this h
          → Lasts g h im ((read_heads g b a (walk_on g im a).heads im).events ++ (on_met g (page_of g a) further m i).events)
      by passed q e = lasts_behind r.events (further i).events im (f i h e)
      by (long s k) q e = never (cc)
      by (met x) q e = let z : x ≡ h = cc in lasts_before [] tt (heads_last a (walk_on g im a).heads im (walk_on_whole g im a) h (q ∙ ap met z))

  leave_ends : (old : ℕ) (clears : Bool) (p : ℕ) (further : List ℕ → Plan (Try Stand Ended)) → ((im : List ℕ) → Ends im (further im)) → (im : List ℕ)
      → Ends im (leave_page g old clears p further im)
  unfolding leave_page bind
  leave_ends old clears p further f im h = by (same (state g im (next g p)) Corrupted) (same (state g im (next g p)) Open || eqb (next g p) old)
    where
      es : List Event
      es = cond clears (erase_page g p) []

      by : (s t : Bool) → outcome_of (cond s (plan [] (fails (after_page p))) (cond t (ends_at (after_page p) nothing) (and_then g im es further))).answer
          ≡ this h
          → Lasts g h im (cond s (plan [] (fails (after_page p))) (cond t (ends_at (after_page p) nothing) (and_then g im es further))).events
      by true t e = never (cc)
      by false true e = never (cc)
      by false false e = lasts_behind es (further (image_after g es im)).events im (f (image_after g es im) h e)

  module _ (old : ℕ) (clears : Bool) where
    next_ends : (k : ℕ) (s : Stand) (im : List ℕ) → Ends im (next_item g b old clears k s im)
    unfolding next_item
    next_ends zero s im h e = never (cc)
    next_ends (suc k) (from_address a) im h e = let s : Stand = after_page (page_of g a) in read_ends a (next_item g b old clears k s) (next_ends k s) im h e
    next_ends (suc k) (after_page p) im h e =
        let s : Stand = from_address (data_start g (next g p)) in
        leave_ends old clears p (next_item g b old clears k s) (next_ends k s) im h e

    abbrev step : Stand → List ℕ → Plan (Try Stand Ended)
    step = next_step g b old clears

    steps_end : (s : Stand) (im : List ℕ) → Ends im (with_repair g step s im)
    unfolding with_repair retry bind next_step
    steps_end s im h = by (step s im).answer refl
      where
        es : List Event
        es = (step s im).events

        i : List ℕ
        i = image_after g (step s im).events im

        by : (t : Try Stand Ended) → (step s im).answer ≡ t → outcome_of (retry g step t i).answer ≡ this h
            → Lasts g h im ((step s im).events ++ (retry g step t i).events)
        by (gives o) q e = lasts_before [] tt (next_ends (2 * g.pages) s im h (ap outcome_of q ∙ e))
        by (fails v) q e = lasts_behind es _ im (lasts_behind (repair g i) _ i (next_ends (2 * g.pages) v (image_after g (repair g i) i) h e))

  search_last : (im : List ℕ) (h : Head) → (search g im b).answer ≡ this h → Lasts g h im (search g im b).events
  unfolding search bind search_on
  search_last im h = by (with_repair g (start_step g) tt im).answer
    where
      es : List Event
      es = (with_repair g (start_step g) tt im).events

      i : List ℕ
      i = image_after g (with_repair g (start_step g) tt im).events im

      by : (t : Try Unit ℕ) → (search_on g b t i).answer ≡ this h → Lasts g h im ((with_repair g (start_step g) tt im).events ++ (search_on g b t i).events)
      by (fails u) e = never (cc)
      by (gives old) e = lasts_behind es _ im (lasts_before [] tt (steps_end old true (from_address (data_start g old)) i h e))

  -- ---- the call

  pub peek_last : (im : List ℕ) (h : Head) → (search g im b).answer ≡ this h → Lasts g h im (peek g im b).events
  unfolding peek bind
  peek_last im h e = lasts_before [] tt (search_last im h e)

  pub pop_last : (im : List ℕ) (h : Head) → (search g im b).answer ≡ this h → Lasts g h im (pop g im b).events
  unfolding pop bind
  pop_last im h e = rw e (lasts_before (popped g (this h)) (writes_store g (CopiesAtMost 0) (λ a word. tt) h.place (encode g 0 h.len))
      (search_last im h e))
