-- Peek and pop find the first present item, if there is one, and leave the list alone. Assumes nothing.
use mathlib.Core.Bool.{true, false}
use mathlib.Core.List.{List, [], ◌∷◌, ◌++◌}
use mathlib.Core.Path.{◌≡◌, refl, sym, ap, ap₂, ◌∙◌}
use Prim.Native.Nat.{ℕ, zero, suc, ◌+◌, ◌*◌, ◌≤◌, ◌<◌}
use native.Mathlib.Omega.{arith}
use lib.ListN.{length, take, drop, length-take}
use Rattle.paper.specs.declared.Geometry.{Geometry}
use Rattle.paper.specs.declared.PageState.TheVariants.{Open}
use Rattle.paper.specs.Chip.{round_up, header_size, data_start, part, Event, erase, image_by, image_after, buffer_after, Plan, plan, bind, Try, gives}
use Rattle.paper.specs.Scan.{Head, Walk, page_walk, payloads, present}
use Rattle.paper.specs.Pages.{next, state}
use Rattle.paper.specs.Search.{passed, long, met, item_end, read_heads, Stand, from_address, after_page, stand_at, Outcome, nothing, short, this, Ended, on_met, leave_page, next_item, next_step, start_step, outcome_of, search_on, search}
use Rattle.paper.specs.Waiting.{waiting}
use Rattle.paper.specs.Ways.{Each}
use Rattle.laws.proofs.Events.{image_append, buffer_append, IsCopy, copies_image}
use Rattle.demand1.proofs.Lists.{each_append}
use Rattle.laws.proofs.Ring.{turn, turn_zero, turn_suc, turn_apart, next_is}
use Rattle.laws.proofs.Rounding.{round_up_ge}
use Rattle.laws.proofs.Standing.{read_start}
use Rattle.demand3.proofs.Events.{Avoids, avoid_append}
use Rattle.demand3.proofs.Plans.{bind_known, bind_last, bind_first, no_repair}
use Rattle.demand3.proofs.RingShape.{RingShape, oldest_is}
use Rattle.demand3.proofs.Listed.{present_in, run}
use Rattle.demand3.proofs.Changed.{walk_other, erase_changed, erased_walk}
use Rattle.demand3.proofs.Invariant.{Inv, listed}
use Rattle.demand3.proofs.Erasing.{erase_inv, erase_list}
use Rattle.demand3.proofs.Steady.{HoldsList, Steady, rests, goes, erased, steady_append}
use Rattle.demand3.proofs.Copies.{copies_steady, copies_avoid, image_on, buffer_on, last_copy, reads, HeadsRead, all_passed, too_small, got_it, heads_read}
use Rattle.demand3.proofs.NextPage.{ends_before, Roomy, Ahead, stops, leads, Behind, ahead, leave_stop, leave_on}
use Rattle.demand3.proofs.Popping.{FirstPresent, first_in, not_empty, body_at, body_length}

-- the events es have come from the image jm to the first present item h, and shown it
pub record FoundFirst (g : Geometry) (jm : List ℕ) (es : List Event) (h : Head) : Type 0 where
  pub first : FirstPresent g (image_after g es jm) h
  pub shown : (buf : List ℕ) → take h.len (buffer_after g es jm buf) ≡ h.body
  pub unerased : Avoids first.old es
  pub as_it_was : page_walk g (image_after g es jm) first.old ≡ page_walk g jm first.old

-- a search of the image jm that met nothing has left no Closed page before the current one, or that is Open; a sole page is as it was
pub record Rested (g : Geometry) (jm im : List ℕ) : Type 0 where
  pub old : ℕ
  pub runs : ℕ
  pub inv : Inv g im old runs
  pub roomy : Roomy g im old runs
  pub sole : g.pages ≡ 1 → im ≡ jm

-- what a search of the list q with a buffer of n bytes comes to
pub data Result (g : Geometry) (q : List (List ℕ)) (jm : List ℕ) (n : ℕ) (es : List Event) (out : Outcome) : Type 0 where
  is_nothing : out ≡ nothing → q ≡ [] → Rested g jm (image_after g es jm) → Result g q jm n es out
  is_short : (k : ℕ) → out ≡ short k → Result g q jm n es out
  is_this : (h : Head) → out ≡ this h → FoundFirst g jm es h → Result g q jm n es out

-- the search from page p's first item on
abbrev from_page : Geometry → ℕ → ℕ → ℕ → ℕ → List ℕ → Plan (Try Stand Ended)
from_page g n old k p = next_item g n old true k (from_address (data_start g p))

record Finds (g : Geometry) (q : List (List ℕ)) (jm : List ℕ) (n : ℕ) (p : Plan (Try Stand Ended)) : Type 0 where
  events : List Event
  out : Ended
  is : p ≡ plan events (gives out)
  steady : Steady g q jm events
  result : Result g q jm n events out.outcome

-- ---- page o is read, by copies alone

module _ {g : Geometry} {jm : List ℕ} {o b : ℕ} (I : Inv g jm o b) {old : ℕ} (F : Behind g old o b) where
  abbrev S : RingShape g jm o b
  S = I.shape

  module _ (n : ℕ) (q : List (List ℕ)) (l : waiting g jm ≡ q) (es : List Event) (c : Each IsCopy es) where
    abbrev onward : ℕ → List ℕ → Plan (Try Stand Ended)
    onward k = from_page g n old k (next g o)

    read_here : (k : ℕ)
        → from_page g n old (suc k) o jm
        ≡ bind g jm (read_heads g n (data_start g o) (page_walk g jm o).heads jm) (on_met g o (next_item g n old true k (after_page o)))
    read_here k = read_start g (omega (arith, I.good)) n old true k o jm

    K : HoldsList g q jm
    K = record { old = o; runs = b; inv = I; list = l }

    same_image : image_after g es jm ≡ jm
    same_image = copies_image g es jm c

    -- all its heads were passed
    module _ (k : ℕ) (e : read_heads g n (data_start g o) (page_walk g jm o).heads jm ≡ plan es passed) (none_here : present_in g jm o ≡ []) where
      passed_on : {fs : List Event} {a : Try Stand Ended} → leave_page g old true o (onward k) jm ≡ plan fs a
          → from_page g n old (suc (suc k)) o jm ≡ plan (es ++ fs) a
      unfolding next_item on_met
      passed_on f = read_here (suc k) ∙ bind_known g jm (on_met g o (next_item g n old true (suc k) (after_page o))) e
          ∙ ap (λ (x : List ℕ). plan (es ++ (leave_page g old true o (onward k) x).events) (leave_page g old true o (onward k) x).answer) same_image
          ∙ ap (λ (p : Plan (Try Stand Ended)). plan (es ++ p.events) p.answer) f

      -- the next page ends the search
      stop_here : ends_before g jm (turn g o 1) old ≡ true → run g jm o 1 b ≡ [] → Roomy g jm o b → Finds g q jm n (from_page g n old (suc (suc k)) o jm)
      unfolding run image_after
      stop_here s r t = record {
        events = es ++ [];
        out = record { stand = after_page o; outcome = nothing };
        is = passed_on (leave_stop I F (onward k) s);
        steady = steady_append (copies_steady es K c) (rw same_image (rests K));
        result = is_nothing refl (sym l ∙ listed I
            ∙ ap₂ (λ (x y : List (List ℕ)). x ++ y) (ap (present_in g jm) (turn_zero g o S.old_in) ∙ none_here) r)
            (rw (image_append g es [] jm ∙ same_image) (record { old = o; runs = b; inv = I; roomy = t; sole = λ one. refl }));
      }

      -- page o is erased, and the search goes on
      go_on : ends_before g jm (turn g o 1) old ≡ false → 0 < b
          → Finds g q (image_by g (erase o) jm) n (from_page g n old k (turn g o 1) (image_by g (erase o) jm))
          → Finds g q jm n (from_page g n old (suc (suc k)) o jm)
      go_on s z R = record {
        events = es ++ (erase o ∷ R.events);
        out = R.out;
        is = passed_on (leave_on I F (onward k) s ∙ ap (λ (x : ℕ). then (from_page g n old k x km)) (next_is g o S.old_in) ∙ ap then R.is);
        steady = steady_append (copies_steady es K c) (rw same_image (goes K (erased o S.old_in) R.steady));
        result = by R.result;
      }
        where
          km : List ℕ
          km = image_by g (erase o) jm

          then : Plan (Try Stand Ended) → Plan (Try Stand Ended)
          then p = plan (erase o ∷ p.events) p.answer

          is_image : image_after g (es ++ (erase o ∷ R.events)) jm ≡ image_after g R.events km
          is_image = image_on g es o R.events jm same_image

          -- what was found is in another page
          found : (h : Head) → FoundFirst g km R.events h → FoundFirst g jm (es ++ (erase o ∷ R.events)) h
          found h x =
              let p : ℕ = x.first.old in
              let ne : p ≡ o → ⊥ =
              λ z. not_empty x.first (ap (λ (w : Walk). w.heads) (x.as_it_was ∙ ap (page_walk g km) z ∙ erased_walk jm I.good o S.old_in)) in
              record {
                first = rw is_image x.first;
                shown = λ buf. ap (take h.len) (buffer_on g es o R.events jm buf same_image) ∙ x.shown (buffer_after g es jm buf);
                unerased = avoid_append p es (erase o ∷ R.events) (copies_avoid p es c) ((λ y. ne (sym y)), x.unerased);
                as_it_was = rw is_image (x.as_it_was ∙ walk_other (erase_changed jm I.good o S.old_in) p (first_in x.first) ne);
              }

          by : Result g q km n R.events R.out.outcome → Result g q jm n (es ++ (erase o ∷ R.events)) R.out.outcome
          by (is_nothing a x t) = is_nothing a x (record {
            old = t.old;
            runs = t.runs;
            inv = rw is_image t.inv;
            roomy = rw is_image t.roomy;
            sole = λ one. let w : ⊥ = omega (arith, S.run_in) in absurd w;
          })
          by (is_short m a) = is_short m a
          by (is_this h a x) = is_this h a (found h x)

    -- a live header is too long for the buffer
    read_short : (k a m : ℕ) → read_heads g n (data_start g o) (page_walk g jm o).heads jm ≡ plan es (long a m)
        → Finds g q jm n (from_page g n old (suc k) o jm)
    unfolding on_met
    read_short k a m e = record {
      events = es;
      out = record { stand = from_address a; outcome = short m };
      is = read_here k ∙ bind_last g jm (on_met g o (next_item g n old true k (after_page o))) e refl;
      steady = copies_steady es K c;
      result = is_short m refl;
    }

    -- the first present item is in page o
    found_here : (k : ℕ) (h : Head) → read_heads g n (data_start g o) (page_walk g jm o).heads jm ≡ plan (es ++ reads g h) (met h)
        → (pre post : List Head) → (page_walk g jm o).heads ≡ pre ++ (h ∷ post) → payloads pre ≡ [] → present h ≡ true
        → Finds g q jm n (from_page g n old (suc k) o jm)
    unfolding on_met
    found_here k h e pre post hs ip ph = record {
      events = es ++ reads g h;
      out = record { stand = stand_at g o (item_end g h); outcome = this h };
      is = read_here k ∙ bind_last g jm (on_met g o (next_item g n old true k (after_page o))) e refl;
      steady = copies_steady (es ++ reads g h) K d;
      result = is_this h refl (record { first = rw ia first; shown = shown; unerased = copies_avoid o (es ++ reads g h) d; as_it_was = rw ia });
    }
      where
        a : ℕ
        a = h.place + header_size g

        u : ℕ
        u = round_up g.word h.len

        d : Each IsCopy (es ++ reads g h)
        d = each_append IsCopy es (reads g h) c (tt, tt)

        ia : image_after g (es ++ reads g h) jm ≡ jm
        ia = copies_image g (es ++ reads g h) jm d

        first : FirstPresent g jm h
        first = record { old = o; runs = b; inv = I; pre = pre; post = post; heads_are = hs; none_before = ip; is_present = ph }

        fits : h.len ≤ u
        fits = round_up_ge g.word h.len I.good.sized.low

        room : h.len ≤ length (part a u jm)
        room = omega (arith, length-take u (drop a jm), length-take h.len (drop a jm), ap length (body_at first), body_length first, fits)

        shown : (buf : List ℕ) → take h.len (buffer_after g (es ++ reads g h) jm buf) ≡ h.body
        shown buf =
            let b₁ : List ℕ = buffer_after g es jm buf in
            ap (take h.len) (buffer_append g es (reads g h) jm buf ∙ ap (λ (x : List ℕ). buffer_after g (reads g h) x b₁) same_image)
            ∙ last_copy g a u h.len jm b₁ fits room ∙ body_at first

-- two turns for each page are enough
finds : {g : Geometry} (n old : ℕ) {q : List (List ℕ)} (k : ℕ) {jm : List ℕ} {o b : ℕ} → Inv g jm o b → waiting g jm ≡ q → 2 * b + 1 < k
    → Behind g old o b
    → Finds g q jm n (from_page g n old k o jm)
finds n old zero I l h F = let z : ⊥ = omega arith in absurd z
finds n old (suc zero) I l h F = let z : ⊥ = omega arith in absurd z
finds {g} n old {q} (suc (suc k)) {jm} {o} {b} I l h F = by (heads_read g n (data_start g o) (page_walk g jm o).heads jm) (ahead I F)
    (λ z ne e. finds n old k (erase_inv I z ne) (erase_list I z ne e ∙ l) (omega arith) (record {
      apart = λ i h₁ h₂ x. F.apart (suc i) (omega arith) (omega arith) (sym (turn_suc g o i I.shape.old_in (omega (arith, I.shape.run_in))) ∙ x);
      sole = λ one. let w : ⊥ = omega (arith, I.shape.run_in) in absurd w;
    }))
  where
    by : HeadsRead g n (page_walk g jm o).heads (read_heads g n (data_start g o) (page_walk g jm o).heads jm) → Ahead g jm o b old
        → (0 < b → (state g jm (turn g o 1) ≡ Open → ⊥) → present_in g jm o ≡ []
        → Finds g q (image_by g (erase o) jm) n (from_page g n old k (turn g o 1) (image_by g (erase o) jm)))
        → Finds g q jm n (from_page g n old (suc (suc k)) o jm)
    by (too_small a m es e c) A rec = read_short I F n q l es c (suc k) a m e
    by (got_it h₁ es e c pre post hs ip ph) A rec = found_here I F n q l es c (suc k) h₁ e pre post hs ip ph
    by (all_passed es e c p) (stops s r t) rec = stop_here I F n q l es c k e p s r t
    by (all_passed es e c p) (leads s z ne) rec = go_on I F n q l es c k e p s z (rec z ne p)

-- what the search of an image comes to
pub record Searched (g : Geometry) (im : List ℕ) (n : ℕ) : Type 0 where
  pub events : List Event
  pub out : Outcome
  pub is : search g im n ≡ plan events out
  pub steady : Steady g (waiting g im) im events
  pub result : Result g (waiting g im) im n events out

pub searched : {g : Geometry} {im : List ℕ} {o b : ℕ} → Inv g im o b → (n : ℕ) → Searched g im n
unfolding search search_on start_step next_step
searched {g} {im} {o} {b} I n =
    let S = I.shape in
    let F : Behind g o o b = record { apart = λ i h k. turn_apart g o i S.old_in h (omega (arith, S.run_in)); sole = λ one. refl } in
    let R = finds n o (2 * g.pages) I refl (omega (arith, S.run_in)) F in
    record {
      events = R.events;
      out = R.out.outcome;
      is = bind_first g im (search_on g n) (no_repair g im (start_step g) tt (ap (λ (t : Try Unit ℕ). plan [] t) (oldest_is g im o b S)))
          ∙ bind_last g im (λ t im₁. plan [] (outcome_of t)) (no_repair g im (next_step g n o true) (from_address (data_start g o)) R.is) refl;
      steady = R.steady;
      result = R.result;
    }
