-- The current page is start-marked or closed: the invariant and the list stay. Assumes nothing.
use mathlib.Core.List.{List, [], ◌++◌, append-nil}
use mathlib.Core.Path.{◌≡◌, refl, sym, ap, ◌∙◌, subst}
use Prim.Native.Nat.{ℕ, suc, ◌+◌, ◌<◌}
use native.Mathlib.Omega.{arith}
use Rattle.paper.specs.declared.Geometry.{Geometry}
use Rattle.paper.specs.declared.PageState.{PageState}
use Rattle.paper.specs.declared.PageState.TheVariants.{Open, PartialOpen, Closed}
use Rattle.paper.specs.Chip.{page_data, image_by}
use Rattle.paper.specs.Scan.{page_walk}
use Rattle.paper.specs.Pages.{is_set, state, start_mark, end_mark, set_start, set_end}
use Rattle.paper.specs.Waiting.{waiting}
use Rattle.laws.proofs.Marks.{zeros_set, open_end, partial_start}
use Rattle.laws.proofs.Ring.{turn}
use Rattle.laws.proofs.Sides.{Side, below, above, side}
use Rattle.demand3.proofs.Views.{View, state_in}
use Rattle.demand3.proofs.RingShape.{partly, open_after, RingShape, keep_shape}
use Rattle.demand3.proofs.Listed.{run, run_append}
use Rattle.demand3.proofs.Changed.{Changed, zero_mark, still_good, state_other, state_this, walks_same, start_changed, end_changed}
use Rattle.demand3.proofs.Invariant.{PageOk, Inv, current_in, turn_in, not_current, open_empty, listed, runs_same, pages_still_ok}

module _ {g : Geometry} {im : List ℕ} {o b : ℕ} (I : Inv g im o b) where
  abbrev c : ℕ
  c = turn g o b

  abbrev S : RingShape g im o b
  S = I.shape

  -- a change of the current page's marks, by which it is not Open
  marked_ok : {s : PageState} (v : View) → v.inner ≡ page_data g im (turn g o b) → state_in v ≡ s → (s ≡ Open → ⊥) → PageOk g (turn g o b) v
  marked_ok v e q n =
      let K = I.pages_ok c (current_in I) in
      let K₁ : PageOk g c (record { first = v.first; inner = page_data g im c; last = v.last }) =
      record { clean = K.clean; quiet = K.quiet; untouched = λ z. absurd (n (sym q ∙ z)); bytes = K.bytes } in
      subst (λ (x : List ℕ). PageOk g c (record { first = v.first; inner = x; last = v.last })) (sym e) K₁

  -- ---- the current page is start-marked

  module _ (e : state g im (turn g o b) ≡ Open) where
    abbrev marked : List ℕ
    marked = image_by g (set_start g (turn g o b)) im

    abbrev v : View
    v = record { first = zero_mark g; inner = page_data g im (turn g o b); last = end_mark g im (turn g o b) }

    C : Changed g im (image_by g (set_start g (turn g o b)) im) (turn g o b) v
    C = start_changed im I.good c (current_in I)

    is_partial : state_in v ≡ PartialOpen
    unfolding state
    is_partial = rw (zeros_set g.word I.good.sized.low, open_end (is_set (start_mark g im c)) (is_set (end_mark g im c)) e)

    pub mark_walks : (q : ℕ) → q < g.pages → page_walk g (image_by g (set_start g (turn g o b)) im) q ≡ page_walk g im q
    mark_walks = walks_same C refl

    pub mark_state : state g (image_by g (set_start g (turn g o b)) im) (turn g o b) ≡ PartialOpen
    mark_state = state_this C ∙ is_partial

    pub mark_inv : Inv g (image_by g (set_start g (turn g o b)) im) o b
    mark_inv = record {
      good = still_good C I.good;
      shape = keep_shape g im marked o b S (λ i h ne. state_other C (turn g o i) (turn_in I i (omega arith)) (not_current I i h ne)) (partly mark_state);
      pages_ok = pages_still_ok I C (marked_ok v refl is_partial (λ q. let z : ◌≡◌ {A = ℕ} 0 1 = cc in omega arith));
    }

    pub mark_list : waiting g (image_by g (set_start g (turn g o b)) im) ≡ waiting g im
    mark_list =
        let r = S.run_in in
        listed mark_inv ∙ runs_same I marked 0 (suc b) (omega arith) (λ j l k. mark_walks (turn g o j) (turn_in I j (omega arith))) ∙ sym (listed I)

  -- ---- the current page is closed, and the next one is Open

  module _ (e : state g im (turn g o b) ≡ PartialOpen) (more : suc b < g.pages) where
    abbrev ended : List ℕ
    ended = image_by g (set_end g (turn g o b)) im

    abbrev u : View
    u = record { first = start_mark g im (turn g o b); inner = page_data g im (turn g o b); last = zero_mark g }

    D : Changed g im (image_by g (set_end g (turn g o b)) im) (turn g o b) u
    D = end_changed im I.good c (current_in I)

    is_closed_lem : state_in u ≡ Closed
    unfolding state
    is_closed_lem = rw (zeros_set g.word I.good.sized.low, partial_start (is_set (start_mark g im c)) (is_set (end_mark g im c)) e)

    same_state : (i : ℕ) → i < g.pages → (i ≡ b → ⊥) → state g (image_by g (set_end g (turn g o b)) im) (turn g o i) ≡ state g im (turn g o i)
    same_state i h ne = state_other D (turn g o i) (turn_in I i (omega arith)) (not_current I i h ne)

    still_open : (i : ℕ) → b < i → i < g.pages → state g (image_by g (set_end g (turn g o b)) im) (turn g o i) ≡ Open
    still_open i h k = same_state i k (λ q. let z : ⊥ = omega arith in z) ∙ S.opens i h k

    pub close_open : state g (image_by g (set_end g (turn g o b)) im) (turn g o (suc b)) ≡ Open
    close_open = still_open (suc b) (omega arith) more

    now_closed : (i : ℕ) → i < suc b → Side i b → state g (image_by g (set_end g (turn g o b)) im) (turn g o i) ≡ Closed
    now_closed i h (below l) = same_state i (omega (arith, S.run_in)) (λ q. let z : ⊥ = omega arith in z) ∙ S.closed i l
    now_closed i h (above l) =
        let z : b ≡ i = omega arith in
        subst (λ (x : ℕ). state g ended (turn g o x) ≡ Closed) z (state_this D ∙ is_closed_lem)

    pub close_inv : Inv g (image_by g (set_end g (turn g o b)) im) o (suc b)
    close_inv = record {
      good = still_good D I.good;
      shape = record {
        old_in = S.old_in;
        run_in = more;
        closed = λ i h. now_closed i h (side i b);
        now = open_after close_open (omega arith);
        opens = λ i h k. still_open i (omega arith) k;
      };
      pages_ok = pages_still_ok I D (marked_ok u refl is_closed_lem (λ q. let z : ◌≡◌ {A = ℕ} 0 1 = cc in omega arith));
    }

    pub close_list : waiting g (image_by g (set_end g (turn g o b)) im) ≡ waiting g im
    unfolding run
    close_list =
        let z : suc (suc b) ≡ suc b + 1 = omega arith in
        let w : 0 + suc b ≡ suc b = omega arith in
        let r : List (List ℕ) = run g im o 0 (suc b) in
        listed close_inv ∙ runs_same I ended 0 (suc (suc b)) (omega arith) (λ j l k. walks_same D refl (turn g o j) (turn_in I j (omega arith)))
        ∙ ap (run g im o 0) z ∙ run_append g im o 0 (suc b) 1 ∙ ap (λ (x : ℕ). r ++ run g im o x 1) w
        ∙ ap (λ (x : List (List ℕ)). r ++ (x ++ [])) (open_empty I (turn g o (suc b)) (turn_in I (suc b) (omega arith)) (S.opens (suc b) (omega arith) more))
        ∙ append-nil r ∙ sym (listed I)
