-- The oldest page, or the sole one, is erased: the invariant stays, and the list loses what is present there, if anything. Assumes nothing.
use mathlib.Core.List.{List, [], ◌++◌}
use mathlib.Core.Path.{◌≡◌, refl, sym, ap, ◌∙◌, subst}
use Prim.Native.Nat.{ℕ, suc, ◌-◌, ◌<◌}
use native.Mathlib.Omega.{arith}
use Rattle.paper.specs.declared.Geometry.{Geometry}
use Rattle.paper.specs.declared.PageState.TheVariants.{Open}
use Rattle.paper.specs.Chip.{erase, image_by}
use Rattle.paper.specs.Pages.{state}
use Rattle.paper.specs.Waiting.{waiting}
use Rattle.laws.proofs.Marks.{ones_unset}
use Rattle.laws.proofs.Ring.{turn, turn_suc, turn_apart, turn_zero, turn_full}
use Rattle.laws.proofs.Sides.{Side, below, above, side}
use Rattle.demand3.proofs.Views.{erased_view}
use Rattle.demand3.proofs.RingShape.{Now, partly, open_after, open_all, RingShape}
use Rattle.demand3.proofs.Listed.{present_in, run_suc, run}
use Rattle.demand3.proofs.Changed.{Changed, still_good, state_other, walk_other, state_this, erase_changed}
use Rattle.demand3.proofs.Invariant.{Inv, turn_in, erased_ok, open_empty, listed, runs_same, pages_still_ok}

module _ {g : Geometry} {im : List ℕ} {o b : ℕ} (I : Inv g im o b) where
  abbrev S : RingShape g im o b
  S = I.shape

  abbrev gone : List ℕ
  gone = image_by g (erase o) im

  C : Changed g im (image_by g (erase o) im) o (erased_view g)
  C = erase_changed im I.good o S.old_in

  now_open : state g (image_by g (erase o) im) o ≡ Open
  now_open = state_this C ∙ rw (ones_unset g.word)

  -- what is present in the oldest page, and what follows
  pub list_parted : waiting g im ≡ present_in g im o ++ run g im o 1 b
  unfolding run
  list_parted = listed I ∙ ap (λ (p : ℕ). present_in g im p ++ run g im o 1 b) (turn_zero g o S.old_in)

  -- where nothing is present there
  unparted : present_in g im o ≡ [] → run g im o 1 b ≡ waiting g im
  unparted none = sym (list_parted ∙ ap (λ (x : List (List ℕ)). x ++ run g im o 1 b) none)

  -- ---- there are Closed pages, and the next page is not Open

  module _ (hb : 0 < b) (ne : state g im (turn g o 1) ≡ Open → ⊥) where
    same_state : (i : ℕ) → 0 < i → i < g.pages → state g (image_by g (erase o) im) (turn g o i) ≡ state g im (turn g o i)
    same_state i h k = state_other C (turn g o i) (turn_in I i (omega arith)) (turn_apart g o i S.old_in h k)

    one_closer : Side 1 b → Now (state g im (turn g o b)) o b → Now (state g im (turn g o b)) (turn g o 1) (b - 1)
    one_closer s (partly e) = partly e
    one_closer (below l) (open_after e h) = open_after e (omega arith)
    one_closer (above l) (open_after e h) = let z : b ≡ 1 = omega arith in absurd (ne (subst (λ (x : ℕ). state g im (turn g o x) ≡ Open) z e))
    one_closer s (open_all e h k) = let z : ⊥ = omega arith in absurd z

    opens : (i : ℕ) → b - 1 < i → i < g.pages → Side (suc i) g.pages → state g (image_by g (erase o) im) (turn g o (suc i)) ≡ Open
    opens i h k (below l) = same_state (suc i) (omega arith) l ∙ S.opens (suc i) (omega arith) l
    opens i h k (above l) = let z : suc i ≡ g.pages = omega arith in rw (z, turn_full g o S.old_in) now_open

    pub erase_inv : Inv g (image_by g (erase o) im) (turn g o 1) (b - 1)
    erase_inv =
        let r = S.run_in in
        let z : suc (b - 1) ≡ b = omega arith in
        record {
          good = still_good C I.good;
          shape = record {
            old_in = turn_in I 1 (omega arith);
            run_in = omega arith;
            closed = λ i h. rw (turn_suc g o i S.old_in (omega arith)) (same_state (suc i) (omega arith) (omega arith) ∙ S.closed (suc i) (omega arith));
            now = rw (turn_suc g o (b - 1) S.old_in (omega arith), z, same_state b hb r) (one_closer (side 1 b) S.now);
            opens = λ i h k. rw (turn_suc g o i S.old_in (omega arith)) (opens i h k (side (suc i) g.pages));
          };
          pages_ok = pages_still_ok I C (erased_ok g I.good.sized.low o);
        }

    pub erase_drops : waiting g (image_by g (erase o) im) ≡ run g im o 1 b
    erase_drops =
        let r = S.run_in in
        let z : suc (b - 1) ≡ b = omega arith in
        listed erase_inv ∙ ap (run g gone (turn g o 1) 0) z ∙ run_suc g gone o 0 b S.old_in (omega arith)
        ∙ runs_same I gone 1 b (omega arith)
        (λ j l k. walk_other C (turn g o j) (turn_in I j (omega arith)) (turn_apart g o j S.old_in (omega arith) (omega arith)))

    -- nothing is present there: the list stays
    pub erase_list : present_in g im o ≡ [] → waiting g (image_by g (erase o) im) ≡ waiting g im
    erase_list none = erase_drops ∙ unparted none

  -- ---- there is one page

  module _ (sole : g.pages ≡ 1) where
    here : turn g o 0 ≡ o
    here = turn_zero g o S.old_in

    pub sole_open : state g (image_by g (erase o) im) (turn g o 0) ≡ Open
    sole_open = rw here now_open

    pub sole_inv : Inv g (image_by g (erase o) im) o 0
    sole_inv =
        let h = S.old_in in
        record {
          good = still_good C I.good;
          shape = record {
            old_in = h;
            run_in = omega arith;
            closed = λ i k. let z : ⊥ = omega arith in absurd z;
            now = open_all sole_open (omega arith) refl;
            opens = λ i k l. let z : ⊥ = omega arith in absurd z;
          };
          pages_ok = pages_still_ok I C (erased_ok g I.good.sized.low o);
        }

    pub sole_drops : waiting g (image_by g (erase o) im) ≡ run g im o 1 b
    unfolding run
    sole_drops =
        let z : 0 ≡ b = omega (arith, S.run_in) in
        listed sole_inv ∙ ap (λ (x : List (List ℕ)). x ++ []) (open_empty sole_inv (turn g o 0) (turn_in I 0 (omega arith)) sole_open)
        ∙ ap (run g im o 1) z

    pub sole_list : present_in g im o ≡ [] → waiting g (image_by g (erase o) im) ≡ waiting g im
    sole_list none = sole_drops ∙ unparted none
