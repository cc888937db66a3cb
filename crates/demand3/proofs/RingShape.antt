-- The shape of the ring in every image of a history, and what its youngest and oldest page then are. Assumes nothing.
use mathlib.Core.List.{List}
use mathlib.Core.Path.{◌≡◌, sym, ap, ap₂, ◌∙◌, subst}
use Prim.Native.Nat.{ℕ, ◌+◌, ◌-◌, ◌≤◌, ◌<◌}
use native.Mathlib.Omega.{arith}
use Rattle.paper.specs.declared.Geometry.{Geometry}
use Rattle.paper.specs.declared.PageState.{PageState}
use Rattle.paper.specs.declared.PageState.TheVariants.{Open, PartialOpen, Closed, Corrupted}
use Rattle.paper.specs.Chip.{gives}
use Rattle.paper.specs.Pages.{from, all_pages, state, found, found_or, open_from, first, youngest, oldest}
use Rattle.laws.proofs.Ring.{turn, turn_lt, turn_zero, turn_full, place_of}
use Rattle.laws.proofs.Sides.{Side, below, above, side}
use Rattle.demand3.proofs.FirstFound.{First, nowhere, somewhere, from_first, from_hit}

-- the current page: PartialOpen, or Open after some Closed page, or page 0 of a range with none but Open pages
pub data Now (s : PageState) (o b : ℕ) : Type 0 where
  partly : s ≡ PartialOpen → Now s o b
  open_after : s ≡ Open → 0 < b → Now s o b
  open_all : s ≡ Open → o ≡ 0 → b ≡ 0 → Now s o b

-- b Closed pages from o on, then the current page, then Open pages
pub record RingShape (g : Geometry) (im : List ℕ) (o b : ℕ) : Type 0 where
  pub old_in : o < g.pages
  pub run_in : b < g.pages
  pub closed : (i : ℕ) → i < b → state g im (turn g o i) ≡ Closed
  pub now : Now (state g im (turn g o b)) o b
  pub opens : (i : ℕ) → b < i → i < g.pages → state g im (turn g o i) ≡ Open

-- where no state but the current page's is another
pub keep_shape : (g : Geometry) (im jm : List ℕ) (o b : ℕ) → RingShape g im o b
    → ((i : ℕ) → i < g.pages → (i ≡ b → ⊥) → state g jm (turn g o i) ≡ state g im (turn g o i)) → Now (state g jm (turn g o b)) o b
    → RingShape g jm o b
keep_shape g im jm o b S f now = record {
  old_in = S.old_in;
  run_in = S.run_in;
  closed = λ i h. f i (omega (arith, S.run_in)) (λ q. let z : ⊥ = omega arith in z) ∙ S.closed i h;
  now = now;
  opens = λ i h k. f i k (λ q. let z : ⊥ = omega arith in z) ∙ S.opens i h k;
}

module _ (g : Geometry) (im : List ℕ) (o b : ℕ) (S : RingShape g im o b) where
  pub cur_in : turn g o b < g.pages
  cur_in = turn_lt g o b S.old_in (omega (arith, S.run_in))

  -- what a page is
  data Kind (p : ℕ) : Type 0 where
    is_closed : (i : ℕ) → i < b → turn g o i ≡ p → state g im p ≡ Closed → Kind p
    is_open : (i : ℕ) → b < i → state g im p ≡ Open → Kind p
    is_current : turn g o b ≡ p → Now (state g im p) o b → Kind p

  kind : (p : ℕ) → p < g.pages → Kind p
  kind p h = by (place_of g o p S.old_in h)
    where
      on : (i : ℕ) → i < g.pages → turn g o i ≡ p → Side i b → Side b i → Kind p
      on i l e (below m) s = is_closed i m e (subst (λ (x : ℕ). state g im x ≡ Closed) e (S.closed i m))
      on i l e (above m) (below n) = is_open i n (subst (λ (x : ℕ). state g im x ≡ Open) e (S.opens i n l))
      on i l e (above m) (above n) =
          let z : b ≡ i = omega arith in
          let y : turn g o b ≡ p = ap (turn g o) z ∙ e in
          is_current y (subst (λ (x : ℕ). Now (state g im x) o b) y S.now)

      by : (i : ℕ) × (i < g.pages) × (turn g o i ≡ p) → Kind p
      by r = on r.0 r.1 r.2 (side r.0 b) (side b r.0)

  -- no page is Corrupted
  pub sound : (p : ℕ) → p < g.pages → state g im p ≡ Corrupted → ⊥
  sound p h e = by (kind p h)
    where
      by : Kind p → ⊥
      by (is_closed i l q s) = let z : ◌≡◌ {A = ℕ} 0 1 = cc in omega arith
      by (is_open i l s) = let z : ◌≡◌ {A = ℕ} 0 1 = cc in omega arith
      by (is_current q (partly s)) = let z : ◌≡◌ {A = ℕ} 0 1 = cc in omega arith
      by (is_current q (open_after s k)) = let z : ◌≡◌ {A = ℕ} 0 1 = cc in omega arith
      by (is_current q (open_all s k l)) = let z : ◌≡◌ {A = ℕ} 0 1 = cc in omega arith

  -- a Closed page is one of the run, and a PartialOpen one is the current page
  closed_in : (p : ℕ) → p < g.pages → state g im p ≡ Closed → (i : ℕ) × (i < b) × (turn g o i ≡ p)
  closed_in p h e = by (kind p h)
    where
      by : Kind p → (i : ℕ) × (i < b) × (turn g o i ≡ p)
      by (is_closed i l q s) = (i, l, q)
      by (is_open i l s) = let z : ◌≡◌ {A = ℕ} 0 1 = cc in absurd (omega arith)
      by (is_current q (partly s)) = let z : ◌≡◌ {A = ℕ} 0 1 = cc in absurd (omega arith)
      by (is_current q (open_after s k)) = let z : ◌≡◌ {A = ℕ} 0 1 = cc in absurd (omega arith)
      by (is_current q (open_all s k l)) = let z : ◌≡◌ {A = ℕ} 0 1 = cc in absurd (omega arith)

  partial_is : (p : ℕ) → p < g.pages → state g im p ≡ PartialOpen → turn g o b ≡ p
  partial_is p h e = by (kind p h)
    where
      by : Kind p → turn g o b ≡ p
      by (is_closed i l q s) = let z : ◌≡◌ {A = ℕ} 0 1 = cc in absurd (omega arith)
      by (is_open i l s) = let z : ◌≡◌ {A = ℕ} 0 1 = cc in absurd (omega arith)
      by (is_current q s) = q

  some_page : 0 < g.pages
  some_page = omega (arith, S.run_in)

  -- ---- youngest

  youngest_partial : state g im (turn g o b) ≡ PartialOpen → youngest g im ≡ gives (turn g o b)
  unfolding youngest all_pages
  youngest_partial e = by (from_first g im PartialOpen sound 0 some_page)
    where
      by : First g im PartialOpen (first g im PartialOpen (from g 0))
          → found_or (first g im PartialOpen (from g 0)) (open_from g im (first g im Closed (from g 0))) ≡ gives (turn g o b)
      by (nowhere r n) = absurd (n (turn g o b) cur_in e)
      by (somewhere p h r s) = rw r (ap gives (sym (partial_is p h s)))

  -- from a Closed page the first Open one is the current page
  open_from_lem : state g im (turn g o b) ≡ Open → (i : ℕ) → i < b → first g im Open (from g (turn g o i)) ≡ found (turn g o b)
  open_from_lem e i h =
      let z : i + (b - i) ≡ b = omega arith in
      let r = S.run_in in
      from_hit g im Open sound o S.old_in (b - i) i (omega arith) (omega arith)
      (λ j l k q. let c = S.closed j (omega arith) in let y : ◌≡◌ {A = ℕ} 0 1 = cc in omega arith) (rw z e) ∙ ap (λ (x : ℕ). found (turn g o x)) z

  youngest_open : state g im (turn g o b) ≡ Open → (b ≡ 0 → o ≡ 0) → youngest g im ≡ gives (turn g o b)
  unfolding youngest all_pages
  youngest_open e zero-page = by (from_first g im PartialOpen sound 0 some_page) (from_first g im Closed sound 0 some_page)
    where
      by : First g im PartialOpen (first g im PartialOpen (from g 0)) → First g im Closed (first g im Closed (from g 0))
          → found_or (first g im PartialOpen (from g 0)) (open_from g im (first g im Closed (from g 0))) ≡ gives (turn g o b)
      by (somewhere p h r s) c =
          let q : state g im p ≡ Open = subst (λ (x : ℕ). state g im x ≡ Open) (partial_is p h s) e in
          let z : ◌≡◌ {A = ℕ} 0 1 = cc in absurd (omega arith)
      by (nowhere r n) (somewhere p h q s) = let c = closed_in p h s in rw (r, q, ← c.2, open_from_lem e c.0 c.1)
      by (nowhere r n) (nowhere q m) = rw (r, q) (ap gives (at (side 0 b)))
        where
          at : Side 0 b → 0 ≡ turn g o b
          at (below l) = absurd (m (turn g o 0) (turn_lt g o 0 S.old_in (omega arith)) (S.closed 0 l))
          at (above l) =
              let zb : b ≡ 0 = omega arith in
              sym (ap₂ (turn g) (zero-page zb) zb ∙ turn_zero g 0 some_page)

  pub youngest_is : youngest g im ≡ gives (turn g o b)
  youngest_is = by S.now
    where
      by : Now (state g im (turn g o b)) o b → youngest g im ≡ gives (turn g o b)
      by (partly e) = youngest_partial e
      by (open_after e h) = youngest_open e (λ z. let k : ⊥ = omega arith in absurd k)
      by (open_all e h k) = youngest_open e (λ z. h)

  -- ---- oldest

  pub oldest_is : oldest g im ≡ gives o
  unfolding oldest
  oldest_is = rw youngest_is (by (side 0 b))
    where
      later : (j : ℕ) → b ≤ j → j < g.pages → state g im (turn g o j) ≡ Closed → ⊥
      later j h k e = on S.now (side b j)
        where
          on : Now (state g im (turn g o b)) o b → Side b j → ⊥
          on n (below l) = let s = S.opens j l k in let z : ◌≡◌ {A = ℕ} 0 1 = cc in omega arith
          on (partly s) (above l) =
              let y : j ≡ b = omega arith in
              let e₁ = subst (λ (x : ℕ). state g im (turn g o x) ≡ Closed) y e in
              let z : ◌≡◌ {A = ℕ} 0 1 = cc in omega arith
          on (open_after s m) (above l) =
              let y : j ≡ b = omega arith in
              let e₁ = subst (λ (x : ℕ). state g im (turn g o x) ≡ Closed) y e in
              let z : ◌≡◌ {A = ℕ} 0 1 = cc in omega arith
          on (open_all s m n) (above l) =
              let y : j ≡ b = omega arith in
              let e₁ = subst (λ (x : ℕ). state g im (turn g o x) ≡ Closed) y e in
              let z : ◌≡◌ {A = ℕ} 0 1 = cc in omega arith

      by : Side 0 b → found_or (first g im Closed (from g (turn g o b))) (gives (turn g o b)) ≡ gives o
      by (below h) =
          let r = S.run_in in
          let w : b + (g.pages - b) ≡ g.pages = omega arith in
          let z : turn g o (b + (g.pages - b)) ≡ o = ap (turn g o) w ∙ turn_full g o S.old_in in
          let s : state g im o ≡ Closed = subst (λ (x : ℕ). state g im x ≡ Closed) (turn_zero g o S.old_in) (S.closed 0 h) in
          let f = from_hit g im Closed sound o S.old_in (g.pages - b) b (omega arith) (omega arith) (λ j l k. later j l (omega arith)) (rw z s) in
          rw (f, z)
      by (above h) = none (from_first g im Closed sound (turn g o b) cur_in)
        where
          none : First g im Closed (first g im Closed (from g (turn g o b)))
              → found_or (first g im Closed (from g (turn g o b))) (gives (turn g o b)) ≡ gives o
          none (somewhere p k q s) = let z : ⊥ = omega (arith, (closed_in p k s).1) in absurd z
          none (nowhere q n) =
              let zb : b ≡ 0 = omega arith in
              rw q (ap (λ (x : ℕ). gives (turn g o x)) zb ∙ ap gives (turn_zero g o S.old_in))
