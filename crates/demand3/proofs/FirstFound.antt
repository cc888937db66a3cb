-- What the search for a page of a state comes to, where no page is Corrupted. Assumes nothing.
use mathlib.Core.Bool.{Bool, true, false}
use mathlib.Core.List.Memᴰ
use mathlib.Core.List.{List, [], ◌∷◌, Memᴰ}
use mathlib.Core.Logic.{◌⊎◌, inl, inr}
use mathlib.Core.Path.{◌≡◌, refl, ap, ◌∙◌, subst}
use Prim.Native.Nat.{ℕ, zero, suc, ◌+◌, ◌≤◌, ◌<◌}
use native.Mathlib.Nat.{add-zero}
use native.Mathlib.Omega.{arith}
use Rattle.paper.specs.declared.Geometry.{Geometry}
use Rattle.paper.specs.declared.PageState.{PageState}
use Rattle.paper.specs.declared.PageState.TheVariants.{Corrupted}
use Rattle.paper.specs.Pages.{around, from, state, same, Found, found, missing, first}
use Rattle.laws.proofs.Marks.{same_is, same_self, not_same}
use Rattle.laws.proofs.Ring.{turn, turn_lt, next_turn, around_in, from_has}

-- what a search over all pages comes to, where none is Corrupted
pub data First (g : Geometry) (im : List ℕ) (want : PageState) (r : Found) : Type 0 where
  nowhere : r ≡ missing → ((p : ℕ) → p < g.pages → state g im p ≡ want → ⊥) → First g im want r
  somewhere : (p : ℕ) → p < g.pages → r ≡ found p → state g im p ≡ want → First g im want r

module _ (g : Geometry) (im : List ℕ) (want : PageState) (sound : (p : ℕ) → p < g.pages → state g im p ≡ Corrupted → ⊥) where
  data Among (ps : List ℕ) (r : Found) : Type 0 where
    none_of : r ≡ missing → ((p : ℕ) → Memᴰ p ps → state g im p ≡ want → ⊥) → Among ps r
    one_of : (p : ℕ) → Memᴰ p ps → r ≡ found p → state g im p ≡ want → Among ps r

  among : (ps : List ℕ) → ((p : ℕ) → Memᴰ p ps → p < g.pages) → Among ps (first g im want ps)
  unfolding first
  among [] f = none_of refl (λ p m. absurd (Memᴰ.not-nil m))
  among (q ∷ ps) f = by (same (state g im q) want) refl (among ps (λ p m. f p (Memᴰ.tail m)))
    where
      s : same (state g im q) Corrupted ≡ false
      s = not_same (state g im q) Corrupted (sound q (f q (Memᴰ.head refl)))

      by : (t : Bool) → same (state g im q) want ≡ t → Among ps (first g im want ps) → Among (q ∷ ps) (first g im want (q ∷ ps))
      by true e A = one_of q (Memᴰ.head refl) (rw (s, e)) (same_is (state g im q) want e)
      by false e (one_of p m r k) = one_of p (Memᴰ.tail m) (rw (s, e) r) k
      by false e (none_of r n) = none_of (rw (s, e) r) (λ p m k. at p k (Memᴰ.cases_cons m))
        where
          at : (p : ℕ) → state g im p ≡ want → (p ≡ q) ⊎ Memᴰ p ps → ⊥
          at p k (inl z) =
              let y : state g im q ≡ want = subst (λ (x : ℕ). state g im x ≡ want) z k in
              let w = ap (λ (x : PageState). same x want) y ∙ same_self want in
              let v : ◌≡◌ {A = ℕ} 0 1 = cc in omega arith
          at p k (inr m) = n p m k

  pub from_first : (q : ℕ) → q < g.pages → First g im want (first g im want (from g q))
  unfolding from
  from_first q h = by (among (around g g.pages q) (λ p. around_in g g.pages q p h))
    where
      by : Among (around g g.pages q) (first g im want (from g q)) → First g im want (first g im want (from g q))
      by (none_of r n) = nowhere r (λ p k. n p (from_has g q p h k))
      by (one_of p m r k) = somewhere p (around_in g g.pages q p h m) r k

  -- going round: the page m places on is the first of its state
  module _ (o : ℕ) (h : o < g.pages) where
    around_hit : (m i k : ℕ) → m < k → i + m ≤ g.pages → ((j : ℕ) → i ≤ j → j < i + m → state g im (turn g o j) ≡ want → ⊥)
        → state g im (turn g o (i + m)) ≡ want
        → first g im want (around g k (turn g o i)) ≡ found (turn g o (i + m))
    unfolding first around
    around_hit m i zero l n f e = let z : ⊥ = omega arith in absurd z
    around_hit zero i (suc k) l n f e =
        let z : i + 0 ≡ i = add-zero i in
        let s = not_same (state g im (turn g o i)) Corrupted (sound (turn g o i) (turn_lt g o i h (omega arith))) in
        let e₁ : same (state g im (turn g o i)) want ≡ true = ap (λ (x : PageState). same x want) (rw z at e) ∙ same_self want in
        rw (s, e₁, z)
    around_hit (suc m) i (suc k) l n f e =
        let z : suc i + m ≡ i + suc m = omega arith in
        let s = not_same (state g im (turn g o i)) Corrupted (sound (turn g o i) (turn_lt g o i h (omega arith))) in
        let t = not_same (state g im (turn g o i)) want (f i (omega arith) (omega arith)) in
        rw (s, t, next_turn g o i h (omega arith))
        (around_hit m (suc i) k (omega arith) (omega arith) (λ j a b. f j (omega arith) (omega arith)) (rw z e) ∙ ap (λ (x : ℕ). found (turn g o x)) z)

    pub from_hit : (m i : ℕ) → m < g.pages → i + m ≤ g.pages → ((j : ℕ) → i ≤ j → j < i + m → state g im (turn g o j) ≡ want → ⊥)
        → state g im (turn g o (i + m)) ≡ want
        → first g im want (from g (turn g o i)) ≡ found (turn g o (i + m))
    unfolding from
    from_hit m i l n f e = around_hit m i g.pages l n f e
