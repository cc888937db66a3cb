-- `checksum::table::entry` meets its contract: a walk of its MIR, by hand, since the borrow checker's part does not cover a `match` that
-- has an arm for each number. All 256 numbers are tested at once (`same`), and one lemma goes through the arms (`through`).
-- Assumes nothing.
use mathlib.Core.Logic.{⊎_elim}
use mathlib.Core.Path.{◌≡◌, refl, sym, subst⁻¹}
use mathlib.Core.List.{[], ◌∷◌, List}
use Prim.Native.Nat.{ℕ, zero, suc, ◌+◌, ◌^◌, ◌≤◌, ◌<◌}
use native.Mathlib.Nat.{eq-or-lt_of_le}
use native.Mathlib.Omega.{arith}
use seplogic.Ra.Ura.{Ura}
use base.Fraction.{full_share}
use lib.Dec.{lit<}
use mir.Syntax.{Opd, Arms, Body, w8, w32, ty_int, place, copy, int, int_big, rv_opd, assign, switch, arm, no_default}
use mir.Val.{Val, vint, Fits}
use base.Logic.{SProp, ent, emp, via, fst∗, guard_i}
use base.Fml.{ftrue, fat, froom, fdies}
use prog.Memory.{Memory}
use prog.Routine.{Routine}
use prog.Wp.{Env, Calls, Loops, Wp, WpFn, Tables, after_seq, at_return}
use types.Logic.{Logic}
use contract.Monad.{Fun}
use contract.Running.{tables, tables_of}
use types.Kit as Kit
use types.Kit.{Item, Go, Sq, prop, runs, any_q, at_ret, ‵, ◌$◌, ◌∵◌, !, qed, by, move, drop, fsplit, fjoin, suffices, frame, done}
use types.Run as Run
use types.Run.{Cases, look, init, forget, stop, from, load, lit, neg_lit, of_opd, bin, assigns, assigns_last, first, switches, exec, returns, enter}
use types.Run.{alloc1, alloc0, params1, pass1, pass0, free1, free0}
use sound.WpLaws.{WpFn-mono}
use denote.RattleType.{owns}
use denote.Laws.{Is, shows}
use denote.Plain.{uint_vals, uint_Tells, uint_Makes}
use denote.Builtin.{u8, u32}
use denote.Exit.{yes}
use denote.Steps.{owned, peeks, nothing}
use denote.Triple.Entry.{on_entry}
use denote.Triple.Spec.{Meets, triple_of}
use denote.Triple.Table.{entered}
use denote.Triple.Walked.{says, Stays, stay_none, walk_of, AllGo, Goes-none, Walks, ends_at, walked, walk_Meets}
use Rattle.paper.specs.Poly.{◌⊕◌}
use Rattle.checksum.specs.Table.{turns, entry}
use Rattle.checksum.proofs.Sums.{sum_assoc, sum_self, sum_zero, sum_lt}
use Rattle.checksum.proofs.Entries.{entry_shifted, entry_fits}
use Rattle.checksum.specs.contracts.table.entry as f
use Rattle.checksum.specs.contracts.table.entry.Key as key
use Rattle.checksum.proofs.table.entry.Statement as stated
use Rattle.checksum.proofs.table.entry.Code as code
use Rattle.checksum.proofs.table.entry.Code.Mir as body

-- ---- the arms

-- a number, as the MIR writes it
abbrev operand : ℕ → Opd
operand zero = int w32 0
operand (suc n) = int_big w32 (suc n)

abbrev gives : ℕ → Body
gives k = assign (place 3 []) (rv_opd (operand (entry k)))

-- n arms by the rule, from the one at k on, which is that of the byte k with its top bit flipped
abbrev arms : ℕ → ℕ → Arms
arms k zero = no_default
arms k (suc n) = arm (k ∷ []) (gives (k ⊕ 128)) (arms (suc k) n)

-- the code's arms are the rule's: all 256 numbers are computed here, and compared
same : body.s-2 ≡ switch (copy (place 2 [])) (arms 0 256)
unfolding entry turns ◌⊕◌
same = refl

-- a top bit that is flipped twice is as it was
flip_twice : (n : ℕ) → n ⊕ 128 ⊕ 128 ≡ n
flip_twice n = rw (sum_assoc, sum_self, sum_zero)

-- what is not below and not equal is above
above : (k n : ℕ) → k ≤ n → (n ≡ k → ⊥) → k < n
above k n l other = ⊎_elim (λ e. absurd (other (sym e))) (λ h. h) (eq-or-lt_of_le l)

-- ---- the walk

-- a byte is plain: nothing of it is held at the exit

abbrev stayed : Stays (f.ended).signature.params (f.ended).kept
stayed = (stay_none (λ _. u8) yes, tt)

module _ {M : Type 1} {𝓤 : Ura M} (𝓛 : Logic 𝓤) (mem : Memory → SProp 𝓤) (run : Routine → Fun 𝓤) where
  -- what the contract asks of the result
  open 𝓛 use {H}

  abbrev Post : ℕ → Val → SProp 𝓤
  Post low = (walk_of 𝓛 f.ended stayed (f.clauses 𝓛 mem run)).post ((tt, tt, tt, (low, tt), (vint w8 low ∷ [], tt)), tt)

  module _ (low : ℕ) (small : low < 2 ^ 8) where
    -- the byte's entry has it
    leaves : ent 𝓤 (emp 𝓤) (Post low (vint w32 (entry low)))
    leaves =
        qed 𝓛 [] ∵
        suffices ! _ (ends_at 𝓛 f.ended stayed (f.clauses 𝓛 mem run) ((tt, tt, tt, (low, tt), (vint w8 low ∷ [], tt)), tt)
        (vint w32 (entry low)) (entry low) (tt, tt) (tt, tt)) $
        says ! (entry_shifted low small) $ nothing ! $ frame ! $
        owned ! u8 (Is u8) (uint_Makes 𝓛 w8) low _ (refl, small) $ nothing ! $ move ! (1 ∷ 0 ∷ []) $ fjoin ! $ frame ! $
        owned ! u32 (Is u32) (uint_Makes 𝓛 w32) (entry low) _ (refl, entry_fits low small) $ done !

    -- what the `match` looks at
    abbrev flip : ℕ
    flip = low ⊕ 128

    flip-lt : flip < 2 ^ 8
    flip-lt = sum_lt 8 small (lit< tt)

    module _ (C : Calls 𝓤 H) (Λ : Loops 𝓤 H) (l₀ l₁ l₂ l₃ : ℕ) where
      abbrev E : Env 𝓤 H
      E = (ty_int w32, l₀) ∷ (ty_int w8, l₁) ∷ (ty_int w8, l₂) ∷ (ty_int w32, l₃) ∷ []

      -- the locals, the last first; the match's value, which is the last, is apart, as it differs before the match and after
      abbrev others : List (Item 𝓤)
      others =
          ‵ (fdies (ty_int w32) l₃)
          ∷ ‵ (fat full_share (ty_int w8) l₂ 0 (vint w8 flip))
          ∷ ‵ (fdies (ty_int w8) l₂)
          ∷ ‵ (fat full_share (ty_int w8) l₁ 0 (vint w8 low))
          ∷ ‵ (fdies (ty_int w8) l₁)
          ∷ ‵ (froom (ty_int w32) l₀ 0)
          ∷ ‵ (fdies (ty_int w32) l₀)
          ∷ []

      abbrev before : List (Item 𝓤)
      before = ‵ (froom (ty_int w32) l₃ 0) ∷ others

      abbrev after : List (Item 𝓤)
      after = ‵ (fat full_share (ty_int w32) l₃ 0 (vint w32 (entry low))) ∷ others

      -- what is to hold where an arm ends
      abbrev Then : Kit.Post 𝓤 H
      Then = any_q (after_seq 𝓤 H (Wp 𝓤 H C Λ E body.t-3 (at_return 𝓤 H E (Post low))) (at_return 𝓤 H E (Post low)))

      -- the match's value is returned
      ends : Sq 𝓛 after (prop (Wp 𝓤 H C Λ E body.t-3 (at_return 𝓤 H E (Post low))))
      ends =
          exec ! C Λ E body.t-3 (at_ret E (Post low)) $
          assigns ! (of_opd ! (load ! (from ! (stop !)) (look ! 0 refl))) (from ! (stop !))
          (init ! 6 refl (tt, record { fits = entry_fits low small })) $
          returns ! (look ! 6 refl) $ forget ! 0 refl $ forget ! 2 refl $ forget ! 4 refl $ forget ! 6 refl $
          move ! (6 ∷ 7 ∷ []) $ free1 ! $ move ! (4 ∷ 5 ∷ []) $ free1 ! $ move ! (2 ∷ 3 ∷ []) $ free1 ! $ free1 ! $ free0 ! $ by ! leaves

      -- what a number of the MIR evaluates to
      number : (n : ℕ) → n < 2 ^ 32 → Run.Opd Go 𝓛 before E (operand n) (vint w32 n)
      number zero h = lit ! tt
      number (suc n) h =
          record {
            go = λ K e. via 𝓤 (K (vint w32 (suc n))) e (guard_i 𝓤 (Fits w32 (suc n)) (K (vint w32 (suc n))) (record { fits = h }));
          }

      -- the byte's own arm
      given : Sq 𝓛 before (runs C Λ E (gives low) Then)
      given =
          assigns_last ! (of_opd ! (number (entry low) (entry_fits low small))) (from ! (stop !))
          (init ! 0 refl (tt, record { fits = entry_fits low small })) $ ends

      -- the arms from the one at k on, where the byte has none of those before
      through : (k n : ℕ) (N : Type 0) → (N → k ≤ flip) → flip < k + n → Cases Go 𝓛 before C Λ E Then N (arms k n) flip
      through k zero N none h = λ m. let l : k ≤ flip = none m in absurd (omega arith)
      through k (suc n) N none h = (
        λ e. let own : k ⊕ 128 ≡ low = rw (← e) (flip_twice low) in subst⁻¹ (λ (j : ℕ). Sq 𝓛 before (runs C Λ E (gives j) Then)) own given,
        through (suc k) n (N × (flip ≡ k → ⊥)) (λ m. above k flip (none m.0) m.1) (omega arith),
      )

      matched : Sq 𝓛 before (runs C Λ E body.s-2 Then)
      matched =
          subst⁻¹ (λ (b : Body). Sq 𝓛 before (runs C Λ E b Then)) same
          (switches ! (load ! (from ! (stop !)) (look ! 2 refl)) (through 0 256 (Unit {0}) (λ _. omega arith) flip-lt))

  module _ (C : Calls 𝓤 H) (Λ : Loops 𝓤 H) where
    walk : (low : ℕ)
        → ent 𝓤 (on_entry 𝓛 f.signature tt tt (low, tt) (vint w8 low ∷ [], tt)) (WpFn 𝓤 H C Λ code.function (vint w8 low ∷ []) (Post low))
    unfolding ◌⊕◌
    walk low =
        qed 𝓛 (‵ ftrue ∷ ‵ (owns (u8 ∷ []) (low, tt) (vint w8 low ∷ [], tt)) ∷ []) ∵ move ! (1 ∷ []) $ fsplit ! $
        peeks ! u8 (Is u8) (shows 𝓛 u8) low (vint w8 low ∷ []) (λ known. drop ! $ drop ! $ drop ! $
        enter ! C Λ code.function (vint w8 low ∷ []) _ $
        alloc1 ! (λ l₀. alloc1 ! (λ l₁. alloc1 ! (λ l₂. alloc1 ! (λ l₃. alloc0 ! $ params1 ! $
        pass1 ! (init ! 4 refl (tt, record { fits = known.1 })) $ pass0 ! $
        assigns ! (bin ! (load ! (from ! (stop !)) (look ! 4 refl)) (neg_lit ! tt) tt) (from ! (stop !))
        (init ! 2 refl (tt, record { fits = flip-lt low known.1 })) $ first ! $ matched low known.1 C Λ l₀ l₁ l₂ l₃)))))

    walks : Walks 𝓛 f.ended stayed (WpFn 𝓤 H C Λ code.function) (f.clauses 𝓛 mem run)
    walks =
        walked 𝓛 f.ended stayed (f.clauses 𝓛 mem run) (WpFn 𝓤 H C Λ code.function) (λ κs. (uint_vals w8, tt)) (λ κs. (uint_Tells w8, tt))
        (λ κs qs bounds a _ _. via 𝓤 _ (fst∗ 𝓤 _ (emp 𝓤)) (walk a.0))

  goes : AllGo 𝓛 0 (f.signature).params (f.ended).kept stayed
  goes = (Goes-none 𝓛 0 (λ _. u8) yes (λ κs x f. refl), tt)

  meets : (𝓣 : Tables 𝓤 H) → Meets 𝓛 f.signature (WpFn 𝓤 H 𝓣.C 𝓣.Λ code.function) (f.spec 𝓛 mem run)
  meets 𝓣 =
      walk_Meets 𝓛 f.ended stayed goes (f.clauses 𝓛 mem run) (WpFn 𝓤 H 𝓣.C 𝓣.Λ code.function)
      (WpFn-mono 𝓤 H 𝓛.laws 𝓣 code.function) (walks 𝓣.C 𝓣.Λ)

pub entry_spec : {M : Type 1} → stated.statement M
unfolding tables_of
entry_spec 𝓤 𝓛 𝓜 𝓡 wired =
    let 𝓣 = tables 𝓤 𝓛.H 𝓜 𝓡 𝓡.env in
    entered 𝓤 𝓛.H (triple_of 𝓛 f.signature (f.spec 𝓛 𝓜.mem 𝓡.returns)) 𝓣.C 𝓣.Λ key.name code.function
    (code.unfolded 𝓤 𝓛.H 𝓜 𝓡 wired) (meets 𝓛 𝓜.mem 𝓡.returns (tables_of 𝓤 𝓛.H 𝓜 𝓣))
