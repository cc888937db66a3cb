-- What a plan does on any image: what holds of each of its events, and of its answer. Assumes nothing.
use mathlib.Core.Path.{◌≡◌, refl}
use mathlib.Core.Bool.{Bool, true, false, cond}
use mathlib.Core.List.{List, [], ◌∷◌, ◌++◌}
use Prim.Native.Nat.{ℕ, zero, suc, ◌+◌, ◌<◌}
use lib.ListN.{length, drop}
use Rattle.paper.specs.declared.Geometry.{Geometry}
use Rattle.paper.specs.declared.PageState.TheVariants.{Corrupted}
use Rattle.paper.specs.Chip.{words_for, Event, store, erase, erase_page, words, writes, image_after, Plan, bind, Try, fails, gives}
use Rattle.paper.specs.Pages.{same, state, all_pages, repairs, repair}
use Rattle.paper.specs.Steps.{retry, with_repair}
use Rattle.laws.proofs.ErasePage.{erase_each}
use Rattle.demand1.specs.Range.{Each}
use Rattle.demand1.proofs.Lists.{each_append, each_any}
use Rattle.demand1.proofs.Pages.{all_in}

-- what may be said of a step that failed, and of one that gave something
abbrev pub Tried : {W A : Type 0} → (W → Type 0) → (A → Type 0) → Try W A → Type 0
Tried F Q (fails w) = F w
Tried F Q (gives a) = Q a

-- nothing is said
abbrev pub Any : {A : Type 0} → A → Type 0
Any a = Unit {0}

-- ---- events

module _ (g : Geometry) (im : List ℕ) (P : Event → Type 0) where
  repairs_do : (Q : ℕ → Type 0) → ((p : ℕ) → Q p → same (state g im p) Corrupted ≡ true → P (erase p)) → (ps : List ℕ) → Each Q ps → Each P (repairs g im ps)
  unfolding repairs
  repairs_do Q f [] h = tt
  repairs_do Q f (p ∷ ps) h = by (same (state g im p) Corrupted) refl (repairs_do Q f ps h.1)
    where
      by : (t : Bool) → same (state g im p) Corrupted ≡ t → Each P (repairs g im ps) → Each P (cond t (erase_page g p ++ repairs g im ps) (repairs g im ps))
      by true e r = each_append P (erase_page g p) (repairs g im ps) (erase_each g p P (f p h.0 e)) r
      by false e r = r

  -- a repair erases pages that are Corrupted
  pub repair_does : 0 < g.pages → ((p : ℕ) → p < g.pages → same (state g im p) Corrupted ≡ true → P (erase p)) → Each P (repair g im)
  unfolding repair
  repair_does s f = repairs_do (λ p. p < g.pages) f (all_pages g) (all_in g s)

  repair_erases : ((p : ℕ) → P (erase p)) → Each P (repair g im)
  unfolding repair
  repair_erases f = repairs_do Any (λ p u e. f p) (all_pages g) (each_any (all_pages g))

-- leaving a page erases it, or does nothing
pub left_does : (g : Geometry) (P : Event → Type 0) (clears : Bool) (p : ℕ) → (clears ≡ true → P (erase p)) → Each P (cond clears (erase_page g p) [])
left_does g P true p f = erase_each g p P (f refl)
left_does g P false p f = tt

pub writes_store : (g : Geometry) (P : Event → Type 0) → ((a : ℕ) (word : List ℕ) → P (store a word)) → (a : ℕ) (bytes : List ℕ) → Each P (writes g a bytes)
unfolding writes words
writes_store g P f a bytes = go (words_for g.word (length bytes)) a bytes
  where
    go : (k a : ℕ) (bytes : List ℕ) → Each P (words g.word k a bytes)
    go zero a bytes = tt
    go (suc k) a bytes = (f a _, go k (a + g.word) (drop g.word bytes))

-- ---- plans

pub record Does {A : Type 0} (P : Event → Type 0) (Q : A → Type 0) (p : Plan A) : Type 0 where
  pub each : Each P p.events
  pub answers : Q p.answer

pub does_cond : {A : Type 0} {P : Event → Type 0} {Q : A → Type 0} {p q : Plan A} (t : Bool) → (t ≡ true → Does P Q p)
    → (t ≡ false → Does P Q q) → Does P Q (cond t p q)
does_cond true e f = e refl
does_cond false e f = f refl

module _ (g : Geometry) {P : Event → Type 0} where
  pub does_bind : {A B : Type 0} (Q : A → Type 0) {R : B → Type 0} (im : List ℕ) {p : Plan A} (follow : A → List ℕ → Plan B) → Does P Q p
      → ((a : A) → Q a → (im : List ℕ) → Does P R (follow a im)) → Does P R (bind g im p follow)
  unfolding bind
  does_bind Q im {p} follow d f =
      let i : List ℕ = image_after g p.events im in
      let c = f p.answer d.answers i in
      record { each = each_append P p.events (follow p.answer i).events d.each c.each; answers = c.answers }

  -- a step, and once more after a repair where it failed
  pub does_steps : {W A : Type 0} (F : W → Type 0) (Q : A → Type 0) (step : W → List ℕ → Plan (Try W A)) → ((p : ℕ) → P (erase p))
      → ((w : W) → F w → (im : List ℕ) → Does P (Tried F Q) (step w im)) → (w : W) → F w → (im : List ℕ) → Does P (Tried F Q) (with_repair g step w im)
  unfolding with_repair retry
  does_steps {W} {A} F Q step e f w v im = does_bind (Tried F Q) im (retry g step) (f w v im) again
    where
      again : (t : Try W A) → Tried F Q t → (im : List ℕ) → Does P (Tried F Q) (retry g step t im)
      again (fails w) v im = does_bind {A = Unit {0}} Any im (λ u. step w) (record { each = repair_erases g im P e; answers = tt }) (λ u x. f w v)
      again (gives a) v im = record { each = tt; answers = v }
