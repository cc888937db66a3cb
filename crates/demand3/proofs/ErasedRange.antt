-- An erased range, and a range after erases. Assumes nothing.
use mathlib.Core.List.Memᴰ
use mathlib.Core.List.{List, [], ◌∷◌, ◌++◌, Memᴰ}
use mathlib.Core.Logic.{◌⊎◌, inl, inr}
use mathlib.Core.Path.{◌≡◌, refl, sym, ap, ◌∙◌, subst}
use Prim.Native.Nat.{ℕ, ◌<◌}
use native.Mathlib.Omega.{arith}
use lib.ListN.{length, replicate}
use Rattle.paper.specs.declared.Geometry.{Geometry}
use Rattle.paper.specs.declared.PageState.TheVariants.{Open}
use Rattle.paper.specs.Chip.{data_start, data_size, erase, image_by, image_after}
use Rattle.paper.specs.Scan.{Head, Walk, page_walk}
use Rattle.paper.specs.Pages.{state}
use Rattle.paper.specs.Calls.{erases}
use Rattle.paper.specs.Waiting.{waiting}
use Rattle.laws.proofs.Accepted.{Laid}
use Rattle.laws.proofs.ErasePage.{erase_page_is}
use Rattle.laws.proofs.Marks.{ones_unset}
use Rattle.laws.proofs.Ring.{turn, turn_lt}
use Rattle.demand3.proofs.Blank.{blank_replicate}
use Rattle.demand3.proofs.Courses.{blank_walk}
use Rattle.demand3.proofs.Views.{view, erased_view, view_state, view_walk}
use Rattle.demand3.proofs.RingShape.{open_all}
use Rattle.demand3.proofs.Listed.{run}
use Rattle.demand3.proofs.Changed.{Changed, still_good, every_page, erase_changed}
use Rattle.demand3.proofs.Invariant.{PageOk, Inv, erased_ok, listed, open_empty}

module _ {g : Geometry} (im : List ℕ) (G : Laid g (length im)) (E : (p : ℕ) → p < g.pages → view g im p ≡ erased_view g) where
  open_page : (i : ℕ) → i < g.pages → state g im (turn g 0 i) ≡ Open
  open_page i h = view_state g im (turn g 0 i) (E (turn g 0 i) (turn_lt g 0 i G.sized.some (omega arith))) ∙ rw (ones_unset g.word)

  pub fresh_inv : Inv g im 0 0
  fresh_inv = record {
    good = G;
    shape = record {
      old_in = G.sized.some;
      run_in = G.sized.some;
      closed = λ i h. let w : ⊥ = omega arith in absurd w;
      now = open_all (open_page 0 G.sized.some) refl refl;
      opens = λ i h k. open_page i k;
    };
    pages_ok = λ p h. subst (PageOk g p) (sym (E p h)) (erased_ok g G.sized.low p);
  }

  pub fresh_list : waiting g im ≡ []
  unfolding run
  fresh_list = listed fresh_inv
      ∙ ap (λ (l : List (List ℕ)). l ++ []) (open_empty fresh_inv (turn g 0 0) (turn_lt g 0 0 G.sized.some (omega arith)) (open_page 0 G.sized.some))

  -- nothing is accepted
  pub fresh_heads : (p : ℕ) → p < g.pages → (h : Head) → Memᴰ h (page_walk g im p).heads → ⊥
  fresh_heads p hp h m =
      let e = view_walk g im p (E p hp) ∙ blank_walk g G.sized.low (data_start g p) (replicate (data_size g) 255) (blank_replicate (data_size g)) in
      Memᴰ.not-nil (subst (λ (w : Walk). Memᴰ h w.heads) e m)

-- ---- after the erases of some pages

pub record Wiped (g : Geometry) (im jm ps : List ℕ) : Type 0 where
  pub long : length jm ≡ length im
  pub these : (q : ℕ) → q < g.pages → Memᴰ q ps → view g jm q ≡ erased_view g
  pub still : (q : ℕ) → q < g.pages → view g im q ≡ erased_view g → view g jm q ≡ erased_view g

pub erases_wipe : (g : Geometry) (ps im : List ℕ) → Laid g (length im) → ((q : ℕ) → Memᴰ q ps → q < g.pages)
    → Wiped g im (image_after g (erases g ps) im) ps
unfolding image_after erases
erases_wipe g [] im G f = record { long = refl; these = λ q h m. absurd (Memᴰ.not-nil m); still = λ q h e. e }
erases_wipe g (p ∷ ps) im G f =
    let C = erase_changed im G p (f p (Memᴰ.head refl)) in
    let R = erases_wipe g ps (image_by g (erase p) im) (still_good C G) (λ q m. f q (Memᴰ.tail m)) in
    rw (erase_page_is g p) (record {
      long = R.long ∙ C.long;
      these = λ q h m. among q h C R (Memᴰ.cases_cons m);
      still = λ q h e. R.still q h (every_page C (λ x v. view g im x ≡ erased_view g → v ≡ erased_view g) (λ x k ne y. y) (λ y. refl) q h e);
    })
  where
    among : (q : ℕ) → q < g.pages → Changed g im (image_by g (erase p) im) p (erased_view g)
        → Wiped g (image_by g (erase p) im) (image_after g (erases g ps) (image_by g (erase p) im)) ps
        → (q ≡ p) ⊎ Memᴰ q ps → view g (image_after g (erases g ps) (image_by g (erase p) im)) q ≡ erased_view g
    among q h C R (inl e) = R.still q h (subst (λ (x : ℕ). view g (image_by g (erase p) im) x ≡ erased_view g) (sym e) C.this)
    among q h C R (inr m) = R.these q h m
