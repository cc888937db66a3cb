-- After any number of an item's words the list is the old one or has the slip at its end, and no header but the item's is new. Assumes nothing.
use mathlib.Core.Bool.{Bool, true, false}
use mathlib.Core.List.Memᴰ
use mathlib.Core.List.{List, [], ◌∷◌, ◌++◌, append-nil, append_cancel_left, Memᴰ}
use mathlib.Core.Logic.{◌⊎◌, inl, inr}
use mathlib.Core.Path.{◌≡◌, refl, sym, ap, ◌∙◌, subst}
use Prim.Native.Nat.{ℕ, suc, ◌+◌, ◌≤◌, ◌<◌}
use native.Mathlib.Nat.{zero-mul}
use native.Mathlib.Omega.{arith}
use borrow.Author.Tests.{eqb-true, eqb-false}
use lib.Dec.{eqb}
use lib.ListN.{length, take, drop}
use Rattle.paper.specs.declared.Geometry.{Geometry}
use Rattle.paper.specs.Checksum.{data_crc}
use Rattle.paper.specs.Chip.{round_up, header_size, put, part, Event, image_after, before}
use Rattle.paper.specs.Scan.{Head, Walk, page_walk, payloads}
use Rattle.paper.specs.Push.{item_at}
use Rattle.paper.specs.Waiting.{waiting}
use Rattle.laws.proofs.Events.{before_all}
use Rattle.laws.proofs.Puts.{put_nil}
use Rattle.laws.proofs.Sides.{Side, below, above, side}
use Rattle.demand3.proofs.Changed.{walk_other}
use Rattle.demand3.proofs.Invariant.{Inv}
use Rattle.demand3.proofs.FreeSpot.{Site, current, scanned, spot_of, Regrown, grow_inv, grow_list, grow_walk}
use Rattle.demand3.proofs.Item.{item_bytes, item_words, count_item, written, few_words}
use Rattle.demand3.proofs.Written.{Writable, with_words, HeaderReads, Clear, after_words, tail_now, behind, new_head}
use Rattle.demand3.proofs.Written.{item_regrown, stored_is, begun_regrown}
use Rattle.demand3.proofs.ReadHeader.{read_or_not, unread_few, unread_tells, stays_read}
use Rattle.demand3.proofs.Body.{whole_body, slip_payloads, new_payloads, payloads_slip, body_stays}

-- the image jm after j words of an item at the free spot
pub record Added {g : Geometry} {im : List ℕ} (S : Site g im) (slip : List ℕ) (j : ℕ) (jm : List ℕ) : Type 0 where
  pub inv : Inv g jm S.old S.runs
  pub list : (waiting g jm ≡ waiting g im) ⊎ (waiting g jm ≡ waiting g im ++ (slip ∷ []))
  pub early : (HeaderReads S slip jm → ⊥) → waiting g jm ≡ waiting g im
  pub all : item_words g slip ≤ j → waiting g jm ≡ waiting g im ++ (slip ∷ [])
  pub heads : (p : ℕ) → p < g.pages → (h : Head) → Memᴰ h (page_walk g jm p).heads
      → ((h.place ≡ spot_of S) × (0 < j)) ⊎ Memᴰ h (page_walk g im p).heads

-- what stands in the payload's place of jm passes only where it is the slip
abbrev pub PassesAsSlip : {g : Geometry} {im : List ℕ} → Site g im → List ℕ → List ℕ → Type 0
PassesAsSlip {g} S slip jm =
    let stored = part (spot_of S + header_size g) (length slip) jm in
    data_crc stored ≡ data_crc slip → stored ≡ slip

-- the heads of an image with other bytes from the free spot on
new_heads : {g : Geometry} {im : List ℕ} {S : Site g im} {jm t : List ℕ} {hs : List Head} {rs r : List ℕ} → Regrown S jm t hs rs r
    → (p : ℕ) → p < g.pages → (h : Head) → Memᴰ h (page_walk g jm p).heads → Memᴰ h hs ⊎ Memᴰ h (page_walk g im p).heads
new_heads {g} {im} {S} {jm} {hs = hs} R p hp h m = by (eqb p (current S)) refl
  where
    old : p ≡ current S → Memᴰ h (scanned S).heads ⊎ Memᴰ h hs → Memᴰ h hs ⊎ Memᴰ h (page_walk g im p).heads
    old e (inl x) = inr (subst (λ (y : ℕ). Memᴰ h (page_walk g im y).heads) (sym e) x)
    old e (inr x) = inl x

    by : (t : Bool) → eqb p (current S) ≡ t → Memᴰ h hs ⊎ Memᴰ h (page_walk g im p).heads
    by false k = inr (subst (λ (w : Walk). Memᴰ h w.heads) (walk_other R.changed p hp (eqb-false p (current S) k)) m)
    by true k =
        let e = eqb-true p (current S) k in
        let n = subst (λ (y : ℕ). Memᴰ h (page_walk g jm y).heads) e m in
        old e (Memᴰ.append_cases (scanned S).heads (subst (λ (w : Walk). Memᴰ h w.heads) (grow_walk R) n))

module _ {g : Geometry} {im : List ℕ} {S : Site g im} {slip : List ℕ} (F : Writable S slip) where
  pos : 0 < g.word
  pos = S.inv.good.sized.low

  -- no word
  no_word : Added S slip 0 im
  no_word = record {
    inv = S.inv;
    list = inl refl;
    early = λ k. refl;
    all = λ k. let z : ⊥ = omega (arith, few_words g pos slip 0 (omega (arith, zero-mul g.word))) in absurd z;
    heads = λ p hp h m. inr m;
  }

  -- the header reads whole
  module _ (j : ℕ) (hj : j ≤ item_words g slip) (r : HeaderReads S slip (with_words S slip j)) (j0 : 0 < j) (U : Clear S (with_words S slip j)) where
    abbrev jm : List ℕ
    jm = with_words S slip j

    abbrev hd : Head
    hd = new_head F j hj

    R : Regrown S jm (tail_now F j hj) (hd ∷ []) [] (drop (round_up g.word (length slip)) (behind F j hj))
    R = item_regrown F j hj r U

    longer : waiting g jm ≡ waiting g im ++ payloads (hd ∷ [])
    longer = grow_list R

    at_spot : {x : Head} {P : Type 0} → Memᴰ x (hd ∷ []) ⊎ P → ((x.place ≡ spot_of S) × (0 < j)) ⊎ P
    unfolding new_head
    at_spot (inl m) = inl (ap (λ (y : Head). y.place) (Memᴰ.eq_of_singleton m), j0)
    at_spot (inr m) = inr m

    either : (payloads (hd ∷ []) ≡ []) ⊎ (payloads (hd ∷ []) ≡ slip ∷ [])
        → (waiting g jm ≡ waiting g im) ⊎ (waiting g jm ≡ waiting g im ++ (slip ∷ []))
    either (inl z) = inl (longer ∙ ap (λ (l : List (List ℕ)). waiting g im ++ l) z ∙ append-nil (waiting g im))
    either (inr z) = inr (longer ∙ ap (λ (l : List (List ℕ)). waiting g im ++ l) z)

    with_header : (j < item_words g slip → PassesAsSlip S slip (with_words S slip j)) → Added S slip j (with_words S slip j)
    with_header P = record {
      inv = grow_inv R;
      list = on (side j (item_words g slip));
      early = λ k. absurd (k r);
      all = λ k. longer ∙ ap (λ (l : List (List ℕ)). waiting g im ++ l) (slip_payloads F j hj (whole_body F j hj (omega arith)));
      heads = λ p hp x m. at_spot (new_heads R p hp x m);
    }
      where
        on : Side j (item_words g slip) → (waiting g jm ≡ waiting g im) ⊎ (waiting g jm ≡ waiting g im ++ (slip ∷ []))
        on (below l) = either (new_payloads F j hj (rw (stored_is F j hj r) at (P l)))
        on (above l) = either (inr (slip_payloads F j hj (whole_body F j hj (omega arith))))

  none_new : {x : Head} {P Q : Type 0} → Memᴰ x [] ⊎ Q → P ⊎ Q
  none_new (inl m) = absurd (Memᴰ.not-nil m)
  none_new (inr m) = inr m

  -- the header does not read whole
  begun_header : (j : ℕ) → j ≤ item_words g slip → (HeaderReads S slip (with_words S slip j) → ⊥) → 0 < j → Clear S (with_words S slip j)
      → Added S slip j (with_words S slip j)
  unfolding payloads
  begun_header j hj n j0 U =
      let h = unread_few F j hj n in
      let R = begun_regrown F j hj h (unread_tells F j hj n) j0 U in
      record {
        inv = grow_inv R;
        list = inl (grow_list R ∙ append-nil (waiting g im));
        early = λ k. grow_list R ∙ append-nil (waiting g im);
        all = λ k. let z : ⊥ = omega (arith, few_words g pos slip j h) in absurd z;
        heads = λ p hp x m. none_new (new_heads R p hp x m);
      }

  some_words : (j : ℕ) → j ≤ item_words g slip → Side 0 j → HeaderReads S slip (with_words S slip j) ⊎ (HeaderReads S slip (with_words S slip j) → ⊥)
      → Clear S (with_words S slip j) → (HeaderReads S slip (with_words S slip j) → j < item_words g slip → PassesAsSlip S slip (with_words S slip j))
      → Added S slip j (with_words S slip j)
  unfolding written
  some_words j hj (above l) s U P =
      let z : j ≡ 0 = omega arith in
      let y : with_words S slip 0 ≡ im = ap (λ (x : ℕ). put (spot_of S) (take x (item_bytes g slip)) im) (zero-mul g.word) ∙ put_nil (spot_of S) im in
      rw z (subst (Added S slip 0) (sym y) no_word)
  some_words j hj (below l) (inl r) U P = with_header j hj r l U (P r)
  some_words j hj (below l) (inr n) U P = begun_header j hj n l U

  -- after j words; where the header reads whole and the payload is not all written, what stands in its place passes only if it is the slip
  pub adding : (j : ℕ) → Clear S (image_after g (before j (item_at g (spot_of S) slip)) im)
      → (HeaderReads S slip (image_after g (before j (item_at g (spot_of S) slip)) im) → j < item_words g slip
      → PassesAsSlip S slip (image_after g (before j (item_at g (spot_of S) slip)) im))
      → Added S slip j (image_after g (before j (item_at g (spot_of S) slip)) im)
  adding j U P = by (side j (item_words g slip))
    where
      it : List Event
      it = item_at g (spot_of S) slip

      n : ℕ
      n = item_words g slip

      whole : (k : ℕ) → n ≤ k → before k it ≡ it
      whole k l = before_all k it (omega (arith, count_item g pos slip (spot_of S)))

      more : n ≤ j → {P Q : Type 0} → (P × (0 < n)) ⊎ Q → (P × (0 < j)) ⊎ Q
      more l (inl x) = inl (x.0, omega (arith, x.1))
      more l (inr x) = inr x

      by : Side j (item_words g slip) → Added S slip j (image_after g (before j it) im)
      by (below l) =
          let q = after_words F j (omega arith) in
          rw q (some_words j (omega arith) (side 0 j) (read_or_not F j (omega arith)) (rw q at U) (rw q at P))
      by (above l) =
          let q : image_after g (before j it) im ≡ with_words S slip n =
          ap (λ (x : List Event). image_after g x im) (whole j l ∙ sym (whole n (omega arith))) ∙ after_words F n (omega arith) in
          let none_left : n < n → PassesAsSlip S slip (with_words S slip n) = λ k. let z : ⊥ = omega arith in absurd z in
          let A = some_words n (omega arith) (side 0 n) (read_or_not F n (omega arith)) (rw q at U) (λ h. none_left) in
          rw q (record {
            inv = A.inv;
            list = A.list;
            early = A.early;
            all = λ k. A.all (omega arith);
            heads = λ p hp h m. more l (A.heads p hp h m);
          })

  -- once the slip is on the list, it stays there
  pub list_stays : (j : ℕ) → suc j ≤ item_words g slip → HeaderReads S slip (image_after g (before j (item_at g (spot_of S) slip)) im)
      → Clear S (image_after g (before j (item_at g (spot_of S) slip)) im)
      → Clear S (image_after g (before (suc j) (item_at g (spot_of S) slip)) im)
      → waiting g (image_after g (before j (item_at g (spot_of S) slip)) im) ≡ waiting g im ++ (slip ∷ [])
      → waiting g (image_after g (before (suc j) (item_at g (spot_of S) slip)) im) ≡ waiting g im ++ (slip ∷ [])
  list_stays j hj r U U₁ e =
      let hi : j ≤ item_words g slip = omega arith in
      let q = after_words F j hi in
      let q₁ = after_words F (suc j) hj in
      let r₀ : HeaderReads S slip (with_words S slip j) = rw q at r in
      let L = grow_list (item_regrown F j hi r₀ (rw q at U)) in
      let L₁ = grow_list (item_regrown F (suc j) hj (stays_read F j hj r₀) (rw q₁ at U₁)) in
      let b = payloads_slip F j hi (append_cancel_left (waiting g im) _ _ (sym L ∙ rw q at e)) in
      rw q₁ (L₁ ∙ ap (λ (l : List (List ℕ)). waiting g im ++ l) (slip_payloads F (suc j) hj (body_stays F j (suc j) hi hj (omega arith) b)))
