-- What stands in a new item's payload place: the slip's beginning and FF; and whether the item is present. Assumes nothing.
use mathlib.Core.Bool.{Bool, true, false, cond}
use mathlib.Core.List.{List, [], ◌∷◌, ◌++◌, append-nil, tail-eq_of_cons-eq}
use mathlib.Core.Logic.{◌⊎◌, inl, inr}
use mathlib.Core.Path.{◌≡◌, refl, sym, ap, ap₂, ◌∙◌}
use Prim.Native.Nat.{ℕ, zero, suc, ◌+◌, ◌-◌, ◌*◌, ◌%◌, ◌≤◌, ◌<◌}
use native.Mathlib.Nat.{suc-sub-suc, mul-le-mul_right}
use native.Mathlib.Omega.{arith}
use borrow.Author.Tests.{eqb-true, ne_eqb, eq-eqb}
use lib.Dec.{eqb}
use lib.ListN.{length, take, drop, replicate, length-drop}
use lib.Seq.{take_all, take_at, take-append-le, take-take, length-take-le}
use Rattle.paper.specs.declared.Geometry.{Geometry}
use Rattle.paper.specs.Checksum.{data_crc}
use Rattle.paper.specs.Chip.{round_up, header_size}
use Rattle.paper.specs.Scan.{payloads, present, live}
use Rattle.laws.proofs.Parts.{take_append}
use Rattle.laws.proofs.Rounding.{round_up_ge}
use Rattle.laws.proofs.Sides.{Side, below, above, side}
use Rattle.checksum.proofs.Adjusted.{data_low}
use Rattle.demand3.proofs.Sizes.{item_size}
use Rattle.demand3.proofs.Blank.{blank_is, blank_drop}
use Rattle.demand3.proofs.FreeSpot.{Site, scanned}
use Rattle.demand3.proofs.Item.{padded_slip, item_words, length_padded, item_size_lem}
use Rattle.demand3.proofs.Written.{Writable, serves_blank, paid, paid_fits, behind, new_head}

-- the first m bytes of s, and FF
abbrev begun : List ℕ → ℕ → List ℕ
begun s m = take m s ++ replicate (length s - m) 255

-- where that is s, more bytes of s make no difference
begun_stays : (s : List ℕ) (m k : ℕ) → m ≤ k → begun s m ≡ s → begun s k ≡ s
begun_stays [] m k h e = nothing m k e
  where
    nothing : (m k : ℕ) → begun [] m ≡ [] → begun [] k ≡ []
    nothing m zero e = refl
    nothing m (suc k) e = let z : 0 - suc k ≡ 0 = omega arith in rw z
begun_stays (x ∷ s) zero zero h e = e
begun_stays (x ∷ s) zero (suc k) h e =
    let y : suc (length s) - 0 ≡ suc (length s) = omega arith in
    let z : length s - 0 ≡ length s = omega arith in
    let e₁ : 255 ∷ replicate (length s) 255 ≡ x ∷ s = ap (λ (n : ℕ). replicate n 255) (sym y) ∙ e in
    rw suc-sub-suc (ap (λ (l : List ℕ). x ∷ l) (begun_stays s zero k (omega arith) (rw z (tail-eq_of_cons-eq e₁))))
begun_stays (x ∷ s) (suc m) zero h e = let z : ⊥ = omega arith in absurd z
begun_stays (x ∷ s) (suc m) (suc k) h e =
    rw suc-sub-suc (ap (λ (l : List ℕ). x ∷ l) (begun_stays s m k (omega arith) (rw suc-sub-suc at (tail-eq_of_cons-eq e))))

begun_all : (s : List ℕ) (m : ℕ) → length s ≤ m → begun s m ≡ s
begun_all s m h = let z : length s - m ≡ 0 = omega arith in rw (take_all m s h, z) (append-nil s)

module _ {g : Geometry} {im : List ℕ} {S : Site g im} {slip : List ℕ} (F : Writable S slip) (j : ℕ) (hj : j ≤ item_words g slip) where
  pos : 0 < g.word
  pos = S.inv.good.sized.low

  abbrev m : ℕ
  m = paid F j hj

  body_is : (new_head F j hj).body ≡ begun slip (paid F j hj)
  unfolding new_head behind padded_slip
  body_is = by (side m n)
    where
      n : ℕ
      n = length slip

      Z : List ℕ
      Z = replicate (round_up g.word n - n) 0

      D : List ℕ
      D = drop (header_size g + m) (scanned S).rest

      by : Side m n → take n (take m (slip ++ Z) ++ D) ≡ begun slip m
      by (below l) =
          let t : take m (slip ++ Z) ≡ take m slip = take-append-le m slip Z (omega arith) in
          let lt : length (take m slip) ≡ m = length-take-le m slip (omega arith) in
          let room : n - m ≤ length D = omega (arith, length-drop (header_size g + m) (scanned S).rest, F.room, round_up_ge g.word n pos) in
          ap (λ (x : List ℕ). take n (x ++ D)) t ∙ take_append n (take m slip) D
          ∙ ap₂ (λ (x y : List ℕ). x ++ y) (take_all n (take m slip) (omega arith))
          (ap (λ (x : ℕ). take (n - x) D) lt ∙ blank_is (n - m) D (blank_drop (header_size g + m) (scanned S).rest (serves_blank F)) room)
      by (above l) =
          let X : List ℕ = slip ++ Z in
          let k : length (take m X) ≡ m = length-take-le m X (omega (arith, paid_fits F j hj, length_padded g pos slip)) in
          take-append-le n (take m X) D (omega arith) ∙ take-take n m X l ∙ take_at slip Z n refl ∙ sym (begun_all slip m l)

  pub whole_body : j ≡ item_words g slip → (new_head F j hj).body ≡ slip
  unfolding paid
  whole_body q =
      let jq : j * g.word ≡ item_size g (length slip) = ap (λ (y : ℕ). y * g.word) q ∙ sym (item_size_lem g pos slip) in
      body_is ∙ begun_all slip m (omega (arith, round_up_ge g.word (length slip) pos))

  -- the item is present exactly where its payload passes
  new_present : present (new_head F j hj) ≡ eqb (data_crc (new_head F j hj).body) (data_crc slip)
  unfolding present live new_head
  new_present = rw (ne_eqb (data_crc slip) 0 (λ q. (data_low slip).0 (ap (λ (y : ℕ). y % 256) q)))

  pub slip_payloads : (new_head F j hj).body ≡ slip → payloads (new_head F j hj ∷ []) ≡ slip ∷ []
  unfolding payloads
  slip_payloads z = rw (new_present, z, eq-eqb (data_crc slip) (data_crc slip) refl)

  pub new_payloads : (data_crc (new_head F j hj).body ≡ data_crc slip → (new_head F j hj).body ≡ slip)
      → (payloads (new_head F j hj ∷ []) ≡ []) ⊎ (payloads (new_head F j hj ∷ []) ≡ slip ∷ [])
  unfolding payloads
  new_payloads f = by (eqb (data_crc (new_head F j hj).body) (data_crc slip)) refl
    where
      by : (t : Bool) → eqb (data_crc (new_head F j hj).body) (data_crc slip) ≡ t
          → (payloads (new_head F j hj ∷ []) ≡ []) ⊎ (payloads (new_head F j hj ∷ []) ≡ slip ∷ [])
      by true q = inr (slip_payloads (f (eqb-true (data_crc (new_head F j hj).body) (data_crc slip) q)))
      by false q = inl (rw (new_present, q))

  pub payloads_slip : payloads (new_head F j hj ∷ []) ≡ slip ∷ [] → (new_head F j hj).body ≡ slip
  unfolding payloads
  payloads_slip e = by (present (new_head F j hj)) refl e
    where
      by : (t : Bool) → present (new_head F j hj) ≡ t → cond t ((new_head F j hj).body ∷ []) [] ≡ slip ∷ [] → (new_head F j hj).body ≡ slip
      by true q f = cc
      by false q f = let z : ◌≡◌ {A = ℕ} 0 1 = cc in absurd (omega arith)

-- once the slip stands there, it stays
pub body_stays : {g : Geometry} {im : List ℕ} {S : Site g im} {slip : List ℕ} (F : Writable S slip) (i j : ℕ)
    (hi : i ≤ item_words g slip) (hj : j ≤ item_words g slip) → i ≤ j → (new_head F i hi).body ≡ slip → (new_head F j hj).body ≡ slip
unfolding paid
body_stays {g} {slip = slip} F i j hi hj l e =
    let z : i * g.word ≤ j * g.word = mul-le-mul_right g.word l in
    let p : paid F i hi ≤ paid F j hj = omega arith in
    body_is F j hj ∙ begun_stays slip (paid F i hi) (paid F j hj) p (sym (body_is F i hi) ∙ e)
