-- Rounding to words of w bytes, for every w but 0: up goes to the least multiple from n on, down to the greatest up to n. Assumes nothing.
use mathlib.Core.Path.{◌≡◌, refl, sym, ap, ap₂, ◌∙◌}
use mathlib.Core.Bool.{Bool, true, false}
use Prim.Native.Nat.{ℕ, suc, ◌+◌, ◌-◌, ◌*◌, ◌/◌, ◌≤◌, ◌<◌}
use native.Mathlib.Numerals.{add-one}
use native.Mathlib.Nat.{suc-mul, mul_comm, mul-sub, mul-le-mul_right, add-div_right, div-eq_of_lt, div-mul-le_self, lt-div-mul-add, div-lt_iff_lt-mul}
use native.Mathlib.Omega.{arith}
use borrow.Author.Tests.{leb-true, leb-false}
use lib.Dec.{leb}
use Rattle.paper.specs.Chip.{words_for, round_up, round_down}
use Rattle.paper.specs.Refusals.{word_limit}

pub sub_mul : (a b w : ℕ) → (a - b) * w ≡ a * w - b * w
sub_mul a b w = mul_comm (a - b) w ∙ mul-sub w a b ∙ ap₂ (λ (x y : ℕ). x - y) (mul_comm w a) (mul_comm w b)

-- ---- word by word

pub words_none : (w : ℕ) → 0 < w → words_for w 0 ≡ 0
unfolding words_for
words_none w h = div-eq_of_lt (omega arith)

pub words_step : (w n : ℕ) → 0 < w → 0 < n → words_for w n ≡ suc (words_for w (n - w))
unfolding words_for
words_step w n h p = go (leb w n) refl
  where
    go : (t : Bool) → leb w n ≡ t → (n + (w - 1)) / w ≡ suc ((n - w + (w - 1)) / w)
    go true q =
        let l : w ≤ n = leb-true w n q in
        let e : n + (w - 1) ≡ (n - w + (w - 1)) + w = omega arith in
        rw e (add-div_right (n - w + (w - 1)) h ∙ add-one ((n - w + (w - 1)) / w))
    go false q =
        let l : n < w = leb-false w n q in
        let e : n + (w - 1) ≡ (n - 1) + w = omega arith in
        let z : n - w + (w - 1) ≡ w - 1 = omega arith in
        let x : (n - 1) / w ≡ 0 = div-eq_of_lt (omega arith) in
        let y : (w - 1) / w ≡ 0 = div-eq_of_lt (omega arith) in
        rw (e, z) (add-div_right (n - 1) h ∙ add-one ((n - 1) / w) ∙ ap suc (x ∙ sym y))

pub round_up_step : (w n : ℕ) → 0 < w → 0 < n → round_up w n ≡ w + round_up w (n - w)
unfolding round_up
round_up_step w n h p = rw (words_step w n h p) (omega (arith, suc-mul (words_for w (n - w)) w))

-- ---- up

pub round_up_ge : (w n : ℕ) → 0 < w → n ≤ round_up w n
unfolding round_up words_for
round_up_ge w n h = omega (arith, lt-div-mul-add {a = n + (w - 1)} h)

pub round_up_lt : (w n : ℕ) → 0 < w → round_up w n < n + w
unfolding round_up words_for
round_up_lt w n h = omega (arith, div-mul-le_self (n + (w - 1)) w)

-- what fits into whole words fits rounded up
pub round_up_fits : (w n m : ℕ) → 0 < w → n ≤ m * w → round_up w n ≤ m * w
unfolding round_up words_for
round_up_fits w n m h l =
    let q : (n + (w - 1)) / w < suc m = (div-lt_iff_lt-mul h).1 (omega (arith, suc-mul m w)) in
    mul-le-mul_right {m = (n + (w - 1)) / w} {n = m} w (omega arith)

pub round_up_whole : (w m : ℕ) → 0 < w → round_up w (m * w) ≡ m * w
round_up_whole w m h = omega (arith, round_up_ge w (m * w) h, round_up_fits w (m * w) m h (omega arith))

pub round_up_again : (w n : ℕ) → 0 < w → round_up w (round_up w n) ≡ round_up w n
unfolding round_up
round_up_again w n h = round_up_whole w (words_for w n) h

-- ---- down

pub round_down_le : (w n : ℕ) → round_down w n ≤ n
unfolding round_down
round_down_le w n = div-mul-le_self n w

pub round_down_gt : (w n : ℕ) → 0 < w → n < round_down w n + w
unfolding round_down
round_down_gt w n h = lt-div-mul-add {a = n} h

-- ---- both

-- what fits behind whole words into whole words fits there rounded up
pub round_up_behind : (w m n r : ℕ) → 0 < w → round_up w m + n ≤ round_down w r → round_up w m + round_up w n ≤ round_down w r
unfolding round_up round_down
round_up_behind w m n r h l = go (words_for w m) (r / w) l
  where
    go : (j k : ℕ) → j * w + n ≤ k * w → j * w + round_up w n ≤ k * w
    go j k l =
        let z : (k - j) * w ≡ k * w - j * w = sub_mul k j w in
        omega (arith, round_up_fits w n (k - j) h (omega arith))

-- ---- the header's size

-- by any word up to 32 bytes
pub record HeaderIn (w h : ℕ) : Type 0 where
  pub low : 8 ≤ h
  pub high : h ≤ word_limit
  pub word : w ≤ h

pub header_in : (w : ℕ) → 0 < w → w ≤ word_limit → HeaderIn w (round_up w 8)
header_in w h l =
    let s : round_up w 8 ≡ w + round_up w (8 - w) = round_up_step w 8 h (omega arith) in
    record { low = round_up_ge w 8 h; high = go (leb 8 w) refl; word = omega arith }
  where
    go : (t : Bool) → leb 8 w ≡ t → round_up w 8 ≤ word_limit
    go true e =
        let k : 8 ≤ w = leb-true 8 w e in
        omega (arith, round_up_fits w 8 1 h (omega arith))
    go false e = omega (arith, leb-false 8 w e, round_up_lt w 8 h)
