-- What is known of a geometry that the check accepts. Assumes nothing.
use mathlib.Core.Bool.{Bool, true, false, cond, not, ◌||◌, true≢false}
use mathlib.Core.List.{List, [], ◌∷◌}
use mathlib.Core.Path.{◌≡◌, refl, subst}
use Prim.Native.Nat.{ℕ, ◌+◌, ◌-◌, ◌*◌, ◌/◌, ◌%◌, ◌≤◌, ◌<◌, ◌∣◌}
use native.Mathlib.Nat.{dvd_trans, dvd-sub, dvd_of_mod-eq-zero, div-mul_cancel, le-div_iff_mul-le}
use native.Mathlib.Omega.{arith}
use borrow.Author.Tests.{ltb-false, eqb-true, eqb-false, not-false}
use lib.Dec.{eqb, ltb}
use Rattle.std.specs.Prelude.{Ok, Err}
use Rattle.paper.specs.declared.Geometry.{Geometry}
use Rattle.paper.specs.declared.Shape.{Shape}
use Rattle.paper.specs.Chip.{round_up, header_size, range_end}
use Rattle.paper.specs.Refusals.{Rule, rules, judge, check, allowed_word, geometry_of, page_count, word_limit, page_limit, page_count_limit}
use Rattle.laws.specs.Sized.{Sized}

-- words of 4, and wider ones, which hold a header each
pub data Word (w : ℕ) : Type 0 where
  four : w ≡ 4 → Word w
  wide : 8 ≤ w → Word w

-- a geometry laid over an image of n bytes
pub record Laid (g : Geometry) (n : ℕ) : Type 0 where
  pub sized : Sized g
  pub word : Word g.word
  pub aligned : g.word ∣ g.start
  pub ends : range_end g ≤ n

-- and the shape that it came from
pub record From (s : Shape) (g : Geometry) (n : ℕ) : Type 0 where
  pub laid : Laid g n
  pub starts_at : g.start ≡ s.start
  pub ends_at : range_end g ≡ s.end

-- ---- no rule is broken

abbrev Kept : List Rule → Type 0
Kept [] = Unit {0}
Kept (r ∷ rs) = (r.broken ≡ false) × Kept rs

kept : (s : Shape) (rs : List Rule) (g : Geometry) → judge s rs ≡ Ok g → (geometry_of s ≡ g) × Kept rs
unfolding judge
kept s [] g e = (cc, tt)
kept s (r ∷ rs) g e = by r.broken refl e (kept s rs g)
  where
    by : (t : Bool) → r.broken ≡ t → cond t (Err r.refusal) (judge s rs) ≡ Ok g → (judge s rs ≡ Ok g → (geometry_of s ≡ g) × Kept rs)
        → (geometry_of s ≡ g) × ((r.broken ≡ false) × Kept rs)
    by true b e f = absurd (let z : ◌≡◌ {A = ℕ} 0 1 = cc in omega arith)
    by false b e f = let k = f e in (k.0, (b, k.1))

pub neither : (a b : Bool) → (a || b) ≡ false → (a ≡ false) × (b ≡ false)
neither true b e = absurd (true≢false e)
neither false b e = (refl, e)

word_of : (w : ℕ) → not (allowed_word w) ≡ false → Word w
unfolding allowed_word
word_of w e = by (eqb w 4) (eqb w 8) (eqb w 16) (eqb w 32) refl refl refl refl e
  where
    by : (a b c d : Bool) → eqb w 4 ≡ a → eqb w 8 ≡ b → eqb w 16 ≡ c → eqb w 32 ≡ d → not (a || b || c || d) ≡ false → Word w
    by true b c d p q r s t = four (eqb-true w 4 p)
    by false true c d p q r s t = wide (omega (arith, eqb-true w 8 q))
    by false false true d p q r s t = wide (omega (arith, eqb-true w 16 r))
    by false false false true p q r s t = wide (omega (arith, eqb-true w 32 s))
    by false false false false p q r s t = let z : ◌≡◌ {A = ℕ} 0 1 = cc in absurd (omega arith)

word_positive : {w : ℕ} → Word w → 0 < w
word_positive (four e) = omega arith
word_positive (wide h) = omega arith

module _ (n : ℕ) (s : Shape) where
  divides : (a b : ℕ) → not (eqb (a % b) 0) ≡ false → b ∣ a
  divides a b e = dvd_of_mod-eq-zero b (eqb-true (a % b) 0 (not-false (eqb (a % b) 0) e))

  laid_out : Kept (rules n s) → From s (geometry_of s) n
  unfolding rules geometry_of page_count header_size range_end
  laid_out k =
      let a = neither (eqb s.page 0 || eqb s.word 0) (not (eqb (s.page % s.word) 0)) k.0 in
      let b = neither (eqb s.page 0) (eqb s.word 0) a.0 in
      let c = neither (ltb page_limit s.page) (ltb page_count_limit (page_count s)) k.1.1.1.1.1.1.1.0 in
      let page : 0 < s.page = omega (arith, eqb-false s.page 0 b.0) in
      let long : s.start + s.page ≤ s.end = ltb-false s.end (s.start + s.page) k.1.1.1.0 in
      let inside : s.end ≤ n = ltb-false n s.end k.1.1.1.1.1.1.1.1.0 in
      let word : Word s.word = word_of s.word k.1.1.1.1.1.1.0 in
      let whole : s.word ∣ s.page = divides s.page s.word a.1 in
      let start : s.page ∣ s.start = divides s.start s.page k.1.0 in
      let end : s.page ∣ s.end = divides s.end s.page k.1.1.0 in
      let exact : (s.end - s.start) / s.page * s.page ≡ s.end - s.start =
      div-mul_cancel s.page {m = s.end - s.start} (dvd-sub s.page end start) in
      record {
        laid = record {
          sized = record {
            low = word_positive word;
            high = ltb-false word_limit s.word k.1.1.1.1.1.0;
            whole = whole;
            room = ltb-false s.page (3 * s.word + round_up s.word 8) k.1.1.1.1.0;
            small = ltb-false page_limit s.page c.0;
            some = (le-div_iff_mul-le {k = s.page} {x = 1} {y = s.end - s.start} page).1 (omega arith);
            few = ltb-false page_count_limit (page_count s) c.1;
          };
          word = word;
          aligned = dvd_trans s.word whole start;
          ends = omega arith;
        };
        starts_at = refl;
        ends_at = omega arith;
      }

  module _ (g : Geometry) (e : check n s ≡ Ok g) where
    pub accepted_is : geometry_of s ≡ g
    unfolding check
    accepted_is = (kept s (rules n s) g e).0

    pub accepted_from : From s g n
    unfolding check
    accepted_from = subst (λ (x : Geometry). From s x n) accepted_is (laid_out (kept s (rules n s) g e).1)
