-- The check of a shape, row by row: the refusal given is the broken row of the least number. Assumes nothing.
use mathlib.Core.Path.{◌≡◌, refl, sym, ap, ◌∙◌, subst}
use mathlib.Core.Bool.{Bool, true, false, cond}
use mathlib.Core.List.{List, [], ◌∷◌, ◌++◌}
use mathlib.Core.Logic.{◌⊎◌, inl, inr}
use Prim.Native.Nat.{ℕ, suc, ◌+◌, ◌-◌, ◌*◌, ◌/◌, ◌%◌, ◌≤◌, ◌<◌}
use native.Mathlib.Omega.{arith}
use borrow.Author.Tests.{ltb-true, ltb-false, eqb-true, eqb-false}
use lib.Dec.{eqb, ltb}
use lib.ListN.{get_or}
use Rattle.std.specs.Prelude.{Result, Ok, Err}
use Rattle.paper.specs.declared.Shape.{Shape}
use Rattle.paper.specs.declared.Geometry.{Geometry}
use Rattle.paper.specs.declared.Refusal.{Refusal}
use Rattle.paper.specs.declared.Refusal.TheVariants as refusal
use Rattle.paper.specs.Chip.{round_up}
use Rattle.paper.specs.Refusals as paper
use Rattle.paper.specs.Refusals.{Rule, rules, judge, check, allowed_word, geometry_of, page_count, page_limit, page_count_limit}
use Rattle.paper.specs.Calls.{planned, call, plan_of, requested}
use Rattle.demand1.specs.Shapes.{Iff, row_number, Broken, OfShape}
use Rattle.demand1.proofs.Lists.{never}
use Rattle.demand1.proofs.Tests.{Tells, yes, no, tells_eq, tells_lt, tells_or, tells_not, tells_same}

-- ---- numbers of rows

-- the refusals of shapes, from row 9 on
shape_row : ℕ → Refusal
shape_row k =
    let first : List Refusal = refusal.BadGeometry ∷ refusal.StartRangeNotAtPageBoundary ∷ refusal.EndRangeNotAtPageBoundary ∷ refusal.RangeTooSmall ∷ [] in
    let second : List Refusal = refusal.PagesTooSmall ∷ refusal.WordSizeTooLarge ∷ refusal.BadWord ∷ refusal.TooLarge ∷ refusal.OutsideImage ∷ [] in
    get_or (first ++ second) (k - 9) refusal.Cut

module _ (n : ℕ) (s : Shape) where
  broken_row : (q : Refusal) → Broken n s q → (9 ≤ row_number q) × (row_number q < 18) × (shape_row (row_number q) ≡ q)
  unfolding row_number paper.row shape_row
  broken_row refusal.ItemTooBig b = absurd b
  broken_row refusal.FullStorage b = absurd b
  broken_row (refusal.BufferTooSmall k) b = absurd b
  broken_row refusal.Corrupted b = absurd b
  broken_row refusal.Cut b = absurd b
  broken_row refusal.BadGeometry b = (omega arith, omega arith, refl)
  broken_row refusal.StartRangeNotAtPageBoundary b = (omega arith, omega arith, refl)
  broken_row refusal.EndRangeNotAtPageBoundary b = (omega arith, omega arith, refl)
  broken_row refusal.RangeTooSmall b = (omega arith, omega arith, refl)
  broken_row refusal.PagesTooSmall b = (omega arith, omega arith, refl)
  broken_row refusal.WordSizeTooLarge b = (omega arith, omega arith, refl)
  broken_row refusal.BadWord b = (omega arith, omega arith, refl)
  broken_row refusal.TooLarge b = (omega arith, omega arith, refl)
  broken_row refusal.OutsideImage b = (omega arith, omega arith, refl)

  -- ---- rule after rule

  -- the rules of the rows from m up to 17
  data Ruled : ℕ → List Rule → Type 0 where
    none : Ruled 18 []
    row : (m : ℕ) {r : Rule} {rs : List Rule} → r.refusal ≡ shape_row m → row_number r.refusal ≡ m
        → Tells (Broken n s r.refusal) r.broken → Ruled (suc m) rs
        → Ruled m (r ∷ rs)

  ruled : Ruled 9 (rules n s)
  unfolding rules shape_row row_number paper.row allowed_word page_count
  ruled =
      row 9 refl refl (tells_or (tells_or (tells_eq s.page 0) (tells_eq s.word 0)) (tells_not (tells_eq (s.page % s.word) 0)))
      (row 10 refl refl (tells_not (tells_eq (s.start % s.page) 0))
      (row 11 refl refl (tells_not (tells_eq (s.end % s.page) 0))
      (row 12 refl refl (tells_lt s.end (s.start + s.page))
      (row 13 refl refl (tells_lt s.page (3 * s.word + round_up s.word 8))
      (row 14 refl refl (tells_lt 32 s.word)
      (row 15 refl refl (tells_same none_of_lem each_not
      (tells_not (tells_or (tells_or (tells_or (tells_eq s.word 4) (tells_eq s.word 8)) (tells_eq s.word 16))
      (tells_eq s.word 32))))
      (row 16 refl refl (tells_or (tells_lt page_limit s.page) (tells_lt page_count_limit ((s.end - s.start) / s.page)))
      (row 17 refl refl (tells_lt n s.end) none))))))))
    where
      none_of_lem : ((((s.word ≡ 4) ⊎ (s.word ≡ 8)) ⊎ (s.word ≡ 16)) ⊎ (s.word ≡ 32) → ⊥)
          → (s.word ≡ 4 → ⊥) × (s.word ≡ 8 → ⊥) × (s.word ≡ 16 → ⊥) × (s.word ≡ 32 → ⊥)
      none_of_lem f = (λ e. f (inl (inl (inl e))), λ e. f (inl (inl (inr e))), λ e. f (inl (inr e)), λ e. f (inr e))

      each_not : (s.word ≡ 4 → ⊥) × (s.word ≡ 8 → ⊥) × (s.word ≡ 16 → ⊥) × (s.word ≡ 32 → ⊥)
          → (((s.word ≡ 4) ⊎ (s.word ≡ 8)) ⊎ (s.word ≡ 16)) ⊎ (s.word ≡ 32) → ⊥
      each_not f (inl (inl (inl e))) = f.0 e
      each_not f (inl (inl (inr e))) = f.1 e
      each_not f (inl (inr e)) = f.2 e
      each_not f (inr e) = f.3 e

  -- no row before the m-th is broken
  abbrev NoneBefore : ℕ → Type 0
  NoneBefore m = (q : Refusal) → row_number q < m → Broken n s q → ⊥

  data Judged (t : Result Geometry Refusal) : Type 0 where
    accepts : t ≡ Ok (geometry_of s) → ((q : Refusal) → Broken n s q → ⊥) → Judged t
    refuses : (r : Refusal) → t ≡ Err r → Broken n s r → NoneBefore (row_number r) → Judged t

  judged : (m : ℕ) (rs : List Rule) → Ruled m rs → NoneBefore m → Judged (judge s rs)
  unfolding judge
  judged m [] none f = accepts refl (λ q b. f q (broken_row q b).1 b)
  judged m (r ∷ rs) (row k x y t h) f = by r.broken t (judged (suc m) rs h)
    where
      -- the m-th row is this one
      is_row : (q : Refusal) → Broken n s q → row_number q ≡ m → q ≡ r.refusal
      is_row q b e = sym (broken_row q b).2 ∙ ap shape_row e ∙ sym x

      by : (t : Bool) → Tells (Broken n s r.refusal) t → (NoneBefore (suc m) → Judged (judge s rs)) → Judged (cond t (Err r.refusal) (judge s rs))
      by true (yes b) g = refuses r.refusal refl b (λ q l. f q (omega arith))
      by false (no b) g = g (λ q l c. on q c (eqb (row_number q) m) refl l)
        where
          on : (q : Refusal) → Broken n s q → (t : Bool) → eqb (row_number q) m ≡ t → row_number q < suc m → ⊥
          on q c true e l = b (subst (Broken n s) (is_row q c (eqb-true (row_number q) m e)) c)
          on q c false e l = f q (omega (arith, eqb-false (row_number q) m e)) c

  check_judged : Judged (check n s)
  unfolding check
  check_judged = judged 9 (rules n s) ruled (λ q l b. let z : ⊥ = omega (arith, (broken_row q b).0) in z)

  pub check_refuses : (r : Refusal) → Iff (check n s ≡ Err r) (Broken n s r × NoneBefore (row_number r))
  check_refuses r = by check_judged
    where
      by : Judged (check n s) → Iff (check n s ≡ Err r) (Broken n s r × NoneBefore (row_number r))
      by (accepts e f) = (λ q. never (cc), λ k. absurd (f r k.0))
      by (refuses x e b f) = (
        λ q. let z : x ≡ r = cc in subst (λ (y : Refusal). Broken n s y × NoneBefore (row_number y)) z (b, f),
        λ k. e ∙ ap Err (one k (eqb (row_number x) (row_number r)) refl),
      )
        where
          one : Broken n s r × NoneBefore (row_number r) → (t : Bool) → eqb (row_number x) (row_number r) ≡ t → x ≡ r
          one k true q = sym (broken_row x b).2 ∙ ap shape_row (eqb-true (row_number x) (row_number r) q) ∙ (broken_row r k.0).2
          one k false q = on (ltb (row_number x) (row_number r)) refl
            where
              on : (t : Bool) → ltb (row_number x) (row_number r) ≡ t → x ≡ r
              on true l = absurd (k.1 x (ltb-true (row_number x) (row_number r) l) b)
              on false l = absurd (f r (omega (arith, ltb-false (row_number x) (row_number r) l, eqb-false (row_number x) (row_number r) q)) k.0)

  pub check_accepts : (g : Geometry) → Iff (check n s ≡ Ok g) ((geometry_of s ≡ g) × ((r : Refusal) → Broken n s r → ⊥))
  check_accepts g = by check_judged
    where
      by : Judged (check n s) → Iff (check n s ≡ Ok g) ((geometry_of s ≡ g) × ((r : Refusal) → Broken n s r → ⊥))
      by (accepts e f) = (λ q. (cc, f), λ k. e ∙ ap Ok k.0)
      by (refuses x e b f) = (λ q. never (cc), λ k. absurd (k.1 x b))

pub of_shape : OfShape
unfolding requested call
of_shape = record {
  refuses = check_refuses;
  accepts = check_accepts;
  answered = λ s im c r e. ap (λ (t : Result Geometry Refusal). (planned t (λ g. plan_of g im c)).answer) e;
  unchanged = λ s im c r e. ap (λ (t : Result Geometry Refusal). (planned t (λ g. plan_of g im c)).events) e;
}
