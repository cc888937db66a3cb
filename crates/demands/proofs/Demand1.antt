-- Demand 1 of the public calls. Assumes nothing.
use mathlib.Core.Path.{◌≡◌, refl, sym, ap, ◌∙◌}
use mathlib.Core.List.{List, []}
use Prim.Native.Nat.{ℕ, ◌<◌}
use native.Mathlib.Omega.{arith}
use lib.ListN.{length}
use Rattle.std.specs.Prelude.{Err}
use Rattle.paper.specs.declared.Shape.{Shape}
use Rattle.paper.specs.declared.Refusal.{Refusal}
use Rattle.paper.specs.declared.Refusal.TheVariants as refusal
use Rattle.paper.specs.Chip.{image_after, store_count, Plan}
use Rattle.paper.specs.Refusals.{geometry_of, check, Answer, refused}
use Rattle.paper.specs.Calls.{Call, requested, limited}
use Rattle.paper.specs.Fifo.{buffer_of}
use Rattle.demand1.specs.Range.{Outside, Agree, image_limit, buffer_limit}
use Rattle.demand1.specs.Shapes.{Iff}
use Rattle.demand1.proofs.Demand1.{demand1}
use Rattle.demands.specs.Histories.{Lent, Form, unlimited, within, Promised}
use Rattle.demands.specs.Demands.{Demand1OfCalls}
use Rattle.demands.proofs.Contracts.{formed, whole_of, buffer_of_lem}

module _ (s : Shape) (i o e : List ℕ) (x : Answer) where
  pub outside_of : (f : Form) (c : Call) → Promised s f c i o e x → Outside s i o
  outside_of unlimited c h = rw (whole_of s i o e x unlimited c h).image (demand1.in_range.outside_whole s i c)
  outside_of (within k) c h = rw (whole_of s i o e x (within k) c h).image (demand1.in_range.outside_limited k s i c)

-- ---- the limit

-- a whole call has as many stores as it needs
limit_of : Form → Plan Answer → ℕ
limit_of unlimited p = store_count p.events
limit_of (within k) p = k

as_limited : (f : Form) (p : Plan Answer) → formed f p ≡ limited (limit_of f p) p
unfolding limit_of
as_limited unlimited p = sym (demand1.rows.of_cut.whole (store_count p.events) p (λ l. omega arith))
as_limited (within k) p = refl

-- what makes no store is not cut
uncut : (f : Form) (p : Plan Answer) → p.events ≡ [] → formed f p ≡ p
unfolding store_count
uncut unlimited p n = refl
uncut (within k) p n = demand1.rows.of_cut.whole k p (λ l. let z = ap store_count n in omega arith)

-- ---- each of its parts

module _ (s : Shape) (f : Form) (c : Call) (i o e : List ℕ) (x : Answer) (h : Promised s f c i o e x) where
  shape_of : (r : Refusal) → check (length i) s ≡ Err r → (x ≡ refused r) × (o ≡ i)
  unfolding image_after
  shape_of r q =
      let w = whole_of s i o e x f c h in
      let n = demand1.of_shape.unchanged s i c r q in
      let u = uncut f (requested s i c) n in
      (w.answer ∙ ap (λ (p : Plan Answer). p.answer) u ∙ demand1.of_shape.answered s i c r q, w.image ∙ rw (u, n))

  cut_of : Iff (x ≡ refused refusal.Cut) ((k : ℕ) × (f ≡ within k) × (k < store_count (requested s i c).events))
  unfolding limit_of
  cut_of = (λ q. by f refl (sym said ∙ q), λ t. said ∙ back t)
    where
      said : x ≡ (limited (limit_of f (requested s i c)) (requested s i c)).answer
      said = (whole_of s i o e x f c h).answer ∙ ap (λ (p : Plan Answer). p.answer) (as_limited f (requested s i c))

      by : (g : Form) → f ≡ g → (limited (limit_of g (requested s i c)) (requested s i c)).answer ≡ refused refusal.Cut
          → (k : ℕ) × (f ≡ within k) × (k < store_count (requested s i c).events)
      by unlimited u q = let l = (demand1.rows.of_cut.answered (store_count (requested s i c).events) s i c).0 q in absurd (omega arith)
      by (within k) u q = (k, u, (demand1.rows.of_cut.answered k s i c).0 q)

      back : (k : ℕ) × (f ≡ within k) × (k < store_count (requested s i c).events)
          → (limited (limit_of f (requested s i c)) (requested s i c)).answer ≡ refused refusal.Cut
      back t = rw t.1 ((demand1.rows.of_cut.answered t.0 s i c).1 t.2)

  module _ (j p d : List ℕ) (y : Answer) (A : Agree s i j) (k : Promised s f c j p d y) where
    same : requested s i c ≡ requested s j c
    same = demand1.in_range.no_say s i j A c

    image_of_lem : (l q m : List ℕ) (z : Answer) → Promised s f c l q m z → q ≡ image_limit (limit_of f (requested s l c)) s l c
    image_of_lem l q m z t =
        (whole_of s l q m z f c t).image ∙ ap (λ (r : Plan Answer). image_after (geometry_of s) r.events l) (as_limited f (requested s l c))

    buffer_is : (l q m : List ℕ) (z : Answer) → Promised s f c l q m z → Lent c → m ≡ buffer_limit (limit_of f (requested s l c)) s l c (buffer_of c)
    buffer_is l q m z t n = buffer_of_lem s l q m z f c t n ∙ rw (as_limited f (requested s l c))

    no_say_of : (x ≡ y) × Agree s o p × (Lent c → e ≡ d)
    no_say_of =
        let m : ℕ = limit_of f (requested s i c) in
        let u : limit_of f (requested s j c) ≡ m = ap (limit_of f) (sym same) in
        let q : p ≡ image_limit m s j c = image_of_lem j p d y k ∙ ap (λ (n : ℕ). image_limit n s j c) u in
        let b : Lent c → d ≡ buffer_limit m s j c (buffer_of c) = λ n. buffer_is j p d y k n ∙ ap (λ (l : ℕ). buffer_limit l s j c (buffer_of c)) u in (
          (whole_of s i o e x f c h).answer ∙ ap (λ (r : Plan Answer). (formed f r).answer) same ∙ sym (whole_of s j p d y f c k).answer,
          rw (image_of_lem i o e x h, q) (demand1.in_range.no_say_image m s i j A c),
          λ n. buffer_is i o e x h n ∙ demand1.in_range.no_say_buffer m s i j A c (buffer_of c) ∙ sym (b n),
        )

pub demand1_of_calls : Demand1OfCalls
demand1_of_calls s f c i o e x h = record {
  outside = outside_of s i o e x f c h;
  shape = shape_of s f c i o e x h;
  cut = cut_of s f c i o e x h;
  no_say = no_say_of s f c i o e x h;
}
