-- One step of the walk from an address, by what the code read there. Assumes nothing.
use mathlib.Core.Path.{◌≡◌, refl, sym, ap, ap₂, ◌∙◌}
use mathlib.Core.List.{List, [], ◌∷◌, ◌++◌}
use Prim.Native.Nat.{ℕ, zero, suc, ◌+◌, ◌-◌, ◌≤◌, ◌<◌}
use native.Mathlib.Omega.{arith}
use lib.ListN.{length, drop}
use Rattle.std.specs.Prelude.{Option, Some, None, Result, Ok, Err}
use Rattle.paper.specs.declared.Geometry.{Geometry}
use Rattle.paper.specs.Chip.{round_up, header_size, part}
use Rattle.paper.specs.Slip.{stop, bad, item, look}
use Rattle.paper.specs.Scan.{Head, Walk, onward, walk}
use Rattle.laws.proofs.Parts.{part_part, length_part}
use Rattle.laws.proofs.Rounding.{round_up_ge}
use Rattle.chip.specs.declared.Corrupted.{Corrupted}
use Rattle.item.specs.declared.ItemHeader.{ItemHeader}
use Rattle.item.specs.Places.{after, Inside}
use Rattle.item.specs.Headers.{look_as, HeaderIs}
use Rattle.item.specs.Reading.{head_at}
use Rattle.item.specs.Scanning.{walk_from}
use Rattle.item.proofs.Parts.{drop_part}
use Rattle.item.proofs.Looking.{bad_in, item_in}

-- ---- the paper's walk, from bytes d at address a

walk_skip : (g : Geometry) (k a : ℕ) (d : List ℕ) → walk g k a d ≡ walk g 0 (a + k) (drop k d)
unfolding walk
walk_skip g zero a [] = refl
walk_skip g (suc k) a [] = refl
walk_skip g zero a (b ∷ bs) = let e : a + 0 ≡ a = omega arith in rw e
walk_skip g (suc k) a (b ∷ bs) = let e : a + suc k ≡ suc a + k = omega arith in rw e (walk_skip g k (suc a) bs)

skipped : (g : Geometry) (n a b : ℕ) (bs : List ℕ) → 0 < n → walk g (n - 1) (suc a) bs ≡ walk g 0 (a + n) (drop n (b ∷ bs))
skipped g zero a b bs h = absurd (omega arith)
skipped g (suc n) a b bs h =
    let e : suc n - 1 ≡ n = omega arith in
    let f : suc a + n ≡ a + suc n = omega arith in
    rw e (walk_skip g n (suc a) bs ∙ ap (λ (x : ℕ). walk g 0 x (drop n bs)) f)

-- a walk whose first headers are hs, and that then goes as the walk v
record Begins (w : Walk) (hs : List Head) (v : Walk) : Type 0 where
  heads : w.heads ≡ hs ++ v.heads
  rest : w.rest ≡ v.rest

module _ (g : Geometry) (a : ℕ) where
  at_stop : (d : List ℕ) → look g d ≡ stop → walk g 0 a d ≡ record { heads = []; refused = []; rest = d }
  unfolding walk onward
  at_stop [] e = refl
  at_stop (b ∷ bs) e = rw e

  at_bad : (d : List ℕ) → look g d ≡ bad → 0 < length d → 0 < g.word
      → Begins (walk g 0 a d) [] (walk g 0 (a + g.word) (drop g.word d))
  unfolding walk onward
  at_bad [] e l h = absurd (omega arith)
  at_bad (b ∷ bs) e l h =
      let s = skipped g g.word a b bs h in
      record { heads = (rw e (ap (λ (w : Walk). w.heads) s)); rest = (rw e (ap (λ (w : Walk). w.rest) s)) }

  at_item : (d : List ℕ) (crc len : ℕ) (body : List ℕ) → look g d ≡ item crc len body → 0 < length d
      → (m : ℕ) → m ≡ header_size g + round_up g.word len → 0 < m
      → Begins (walk g 0 a d) (record { place = a; crc = crc; len = len; body = body } ∷ []) (walk g 0 (a + m) (drop m d))
  unfolding walk onward
  at_item [] crc len body e l m q h = absurd (omega arith)
  at_item (b ∷ bs) crc len body e l m q h =
      let s : walk g (header_size g + round_up g.word len - 1) (suc a) bs ≡ walk g 0 (a + m) (drop m (b ∷ bs)) =
      ap (λ (x : ℕ). walk g (x - 1) (suc a) bs) (sym q) ∙ skipped g m a b bs h in
      record {
        heads = (rw e (ap (λ (w : Walk). record { place = a; crc = crc; len = len; body = body } ∷ w.heads) s));
        rest = (rw e (ap (λ (w : Walk). w.rest) s));
      }

-- ---- the walk from an address to the end of the data

-- the walk from a meets the headers hs, and then goes as the walk from b
pub record Passes (g : Geometry) (im : List ℕ) (e a : ℕ) (hs : List Head) (b : ℕ) : Type 0 where
  pub past : a < b
  pub fits : b ≤ e
  pub heads : (walk_from g im e a).heads ≡ hs ++ (walk_from g im e b).heads
  pub rest : (walk_from g im e a).rest ≡ (walk_from g im e b).rest

-- it ends at a
pub record Ends (g : Geometry) (im : List ℕ) (e a : ℕ) : Type 0 where
  pub heads : (walk_from g im e a).heads ≡ []
  pub rest : a + length (walk_from g im e a).rest ≡ e

pub inside_on : {g : Geometry} {n a e b : ℕ} → Inside g n a e → b ≤ e → Inside g n b e
inside_on h l = record { good = h.good; order = l; ends = h.ends }

module _ {g : Geometry} (im : List ℕ) {a e : ℕ} (inside : Inside g (length im) a e) (r : Result (Option ItemHeader) Corrupted)
    (h : HeaderIs g (part a (e - a) im) r) where
  size : length (part a (e - a) im) ≡ e - a
  size = length_part a (e - a) im (omega arith)

  told : (x : Result (Option ItemHeader) Corrupted) → r ≡ x → look g (part a (e - a) im) ≡ look_as g (part a (e - a) im) x
  told x q = sym h ∙ ap (look_as g (part a (e - a) im)) q

  pub from_stop : {o : Option ItemHeader} → r ≡ Ok o → o ≡ None → Ends g im e a
  from_stop q n =
      let s = at_stop g a (part a (e - a) im) (told (Ok None) (q ∙ ap Ok n)) in
      record { heads = ap (λ (w : Walk). w.heads) s; rest = omega (arith, ap (λ (w : Walk). length w.rest) s, size) }

  pub from_bad : (x : Corrupted) → r ≡ Err x → {b : ℕ} → b ≡ a + g.word → Passes g im e a [] b
  from_bad x q {b} eb =
      let t = told (Err x) q in
      let o = inside.good in
      let l = bad_in g (part a (e - a) im) t in
      let s = at_bad g a (part a (e - a) im) t (omega (arith, size)) (omega arith) in
      let w : walk g 0 (a + g.word) (drop g.word (part a (e - a) im)) ≡ walk_from g im e b =
      ap (walk g 0 (a + g.word)) (drop_part im a e g.word) ∙ ap (walk_from g im e) (sym eb) in
      record {
        past = omega arith;
        fits = omega (arith, size);
        heads = s.heads ∙ ap (λ (v : Walk). v.heads) w;
        rest = s.rest ∙ ap (λ (v : Walk). v.rest) w;
      }

  pub from_item : (x : ItemHeader) {o : Option ItemHeader} → r ≡ Ok o → o ≡ Some x → {b : ℕ} → b ≡ after g a x.length
      → Passes g im e a (head_at g im a x ∷ []) b
  from_item x q n {b} eb =
      let m : ℕ = header_size g + round_up g.word x.length in
      let t = told (Ok (Some x)) (q ∙ ap Ok n) in
      let o = inside.good in
      let l = item_in g (part a (e - a) im) x.crc x.length _ t in
      let s = at_item g a (part a (e - a) im) x.crc x.length _ t (omega (arith, size)) m refl (omega arith) in
      let u : a + m ≡ b = omega arith in
      let w : walk g 0 (a + m) (drop m (part a (e - a) im)) ≡ walk_from g im e b =
      ap (walk g 0 (a + m)) (drop_part im a e m) ∙ ap (walk_from g im e) u in
      let y : part (header_size g) x.length (part a (e - a) im) ≡ part (a + header_size g) x.length im =
      part_part a (e - a) (header_size g) x.length im (omega (arith, size, round_up_ge g.word x.length (omega arith))) in
      record {
        past = omega arith;
        fits = omega (arith, size);
        heads = s.heads ∙ ap₂ (λ (z : List ℕ) (v : Walk). record { place = a; crc = x.crc; len = x.length; body = z } ∷ v.heads) y w;
        rest = s.rest ∙ ap (λ (v : Walk). v.rest) w;
      }
