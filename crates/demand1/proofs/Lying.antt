-- Events that lie in the range: they leave what is outside, and do the same to images that are alike in it. Assumes nothing.
use mathlib.Core.Path.{◌≡◌, refl, sym, ap, ◌∙◌}
use mathlib.Core.List.{List, [], ◌∷◌}
use Prim.Native.Nat.{ℕ, ◌+◌, ◌-◌, ◌*◌, ◌≤◌, ◌<◌}
use native.Mathlib.Omega.{arith}
use lib.ListN.{length, take, drop, replicate, length-drop, length-replicate}
use Rattle.paper.specs.declared.Geometry.{Geometry}
use Rattle.paper.specs.Chip.{page_start, range_end, page_bytes, part, Event, store, erase, copy, put, ands, image_by, image_after, buffer_by, buffer_after}
use Rattle.laws.proofs.Accepted.{Laid}
use Rattle.laws.proofs.Ands.{ands_length, ands_take}
use Rattle.laws.proofs.Parts.{parts_same}
use Rattle.laws.proofs.Places.{page_in}
use Rattle.laws.proofs.Puts.{put_nil, length_put, take_before, drop_after, part_around}
use Rattle.demand1.specs.Range.{Lies, Each}
use Rattle.demand1.proofs.Pages.{layout}

-- the range's bytes
abbrev range : Geometry → List ℕ → List ℕ
range g im = part g.start (g.pages * g.page) im

-- two images that hold the range and agree on it; n is the length of the first
pub record Alike (g : Geometry) (n : ℕ) (im jm : List ℕ) : Type 0 where
  pub long : length im ≡ n
  pub also : range_end g ≤ length jm
  pub same : range g im ≡ range g jm

-- what an event does to two images: both get the same bytes in the same place of the range
record Puts (g : Geometry) (e : Event) (im jm : List ℕ) : Type 0 where
  pub place : ℕ
  pub bytes : List ℕ
  pub one : image_by g e im ≡ put place bytes im
  pub two : image_by g e jm ≡ put place bytes jm
  pub low : g.start ≤ place
  pub high : place + length bytes ≤ range_end g

-- what events leave as it was
pub record Frame (g : Geometry) (im jm : List ℕ) : Type 0 where
  pub size : length jm ≡ length im
  pub below : take g.start jm ≡ take g.start im
  pub above : (m : ℕ) → range_end g ≤ m → drop m jm ≡ drop m im

pub range_end_lem : (g : Geometry) → range_end g ≡ g.start + g.pages * g.page
unfolding range_end
range_end_lem g = refl

module _ {g : Geometry} {n : ℕ} (S : Laid g n) where
  alike_part : (im jm : List ℕ) → Alike g n im jm → (a m : ℕ) → g.start ≤ a → a + m ≤ range_end g → part a m im ≡ part a m jm
  alike_part im jm A a m l h = parts_same g.start (g.pages * g.page) im jm A.same a m l (omega (arith, range_end_lem g))

  pub alike_page : (im jm : List ℕ) → Alike g n im jm → (p : ℕ) → p < g.pages → page_bytes g im p ≡ page_bytes g jm p
  unfolding page_bytes
  alike_page im jm A p h = alike_part im jm A (page_start g p) g.page (layout S p).start_low (page_in g p h)

  module _ {im jm : List ℕ} (A : Alike g n im jm) where
    puts : (e : Event) → Lies g e → Puts g e im jm
    unfolding image_by
    puts (store a word) h =
        let w : length word ≡ g.word = h.0 in
        let v = A.long in
        let k : length word ≤ length (drop a im) = omega (arith, length-drop a im, h.3, S.ends) in
        record {
          place = a;
          bytes = ands (drop a im) word;
          one = refl;
          two = ap (λ (x : List ℕ). put a x jm) (sym (ands_take (drop a jm) word) ∙ ap (λ (x : List ℕ). ands x word)
              (sym (alike_part im jm A a (length word) h.2 (omega (arith, h.3)))) ∙ ands_take (drop a im) word);
          low = h.2;
          high = omega (arith, ands_length (drop a im) word k, h.3);
        }
    puts (erase p) h = record {
      place = page_start g p;
      bytes = replicate g.page 0xff;
      one = refl;
      two = refl;
      low = (layout S p).start_low;
      high = omega (arith, length-replicate {A = ℕ} g.page 0xff, page_in g p h);
    }
    puts (copy a m) h = record {
      place = g.start;
      bytes = [];
      one = sym (put_nil g.start im);
      two = sym (put_nil g.start jm);
      low = omega arith;
      high = omega (arith, range_end_lem g);
    }

    alike_by : (e : Event) → Lies g e → Alike g n (image_by g e im) (image_by g e jm)
    alike_by e h =
        let P = puts e h in
        let s : ℕ = P.place - g.start in
        let z : g.start + s ≡ P.place = omega (arith, P.low) in
        let k : P.place + length P.bytes ≤ length im = omega (arith, P.high, S.ends, A.long) in
        let l : P.place + length P.bytes ≤ length jm = omega (arith, P.high, A.also) in
        let at : (x : List ℕ) → range_end g ≤ length x → range g (put P.place P.bytes x) ≡ put s P.bytes (range g x) =
        λ x h. ap (λ (a : ℕ). range g (put a P.bytes x)) (sym z)
        ∙ part_around g.start (g.pages * g.page) s P.bytes x (omega (arith, range_end_lem g, h)) (omega (arith, range_end_lem g, P.high, P.low)) in
        record {
          long = ap length P.one ∙ length_put P.place P.bytes im k ∙ A.long;
          also = omega (arith, A.also, ap length P.two, length_put P.place P.bytes jm l);
          same = ap (range g) P.one ∙ at im (omega (arith, S.ends, A.long)) ∙ ap (put s P.bytes) A.same
              ∙ sym (at jm A.also) ∙ ap (range g) (sym P.two);
        }

  pub alike_after : (es : List Event) {im jm : List ℕ} → Alike g n im jm → Each (Lies g) es → Alike g n (image_after g es im) (image_after g es jm)
  unfolding image_after
  alike_after [] A h = A
  alike_after (e ∷ es) A h = alike_after es (alike_by A e h.0) h.1

  pub alike_self : (im : List ℕ) → length im ≡ n → Alike g n im im
  alike_self im e = record { long = e; also = omega (arith, S.ends); same = refl }

  pub frame_after : (es : List Event) (im : List ℕ) → length im ≡ n → Each (Lies g) es → Frame g im (image_after g es im)
  unfolding image_after
  frame_after [] im e h = record { size = refl; below = refl; above = λ m k. refl }
  frame_after (x ∷ es) im e h =
      let P = puts (alike_self im e) x h.0 in
      let k : P.place + length P.bytes ≤ length im = omega (arith, P.high, S.ends) in
      let F = frame_after es (image_by g x im) (alike_by (alike_self im e) x h.0).long h.1 in
      record {
        size = F.size ∙ ap length P.one ∙ length_put P.place P.bytes im k;
        below = F.below ∙ ap (take g.start) P.one ∙ take_before P.place P.bytes im k g.start P.low;
        above = λ m l. F.above m l ∙ ap (drop m) P.one ∙ drop_after P.place P.bytes im k m (omega (arith, P.high));
      }

  -- copies from the range are the same
  pub alike_buffer : (es : List Event) {im jm : List ℕ} → Alike g n im jm → Each (Lies g) es → (buf : List ℕ)
      → buffer_after g es im buf ≡ buffer_after g es jm buf
  unfolding buffer_after buffer_by
  alike_buffer [] A h buf = refl
  alike_buffer (store a word ∷ es) A h buf = alike_buffer es (alike_by A (store a word) h.0) h.1 buf
  alike_buffer (erase p ∷ es) A h buf = alike_buffer es (alike_by A (erase p) h.0) h.1 buf
  alike_buffer (copy a m ∷ es) {im} {jm} A h buf =
      rw (alike_part im jm A a m h.0.0 h.0.1) (alike_buffer es (alike_by A (copy a m) h.0) h.1 (put 0 (part a m jm) buf))
