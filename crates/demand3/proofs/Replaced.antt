-- Other bytes at the end of a course: the walk goes the same course to them, if it accepts nothing that it refused. Assumes nothing.
use mathlib.Core.Bool.{true, false}
use mathlib.Core.List.{List, [], ◌∷◌, ◌++◌, append_assoc, Memᴰ}
use mathlib.Core.Path.{◌≡◌, refl, sym, ap, ◌∙◌}
use Prim.Native.Nat.{ℕ, ◌+◌, ◌≤◌, ◌<◌}
use native.Mathlib.Nat.{add-zero}
use native.Mathlib.Omega.{arith}
use lib.ListN.{length, take, drop, length-append, take-append-drop}
use lib.Seq.{length-take-le, drop_at, take_at}
use Rattle.paper.specs.declared.Geometry.{Geometry}
use Rattle.paper.specs.Chip.{header_size}
use Rattle.paper.specs.Slip.{Look, stop, bad, item, look, blank}
use Rattle.paper.specs.Scan.{Head, Walk, onward, walk}
use Rattle.laws.proofs.Headers.{header_word}
use Rattle.laws.proofs.Looking.{look_bad, look_item, used_looks}
use Rattle.demand3.proofs.Sizes.{item_size}
use Rattle.demand3.proofs.Blank.{blank_front}
use Rattle.demand3.proofs.Looks.{look_same}
use Rattle.demand3.proofs.Courses.{Course, here, past, over, walk_step}

-- none of the addresses rs is accepted
abbrev pub NoneAccepted : List ℕ → List Head → Type 0
NoneAccepted rs hs = (h : Head) → Memᴰ h hs → Memᴰ h.place rs → ⊥

-- t may stand in place of r: as long, and FF only as far as r is
pub record MayReplace (r t : List ℕ) : Type 0 where
  pub long : length t ≡ length r
  pub ff : (k : ℕ) → blank (take k t) ≡ true → blank (take k r) ≡ true

-- a walk that has accepted hs and refused rs before
abbrev pub after_these : List Head → List ℕ → Walk → Walk
after_these hs rs w = record { heads = hs ++ w.heads; refused = rs ++ w.refused; rest = w.rest }

-- the bytes d of a course are its front and its end r; and the front leads to whatever may stand in place of r
pub record Front (g : Geometry) (a : ℕ) (d : List ℕ) (hs : List Head) (rs r : List ℕ) : Type 0 where
  pub front : List ℕ
  pub split : d ≡ front ++ r
  pub again : (t : List ℕ) → MayReplace r t → NoneAccepted rs (walk g 0 a (front ++ t)).heads
      → walk g 0 a (front ++ t) ≡ after_these hs rs (walk g 0 (a + length front) t)

module _ (g : Geometry) (pos : 0 < g.word) where
  -- a front behind m bytes more
  module _ (a m : ℕ) (d : List ℕ) (h : m ≤ length d) {hs : List Head} {rs r : List ℕ} (F : Front g (a + m) (drop m d) hs rs r) where
    longer : List ℕ
    longer = take m d ++ F.front

    longer_split : d ≡ longer ++ r
    unfolding longer
    longer_split = sym (take-append-drop m d) ∙ ap (λ (x : List ℕ). take m d ++ x) F.split ∙ sym (append_assoc (take m d) F.front r)

    longer_drop : (t : List ℕ) → drop m (longer ++ t) ≡ F.front ++ t
    unfolding longer
    longer_drop t = rw append_assoc (drop_at (take m d) (F.front ++ t) m (length-take-le m d h))

    longer_take : (t : List ℕ) → take m (longer ++ t) ≡ take m d
    unfolding longer
    longer_take t = rw append_assoc (take_at (take m d) (F.front ++ t) m (length-take-le m d h))

    longer_length : (t : List ℕ) → MayReplace r t → length d ≡ length (longer ++ t)
    longer_length t f = ap length longer_split ∙ length-append longer r ∙ ap (λ (x : ℕ). length longer + x) (sym f.long)
        ∙ sym (length-append longer t)

    -- the rest of the walk is the walk of the shorter front
    on : (t : List ℕ) → MayReplace r t → NoneAccepted rs (walk g 0 (a + m) (drop m (longer ++ t))).heads
        → walk g 0 (a + m) (drop m (longer ++ t)) ≡ after_these hs rs (walk g 0 (a + length longer) t)
    unfolding longer
    on t f u =
        let z : a + m + length F.front ≡ a + length (take m d ++ F.front) = omega (arith, length-append (take m d) F.front, length-take-le m d h) in
        let e = longer_drop t in
        rw e (F.again t f (rw e at u) ∙ ap (λ (x : ℕ). after_these hs rs (walk g 0 x t)) z)

  -- it was refused, and is not accepted now
  past_again : (a : ℕ) (e : List ℕ) (rs : List ℕ) (w : Walk) → (look g e ≡ stop → ⊥) → NoneAccepted (a ∷ rs) (walk g 0 a e).heads
      → (NoneAccepted rs (walk g 0 (a + g.word) (drop g.word e)).heads → walk g 0 (a + g.word) (drop g.word e) ≡ w)
      → walk g 0 a e ≡ record { heads = w.heads; refused = a ∷ w.refused; rest = w.rest }
  unfolding onward
  past_again a e rs w n u f = walk_step g pos a e ∙ by (look g e) refl (rw (walk_step g pos a e) at u)
    where
      by : (l : Look) → look g e ≡ l → NoneAccepted (a ∷ rs) (onward g a e l (λ k. walk g 0 (a + k) (drop k e))).heads
          → onward g a e l (λ k. walk g 0 (a + k) (drop k e)) ≡ record { heads = w.heads; refused = a ∷ w.refused; rest = w.rest }
      by stop q v = absurd (n q)
      by bad q v = ap (λ (x : Walk). record { heads = x.heads; refused = a ∷ x.refused; rest = x.rest }) (f (λ h m k. v h m (Memᴰ.tail k)))
      by (item c k body) q v = absurd (v _ (Memᴰ.head refl) (Memᴰ.head refl))

  -- it is accepted again
  over_again : (a : ℕ) (e : List ℕ) (rs : List ℕ) (w : Walk) {c n : ℕ} {body : List ℕ} → look g e ≡ item c n body
      → NoneAccepted rs (walk g 0 a e).heads
      → (NoneAccepted rs (walk g 0 (a + item_size g n) (drop (item_size g n) e)).heads → walk g 0 (a + item_size g n) (drop (item_size g n) e) ≡ w)
      → walk g 0 a e ≡ record { heads = record { place = a; crc = c; len = n; body = body } ∷ w.heads; refused = w.refused; rest = w.rest }
  unfolding onward
  over_again a e rs w {c} {n} {body} q u f =
      let hd : Head = record { place = a; crc = c; len = n; body = body } in
      let s = walk_step g pos a e in
      let v : NoneAccepted rs (walk g 0 (a + item_size g n) (drop (item_size g n) e)).heads = λ h m. (rw (s, q) at u) h (Memᴰ.tail m) in
      s ∙ rw q (ap (λ (x : Walk). record { heads = hd ∷ x.heads; refused = x.refused; rest = x.rest }) (f v))

  pub front_of_lem : {a : ℕ} {d : List ℕ} {hs : List Head} {rs r : List ℕ} → Course g a d hs rs r → Front g a d hs rs r
  front_of_lem {a} {d} here = record { front = []; split = refl; again = λ t f u. rw add-zero }
  front_of_lem {a} {d} {hs} {r = r} (past {rs = rs} e w) =
      let F = front_of_lem w in
      let B = look_bad g d e in
      let m : ℕ = g.word in
      let h : m ≤ length d = omega (arith, header_word g pos, B.room) in
      let l : List ℕ = longer a m d h F in
      let used : blank (take (header_size g) (l ++ r)) ≡ false = rw (← longer_split a m d h F) B.used in
      record {
        front = l;
        split = longer_split a m d h F;
        again = λ t f u. past_again a (l ++ t) rs (after_these hs rs (walk g 0 (a + length l) t))
            (used_looks g (l ++ t) (omega (arith, longer_length a m d h F t f, B.room)) (blank_front (header_size g) l r t f.ff used)) u (on a m d h F t f);
      }
  front_of_lem {a} {d} {rs = rs} {r = r} (over {n = n} {hs = hs} e w) =
      let F = front_of_lem w in
      let m : ℕ = item_size g n in
      let h : m ≤ length d = (look_item g d e).room in
      let l : List ℕ = longer a m d h F in
      record {
        front = l;
        split = longer_split a m d h F;
        again = λ t f u. over_again a (l ++ t) rs (after_these hs rs (walk g 0 (a + length l) t))
            (look_same g pos d (l ++ t) (longer_length a m d h F t f) (sym (longer_take a m d h F t)) e) u (on a m d h F t f);
      }
