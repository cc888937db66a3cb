-- Other bytes from a page's free spot on, as the scan sees them; an item there. Assumes nothing.
use mathlib.Core.Bool.{true}
use mathlib.Core.List.{List, [], ◌∷◌, ◌++◌}
use mathlib.Core.Path.{◌≡◌, sym, ap, ◌∙◌}
use Prim.Native.Nat.{ℕ, ◌+◌, ◌%◌, ◌^◌, ◌≤◌, ◌<◌}
use lib.ListN.{length, take, drop}
use lib.Seq.{drop_at, drop-drop}
use Rattle.paper.specs.declared.Geometry.{Geometry}
use Rattle.paper.specs.Chip.{round_up, header_size}
use Rattle.paper.specs.Slip.{blank, encode}
use Rattle.paper.specs.Scan.{walk}
use Rattle.laws.proofs.Headers.{length_encode}
use Rattle.laws.proofs.Looking.{blank_stop}
use Rattle.demand3.proofs.Sizes.{item_size}
use Rattle.demand3.proofs.Blank.{blank_take}
use Rattle.demand3.proofs.Headers.{look_encoded}
use Rattle.demand3.proofs.Courses.{here, over, course_of, course_walk}
use Rattle.demand3.proofs.Replaced.{NoneAccepted, MayReplace, after_these, front_of_lem}

-- FF may be replaced by anything as long
blank_replaceable : (r t : List ℕ) → blank r ≡ true → length t ≡ length r → MayReplace r t
blank_replaceable r t e l = record { long = l; ff = λ k h. blank_take k r e }

module _ (g : Geometry) (pos : 0 < g.word) where
  -- what stands before the free spot of the bytes d
  pub front_of : ℕ → List ℕ → List ℕ
  front_of a d = (front_of_lem g pos (course_of g pos a d)).front

  pub front_split : (a : ℕ) (d : List ℕ) → d ≡ front_of a d ++ (walk g 0 a d).rest
  unfolding front_of
  front_split a d = (front_of_lem g pos (course_of g pos a d)).split

  -- other bytes from there on, where FF was
  pub rewalk : (a : ℕ) (d t : List ℕ) → blank (walk g 0 a d).rest ≡ true → length t ≡ length (walk g 0 a d).rest
      → NoneAccepted (walk g 0 a d).refused (walk g 0 a (front_of a d ++ t)).heads
      → walk g 0 a (front_of a d ++ t) ≡ after_these (walk g 0 a d).heads (walk g 0 a d).refused (walk g 0 (a + length (front_of a d)) t)
  unfolding front_of
  rewalk a d t e l u = (front_of_lem g pos (course_of g pos a d)).again t (blank_replaceable (walk g 0 a d).rest t e l) u

  -- an item: header, and behind it the payload's place, written or not; FF after it
  pub item_walk : (b c n : ℕ) (rest : List ℕ) → c < 2 ^ 32 → n < 65536 → (c % 256 ≡ 255 → ⊥) → round_up g.word n ≤ length rest
      → blank (drop (round_up g.word n) rest) ≡ true
      → walk g 0 b (encode g c n ++ rest)
      ≡ record { heads = record { place = b; crc = c; len = n; body = take n rest } ∷ []; refused = []; rest = drop (round_up g.word n) rest }
  item_walk b c n rest hc hn low room e =
      let u : ℕ = round_up g.word n in
      let s = drop_at (encode g c n) rest (header_size g) (length_encode g pos c n) in
      let z : drop (item_size g n) (encode g c n ++ rest) ≡ drop u rest = sym (drop-drop u (header_size g) (encode g c n ++ rest)) ∙ ap (drop u) s in
      course_walk g pos (over (look_encoded g pos c n rest hc hn low room) (rw z here))
      (blank_stop g (drop u rest) (blank_take (header_size g) (drop u rest) e))
