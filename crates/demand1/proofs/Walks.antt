-- The headers of a page's walk stand at whole words in its data, each item inside it; so does the free spot. Assumes nothing.
use mathlib.Core.Path.{◌≡◌, refl, sym, ap, ◌∙◌, subst}
use mathlib.Core.Bool.{true}
use mathlib.Core.List.{List, [], ◌∷◌}
use Prim.Native.Nat.{ℕ, zero, suc, ◌+◌, ◌-◌, ◌≤◌, ◌<◌, ◌∣◌}
use native.Mathlib.Nat.{add-zero, dvd-add, dvd_refl}
use native.Mathlib.Omega.{arith}
use borrow.Author.Tests.{leb-true}
use lib.ListN.{length}
use Rattle.paper.specs.declared.Geometry.{Geometry}
use Rattle.paper.specs.Chip.{round_up, round_down, header_size, page_start, range_end, data_start, data_size, data_end, page_of, page_data, part}
use Rattle.paper.specs.Slip.{Look, stop, bad, item, look}
use Rattle.paper.specs.Scan.{Head, Walk, onward, walk, page_walk, walk_on, free_spot, serves}
use Rattle.laws.proofs.Accepted.{Laid}
use Rattle.laws.proofs.Parts.{length_part}
use Rattle.laws.proofs.Places.{page_in}
use Rattle.laws.proofs.Rounding.{round_down_le}
use Rattle.laws.proofs.Headers.{header_ge, header_behind}
use Rattle.demand1.specs.Range.{Each}
use Rattle.demand1.proofs.Lists.{each_weaker}
use Rattle.demand1.proofs.Items.{look_room}
use Rattle.demand1.proofs.Pages.{layout, ReadableWord, page_in_range, page_low, round_up_divides, header_whole}

-- ---- a walk over data from lo up to hi

moved : (w a b : ℕ) → a ≡ b → w ∣ a → w ∣ b
moved w a b e v = subst (λ (x : ℕ). w ∣ x) e v

-- a header at a whole word, its item inside
record Stands (g : Geometry) (lo hi : ℕ) (h : Head) : Type 0 where
  pub aligned : g.word ∣ h.place
  pub low : lo ≤ h.place
  pub high : h.place + (header_size g + round_up g.word h.len) ≤ hi

record Walked (g : Geometry) (lo hi : ℕ) (w : Walk) : Type 0 where
  pub heads_stand : Each (Stands g lo hi) w.heads
  pub spot_aligned : g.word ∣ hi - length w.rest
  pub rest_short : lo + length w.rest ≤ hi

module _ (g : Geometry) (low : 0 < g.word) (lo hi : ℕ) (whole : g.word ∣ hi) where
  walked : (k a : ℕ) (d : List ℕ) → lo ≤ a → a + length d ≡ hi → g.word ∣ a + k → Walked g lo hi (walk g k a d)
  unfolding walk onward
  walked k a [] l e v = record { heads_stand = tt; spot_aligned = moved g.word hi (hi - 0) (omega arith) whole; rest_short = omega arith }
  walked (suc k) a (b ∷ bs) l e v =
      walked k (suc a) bs (omega arith) (omega arith) (moved g.word (a + suc k) (suc a + k) (omega arith) v)
  walked zero a (b ∷ bs) l e v = by (look g (b ∷ bs)) refl (λ k w. walked k (suc a) bs (omega arith) (omega arith) w)
    where
      here : g.word ∣ a
      here = moved g.word (a + 0) a (add-zero a) v

      further : (m : ℕ) → 0 < m → g.word ∣ m → g.word ∣ suc a + (m - 1)
      further m h w = moved g.word (a + m) (suc a + (m - 1)) (omega arith) (dvd-add g.word here w)

      by : (x : Look) → look g (b ∷ bs) ≡ x → ((k : ℕ) → g.word ∣ suc a + k → Walked g lo hi (walk g k (suc a) bs))
          → Walked g lo hi (onward g a (b ∷ bs) x (λ m. walk g (m - 1) (suc a) bs))
      by stop q f = record { heads_stand = tt; spot_aligned = moved g.word a (hi - length (b ∷ bs)) (omega arith) here; rest_short = omega arith }
      by bad q f =
          let w = f (g.word - 1) (further g.word low (dvd_refl g.word)) in
          record { heads_stand = w.heads_stand; spot_aligned = w.spot_aligned; rest_short = w.rest_short }
      by (item c n body) q f =
          let room = look_room g (b ∷ bs) q in
          let size : ℕ = header_size g + round_up g.word n in
          let some : 0 < size = omega (arith, header_ge g low) in
          let w = f (size - 1) (further size some (dvd-add g.word (header_whole g) (round_up_divides g.word n))) in
          record {
            heads_stand = (record { aligned = here; low = l; high = omega arith }, w.heads_stand);
            spot_aligned = w.spot_aligned;
            rest_short = w.rest_short;
          }

-- ---- of a page

-- an item of n bytes at address a is at a whole word and inside the range
pub record ItemInRange (g : Geometry) (a n : ℕ) : Type 0 where
  pub aligned : g.word ∣ a
  pub low : g.start ≤ a
  pub high : a + (header_size g + round_up g.word n) ≤ range_end g

-- a header has room for its item
abbrev pub Placed : Geometry → Head → Type 0
Placed g h = ItemInRange g h.place h.len

module _ {g : Geometry} {n : ℕ} (S : Laid g n) (im : List ℕ) (long : length im ≡ n) (p : ℕ) (h : p < g.pages) where
  -- from address a to the end of the data
  end_walked : (a : ℕ) → g.word ∣ a → a ≤ data_end g p → Walked g a (data_end g p) (walk g 0 a (part a (data_end g p - a) im))
  end_walked a v k =
      let L = layout S p in
      let m : ℕ = data_end g p - a in
      walked g S.sized.low a (data_end g p) L.end_whole 0 a (part a m im) (omega arith)
      (ap (λ (x : ℕ). a + x) (length_part a m im (omega (arith, page_in g p h, S.ends))) ∙ omega arith)
      (moved g.word a (a + 0) (sym (add-zero a)) v)

  page_walked : Walked g (data_start g p) (data_end g p) (page_walk g im p)
  unfolding page_walk page_data
  page_walked =
      let L = layout S p in
      let z : data_size g ≡ data_end g p - data_start g p = omega arith in
      rw z (end_walked (data_start g p) L.data_whole (omega arith))

  -- a header's room, and the spot's
  room_in : (a m : ℕ) → g.word ∣ a → page_start g p ≤ a → a + (header_size g + round_up g.word m) ≤ data_end g p → ItemInRange g a m
  room_in a m v l k =
      let L = layout S p in
      record { aligned = v; low = omega arith; high = omega (arith, page_in g p h) }

  pub spot_room : (m : ℕ) → serves g (page_walk g im p).rest m ≡ true → ItemInRange g (free_spot g im p) m
  unfolding serves free_spot
  spot_room m e =
      let r : ℕ = length (page_walk g im p).rest in
      let k : header_size g + m ≤ round_down g.word r = leb-true (header_size g + m) (round_down g.word r) e in
      let w = page_walked in
      let L = layout S p in
      room_in (data_end g p - r) m w.spot_aligned (omega (arith, w.rest_short))
      (omega (arith, w.rest_short, header_behind g S.sized.low r m k, round_down_le g.word r))

  pub page_room : (m : ℕ) → header_size g + round_up g.word m ≤ data_size g → ItemInRange g (data_start g p) m
  page_room m k = let L = layout S p in room_in (data_start g p) m L.data_whole (omega arith) (omega arith)

-- the headers from a word on
pub heads_placed : {g : Geometry} {n : ℕ} → Laid g n → (im : List ℕ) → length im ≡ n → (a : ℕ) → ReadableWord g a → Each (Placed g) (walk_on g im a).heads
unfolding walk_on
heads_placed {g} S im long a R =
    let p : ℕ = page_of g a in
    let h = page_in_range S R in
    each_weaker (Stands g a (data_end g p)) (Placed g)
    (λ x s. room_in S im long p h x.place x.len s.aligned (omega (arith, page_low S R, s.low)) s.high)
    (walk_on g im a).heads (end_walked S im long p h a R.aligned R.readable.ends).heads_stand
