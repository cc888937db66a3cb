-- Where pages lie, and that a page's bytes decide its state and walk. Assumes nothing.
use mathlib.Core.Path.{◌≡◌, refl, ap}
use mathlib.Core.List.{List}
use Prim.Native.Nat.{ℕ, zero, suc, ◌+◌, ◌-◌, ◌*◌, ◌≤◌, ◌<◌, ◌∣◌}
use native.Mathlib.Nat.{add_assoc, dvd-add, dvd-sub, dvd_refl, dvd-mul_left, dvd-mul_left_of_dvd}
use native.Mathlib.Omega.{arith}
use Rattle.paper.specs.declared.Geometry.{Geometry}
use Rattle.paper.specs.Chip.{round_up, header_size, page_start, data_start, data_size, data_end, page_of, page_bytes}
use Rattle.paper.specs.Scan.{walk, page_walk, walk_on}
use Rattle.paper.specs.Pages.{state, next, around, from, all_pages}
use Rattle.laws.specs.Readable.{ReadableFrom}
use Rattle.laws.proofs.Accepted.{Laid}
use Rattle.laws.proofs.PageBytes as page-bytes
use Rattle.laws.proofs.Parts.{parts_same}
use Rattle.laws.proofs.Ring.{next_in}
use Rattle.laws.proofs.Standing.{page_of_in, page_of_low, start_readable}
use Rattle.demand1.specs.Range.{Each}

-- ---- where they lie

pub round_up_divides : (w n : ℕ) → w ∣ round_up w n
unfolding round_up
round_up_divides w n = dvd-mul_left w _

pub header_whole : (g : Geometry) → g.word ∣ header_size g
unfolding header_size
header_whole g = round_up_divides g.word 8

-- a page: its first word, its data, its last word
pub record Layout (g : Geometry) (p : ℕ) : Type 0 where
  pub data_at : data_start g p ≡ page_start g p + g.word
  pub end_at : data_end g p ≡ page_start g p + (g.word + data_size g)
  pub split : g.page ≡ g.word + (data_size g + g.word)
  pub start_low : g.start ≤ page_start g p
  pub start_whole : g.word ∣ page_start g p
  pub data_whole : g.word ∣ data_start g p
  pub end_whole : g.word ∣ data_end g p
  pub size_whole : g.word ∣ data_size g

pub layout : {g : Geometry} {n : ℕ} → Laid g n → (p : ℕ) → Layout g p
unfolding page_start data_start data_end data_size
layout {g} S p =
    let w : ℕ = g.word in
    let a : w ∣ page_start g p = dvd-add w S.aligned (dvd-mul_left_of_dvd w S.sized.whole p) in
    let b : w ∣ data_start g p = dvd-add w a (dvd_refl w) in
    let c : w ∣ data_size g = dvd-sub w S.sized.whole (dvd-mul_left w 2) in
    record {
      data_at = refl;
      end_at = add_assoc (g.start + p * g.page) w (g.page - 2 * w);
      split = omega (arith, S.sized.room);
      start_low = omega arith;
      start_whole = a;
      data_whole = b;
      end_whole = dvd-add w b c;
      size_whole = c;
    }

-- a whole word from which a search may read on
pub record ReadableWord (g : Geometry) (a : ℕ) : Type 0 where
  pub readable : ReadableFrom g a
  pub aligned : g.word ∣ a

module _ {g : Geometry} {n : ℕ} (S : Laid g n) where
  -- a page is more than its first word
  pub inner : g.word < g.page
  inner = omega (arith, S.sized.room, S.sized.low)

  -- such a word lies in a page of the range, and not before it
  pub page_in_range : {a : ℕ} → ReadableWord g a → page_of g a < g.pages
  page_in_range {a} R = page_of_in g inner a R.readable.low R.readable.high

  pub page_low : {a : ℕ} → ReadableWord g a → page_start g (page_of g a) ≤ a
  page_low {a} R = page_of_low g inner a R.readable.low

  -- a page's data begin with one
  pub start_word : (p : ℕ) → p < g.pages → ReadableWord g (data_start g p)
  start_word p h = let L = layout S p in record { readable = start_readable g inner S.sized.low p h; aligned = L.data_whole }

-- ---- what their bytes decide

module _ {g : Geometry} {n : ℕ} (S : Laid g n) (im jm : List ℕ) (p : ℕ) (e : page_bytes g im p ≡ page_bytes g jm p) where
  marks : 2 * g.word ≤ g.page
  marks = omega (arith, S.sized.room)

  pub state_same : state g im p ≡ state g jm p
  state_same = page-bytes.state_same g marks im jm p e

  pub walk_same : page_walk g im p ≡ page_walk g jm p
  walk_same = page-bytes.walk_same g marks im jm p e

-- from a word of it on
pub walk_on_same : {g : Geometry} {n : ℕ} → Laid g n → (im jm : List ℕ) (a : ℕ) → ReadableWord g a
    → page_bytes g im (page_of g a) ≡ page_bytes g jm (page_of g a)
    → walk_on g im a ≡ walk_on g jm a
unfolding walk_on page_bytes
walk_on_same {g} S im jm a R e =
    let p : ℕ = page_of g a in
    let L = layout S p in
    let l = page_low S R in
    ap (walk g 0 a) (parts_same (page_start g p) g.page im jm e a (data_end g p - a) (omega arith) (omega (arith, R.readable.ends)))

-- ---- the ring

around_in : (g : Geometry) (k p : ℕ) → p < g.pages → Each (λ q. q < g.pages) (around g k p)
unfolding around
around_in g zero p h = tt
around_in g (suc k) p h = (h, around_in g k (next g p) (next_in g p h))

pub from_in : (g : Geometry) (p : ℕ) → p < g.pages → Each (λ q. q < g.pages) (from g p)
unfolding from
from_in g p h = around_in g g.pages p h

pub all_in : (g : Geometry) → 0 < g.pages → Each (λ q. q < g.pages) (all_pages g)
unfolding all_pages
all_in g h = from_in g 0 h
