-- What the functions that only look are to answer, by the tests that the code makes. Assumes nothing.
use mathlib.Core.Path.{◌≡◌, sym, ap, ◌∙◌}
use mathlib.Core.List.{List}
use Prim.Native.Nat.{ℕ, ◌+◌, ◌-◌, ◌*◌, ◌≤◌, ◌<◌}
use native.Mathlib.Omega.{arith}
use borrow.Author.Tests.{eq-eqb, ne_eqb}
use lib.ListN.{length}
use Rattle.std.proofs.Common.{Result, Ok, Err, Option, Some, None}
use Rattle.paper.specs.declared.Geometry.{Geometry}
use Rattle.paper.specs.Checksum.{data_crc}
use Rattle.paper.specs.Chip.{round_up, header_size, data_end, part}
use Rattle.paper.specs.Slip.{item, look}
use Rattle.paper.specs.Scan.{Head, present}
use Rattle.chip.specs.declared.Corrupted.{Corrupted}
use Rattle.chip.specs.Within.{Within}
use Rattle.chip.proofs.Geometry.{data_in}
use Rattle.laws.proofs.Parts.{part_part, length_part}
use Rattle.laws.proofs.Rounding.{round_up_ge}
use Rattle.item.specs.declared.ItemHeader.{ItemHeader}
use Rattle.item.specs.Headers.{look_as, HeaderIs}
use Rattle.item.specs.Places.{Inside, Room}
use Rattle.item.specs.Reading.{head_at}
use Rattle.item.proofs.Live.{live_yes, live_no}
use Rattle.item.proofs.Looking.{item_in}
use Rattle.codes.specs.Codes.{code}
use Rattle.codes.proofs.Distinct.{row_within}
use Rattle.dock.specs.Sights.{Free, kind, seen}

pub free : Free
unfolding code
free = record {
  refusals = λ x e.
      let w = row_within x in
      omega arith;
  values = λ v e. omega arith;
}

-- ---- an address in the data of page p, which ends at e

pub inside : {g : Geometry} {n p a e : ℕ} → Within g n → p < g.pages → e ≡ data_end g p → a ≤ e → Inside g n a e
inside {g} {n} {p} w l q m = let d = data_in g p n w l in record { good = w.good; order = m; ends = omega arith }

-- ---- what stands there, where reading a header answered k

module _ (g : Geometry) (im : List ℕ) (a e : ℕ) {k : Result (Option ItemHeader) Corrupted} (is : HeaderIs g (part a (e - a) im) k) where
  pub seen_stop : k ≡ Ok None → 0 ≡ seen a (look g (part a (e - a) im))
  seen_stop q = ap (λ (x : Result (Option ItemHeader) Corrupted). seen a (look_as g (part a (e - a) im) x)) (sym q) ∙ ap (seen a) is

  pub seen_bad : {c : Corrupted} → k ≡ Err c → 1 ≡ seen a (look g (part a (e - a) im))
  seen_bad q = ap (λ (x : Result (Option ItemHeader) Corrupted). seen a (look_as g (part a (e - a) im) x)) (sym q) ∙ ap (seen a) is

  module _ (x : ItemHeader) (q : k ≡ Ok (Some x)) (i : Inside g (length im) a e) where
    told : look_as g (part a (e - a) im) (Ok (Some x)) ≡ look g (part a (e - a) im)
    told = ap (look_as g (part a (e - a) im)) (sym q) ∙ is

    fits : header_size g + round_up g.word x.length ≤ e - a
    fits =
        let o = i.order in
        let m = i.ends in
        omega (arith, length_part a (e - a) im (omega arith), item_in g (part a (e - a) im) x.crc x.length _ (sym told))

    pub item_room : e < 4294967296 → Room g (length im) a x.length
    item_room t =
        let o = i.order in
        let m = i.ends in
        let f = fits in
        record { good = i.good; fits = omega arith; top = omega arith }

    pub seen_item : {t : ℕ} → t ≡ kind (head_at g im a x) → t + 8 * x.length ≡ seen a (look g (part a (e - a) im))
    seen_item u =
        let o = i.good in
        let f = fits in
        let y : part (header_size g) x.length (part a (e - a) im) ≡ part (a + header_size g) x.length im =
        part_part a (e - a) (header_size g) x.length im (omega (arith, round_up_ge g.word x.length o.sized.low)) in
        ap (λ (v : ℕ). v + 8 * x.length) u ∙ ap (λ (b : List ℕ). seen a (item x.crc x.length b)) (sym y) ∙ ap (seen a) told

-- ---- an accepted header

module _ (h : Head) where
  pub kind_popped : h.crc ≡ 0 → 3 ≡ kind h
  unfolding kind
  kind_popped e = rw (live_no h e)

  pub kind_waits : (h.crc ≡ 0 → ⊥) → data_crc h.body ≡ h.crc → 2 ≡ kind h
  unfolding kind present
  kind_waits n e = rw (live_yes h n, eq-eqb (data_crc h.body) h.crc e)

  pub kind_torn : (h.crc ≡ 0 → ⊥) → (data_crc h.body ≡ h.crc → ⊥) → 4 ≡ kind h
  unfolding kind present
  kind_torn n e = rw (live_yes h n, ne_eqb (data_crc h.body) h.crc e)
