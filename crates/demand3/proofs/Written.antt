-- The image after some of an item's words at the free spot: what the scan finds there. Assumes nothing.
use mathlib.Core.Bool.{true}
use mathlib.Core.List.{List, [], ◌∷◌, ◌++◌, append_assoc}
use mathlib.Core.Logic.{inr}
use mathlib.Core.Path.{◌≡◌, refl, sym, ap, ap₂, ◌∙◌, subst}
use Prim.Native.Nat.{ℕ, ◌+◌, ◌-◌, ◌*◌, ◌/◌, ◌≤◌, ◌<◌}
use native.Mathlib.Nat.{mul-le-mul_right}
use native.Mathlib.Omega.{arith}
use lib.ListN.{length, take, drop, length-append, length-drop, take-append-drop}
use lib.Seq.{drop-drop, drop_at, take_at, length-take-le, take-append-le, take-append-add, drop-append-add}
use Rattle.paper.specs.declared.Geometry.{Geometry}
use Rattle.paper.specs.Checksum.{length_crc, data_crc}
use Rattle.paper.specs.Chip.{round_up, header_size, data_start, data_size, page_data, put, part, Event, image_after, before}
use Rattle.paper.specs.Slip.{blank, bytes_of}
use Rattle.paper.specs.Scan.{Head, Walk, walk, page_walk}
use Rattle.paper.specs.Pages.{start_mark, end_mark}
use Rattle.paper.specs.Push.{item_at}
use Rattle.paper.specs.Fifo.{Bytes}
use Rattle.laws.proofs.Puts.{put_at_end}
use Rattle.laws.proofs.Rounding.{round_up_ge}
use Rattle.checksum.proofs.Adjusted.{data_low, data_lt}
use Rattle.laws.proofs.Headers.{header_ge}
use Rattle.laws.proofs.Sides.{Side, below, above, side}
use Rattle.demand3.proofs.Sizes.{item_size}
use Rattle.demand3.proofs.Blank.{blank_take, blank_drop}
use Rattle.demand3.proofs.Bytes.{bytes_append, bytes_drop}
use Rattle.demand3.proofs.Ands.{ands_blank}
use Rattle.demand3.proofs.Words.{words_prefix}
use Rattle.demand3.proofs.Replaced.{NoneAccepted}
use Rattle.demand3.proofs.Tails.{item_walk}
use Rattle.demand3.proofs.BegunHeader.{PassedBy, LastTells, seven_read, begun_walk, begun_unread}
use Rattle.demand3.proofs.Views.{View, in_data, put_inner, page_inside, page_split}
use Rattle.demand3.proofs.Changed.{Changed, inner_changed}
use Rattle.demand3.proofs.FreeSpot.{Site, current, scanned, spot_of, site_in, front, split, sizes, spot_at, rest_blank, rest_bytes, with_tail, Regrown}
use Rattle.demand3.proofs.Item.{header_of, padded_slip, item_bytes, item_words, length_header, length_padded, length_item, item_size_lem, item_words_lem, written, bytes_written, within_item, length_written}

-- a slip that a push may write there
pub record Writable {g : Geometry} {im : List ℕ} (S : Site g im) (slip : List ℕ) : Type 0 where
  pub bytes : Bytes slip
  pub short : length slip < 65536
  pub room : item_size g (length slip) ≤ length (scanned S).rest

-- the image with an item's first j words at the free spot
abbrev pub with_words : {g : Geometry} {im : List ℕ} → Site g im → List ℕ → ℕ → List ℕ
with_words {g} {im} S slip j = put (spot_of S) (written g slip j) im

-- the slip's header reads whole at the free spot in the image jm
abbrev pub HeaderReads : {g : Geometry} {im : List ℕ} → Site g im → List ℕ → List ℕ → Type 0
HeaderReads {g} S slip jm = part (spot_of S) (header_size g) jm ≡ header_of g slip

-- nothing that the current page's scan refused is accepted there in the image jm
abbrev pub Clear : {g : Geometry} {im : List ℕ} → Site g im → List ℕ → Type 0
Clear {g} S jm = NoneAccepted (scanned S).refused (page_walk g jm (current S)).heads

module _ {g : Geometry} {im : List ℕ} {S : Site g im} {slip : List ℕ} (F : Writable S slip) where
  abbrev c : ℕ
  c = current S

  abbrev rest : List ℕ
  rest = (scanned S).rest

  pos : 0 < g.word
  pos = S.inv.good.sized.low

  has_room : header_size g ≤ length (scanned S).rest
  has_room = omega (arith, F.room)

  -- the spot serves, so the rest is blank
  pub serves_blank : blank (scanned S).rest ≡ true
  serves_blank = rest_blank S has_room

  spot_in : spot_of S + length (scanned S).rest ≤ length im
  unfolding data_start
  spot_in = omega (arith, spot_at S, sizes S, page_inside im S.inv.good c (site_in S), page_split S.inv.good)

  -- bytes from the spot on, in the page's data
  at_spot : (jm : List ℕ) (i n : ℕ) → length (front S) + i + n ≤ data_size g
      → part (spot_of S + i) n jm ≡ part i n (drop (length (front S)) (page_data g jm (current S)))
  at_spot jm i n h =
      let f : ℕ = length (front S) in
      let z : spot_of S + i ≡ data_start g c + (f + i) = omega (arith, spot_at S) in
      ap (λ (x : ℕ). part x n jm) z ∙ in_data g jm c (f + i) n (omega arith) ∙ ap (take n) (sym (drop-drop i f (page_data g jm c)))

  spot_blank : (m : ℕ) → m ≤ length (scanned S).rest → blank (take m (drop (spot_of S) im)) ≡ true
  spot_blank m h =
      let z : spot_of S ≡ spot_of S + 0 = omega arith in
      let f : ℕ = length (front S) in
      ap blank (ap (λ (x : ℕ). part x m im) z ∙ at_spot im 0 m (omega (arith, sizes S)) ∙ ap (take m) (ap (drop f) (split S) ∙ drop_at (front S) rest f refl))
      ∙ blank_take m rest serves_blank

  module _ (j : ℕ) (hj : j ≤ item_words g slip) where
    abbrev x : List ℕ
    x = written g slip j

    jw : j * g.word ≤ item_size g (length slip)
    jw = within_item g pos slip j hj

    lw : length (written g slip j) ≡ j * g.word
    lw = length_written g pos slip j hj

    pub after_words : image_after g (before j (item_at g (spot_of S) slip)) im ≡ with_words S slip j
    unfolding written
    after_words =
        let s : ℕ = spot_of S in
        ap (λ (es : List Event). image_after g (before j es) im) (item_words_lem g pos slip s)
        ∙ words_prefix g g.word j (item_words g slip) s (item_bytes g slip) im hj (length_item g pos slip ∙ item_size_lem g pos slip)
        (omega (arith, spot_in, item_size_lem g pos slip, F.room))
        ∙ ap (λ (bs : List ℕ). put s bs im) (ands_blank (drop s im) x (spot_blank (length x) (omega (arith, jw, lw, F.room)))
        (omega (arith, jw, lw, F.room, length-drop s im, spot_in)) (bytes_written g pos slip j F.bytes))

    -- what then stands from the spot on
    pub tail_now : List ℕ
    tail_now = written g slip j ++ drop (length (written g slip j)) (scanned S).rest

    tail_length : length tail_now ≡ length (scanned S).rest
    unfolding tail_now
    tail_length = omega (arith, length-append x (drop (length x) rest), length-drop (length x) rest, lw, jw, F.room)

    tail_bytes : Bytes tail_now
    unfolding tail_now
    tail_bytes = bytes_append x (drop (length x) rest) (bytes_written g pos slip j F.bytes) (bytes_drop (length x) rest (rest_bytes S))

    words_changed : Changed g im (with_words S slip j) (current S) (with_tail S tail_now)
    unfolding tail_now
    words_changed =
        let f : ℕ = length (front S) in
        let G = S.inv.good in
        let fit : f + length x ≤ data_size g = omega (arith, sizes S, lw, jw, F.room) in
        rw (spot_at S) (inner_changed im G c (site_in S) f x (with_tail S tail_now) fit (put_inner im G c (site_in S) x f fit
        ∙ ap (λ (t : List ℕ). record { first = start_mark g im c; inner = t; last = end_mark g im c }) (ap (put f x) (split S) ∙ put_at_end (front S) x rest)))

    -- what a header's place reads
    reads : part (spot_of S) (header_size g) (with_words S slip j) ≡ take (header_size g) tail_now
    reads =
        let n : ℕ = header_size g in
        let f : ℕ = length (front S) in
        let z : spot_of S ≡ spot_of S + 0 = omega arith in
        ap (λ (y : ℕ). part y n (with_words S slip j)) z ∙ at_spot (with_words S slip j) 0 n (omega (arith, sizes S, F.room))
        ∙ ap (λ (v : View). part 0 n (drop f v.inner)) words_changed.this ∙ ap (take n) (drop_at (front S) tail_now f refl)

    -- so many bytes of the payload
    unfoldable pub paid : ℕ
    paid = j * g.word - header_size g

    pub paid_fits : paid ≤ round_up g.word (length slip)
    unfolding paid
    paid_fits = omega (arith, jw)

    -- what stands behind a header's place
    unfoldable pub behind : List ℕ
    behind = take paid (padded_slip g slip) ++ drop (header_size g + paid) (scanned S).rest

    abbrev E : List ℕ
    E = header_of g slip

    abbrev P : List ℕ
    P = take paid (padded_slip g slip)

    abbrev D : List ℕ
    D = drop (header_size g + paid) (scanned S).rest

    length_paid : length (take paid (padded_slip g slip)) ≡ paid
    length_paid = length-take-le paid (padded_slip g slip) (omega (arith, paid_fits, length_padded g pos slip))

    behind_room : round_up g.word (length slip) ≤ length behind
    unfolding behind
    behind_room = omega (arith, length-append P D, length_paid, length-drop (header_size g + paid) rest, paid_fits, F.room)

    behind_blank : blank (drop (round_up g.word (length slip)) behind) ≡ true
    unfolding behind
    behind_blank =
        let u : ℕ = round_up g.word (length slip) in
        let q : u ≡ length P + (u - paid) = omega (arith, length_paid, paid_fits) in
        ap (λ (y : ℕ). blank (drop y (P ++ D))) q ∙ ap blank (drop-append-add P D (u - paid))
        ∙ blank_drop (u - paid) D (blank_drop (header_size g + paid) rest serves_blank)

    unfoldable pub new_head : Head
    new_head = record { place = spot_of S; crc = data_crc slip; len = length slip; body = take (length slip) behind }

    -- all bytes of the header are written
    module _ (h : header_size g ≤ j * g.word) where
      paid_is : header_size g + paid ≡ j * g.word
      unfolding paid
      paid_is = omega arith

      written_is : written g slip j ≡ header_of g slip ++ take paid (padded_slip g slip)
      unfolding written item_bytes
      written_is =
          let q : j * g.word ≡ length E + paid = sym paid_is ∙ ap (λ (y : ℕ). y + paid) (sym (length_header g pos slip)) in
          ap (λ (y : ℕ). take y (E ++ padded_slip g slip)) q ∙ take-append-add E (padded_slip g slip) paid

      tail_written : tail_now ≡ header_of g slip ++ behind
      unfolding tail_now behind
      tail_written = ap (λ (y : ℕ). x ++ drop y rest) (lw ∙ sym paid_is) ∙ ap (λ (y : List ℕ). y ++ D) written_is ∙ append_assoc E P D

      pub written_reads : HeaderReads S slip (with_words S slip j)
      written_reads = reads ∙ ap (take (header_size g)) tail_written ∙ take_at E behind (header_size g) (length_header g pos slip)

    -- the header reads whole
    module _ (r : HeaderReads S slip (with_words S slip j)) where
      tail_is : tail_now ≡ header_of g slip ++ behind
      unfolding tail_now behind paid
      tail_is = by (side (j * g.word) (header_size g))
        where
          n : ℕ
          n = header_size g

          by : Side (j * g.word) (header_size g) → tail_now ≡ header_of g slip ++ behind
          by (above h) = tail_written h
          by (below h) =
              let i : ℕ = n - length x in
              let q : n ≡ length x + i = omega (arith, lw) in
              let p : j * g.word - n ≡ 0 = omega arith in
              let z : n + 0 ≡ length x + i = omega arith in
              let d : drop n (x ++ drop (length x) rest) ≡ drop (n + 0) rest =
              ap (λ (y : ℕ). drop y (x ++ drop (length x) rest)) q ∙ drop-append-add x (drop (length x) rest) i ∙ drop-drop i (length x) rest
              ∙ ap (λ (y : ℕ). drop y rest) (sym z) in
              sym (take-append-drop n tail_now) ∙ ap₂ ◌++◌ (sym reads ∙ r) (d ∙ ap (λ (y : ℕ). take y (padded_slip g slip) ++ drop (n + y) rest) (sym p))

      pub item_regrown : Clear S (with_words S slip j)
          → Regrown S (with_words S slip j) tail_now (new_head ∷ []) [] (drop (round_up g.word (length slip)) behind)
      unfolding new_head
      item_regrown U = record {
        room = has_room;
        long = tail_length;
        changed = words_changed;
        scan = ap (walk g 0 (spot_of S)) tail_is
            ∙ item_walk g pos (spot_of S) (data_crc slip) (length slip) behind (data_lt slip) F.short (data_low slip).1 behind_room behind_blank;
        clean = inr behind_blank;
        quiet = λ q. refl;
        bytes = tail_bytes;
        unmet = U;
      }

      -- what stands in the payload's place
      pub stored_is : part (spot_of S + header_size g) (length slip) (with_words S slip j) ≡ new_head.body
      unfolding new_head
      stored_is =
          let n : ℕ = length slip in
          let f : ℕ = length (front S) in
          let d : drop (header_size g) (drop f (front S ++ tail_now)) ≡ behind =
          ap (drop (header_size g)) (drop_at (front S) tail_now f refl ∙ tail_is) ∙ drop_at E behind (header_size g) (length_header g pos slip) in
          at_spot (with_words S slip j) (header_size g) n (omega (arith, sizes S, round_up_ge g.word (length slip) pos, F.room))
          ∙ ap (λ (v : View). part (header_size g) n (drop f v.inner)) words_changed.this ∙ ap (take n) d

  -- fewer than 8 bytes of the header are written
  module _ (j : ℕ) (hj : j ≤ item_words g slip) (h : j * g.word < 8) where
    abbrev m : ℕ
    m = j * g.word

    left : blank (drop (j * g.word) (scanned S).rest) ≡ true
    left = blank_drop m rest serves_blank

    left_room : header_size g ≤ j * g.word + length (drop (j * g.word) (scanned S).rest)
    left_room = omega (arith, length-drop m rest, has_room)

    begun_tail : tail_now j hj ≡ take (j * g.word) (header_of g slip) ++ drop (j * g.word) (scanned S).rest
    unfolding tail_now written item_bytes
    begun_tail = ap₂ ◌++◌ (take-append-le m (header_of g slip) (padded_slip g slip) (omega (arith, length_header g pos slip, header_ge g pos)))
        (ap (λ (y : ℕ). drop y rest) (lw j hj))

    -- the walk from the spot on
    abbrev pub on_now : Walk
    on_now = walk g 0 (spot_of S) (tail_now j hj)

    -- seven bytes, and the eighth is FF: the header reads whole
    pub seven_reads : j * g.word ≡ 7 → length_crc (bytes_of 2 (length slip)) / 256 ≡ 255 → HeaderReads S slip (with_words S slip j)
    seven_reads q f =
        let z : List ℕ = drop m rest in
        reads j hj ∙ ap (take (header_size g)) (begun_tail ∙ ap (λ (y : ℕ). take y (header_of g slip) ++ z) q)
        ∙ seven_read g pos (data_crc slip) (length slip) z (omega (arith, left_room)) left f

    -- in any other case it does not, and the scan accepts nothing there
    module _ (t : LastTells (j * g.word) (length slip)) where
      pub begun_no_header : HeaderReads S slip (with_words S slip j) → ⊥
      begun_no_header e = begun_unread g pos m (data_crc slip) (length slip) (drop m rest) h left t left_room
          (ap (take (header_size g)) (sym begun_tail) ∙ sym (reads j hj) ∙ e)

      begun_passed : PassedBy g (spot_of S) (j * g.word) on_now
      begun_passed = subst (λ (l : List ℕ). PassedBy g (spot_of S) m (walk g 0 (spot_of S) l)) (sym begun_tail)
          (begun_walk g pos m (data_crc slip) (length slip) (drop m rest) h left t j (spot_of S) refl)

      pub begun_regrown : 0 < j → Clear S (with_words S slip j) → Regrown S (with_words S slip j) (tail_now j hj) [] on_now.refused on_now.rest
      begun_regrown j0 U = record {
        room = has_room;
        long = tail_length j hj;
        changed = words_changed j hj;
        scan = ap (λ (hs : List Head). record { heads = hs; refused = on_now.refused; rest = on_now.rest }) begun_passed.none;
        clean = begun_passed.clean;
        quiet = λ q. let k : ⊥ = omega (arith, mul-le-mul_right g.word j0) in absurd k;
        bytes = tail_bytes j hj;
        unmet = U;
      }
