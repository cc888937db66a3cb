-- Reading headers in order: what it copies. Assumes nothing.
use mathlib.Core.Path.{◌≡◌, refl, sym, ap, ◌∙◌}
use mathlib.Core.Bool.{Bool, true, false, cond, not}
use mathlib.Core.List.{List, [], ◌∷◌, ◌++◌, append_assoc}
use mathlib.Core.Logic.{inl, inr}
use Prim.Native.Nat.{ℕ, ◌+◌, ◌≤◌, ◌<◌}
use borrow.Author.Tests.{lt-ltb, le-ltb}
use lib.Dec.{ltb}
use Rattle.paper.specs.declared.Geometry.{Geometry}
use Rattle.paper.specs.Chip.{round_up, header_size, Event, store, erase, copy, plan, bind, and_then}
use Rattle.paper.specs.Scan.{Head, live, present}
use Rattle.paper.specs.Search.{long, met, item_end, read_heads, Outcome, nothing, short, this, spoilt}
use Rattle.demand1.specs.Range.{Each}
use Rattle.demand1.specs.Buffers.{copies_in, copies_of}
use Rattle.demand1.specs.Rows.{Passed}
use Rattle.demand1.proofs.ReadingHeads.{meet_by, meet, present_live}

-- ---- copies among events

pub copies_join : (es fs : List Event) → copies_in (es ++ fs) ≡ copies_in es ++ copies_in fs
unfolding copies_in
copies_join [] fs = refl
copies_join (store a word ∷ es) fs = copies_join es fs
copies_join (erase p ∷ es) fs = copies_join es fs
copies_join (copy a n ∷ es) fs = ap (λ (x : List Event). copy a n ∷ x) (copies_join es fs)

abbrev pub Kept : Event → Type 0
Kept (store a word) = Unit {0}
Kept (erase p) = Unit {0}
Kept (copy a n) = ⊥

pub copies_none : (es : List Event) → Each Kept es → copies_in es ≡ []
unfolding copies_in
copies_none [] h = refl
copies_none (store a word ∷ es) h = copies_none es h.1
copies_none (erase p ∷ es) h = copies_none es h.1
copies_none (copy a n ∷ es) h = absurd h.0

-- ---- of headers

module _ (g : Geometry) (n : ℕ) where
  -- by a header's tests: c is its copy, and later what the headers after it have copied
  abbrev read_by : Bool → Bool → Bool → Event → List Event → List Event
  read_by true over whole c later = later
  read_by false true whole c later = []
  read_by false false true c later = c ∷ []
  read_by false false false c later = c ∷ later

  unfoldable pub read_of : List Head → List Event
  read_of [] = []
  read_of (h ∷ hs) =
      read_by (not (live h)) (ltb n (round_up g.word h.len)) (present h) (copy (h.place + header_size g) (round_up g.word h.len)) (read_of hs)

  pub copies_read : (a : ℕ) (hs : List Head) (im : List ℕ) → copies_in (read_heads g n a hs im).events ≡ read_of hs
  unfolding read_heads read_of bind copies_in
  copies_read a [] im = refl
  copies_read a (h ∷ hs) im = by (not (live h)) (ltb n size) (present h) (λ a. copies_read a hs)
    where
      size : ℕ
      size = round_up g.word h.len

      c : Event
      c = copy (h.place + header_size g) (round_up g.word h.len)

      by : (s t u : Bool) → ((a : ℕ) (im : List ℕ) → copies_in (read_heads g n a hs im).events ≡ read_of hs)
          → copies_in (cond s (read_heads g n a hs im)
          (cond t (plan [] (long a size)) (cond u (plan (c ∷ []) (met h)) (and_then g im (c ∷ []) (read_heads g n (item_end g h) hs))))).events
          ≡ read_by s t u c (read_of hs)
      by true t u f = f a im
      by false true u f = refl
      by false false true f = refl
      by false false false f = ap (λ (es : List Event). c ∷ es) (f (item_end g h) _)

  -- one list of headers after another: the second is read where all of the first is passed
  abbrev pub then_read : Outcome → List Event → List Event → List Event
  then_read nothing es fs = es ++ fs
  then_read (short k) es fs = es
  then_read (this h) es fs = es
  then_read spoilt es fs = es

  then_first : (m : Outcome) (c : Event) (es fs : List Event) → then_read m (c ∷ es) fs ≡ c ∷ then_read m es fs
  then_first nothing c es fs = refl
  then_first (short k) c es fs = refl
  then_first (this h) c es fs = refl
  then_first spoilt c es fs = refl

  pub read_append : (hs ks : List Head) → read_of (hs ++ ks) ≡ then_read (meet g n hs) (read_of hs) (read_of ks)
  unfolding meet read_of
  read_append [] ks = refl
  read_append (h ∷ hs) ks = by (not (live h)) (ltb n (round_up g.word h.len)) (present h) (read_append hs ks)
    where
      c : Event
      c = copy (h.place + header_size g) (round_up g.word h.len)

      by : (s t u : Bool) → read_of (hs ++ ks) ≡ then_read (meet g n hs) (read_of hs) (read_of ks)
          → read_by s t u c (read_of (hs ++ ks)) ≡ then_read (meet_by g n s t u h (meet g n hs)) (read_by s t u c (read_of hs)) (read_of ks)
      by true t u e = e
      by false true u e = refl
      by false false true e = refl
      by false false false e = ap (λ (es : List Event). c ∷ es) e ∙ sym (then_first (meet g n hs) c (read_of hs) (read_of ks))

  -- the headers that are passed are copied where they are live
  passed_read : (h : Head) (hs : List Head) → Passed g n h → read_of (h ∷ hs) ≡ copies_of g (h ∷ []) ++ read_of hs
  unfolding read_of copies_of
  passed_read h hs (inl e) = rw e
  passed_read h hs (inr e) = rw (e.0, le-ltb n (round_up g.word h.len) e.1) (by (live h))
    where
      c : Event
      c = copy (h.place + header_size g) (round_up g.word h.len)

      by : (a : Bool) → read_by (not a) false false c (read_of hs) ≡ cond a (c ∷ []) [] ++ read_of hs
      by true = refl
      by false = refl

  pub copies_append : (hs ks : List Head) → copies_of g (hs ++ ks) ≡ copies_of g hs ++ copies_of g ks
  unfolding copies_of
  copies_append [] ks = refl
  copies_append (h ∷ hs) ks = by (live h) (copies_append hs ks)
    where
      c : Event
      c = copy (h.place + header_size g) (round_up g.word h.len)

      by : (a : Bool) → copies_of g (hs ++ ks) ≡ copies_of g hs ++ copies_of g ks
          → cond a (c ∷ copies_of g (hs ++ ks)) (copies_of g (hs ++ ks)) ≡ cond a (c ∷ copies_of g hs) (copies_of g hs) ++ copies_of g ks
      by true e = ap (λ (es : List Event). c ∷ es) e
      by false e = e

  pub front_read : (hs ks : List Head) → Each (Passed g n) hs → read_of (hs ++ ks) ≡ copies_of g hs ++ read_of ks
  unfolding copies_of
  front_read [] ks e = refl
  front_read (h ∷ hs) ks e =
      passed_read h (hs ++ ks) e.0 ∙ ap (λ (es : List Event). copies_of g (h ∷ []) ++ es) (front_read hs ks e.1)
      ∙ sym (append_assoc (copies_of g (h ∷ [])) (copies_of g hs) (read_of ks)) ∙ ap (λ (es : List Event). es ++ read_of ks) (sym (copies_append (h ∷ []) hs))

  pub long_read : (h : Head) (hs : List Head) → live h ≡ true → n < round_up g.word h.len → read_of (h ∷ hs) ≡ []
  unfolding read_of
  long_read h hs a b = rw (a, lt-ltb n (round_up g.word h.len) b)

  pub met_read : (h : Head) (hs : List Head) → present h ≡ true → round_up g.word h.len ≤ n → read_of (h ∷ hs) ≡ copies_of g (h ∷ [])
  unfolding read_of copies_of
  met_read h hs a b = rw (present_live g n h a, a, le-ltb n (round_up g.word h.len) b)
