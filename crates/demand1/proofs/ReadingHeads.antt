-- Reading headers in order: it makes copies alone, and ends at the first header that is not passed. Assumes nothing.
use mathlib.Core.Path.{◌≡◌, refl, ap, ◌∙◌}
use mathlib.Core.Bool.{Bool, true, false, cond, not, ◌&&◌}
use mathlib.Core.List.{List, [], ◌∷◌, ◌++◌}
use mathlib.Core.Logic.{inl, inr}
use Prim.Native.Nat.{ℕ, ◌+◌, ◌≤◌, ◌<◌}
use borrow.Author.Tests.{ltb-true, ltb-false, lt-ltb, le-ltb}
use lib.Dec.{eqb, ltb}
use Rattle.paper.specs.declared.Geometry.{Geometry}
use Rattle.paper.specs.Checksum.{data_crc}
use Rattle.paper.specs.Chip.{round_up, header_size, Event, store, erase, copy, plan, bind, and_then}
use Rattle.paper.specs.Scan.{Head, live, present, payloads}
use Rattle.paper.specs.Search.{Met, passed, long, met, item_end, read_heads, Outcome, nothing, short, this, spoilt}
use Rattle.laws.proofs.Events.{IsCopy}
use Rattle.demand1.specs.Range.{Each}
use Rattle.demand1.specs.Buffers.{ReadOf}
use Rattle.demand1.specs.Rows.{Passed, Stops}
use Rattle.demand1.proofs.Lists.{each_weaker}
use Rattle.demand1.proofs.SearchCopies.{heads_read}

-- what a search comes to, by what its headers come to
abbrev pub outcome : Met → Outcome
outcome passed = nothing
outcome (long a k) = short k
outcome (met h) = this h

-- what comes first, or else what follows
abbrev pub then_meet : Outcome → Outcome → Outcome
then_meet nothing m = m
then_meet (short k) m = short k
then_meet (this h) m = this h
then_meet spoilt m = spoilt

module _ (g : Geometry) (n : ℕ) where
  pub heads_copied : (a : ℕ) (hs : List Head) (im : List ℕ) → Each IsCopy (read_heads g n a hs im).events
  heads_copied a hs im = each_weaker (ReadOf g hs) IsCopy by (read_heads g n a hs im).events (heads_read g n a hs im).each
    where
      by : (e : Event) → ReadOf g hs e → IsCopy e
      by (store a word) r = r
      by (erase p) r = r
      by (copy a m) r = tt

  -- ---- what it comes to

  -- by a header's tests: later is what the headers after it come to
  abbrev pub meet_by : Bool → Bool → Bool → Head → Outcome → Outcome
  meet_by true over whole h later = later
  meet_by false true whole h later = short (round_up g.word h.len)
  meet_by false false true h later = this h
  meet_by false false false h later = later

  unfoldable pub meet : List Head → Outcome
  meet [] = nothing
  meet (h ∷ hs) = meet_by (not (live h)) (ltb n (round_up g.word h.len)) (present h) h (meet hs)

  pub meets : (a : ℕ) (hs : List Head) (im : List ℕ) → outcome (read_heads g n a hs im).answer ≡ meet hs
  unfolding read_heads meet bind
  meets a [] im = refl
  meets a (h ∷ hs) im = by (not (live h)) (ltb n size) (present h) (λ a. meets a hs)
    where
      size : ℕ
      size = round_up g.word h.len

      read : List Event
      read = copy (h.place + header_size g) (round_up g.word h.len) ∷ []

      by : (s t u : Bool) → ((a : ℕ) (im : List ℕ) → outcome (read_heads g n a hs im).answer ≡ meet hs)
          → outcome (cond s (read_heads g n a hs im)
          (cond t (plan [] (long a size)) (cond u (plan read (met h)) (and_then g im read (read_heads g n (item_end g h) hs))))).answer
          ≡ meet_by s t u h (meet hs)
      by true t u f = f a im
      by false true u f = refl
      by false false true f = refl
      by false false false f = f (item_end g h) _

  -- one list of headers after another
  pub meet_append : (hs ks : List Head) → meet (hs ++ ks) ≡ then_meet (meet hs) (meet ks)
  unfolding meet
  meet_append [] ks = refl
  meet_append (h ∷ hs) ks = by (not (live h)) (ltb n (round_up g.word h.len)) (present h) (meet_append hs ks)
    where
      by : (a b c : Bool) → meet (hs ++ ks) ≡ then_meet (meet hs) (meet ks)
          → meet_by a b c h (meet (hs ++ ks)) ≡ then_meet (meet_by a b c h (meet hs)) (meet ks)
      by true b c e = e
      by false true c e = refl
      by false false true e = refl
      by false false false e = e

  -- ---- which headers are passed, and where it stops

  pub present_live : (h : Head) → present h ≡ true → live h ≡ true
  unfolding present
  present_live h = by (live h) (eqb (data_crc h.body) h.crc)
    where
      by : (a b : Bool) → (a && b) ≡ true → a ≡ true
      by true b e = refl
      by false b e = e

  passed_absent : (h : Head) → Passed g n h → present h ≡ false
  unfolding present
  passed_absent h (inl e) = rw e
  passed_absent h (inr e) = e.0

  pub passed_payloads : (hs : List Head) → Each (Passed g n) hs → payloads hs ≡ []
  unfolding payloads
  passed_payloads [] e = refl
  passed_payloads (h ∷ hs) e = rw (passed_absent h e.0) (passed_payloads hs e.1)

  passed_meet : (h : Head) (hs : List Head) → Passed g n h → meet (h ∷ hs) ≡ meet hs
  unfolding meet
  passed_meet h hs (inl e) = rw e
  passed_meet h hs (inr e) = rw (e.0, le-ltb n (round_up g.word h.len) e.1) (by (not (live h)))
    where
      by : (a : Bool) → meet_by a false false h (meet hs) ≡ meet hs
      by true = refl
      by false = refl

  pub passed_all : (hs ks : List Head) → Each (Passed g n) hs → meet (hs ++ ks) ≡ meet ks
  passed_all [] ks e = refl
  passed_all (h ∷ hs) ks e = passed_meet h (hs ++ ks) e.0 ∙ passed_all hs ks e.1

  pub meet_long : (h : Head) (hs : List Head) → live h ≡ true → n < round_up g.word h.len → meet (h ∷ hs) ≡ short (round_up g.word h.len)
  unfolding meet
  meet_long h hs a b = rw (a, lt-ltb n (round_up g.word h.len) b)

  pub meet_met : (h : Head) (hs : List Head) → present h ≡ true → round_up g.word h.len ≤ n → meet (h ∷ hs) ≡ this h
  unfolding meet
  meet_met h hs a b = rw (present_live h a, a, le-ltb n (round_up g.word h.len) b)

  -- and back
  pub data Meets (hs : List Head) : Outcome → Type 0 where
    all : Each (Passed g n) hs → Meets hs nothing
    too_long : (h : Head) → Stops g n hs h → live h ≡ true → n < round_up g.word h.len → Meets hs (short (round_up g.word h.len))
    seen : (h : Head) → Stops g n hs h → present h ≡ true → round_up g.word h.len ≤ n → Meets hs (this h)

  stops_later : (h : Head) (hs : List Head) (x : Head) → Passed g n h → Stops g n hs x → Stops g n (h ∷ hs) x
  stops_later h hs x p s = record { front = h ∷ s.front; rest = s.rest; all = ap (λ (y : List Head). h ∷ y) s.all; passed = (p, s.passed) }

  meets_later : (h : Head) (hs : List Head) (m : Outcome) → Passed g n h → Meets hs m → Meets (h ∷ hs) m
  meets_later h hs m p (all e) = all (p, e)
  meets_later h hs m p (too_long x s a b) = too_long x (stops_later h hs x p s) a b
  meets_later h hs m p (seen x s a b) = seen x (stops_later h hs x p s) a b

  pub meet_is : (hs : List Head) → Meets hs (meet hs)
  unfolding meet
  meet_is [] = all tt
  meet_is (h ∷ hs) = by (live h) (ltb n (round_up g.word h.len)) (present h) refl refl refl (meet_is hs)
    where
      here : Stops g n (h ∷ hs) h
      here = record { front = []; rest = hs; all = refl; passed = tt }

      by : (a b c : Bool) → live h ≡ a → ltb n (round_up g.word h.len) ≡ b → present h ≡ c → Meets hs (meet hs)
          → Meets (h ∷ hs) (meet_by (not a) b c h (meet hs))
      by false b c x y z r = meets_later h hs (meet hs) (inl x) r
      by true true c x y z r = too_long h here x (ltb-true n (round_up g.word h.len) y)
      by true false true x y z r = seen h here z (ltb-false n (round_up g.word h.len) y)
      by true false false x y z r = meets_later h hs (meet hs) (inr (z, ltb-false n (round_up g.word h.len) y)) r
