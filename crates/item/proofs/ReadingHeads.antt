-- The paper's reading of a list of headers, by what the code answers to each of them. Assumes nothing.
use mathlib.Core.Path.{◌≡◌, refl, sym, ap, ◌∙◌}
use mathlib.Core.Bool.{Bool, true, false, cond, not}
use mathlib.Core.List.{List, [], ◌∷◌}
use Prim.Native.Nat.{ℕ, ◌+◌}
use lib.Dec.{ltb}
use Rattle.std.specs.Prelude.{Result, Ok, Err}
use Rattle.std.proofs.lemmas.Bool.Decides.{nat_tests}
use native.Mathlib.Omega.{arith}
use Rattle.paper.specs.declared.Geometry.{Geometry}
use Rattle.paper.specs.Chip.{Event, copy, round_up, header_size, Plan, plan, and_then}
use Rattle.paper.specs.Scan.{Head, live, present}
use Rattle.paper.specs.Search.{item_end, Met, long, met, read_heads}
use Rattle.item.specs.declared.Item.{Item}
use Rattle.item.specs.declared.MaybeItem.{MaybeItem}
use Rattle.item.specs.declared.MaybeItem.TheVariants as maybe
use Rattle.item.specs.declared.TooSmall.{TooSmall}
use Rattle.item.specs.Reading.{copies, read_as}
use Rattle.item.specs.Scanning.{lives}

-- ---- one header

-- what reading the headers h and hs comes to, looked for from address a, when reading h answered so
abbrev pub read_on : Geometry → ℕ → ℕ → Head → List Head → List ℕ → Result MaybeItem TooSmall → Plan Met
read_on g n a h hs im (Ok (maybe.Present x)) = plan (copies g n h) (met h)
read_on g n a h hs im (Ok (maybe.Erased x)) = read_heads g n a hs im
read_on g n a h hs im (Ok (maybe.Corrupted x)) = and_then g im (copies g n h) (read_heads g n (item_end g h) hs)
read_on g n a h hs im (Err k) = plan [] (long a k.0)

module _ (g : Geometry) (n : ℕ) (h : Head) where
  abbrev read : List Event
  read = copy (h.place + header_size g) (round_up g.word h.len) ∷ []

  -- the paper's reading of h, which is m bytes long in whole words, and of what comes later: looked for from a still, or behind h anew
  abbrev first : ℕ → ℕ → (List ℕ → Plan Met) → (List ℕ → Plan Met) → List ℕ → Plan Met
  first a m skipped later im =
      cond (not (live h)) (skipped im)
      (cond (ltb n m) (plan [] (long a m))
      (cond (present h) (plan read (met h)) (and_then g im read later)))

  first_is : (a : ℕ) (hs : List Head) (im : List ℕ) (x : Item) → x.size ≡ round_up g.word h.len
      → first a x.size (read_heads g n a hs) (read_heads g n (item_end g h) hs) im ≡ read_on g n a h hs im (read_as n h x)
  unfolding read_as copies
  first_is a hs im x e = grind (arith, nat_tests)

  pub read_on_lem : (a : ℕ) (hs : List Head) (im : List ℕ) (x : Item) → x.size ≡ round_up g.word h.len
      → read_heads g n a (h ∷ hs) im ≡ read_on g n a h hs im (read_as n h x)
  unfolding read_heads
  read_on_lem a hs im x e =
      ap (λ (m : ℕ). first a m (read_heads g n a hs) (read_heads g n (item_end g h) hs) im) (sym e) ∙ first_is a hs im x e

  -- h among its list: only a live one has a say
  lives_step : (a : ℕ) (hs ls : List Head) → ((b : ℕ) → read_heads g n b hs ≡ read_heads g n b ls)
      → read_heads g n a (h ∷ hs) ≡ read_heads g n a (cond (live h) (h ∷ ls) ls)
  unfolding read_heads
  lives_step a hs ls q = λ i im. by im (live h) refl i
    where
      size : ℕ
      size = round_up g.word h.len

      by : (im : List ℕ) (s : Bool) → live h ≡ s
          → first a size (read_heads g n a hs) (read_heads g n (item_end g h) hs) im ≡ read_heads g n a (cond s (h ∷ ls) ls) im
      by im true l =
          ap (λ (skipped : List ℕ → Plan Met). first a size skipped (read_heads g n (item_end g h) hs) im) (q a)
          ∙ ap (λ (later : List ℕ → Plan Met). first a size (read_heads g n a ls) later im) (q (item_end g h))
      by im false l = rw l (ap (λ (later : List ℕ → Plan Met). later im) (q a))

-- ---- a list of them

-- popped headers have no say
pub read_lives : (g : Geometry) (n a : ℕ) (hs : List Head) → read_heads g n a hs ≡ read_heads g n a (lives hs)
unfolding lives
read_lives g n a [] = refl
read_lives g n a (h ∷ hs) = lives_step g n h a hs (lives hs) (λ b. read_lives g n b hs)
