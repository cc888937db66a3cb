-- The paper's reading of headers, by the turns of the loop that reads live items. Assumes nothing.
use mathlib.Core.Path.{◌≡◌, refl, sym, ap, ◌∙◌}
use mathlib.Core.Bool.{true, false}
use mathlib.Core.List.{List, []}
use Prim.Native.Nat.{ℕ, ◌<◌}
use native.Mathlib.Omega.{arith}
use lib.ListN.{length}
use Rattle.std.specs.Prelude.{Result, Ok, Err}
use Rattle.std.proofs.lemmas.Bool.Decides.{nat_tests}
use Rattle.paper.specs.declared.Geometry.{Geometry}
use Rattle.paper.specs.Chip.{round_up, data_end, page_of, store_count, Plan}
use Rattle.paper.specs.Scan.{Head, walk_on, live}
use Rattle.paper.specs.Search.{item_end, Met, passed, long, met, read_heads}
use Rattle.chip.specs.declared.Budget.{Budget}
use Rattle.chip.specs.Within.{address_limit}
use Rattle.chip.specs.Run.{Acted}
use Rattle.chip.proofs.Running.{acted_copies}
use Rattle.chip.proofs.Binding.{showed_none, showed_plan, showed_and_then, showed_turned}
use Rattle.item.specs.declared.Item.{Item}
use Rattle.item.specs.declared.MaybeItem.{MaybeItem}
use Rattle.item.specs.declared.MaybeItem.TheVariants as maybe
use Rattle.item.specs.declared.TooSmall.{TooSmall}
use Rattle.item.specs.Places.{after, Inside}
use Rattle.item.specs.Reading.{item_of, copies, read_as, ReadIs}
use Rattle.item.specs.Scanning.{walk_from, lives, Reaches}
use Rattle.item.proofs.ReadingHeads.{read_on, read_on_lem, read_lives}
use Rattle.search.specs.Turns.{after_items, read_turn}
use Rattle.search.specs.Meanings.{head_of, ItemIn}
use Rattle.search.specs.Searching.{Copied}

-- ---- one item

-- reading it stores nothing
copies_free : (g : Geometry) (n : ℕ) (h : Head) → store_count (copies g n h) ≡ 0
unfolding copies store_count
copies_free g n h = grind (arith, nat_tests)

-- a live one is not read as popped
never_popped : (n : ℕ) (h : Head) (x y : Item) → live h ≡ true → read_as n h x ≡ Ok (maybe.Erased y) → ⊥
unfolding read_as
never_popped n h x y l e = grind (arith, nat_tests)

-- one that is too long for the buffer is not copied
small_copies : (g : Geometry) (n : ℕ) (h : Head) (x : Item) (k : TooSmall) → x.size ≡ round_up g.word h.len → read_as n h x ≡ Err k → copies g n h ≡ []
unfolding read_as copies
small_copies g n h x k e q = grind (arith, nat_tests)

-- ---- the live items from address a on, in data that ends at end, read to buffers of n bytes

-- the address behind item x
abbrev pub behind : Geometry → Item → ℕ
behind g x = after g x.address.0 x.header.length

-- what reading them comes to
abbrev pub reading : Geometry → List ℕ → ℕ → ℕ → ℕ → Plan Met
reading g im end n a = read_heads g n a (walk_from g im end a).heads im

module _ (g : Geometry) (im : List ℕ) (end n : ℕ) where
  by_lives : (a : ℕ) (hs : List Head) → lives (walk_from g im end a).heads ≡ hs → reading g im end n a ≡ read_heads g n a hs im
  by_lives a hs e = ap (λ (f : List ℕ → Plan Met). f im) (read_lives g n a (walk_from g im end a).heads) ∙ ap (λ (l : List Head). read_heads g n a l im) e

  pub none_read : (a : ℕ) (d : List ℕ) → lives (walk_from g im end a).heads ≡ [] → Copied g (reading g im end n a) im d d passed
  unfolding read_heads
  none_read a d e b = rw (by_lives a [] e) (showed_none g b im passed d)

  -- the first of them lies in the image
  pub first_in : {a : ℕ} {x : Item} → Inside g (length im) a end → end < address_limit → Reaches g im end a x → ItemIn g (length im) x
  first_in i top r = record { good = i.good; fits = omega (arith, r.fits, i.ends); top = omega (arith, r.fits) }

  -- item x is the first of them; reading it took the buffer from d to e and answered m
  module _ (a : ℕ) (x : Item) (first : Reaches g im end a x) (d e : List ℕ) (size : length d ≡ n) (m : Result MaybeItem TooSmall)
      (read : ReadIs g im x.address x.header d e m) where
    answered : m ≡ read_as n (head_of g im x) (item_of g x.address x.header)
    answered = rw size at read.answer

    first_read : (m₁ : Result MaybeItem TooSmall) → m ≡ m₁
        → reading g im end n a ≡ read_on g n a (head_of g im x) (lives (walk_from g im end (behind g x)).heads) im m₁
    first_read m₁ q =
        by_lives a _ first.first ∙ read_on_lem g n (head_of g im x) a _ im (item_of g x.address x.header) refl
        ∙ ap (read_on g n a (head_of g im x) (lives (walk_from g im end (behind g x)).heads) im) (sym answered ∙ q)

    copied : (b : Budget) → Acted g b (copies g n (head_of g im x)) im im d e (record { cut = false; budget = b })
    copied b = rw (← size) (acted_copies g b (copies g (length d) (head_of g im x)) im d e (copies_free g (length d) (head_of g im x)) read.buffer)

    pub not_popped : (y : Item) → m ≡ Ok (maybe.Erased y) → ⊥
    not_popped y q = never_popped n (head_of g im x) _ y first.alive (sym answered ∙ q)

    pub small_read : (k : TooSmall) → m ≡ Err k → Copied g (reading g im end n a) im d e (long a k.0)
    small_read k q b =
        let none = small_copies g n (head_of g im x) _ k refl (sym answered ∙ q) in
        rw (first_read _ q) (showed_plan (long a k.0) (rw none at (copied b)))

    pub present_read : (y : Item) → m ≡ Ok (maybe.Present y) → Copied g (reading g im end n a) im d e (met (head_of g im x))
    present_read y q b = rw (first_read _ q) (showed_plan (met (head_of g im x)) (copied b))

    pub torn_read : (y : Item) → m ≡ Ok (maybe.Corrupted y) → {f : List ℕ} {r : Met} → Copied g (reading g im end n (behind g x)) im e f r
        → Copied g (reading g im end n a) im d f r
    unfolding item_end
    torn_read y q v b =
        let w = by_lives (behind g x) _ refl in
        rw (first_read _ q) (showed_and_then (read_heads g n (behind g x) (lives (walk_from g im end (behind g x)).heads)) (copied b) refl (rw (← w) (v b)))

-- ---- those of what is left of a page

pub page_read : (g : Geometry) (im : List ℕ) (a n : ℕ) {p end : ℕ} {d e : List ℕ} {x : Met} (y : Met) → p ≡ page_of g a → end ≡ data_end g p
    → Copied g (reading g im end n a) im d e x → x ≡ y
    → Copied g (read_turn g n a im) im d e (after_items g p y)
unfolding read_turn walk_on
page_read g im a n {p} y ep ee v q b = rw (← ep, ← ee, ← q) (showed_turned (after_items g p) (v b))
