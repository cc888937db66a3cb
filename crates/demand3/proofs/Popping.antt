-- The first present item: zeros in its CRC, from the first byte on, take it from the front of the list. Assumes nothing.
use mathlib.Core.Bool.{true}
use mathlib.Core.List.{List, [], ◌∷◌, ◌++◌, Memᴰ}
use mathlib.Core.Path.{◌≡◌, ap, ap₂, ◌∙◌}
use Prim.Native.Nat.{ℕ, ◌+◌, ◌*◌, ◌-◌, ◌<◌, min}
use native.Mathlib.Omega.{arith}
use lib.ListN.{length}
use Rattle.paper.specs.declared.Geometry.{Geometry}
use Rattle.paper.specs.Chip.{header_size, part, put, image_after, before, writes}
use Rattle.paper.specs.Slip.{encode}
use Rattle.paper.specs.Scan.{Head, page_walk, payloads, present}
use Rattle.paper.specs.Waiting.{waiting}
use Rattle.laws.proofs.Ring.{turn_zero}
use Rattle.demand3.specs.Addresses.{presents}
use Rattle.demand3.proofs.Payloads.{payloads_append}
use Rattle.demand3.proofs.Addresses.{payloads_present}
use Rattle.demand3.proofs.Replaced.{NoneAccepted}
use Rattle.demand3.proofs.ZeroedScan.{zeros, OfCrc}
use Rattle.demand3.proofs.ListedHeads.{run_heads}
use Rattle.demand3.proofs.Listed.{run, payloads_run}
use Rattle.demand3.proofs.Invariant.{Inv}
use Rattle.demand3.proofs.PresentItem.{PresentItem, item_in, item_not_empty, item_body, item_length, item_before, item_after, item_waits, item_zeroed, item_zeroed_all, struck_inv, struck_waits, struck_places}

-- h is the first present item, in the oldest page
pub record FirstPresent (g : Geometry) (im : List ℕ) (h : Head) : Type 0 where
  pub old : ℕ
  pub runs : ℕ
  pub inv : Inv g im old runs
  pub pre : List Head
  pub post : List Head
  pub heads_are : (page_walk g im old).heads ≡ pre ++ (h ∷ post)
  pub none_before : payloads pre ≡ []
  pub is_present : present h ≡ true

module _ {g : Geometry} {im : List ℕ} {h : Head} (F : FirstPresent g im h) where
  -- a present item with nothing before it
  abbrev X : PresentItem g im h
  X = record {
    old = F.old;
    runs = F.runs;
    inv = F.inv;
    turns = 0;
    in_run = omega arith;
    page = F.old;
    page_is = turn_zero g F.old F.inv.shape.old_in;
    pre = F.pre;
    post = F.post;
    heads_are = F.heads_are;
    is_present = F.is_present;
  }

  pub first_in : F.old < g.pages
  first_in = item_in X

  pub not_empty : (page_walk g im F.old).heads ≡ [] → ⊥
  not_empty = item_not_empty X

  pub body_at : part (h.place + header_size g) h.len im ≡ h.body
  body_at = item_body X

  pub body_length : length h.body ≡ h.len
  body_length = item_length X

  nothing_before : payloads (item_before X) ≡ []
  unfolding run_heads
  nothing_before = payloads_present F.pre ∙ F.none_before

  behind : payloads (item_after X) ≡ payloads F.post ++ run g im F.old 1 F.runs
  behind =
      let z : F.runs - 0 ≡ F.runs = omega arith in
      payloads_append (presents F.post) (run_heads g im F.old 1 (F.runs - 0))
      ∙ ap₂ (λ (x y : List (List ℕ)). x ++ y) (payloads_present F.post) (payloads_run g im F.old 1 (F.runs - 0) ∙ ap (run g im F.old 1) z)

  -- the list begins with it
  pub first_listed : waiting g im ≡ h.body ∷ (payloads F.post ++ run g im F.old 1 F.runs)
  first_listed = item_waits X ∙ ap₂ (λ (x y : List (List ℕ)). x ++ (h.body ∷ y)) nothing_before behind

  -- ---- its header is stored again with CRC 0

  pub zeroed : (j : ℕ) → image_after g (before j (writes g h.place (encode g 0 h.len))) im ≡ put h.place (zeros (min 4 (j * g.word))) im
  zeroed = item_zeroed X

  pub zeroed_all : image_after g (writes g h.place (encode g 0 h.len)) im ≡ put h.place (zeros 4) im
  zeroed_all = item_zeroed_all X

  module _ {i : ℕ} (Z : OfCrc i) (U : NoneAccepted (page_walk g im F.old).refused (page_walk g (put h.place (zeros i) im) F.old).heads) where
    pub popped_inv : Inv g (put h.place (zeros i) im) F.old F.runs
    popped_inv = struck_inv X Z U

    pub popped_list : waiting g (put h.place (zeros i) im) ≡ payloads F.post ++ run g im F.old 1 F.runs
    popped_list = struck_waits X Z U ∙ ap₂ (λ (x y : List (List ℕ)). x ++ y) nothing_before behind

    -- no address is accepted that was not
    pub popped_heads : (p : ℕ) → p < g.pages → (x : Head) → Memᴰ x (page_walk g (put h.place (zeros i) im) p).heads
        → (y : Head) × Memᴰ y (page_walk g im p).heads × (y.place ≡ x.place)
    popped_heads = struck_places X Z U
