-- A header of the list with its addresses, wherever it stands there: zeros in its CRC, from the first byte on, leave the list without it. Assumes nothing.
use mathlib.Core.Bool.{Bool, true, false, cond}
use mathlib.Core.List.{List, [], ◌∷◌, ◌++◌, append_assoc, head-eq_of_cons-eq, tail-eq_of_cons-eq}
use mathlib.Core.Path.{◌≡◌, refl, sym, ap, ap₂, ◌∙◌, subst}
use Prim.Native.Nat.{ℕ, zero, suc, ◌+◌, ◌-◌}
use native.Mathlib.Nat.{add-zero, zero-add}
use native.Mathlib.Omega.{arith}
use Rattle.paper.specs.declared.Geometry.{Geometry}
use Rattle.paper.specs.Chip.{put}
use Rattle.paper.specs.Scan.{Head, page_walk, payloads, present}
use Rattle.paper.specs.Waiting.{waiting}
use Rattle.laws.proofs.Ring.{turn}
use Rattle.demand3.specs.Addresses.{presents, waiting_heads}
use Rattle.demand3.proofs.Replaced.{NoneAccepted}
use Rattle.demand3.proofs.ZeroedScan.{zeros, OfCrc}
use Rattle.demand3.proofs.ListedHeads.{heads_in, run_heads}
use Rattle.demand3.proofs.Invariant.{Inv, listed_heads}
use Rattle.demand3.proofs.PresentItem.{PresentItem, nil_not, item_before, item_after, item_waits, struck_listed, struck_waits}

-- the list: the headers xs, then h, then ys
pub record ListedItem (g : Geometry) (im : List ℕ) (xs : List Head) (h : Head) (ys : List Head) : Type 0 where
  pub item : PresentItem g im h
  pub before_is : item_before item ≡ xs
  pub after_is : item_after item ≡ ys

-- ---- where it stands

-- in the first of two lists, or in the second
data Split (a b xs : List Head) (h : Head) (ys : List Head) : Type 0 where
  in_first : (zs : List Head) → a ≡ xs ++ (h ∷ zs) → zs ++ b ≡ ys → Split a b xs h ys
  in_second : (zs : List Head) → a ++ zs ≡ xs → b ≡ zs ++ (h ∷ ys) → Split a b xs h ys

split : (a b xs : List Head) (h : Head) (ys : List Head) → a ++ b ≡ xs ++ (h ∷ ys) → Split a b xs h ys
split [] b xs h ys e = in_second xs refl e
split (k ∷ a) b [] h ys e = in_first a (ap (λ (x : Head). x ∷ a) (head-eq_of_cons-eq e)) (tail-eq_of_cons-eq e)
split (k ∷ a) b (x ∷ xs) h ys e = by (split a b xs h ys (tail-eq_of_cons-eq e))
  where
    by : Split a b xs h ys → Split (k ∷ a) b (x ∷ xs) h ys
    by (in_first zs p q) = in_first zs (ap₂ (λ (y : Head) (l : List Head). y ∷ l) (head-eq_of_cons-eq e) p) q
    by (in_second zs p q) = in_second zs (ap₂ (λ (y : Head) (l : List Head). y ∷ l) (head-eq_of_cons-eq e) p) q

-- among the present headers of a page
record Among (hs xs : List Head) (h : Head) (ys : List Head) : Type 0 where
  pre : List Head
  post : List Head
  heads_are : hs ≡ pre ++ (h ∷ post)
  is_present : present h ≡ true
  before_is : presents pre ≡ xs
  after_is : presents post ≡ ys

among : (hs xs : List Head) (h : Head) (ys : List Head) → presents hs ≡ xs ++ (h ∷ ys) → Among hs xs h ys
unfolding presents
among [] xs h ys e = absurd (nil_not xs h ys e)
among (k ∷ hs) xs h ys e = by (present k) refl xs e (λ l. among hs l h ys)
  where
    by : (t : Bool) → present k ≡ t → (l : List Head) → cond t (k ∷ presents hs) (presents hs) ≡ l ++ (h ∷ ys)
        → ((m : List Head) → presents hs ≡ m ++ (h ∷ ys) → Among hs m h ys) → Among (k ∷ hs) l h ys
    by false q l f rec =
        let R = rec l f in
        record {
          pre = k ∷ R.pre;
          post = R.post;
          heads_are = ap (λ (x : List Head). k ∷ x) R.heads_are;
          is_present = R.is_present;
          before_is = rw q R.before_is;
          after_is = R.after_is;
        }
    by true q [] f rec =
        let z : k ≡ h = head-eq_of_cons-eq f in
        record {
          pre = [];
          post = hs;
          heads_are = ap (λ (x : Head). x ∷ hs) z;
          is_present = subst (λ (x : Head). present x ≡ true) z q;
          before_is = refl;
          after_is = tail-eq_of_cons-eq f;
        }
    by true q (x ∷ l) f rec =
        let R = rec l (tail-eq_of_cons-eq f) in
        record {
          pre = k ∷ R.pre;
          post = R.post;
          heads_are = ap (λ (y : List Head). k ∷ y) R.heads_are;
          is_present = R.is_present;
          before_is = rw q (ap₂ (λ (y : Head) (m : List Head). y ∷ m) (head-eq_of_cons-eq f) R.before_is);
          after_is = R.after_is;
        }

-- in a run of m pages, from i places after o on
record InRun (g : Geometry) (im : List ℕ) (o i m : ℕ) (xs : List Head) (h : Head) (ys : List Head) : Type 0 where
  turns : ℕ
  more : ℕ
  count : m ≡ turns + suc more
  pre : List Head
  post : List Head
  heads_are : (page_walk g im (turn g o (i + turns))).heads ≡ pre ++ (h ∷ post)
  is_present : present h ≡ true
  before_is : run_heads g im o i turns ++ presents pre ≡ xs
  after_is : presents post ++ run_heads g im o (suc (i + turns)) more ≡ ys

module _ (g : Geometry) (im : List ℕ) (o : ℕ) (h : Head) (ys : List Head) where
  in_run : (m i : ℕ) (xs : List Head) → run_heads g im o i m ≡ xs ++ (h ∷ ys) → InRun g im o i m xs h ys
  unfolding run_heads
  in_run zero i xs e = absurd (nil_not xs h ys e)
  in_run (suc m) i xs e = by (split (heads_in g im (turn g o i)) (run_heads g im o (suc i) m) xs h ys e) (λ l. in_run m (suc i) l)
    where
      by : Split (heads_in g im (turn g o i)) (run_heads g im o (suc i) m) xs h ys
          → ((l : List Head) → run_heads g im o (suc i) m ≡ l ++ (h ∷ ys) → InRun g im o (suc i) m l h ys) → InRun g im o i (suc m) xs h ys
      by (in_first zs p q) rec =
          let A = among (page_walk g im (turn g o i)).heads xs h zs p in
          record {
            turns = 0;
            more = m;
            count = omega arith;
            pre = A.pre;
            post = A.post;
            heads_are = rw add-zero A.heads_are;
            is_present = A.is_present;
            before_is = A.before_is;
            after_is = rw add-zero (ap (λ (x : List Head). x ++ run_heads g im o (suc i) m) A.after_is ∙ q);
          }
      by (in_second zs p q) rec =
          let R = rec zs q in
          let z : suc i + R.turns ≡ i + suc R.turns = omega arith in
          record {
            turns = suc R.turns;
            more = R.more;
            count = omega (arith, R.count);
            pre = R.pre;
            post = R.post;
            heads_are = rw (← z) R.heads_are;
            is_present = R.is_present;
            before_is = append_assoc (heads_in g im (turn g o i)) (run_heads g im o (suc i) R.turns) (presents R.pre)
                ∙ ap (λ (x : List Head). heads_in g im (turn g o i) ++ x) R.before_is ∙ p;
            after_is = rw (← z) R.after_is;
          }

pub listed_item : {g : Geometry} {im : List ℕ} {o b : ℕ} → Inv g im o b → (xs : List Head) (h : Head) (ys : List Head)
    → waiting_heads g im ≡ xs ++ (h ∷ ys) → ListedItem g im xs h ys
listed_item {g} {im} {o} {b} I xs h ys e =
    let R = in_run g im o h ys (suc b) 0 xs (sym (listed_heads I) ∙ e) in
    let z : b - R.turns ≡ R.more = omega (arith, R.count) in
    record {
      item = record {
        old = o;
        runs = b;
        inv = I;
        turns = R.turns;
        in_run = omega (arith, R.count);
        page = turn g o (0 + R.turns);
        page_is = ap (turn g o) (sym (zero-add R.turns));
        pre = R.pre;
        post = R.post;
        heads_are = R.heads_are;
        is_present = R.is_present;
      };
      before_is = R.before_is;
      after_is = ap₂ (λ (x y : ℕ). presents R.post ++ run_heads g im o (suc x) y) (sym (zero-add R.turns)) z ∙ R.after_is;
    }

-- ---- it is taken from the list

module _ {g : Geometry} {im : List ℕ} {xs : List Head} {h : Head} {ys : List Head} (L : ListedItem g im xs h ys) where
  pub list_is : waiting g im ≡ payloads xs ++ (h.body ∷ payloads ys)
  list_is = item_waits L.item ∙ ap₂ (λ (x y : List Head). payloads x ++ (h.body ∷ payloads y)) L.before_is L.after_is

  module _ {i : ℕ} (Z : OfCrc i)
      (U : NoneAccepted (page_walk g im L.item.page).refused (page_walk g (put h.place (zeros i) im) L.item.page).heads) where
    pub headers_without : waiting_heads g (put h.place (zeros i) im) ≡ xs ++ ys
    headers_without = struck_listed L.item Z U ∙ ap₂ (λ (x y : List Head). x ++ y) L.before_is L.after_is

    pub list_without : waiting g (put h.place (zeros i) im) ≡ payloads xs ++ payloads ys
    list_without = struck_waits L.item Z U ∙ ap₂ (λ (x y : List Head). payloads x ++ payloads y) L.before_is L.after_is
