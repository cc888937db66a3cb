-- The invariant of the images of a history, and the list under it. Assumes nothing.
use mathlib.Core.Bool.{true}
use mathlib.Core.List.{List, []}
use mathlib.Core.Logic.{◌⊎◌, inr}
use mathlib.Core.Path.{◌≡◌, refl, sym, ap, ◌∙◌, subst}
use Prim.Native.Nat.{ℕ, suc, ◌+◌, ◌≤◌, ◌<◌}
use lib.Dec.{lit<}
use lib.ListN.{length, replicate}
use Rattle.paper.specs.declared.Geometry.{Geometry}
use Rattle.paper.specs.declared.PageState.TheVariants.{Open}
use Rattle.paper.specs.Chip.{header_size, data_start, data_size, page_data}
use Rattle.paper.specs.Slip.{blank}
use Rattle.paper.specs.Scan.{Walk, walk, page_walk, payloads}
use Rattle.paper.specs.Pages.{state}
use Rattle.paper.specs.Waiting.{waiting}
use Rattle.paper.specs.Fifo.{Bytes}
use Rattle.laws.proofs.Accepted.{Laid}
use Rattle.laws.proofs.Ring.{turn, turn_lt, turn_once}
use Rattle.demand3.specs.Addresses.{presents, waiting_heads}
use Rattle.demand3.proofs.Blank.{blank_replicate}
use Rattle.demand3.proofs.Bytes.{bytes_replicate}
use Rattle.demand3.proofs.Courses.{blank_walk}
use Rattle.demand3.proofs.Views.{View, view, state_in, erased_view, view_state}
use Rattle.demand3.proofs.RingShape.{RingShape, cur_in}
use Rattle.demand3.proofs.ListedHeads.{heads_in, run_heads, waiting_heads_are}
use Rattle.demand3.proofs.Listed.{waiting_is, present_in, run, run_same}
use Rattle.demand3.proofs.Changed.{Changed, every_page}

-- the rest of a page behind its last item: blank, or shorter than a header
abbrev pub CleanRest : Geometry → List ℕ → Type 0
CleanRest g r = (length r < header_size g) ⊎ (blank r ≡ true)

-- a page: its rest is clean; with words of 8 and more nothing is refused; an Open page is FF between its marks; bytes are bytes
pub record PageOk (g : Geometry) (p : ℕ) (v : View) : Type 0 where
  pub clean : CleanRest g (walk g 0 (data_start g p) v.inner).rest
  pub quiet : 8 ≤ g.word → (walk g 0 (data_start g p) v.inner).refused ≡ []
  pub untouched : state_in v ≡ Open → blank v.inner ≡ true
  pub bytes : Bytes v.inner

-- the oldest page is o, and the b pages from there on are Closed
pub record Inv (g : Geometry) (im : List ℕ) (o b : ℕ) : Type 0 where
  pub good : Laid g (length im)
  pub shape : RingShape g im o b
  pub pages_ok : (p : ℕ) → p < g.pages → PageOk g p (view g im p)

pub erased_ok : (g : Geometry) → 0 < g.word → (p : ℕ) → PageOk g p (erased_view g)
erased_ok g pos p =
    let f = blank_replicate (data_size g) in
    let e = blank_walk g pos (data_start g p) (replicate (data_size g) 255) f in
    record {
      clean = subst (λ (w : Walk). CleanRest g w.rest) (sym e) (inr f);
      quiet = λ h. ap (λ (w : Walk). w.refused) e;
      untouched = λ h. f;
      bytes = bytes_replicate (data_size g) 255 (lit< tt);
    }

module _ {g : Geometry} {im : List ℕ} {o b : ℕ} (I : Inv g im o b) where
  pub current_in : turn g o b < g.pages
  current_in = cur_in g im o b I.shape

  pub turn_in : (i : ℕ) → i ≤ g.pages → turn g o i < g.pages
  turn_in i h = turn_lt g o i I.shape.old_in h

  pub not_current : (i : ℕ) → i < g.pages → (i ≡ b → ⊥) → turn g o i ≡ turn g o b → ⊥
  not_current i h ne e = ne (turn_once g o i b I.shape.old_in h I.shape.run_in e)

  -- an Open page, to the scan
  pub open_walk : (p : ℕ) → p < g.pages → state g im p ≡ Open → page_walk g im p ≡ record { heads = []; refused = []; rest = page_data g im p }
  unfolding page_walk
  open_walk p h e = blank_walk g I.good.sized.low (data_start g p) (page_data g im p) ((I.pages_ok p h).untouched (sym (view_state g im p refl) ∙ e))

  pub open_empty : (p : ℕ) → p < g.pages → state g im p ≡ Open → present_in g im p ≡ []
  unfolding payloads
  open_empty p h e = ap (λ (w : Walk). payloads w.heads) (open_walk p h e)

  -- with words of 8 and more nothing is refused
  pub quiet_walk : (p : ℕ) → p < g.pages → 8 ≤ g.word → (page_walk g im p).refused ≡ []
  unfolding page_walk
  quiet_walk p h k = (I.pages_ok p h).quiet k

  open_none : (p : ℕ) → p < g.pages → state g im p ≡ Open → heads_in g im p ≡ []
  unfolding presents
  open_none p h e = ap (λ (w : Walk). presents w.heads) (open_walk p h e)

  pub listed_heads : waiting_heads g im ≡ run_heads g im o 0 (suc b)
  listed_heads = waiting_heads_are g im o b I.shape open_none

  pub listed : waiting g im ≡ run g im o 0 (suc b)
  listed = waiting_is g im o b I.shape open_none

  -- another image whose pages have the same items, from i places after the oldest page on
  pub runs_same : (jm : List ℕ) (i m : ℕ) → i + m ≤ g.pages → ((j : ℕ) → i ≤ j → j < i + m → page_walk g jm (turn g o j) ≡ page_walk g im (turn g o j))
      → run g jm o i m ≡ run g im o i m
  runs_same jm i m h f = run_same g jm im o i m (λ j l k. ap (λ (w : Walk). payloads w.heads) (f j l k))

  -- a change of one page leaves the others as they were
  pub pages_still_ok : {jm : List ℕ} {p : ℕ} {v : View} → Changed g im jm p v → PageOk g p v → (q : ℕ) → q < g.pages → PageOk g q (view g jm q)
  pages_still_ok C = every_page C (PageOk g) (λ q h ne. I.pages_ok q h)
