-- The current page's free spot, and what other bytes from there on make of the page, the invariant and the list. Assumes nothing.
use mathlib.Core.Bool.{true}
use mathlib.Core.List.{List, [], ◌++◌, append-nil, append_assoc}
use mathlib.Core.Logic.{inl, inr}
use mathlib.Core.Path.{◌≡◌, sym, ap, ap₂, ◌∙◌, subst}
use Prim.Native.Nat.{ℕ, suc, ◌+◌, ◌≤◌, ◌<◌}
use native.Mathlib.Omega.{arith}
use lib.ListN.{length, length-append}
use Rattle.paper.specs.declared.Geometry.{Geometry}
use Rattle.paper.specs.declared.PageState.TheVariants.{PartialOpen}
use Rattle.paper.specs.Chip.{header_size, data_start, data_size, data_end, page_data}
use Rattle.paper.specs.Slip.{blank}
use Rattle.paper.specs.Scan.{Head, Walk, walk, page_walk, free_spot, payloads}
use Rattle.paper.specs.Pages.{state, start_mark, end_mark}
use Rattle.paper.specs.Waiting.{waiting}
use Rattle.paper.specs.Fifo.{Bytes}
use Rattle.laws.proofs.Ring.{turn}
use Rattle.demand3.proofs.Bytes.{bytes_append, bytes_left, bytes_right}
use Rattle.demand3.proofs.Replaced.{NoneAccepted, after_these}
use Rattle.demand3.proofs.Tails.{front_of, front_split, rewalk}
use Rattle.demand3.proofs.Payloads.{payloads_append}
use Rattle.demand3.proofs.Views.{View, view, state_in, inner_length}
use Rattle.demand3.proofs.RingShape.{partly, keep_shape}
use Rattle.demand3.proofs.Listed.{present_in, run, run_append}
use Rattle.demand3.proofs.Changed.{Changed, still_good, state_other, walk_other, state_this, walk_this}
use Rattle.demand3.proofs.Invariant.{CleanRest, PageOk, Inv, current_in, turn_in, not_current, listed, runs_same, pages_still_ok}

-- an image whose current page is PartialOpen, so that a push may write at its free spot
pub record Site (g : Geometry) (im : List ℕ) : Type 0 where
  pub old : ℕ
  pub runs : ℕ
  pub inv : Inv g im old runs
  pub partly_now : state g im (turn g old runs) ≡ PartialOpen

abbrev pub current : {g : Geometry} {im : List ℕ} → Site g im → ℕ
current {g} S = turn g S.old S.runs

-- the scan of the current page, and its free spot
abbrev pub scanned : {g : Geometry} {im : List ℕ} → Site g im → Walk
scanned {g} {im} S = page_walk g im (current S)

abbrev pub spot_of : {g : Geometry} {im : List ℕ} → Site g im → ℕ
spot_of {g} {im} S = free_spot g im (current S)

module _ {g : Geometry} {im : List ℕ} (S : Site g im) where
  abbrev c : ℕ
  c = current S

  abbrev I : Inv g im S.old S.runs
  I = S.inv

  pub site_in : current S < g.pages
  site_in = current_in I

  K : PageOk g (current S) (view g im (current S))
  K = I.pages_ok c site_in

  -- what stands before the free spot
  pub front : List ℕ
  front = front_of g I.good.sized.low (data_start g (current S)) (page_data g im (current S))

  pub split : page_data g im (current S) ≡ front ++ (scanned S).rest
  unfolding front page_walk
  split = front_split g I.good.sized.low (data_start g c) (page_data g im c)

  pub sizes : length front + length (scanned S).rest ≡ data_size g
  sizes = sym (length-append front (scanned S).rest) ∙ ap length (sym split) ∙ inner_length im I.good c site_in

  pub spot_at : spot_of S ≡ data_start g (current S) + length front
  unfolding free_spot data_end
  spot_at = omega (arith, sizes)

  -- the rest is blank where a header has room
  pub rest_blank : header_size g ≤ length (scanned S).rest → blank (scanned S).rest ≡ true
  unfolding page_walk
  rest_blank h = by K.clean
    where
      by : CleanRest g (scanned S).rest → blank (scanned S).rest ≡ true
      by (inl l) = let z : ⊥ = omega arith in absurd z
      by (inr e) = e

  data_bytes : Bytes (front ++ (scanned S).rest)
  data_bytes = subst Bytes split K.bytes

  pub rest_bytes : Bytes (scanned S).rest
  rest_bytes = bytes_right front (scanned S).rest data_bytes

  -- the current page with the bytes t from the free spot on
  abbrev pub with_tail : List ℕ → View
  with_tail t = record { first = start_mark g im (current S); inner = front ++ t; last = end_mark g im (current S) }

-- an image jm with the bytes t from the free spot on, where a header has room; over t the walk accepts hs, refuses rs and leaves r
pub record Regrown {g : Geometry} {im : List ℕ} (S : Site g im) (jm t : List ℕ) (hs : List Head) (rs r : List ℕ) : Type 0 where
  pub room : header_size g ≤ length (scanned S).rest
  pub long : length t ≡ length (scanned S).rest
  pub changed : Changed g im jm (current S) (with_tail S t)
  pub scan : walk g 0 (spot_of S) t ≡ record { heads = hs; refused = rs; rest = r }
  pub clean : CleanRest g r
  pub quiet : 8 ≤ g.word → rs ≡ []
  pub bytes : Bytes t
  pub unmet : NoneAccepted (scanned S).refused (page_walk g jm (current S)).heads

module _ {g : Geometry} {im : List ℕ} {S : Site g im} {jm t : List ℕ} {hs : List Head} {rs r : List ℕ} (R : Regrown S jm t hs rs r) where
  abbrev I₁ : Inv g im S.old S.runs
  I₁ = S.inv

  abbrev C : Changed g im jm (current S) (with_tail S t)
  C = R.changed

  abbrev new : Walk
  new = record { heads = (scanned S).heads ++ hs; refused = (scanned S).refused ++ rs; rest = r }

  new_walk : walk g 0 (data_start g (current S)) (front S ++ t) ≡ new
  unfolding front page_walk
  new_walk =
      let a : ℕ = data_start g (current S) in
      let d : List ℕ = page_data g im (current S) in
      let W : Walk = walk g 0 a d in
      rewalk g I₁.good.sized.low a d t (rest_blank S R.room) R.long
      (subst (λ (w : Walk). NoneAccepted W.refused w.heads) (walk_this C) R.unmet)
      ∙ ap (after_these W.heads W.refused) (ap (λ (x : ℕ). walk g 0 x t) (sym (spot_at S)) ∙ R.scan)

  pub grow_walk : page_walk g jm (current S) ≡ new
  grow_walk = walk_this C ∙ new_walk

  still_partial : state_in (with_tail S t) ≡ PartialOpen
  unfolding state
  still_partial = S.partly_now

  pub grow_inv : Inv g jm S.old S.runs
  unfolding page_walk
  grow_inv =
      let c : ℕ = current S in
      let K = I₁.pages_ok c (site_in S) in
      record {
        good = still_good C I₁.good;
        shape = keep_shape g im jm S.old S.runs I₁.shape
            (λ i k ne. state_other C (turn g S.old i) (turn_in I₁ i (omega arith)) (not_current I₁ i k ne)) (partly (state_this C ∙ still_partial));
        pages_ok = pages_still_ok I₁ C (record {
          clean = subst (λ (w : Walk). CleanRest g w.rest) (sym new_walk) R.clean;
          quiet = λ k. ap (λ (w : Walk). w.refused) new_walk ∙ ap₂ (λ (x y : List ℕ). x ++ y) (K.quiet k) (R.quiet k);
          untouched = λ q. let s = still_partial in let z : ◌≡◌ {A = ℕ} 0 1 = cc in absurd (omega arith);
          bytes = bytes_append (front S) t (bytes_left (front S) (scanned S).rest (data_bytes S)) R.bytes;
        });
      }

  pub grow_list : waiting g jm ≡ waiting g im ++ payloads hs
  unfolding run
  grow_list =
      let o : ℕ = S.old in
      let b : ℕ = S.runs in
      let c : ℕ = current S in
      let q = I₁.shape.run_in in
      let z : suc b ≡ b + 1 = omega arith in
      let y : 0 + b ≡ b = omega arith in
      let all : (x : List ℕ) → run g x o 0 (suc b) ≡ run g x o 0 b ++ present_in g x c =
      λ x. ap (run g x o 0) z ∙ run_append g x o 0 b 1 ∙ ap (λ (k : ℕ). run g x o 0 b ++ run g x o k 1) y
      ∙ ap (λ (l : List (List ℕ)). run g x o 0 b ++ l) (append-nil (present_in g x c)) in
      let others : run g jm o 0 b ≡ run g im o 0 b =
      runs_same I₁ jm 0 b (omega arith)
      (λ j l k. walk_other C (turn g o j) (turn_in I₁ j (omega arith)) (not_current I₁ j (omega arith) (λ e. let w : ⊥ = omega arith in w))) in
      listed grow_inv ∙ all jm
      ∙ ap₂ (λ (x l : List (List ℕ)). x ++ l) others (ap (λ (w : Walk). payloads w.heads) grow_walk ∙ payloads_append (scanned S).heads hs)
      ∙ sym (append_assoc (run g im o 0 b) (present_in g im c) (payloads hs))
      ∙ ap (λ (l : List (List ℕ)). l ++ payloads hs) (sym (listed I₁ ∙ all im))
