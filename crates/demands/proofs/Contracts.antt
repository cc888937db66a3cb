-- What the contract of a public call says, in either form: the plan of its form, its image, answer and buffer. Assumes nothing.
use mathlib.Core.Path.{◌≡◌, refl}
use mathlib.Core.Bool.{Bool, true, false, cond}
use mathlib.Core.List.{List}
use Prim.Native.Nat.{ℕ}
use lib.Dec.{ltb}
use lib.ListN.{length}
use Rattle.std.specs.Prelude.{Ok}
use Rattle.paper.specs.declared.Geometry.{Geometry}
use Rattle.paper.specs.declared.Shape.{Shape}
use Rattle.paper.specs.declared.Refusal.TheVariants as refusal
use Rattle.paper.specs.Chip.{buffer_after, store_count, before, Plan, plan}
use Rattle.paper.specs.Refusals.{geometry_of, check, Answer, refused}
use Rattle.paper.specs.Calls.{Call, pushes, peeks, pops, fits, spaces, erases_all, plan_of, call, requested, limited}
use Rattle.paper.specs.Fifo.{whole, cut_after, buffer_of}
use Rattle.chip.specs.Run.{Whole}
use Rattle.demands.specs.Histories.{Lent, Form, unlimited, within, Promised, power_of}

-- the plan of a form
abbrev pub formed : Form → Plan Answer → Plan Answer
formed unlimited p = p
formed (within k) p = limited k p

module _ (s : Shape) (i o e : List ℕ) (x : Answer) where
  pub whole_of : (f : Form) (c : Call) → Promised s f c i o e x → Whole (geometry_of s) (formed f (requested s i c)) i o x
  whole_of unlimited (pushes slip over) h = h
  whole_of unlimited (peeks buf) h = h.whole
  whole_of unlimited (pops buf) h = h.whole
  whole_of unlimited fits h = h
  whole_of unlimited spaces h = h
  whole_of unlimited erases_all h = h
  whole_of (within k) (pushes slip over) h = h
  whole_of (within k) (peeks buf) h = h.whole
  whole_of (within k) (pops buf) h = h.whole
  whole_of (within k) fits h = h
  whole_of (within k) spaces h = h
  whole_of (within k) erases_all h = h

  pub buffer_of_lem : (f : Form) (c : Call) → Promised s f c i o e x → Lent c
      → e ≡ buffer_after (geometry_of s) (formed f (requested s i c)).events i (buffer_of c)
  buffer_of_lem unlimited (peeks buf) h l = h.buffer
  buffer_of_lem unlimited (pops buf) h l = h.buffer
  buffer_of_lem (within k) (peeks buf) h l = h.buffer
  buffer_of_lem (within k) (pops buf) h l = h.buffer
  buffer_of_lem f (pushes slip over) h l = absurd l
  buffer_of_lem f fits h l = absurd l
  buffer_of_lem f spaces h l = absurd l
  buffer_of_lem f erases_all h l = absurd l

-- ---- on an accepted shape

pub accepted_as : (s : Shape) (im : List ℕ) (c : Call) (g : Geometry) → check (length im) s ≡ Ok g → requested s im c ≡ plan_of g im c
unfolding requested call
accepted_as s im c g q = rw q

-- ---- whole or cut

module _ (s : Shape) (im : List ℕ) (c : Call) where
  pub formed_whole : (f : Form) → power_of s im f c ≡ whole → formed f (requested s im c) ≡ requested s im c
  unfolding power_of limited
  formed_whole unlimited q = refl
  formed_whole (within k) q = by (ltb k (store_count (requested s im c).events)) q
    where
      by : (t : Bool) → cond t (cut_after k) whole ≡ whole
          → cond t (plan (before k (requested s im c).events) (refused refusal.Cut)) (requested s im c) ≡ requested s im c
      by true e = let z : cut_after k ≡ whole = e in cc
      by false e = refl

  pub formed_cut : (f : Form) (j : ℕ) → power_of s im f c ≡ cut_after j
      → formed f (requested s im c) ≡ plan (before j (requested s im c).events) (refused refusal.Cut)
  unfolding power_of limited
  formed_cut unlimited j q = let z : whole ≡ cut_after j = q in cc
  formed_cut (within k) j q = by (ltb k (store_count (requested s im c).events)) q
    where
      by : (t : Bool) → cond t (cut_after k) whole ≡ cut_after j
          → cond t (plan (before k (requested s im c).events) (refused refusal.Cut)) (requested s im c)
          ≡ plan (before j (requested s im c).events) (refused refusal.Cut)
      by true e = let z : cut_after k ≡ cut_after j = e in let y : k ≡ j = cc in rw y
      by false e = let z : whole ≡ cut_after j = e in cc
