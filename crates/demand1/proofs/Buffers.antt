-- The data buffer after a call; and the places where the Rust could say LogicBug. Assumes nothing.
use mathlib.Core.Path.{◌≡◌, refl, ap}
use mathlib.Core.List.{List}
use Prim.Native.Nat.{ℕ, ◌-◌, ◌≤◌, ◌<◌}
use native.Mathlib.Omega.{arith}
use lib.ListN.{length, take}
use Rattle.std.specs.Prelude.{Ok}
use Rattle.paper.specs.declared.Geometry.{Geometry}
use Rattle.paper.specs.declared.Shape.{Shape}
use Rattle.paper.specs.Chip.{round_up, round_down, Event, buffer_after}
use Rattle.paper.specs.Scan.{Head}
use Rattle.paper.specs.Refusals.{geometry_of, check}
use Rattle.paper.specs.Push.{push}
use Rattle.paper.specs.Search.{this, search, peek, pop}
use Rattle.paper.specs.Calls.{plan_of}
use Rattle.laws.proofs.Accepted.{accepted_from}
use Rattle.laws.proofs.Rounding.{round_up_fits, round_down_le, round_down_gt}
use Rattle.demand1.specs.Rows.{Way, Seen}
use Rattle.demand1.specs.Buffers.{CopiesAtMost, OfBuffer, NoLogicBug}
use Rattle.demand1.proofs.Lists.{each_before}
use Rattle.demand1.proofs.Checks.{of_shape}
use Rattle.demand1.proofs.PushDoes.{push_does}
use Rattle.demand1.proofs.SearchCopies.{heads_read, peek_does, pop_does, met_live}
use Rattle.demand1.proofs.Tails.{tail_stays}
use Rattle.demand1.proofs.Shows.{lasts_front, peek_last, pop_last}
use Rattle.demand1.proofs.SearchRows.{search_seen}
use Rattle.demand1.proofs.CopyRows.{peek_copies, pop_copies}

-- what is seen stands at the buffer's front
module _ (g : Geometry) (im : List ℕ) (s : Shape) (e : check (length im) s ≡ Ok g) (n k : ℕ) (hs : List Head) (w : Way g im hs)
    (seen : Seen g n hs k) (buf : List ℕ) (l : n ≤ length buf) where
  met_is : (search g im n).answer ≡ this seen.head
  met_is = search_seen (accepted_from (length im) s g e).laid im refl n w seen

  peek_shows : take k (buffer_after g (peek g im n).events im buf) ≡ seen.head.body
  peek_shows = rw seen.is (lasts_front n (peek_last g n im seen.head met_is) (peek_does g n im).each buf l)

  pop_shows : take k (buffer_after g (pop g im n).events im buf) ≡ seen.head.body
  pop_shows = rw seen.is (lasts_front n (pop_last g n im seen.head met_is) (pop_does g n im).each buf l)

pub of_buffer : OfBuffer
unfolding plan_of buffer_after
of_buffer = record {
  push_keeps = λ g im slip buf over. (tail_stays g im buf (push g im slip over).events 0
      (push_does {P = CopiesAtMost 0} (λ a word. tt) (λ p. tt) g over im slip).each (omega arith)).1;
  shape_keeps = λ s im buf c r e. ap (λ (es : List Event). buffer_after (geometry_of s) es im buf) (of_shape.unchanged s im c r e);
  peek_fits = λ g im n. (peek_does g n im).each;
  pop_fits = λ g im n. (pop_does g n im).each;
  cut_fits = λ k m es. each_before (CopiesAtMost m) k es;
  tail_stays = tail_stays;
  peek_shows = peek_shows;
  pop_shows = pop_shows;
  peek_copies = λ g im s e n. peek_copies (accepted_from (length im) s g e).laid im refl n;
  pop_copies = λ g im s e n. pop_copies (accepted_from (length im) s g e).laid im refl n;
}

-- what is left behind the last whole word is, rounded up, one word at most
tail_fits : (w n : ℕ) → 0 < w → round_up w (n - round_down w n) ≤ w
tail_fits w n h = omega (arith, round_up_fits w (n - round_down w n) 1 h (omega (arith, round_down_gt w n h)))

pub no_logic_bug : NoLogicBug
no_logic_bug = record {
  reads_live = λ g n a hs im. (heads_read g n a hs im).each;
  not_erased = met_live;
  reborrows = λ g im n. (peek_does g n im).answers;
  reborrows_pop = λ g im n. (pop_does g n im).answers;
  splits = λ w n h. (round_down_le w n, omega (arith, round_down_gt w n h, round_down_le w n));
  extends = λ g im s e n. let S = (accepted_from (length im) s g e).laid in omega (arith, S.sized.high, tail_fits g.word n S.sized.low);
}
