-- What becomes of the list on a push's way to its spot: it stays, or overwriting drops what is present in the oldest page. Assumes nothing.
use mathlib.Core.Bool.{Bool, true, false, true≢false}
use mathlib.Core.List.{List, ◌∷◌, ◌++◌, Memᴰ}
use mathlib.Core.Path.{◌≡◌, sym, ◌∙◌}
use Prim.Native.Nat.{ℕ, zero, suc, ◌<◌}
use Rattle.paper.specs.declared.Geometry.{Geometry}
use Rattle.paper.specs.Chip.{Event, erase, image_by, image_after, before, gives}
use Rattle.paper.specs.Scan.{Head, page_walk}
use Rattle.paper.specs.Pages.{oldest}
use Rattle.paper.specs.Waiting.{waiting}
use Rattle.demand3.proofs.Events.{Avoids}
use Rattle.demand3.proofs.Listed.{present_in}
use Rattle.demand3.proofs.Steady.{HoldsList, Steady, rests, erased, steady_append, steady_after, steady_before, was_before, was_there}

-- by the events es; only where overwriting is on may the list lose something, and then the oldest page is erased first
pub data ListOnWay (g : Geometry) (im : List ℕ) (over : Bool) : List Event → Type 0 where
  stays : {es : List Event} → Steady g (waiting g im) im es → ListOnWay g im over es
  drops : {es : List Event} {q : List (List ℕ)} {o : ℕ} → over ≡ true → HoldsList g (waiting g im) im → oldest g im ≡ gives o → o < g.pages
      → waiting g im ≡ present_in g im o ++ q → Steady g q (image_by g (erase o) im) es → ListOnWay g im over (erase o ∷ es)

-- without overwriting it stays
pub way_stays : {g : Geometry} {im : List ℕ} {over : Bool} {es : List Event} → over ≡ false → ListOnWay g im over es → Steady g (waiting g im) im es
way_stays v (stays T) = T
way_stays v (drops w K e h l T) = absurd (true≢false (sym w ∙ v))

pub way_append : {g : Geometry} {im : List ℕ} {over : Bool} {es fs : List Event} → ListOnWay g im over es
    → ((q : List (List ℕ)) → waiting g (image_after g es im) ≡ q → Steady g q (image_after g es im) fs) → ListOnWay g im over (es ++ fs)
unfolding image_after
way_append {g} {im} (stays T) f = stays (steady_append T (f (waiting g im) (steady_after T).list))
way_append (drops {q = q} w K e h l T) f = drops w K e h l (steady_append T (f q (steady_after T).list))

-- cut off
pub way_before : {g : Geometry} {im : List ℕ} {over : Bool} {es : List Event} (k : ℕ) → ListOnWay g im over es → ListOnWay g im over (before k es)
unfolding before
way_before k (stays T) = stays (steady_before k T)
way_before zero (drops w K e h l T) = stays (rests K)
way_before (suc k) (drops w K e h l T) = drops w K e h l (steady_before k T)

-- a head that is there afterwards was there, and its page was not erased
pub way_there : {g : Geometry} {im : List ℕ} {over : Bool} {es : List Event} → ListOnWay g im over es → (p : ℕ) → p < g.pages → (h : Head)
    → Memᴰ h (page_walk g (image_after g es im) p).heads → Memᴰ h (page_walk g im p).heads × Avoids p es
unfolding image_after
way_there (stays T) p hp h m = was_there T p hp h m
way_there {im = im} (drops {es = es} {o = o} w K e ho l T) p hp h m =
    let R = was_there T p hp h m in
    was_before im K.inv.good (erased o ho) p hp h R.0 es R.1
