-- A step that may fail, and is then run once more after a repair. Assumes nothing.
use Rattle.std.specs.Prelude.{List, [], ℕ}
use Rattle.paper.specs.Chip.{Geometry, Plan, plan, bind, and_then, Try, fails, gives}
use Rattle.paper.specs.Pages.{repair}

-- "Repair ..; then run the failed step once more", from where it stood
unfoldable pub retry : {W A : Type 0} → Geometry → (W → List ℕ → Plan (Try W A)) → Try W A → List ℕ → Plan (Try W A)
retry g step (gives a) im = plan [] (gives a)
retry g step (fails w) im = and_then g im (repair g im) (step w)

unfoldable pub with_repair : {W A : Type 0} → Geometry → (W → List ℕ → Plan (Try W A)) → W → List ℕ → Plan (Try W A)
with_repair g step w im = bind g im (step w im) (retry g step)
