-- `texts::finding::until`. The invariant: no byte before byte i passes any test that `passes` computes.
use Rattle.std.proofs.Common.{Bool, false, get_or, ℕ, ◌<◌, ◌≡◌}
use Rattle.texts.specs.Parts.{Computes}
use Rattle.texts.proofs.finding.until.Given as goal

abbrev pub invariant-loop-i : goal.invariant-loop-i
invariant-loop-i g l = (test : ℕ → Bool) → Computes (goal.F-post g l.passes) test → (k : ℕ) → k < l.i → test (get_or l.text k 0) ≡ false
