-- `show_sign::reports::take_reports`. The invariant: k lines are taken, and the text from line k on is left. Assumes nothing.
use Rattle.std.proofs.Common.{◌≡◌, length}
use Rattle.sign.specs.Keeping.{lists}
use Rattle.show_sign.proofs.TakenSteps.{TakenTo}
use Rattle.show_sign.proofs.reports.take_reports.Given as goal

abbrev pub invariant-loop-k : goal.invariant-loop-k
invariant-loop-k g l = TakenTo l.file l.text (lists l.initial.levels l.initial.times) (lists l.levels l.times) l.rest l.k × (length l.levels ≡ length l.initial.levels) × (length l.times ≡ length l.initial.times)
