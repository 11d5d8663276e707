-- `checks::keys::keys`: the lowest wrong record is refused, then the lowest stray code. Assumes nothing.
use Rattle.std.proofs.Common.{ap, ◌∙◌, Err}
use Rattle.counting.proofs.SearchLaws.{any_false}
use Rattle.directory.specs.declared.Reason.TheVariants.{WrongKey, StrayCode}
use Rattle.directory.specs.Opening.{key_refusals}
use Rattle.directory.specs.Kind.{HD}
use Rattle.directory.proofs.WholeLaws.{key}
use Rattle.counting.proofs.RangeLaws.{missed_any}
use Rattle.checks.proofs.RefusalSteps.{ok_at_end, found_refused, missed_passed}
use Rattle.checks.proofs.keys.keys.Goals as goal

pub returns-in-Some : goal.returns-in-Some
unfolding key_refusals
returns-in-Some c = ap Err c.at.ensures ∙ found_refused tt _ _ WrongKey (λ l. l) _ c.in-Some.ensures

pub stray_code-requires : goal.stray_code-requires
stray_code-requires c i m = let d = c.args.directory in key HD d.header d.file.now i (any_false _ _ (missed_any _ _ c.in_default.ensures) i m)

pub returns-in-Some-stray_code : goal.returns-in-Some-stray_code
unfolding key_refusals
returns-in-Some-stray_code c = ap Err c.at-in-Some-stray_code.ensures ∙ missed_passed tt _ _ WrongKey (λ l. l) _ c.in_default.ensures (found_refused tt _ _ StrayCode (λ l. l) _ c.in-Some-stray_code.ensures)

pub returns-in-None : goal.returns-in-None
unfolding key_refusals
returns-in-None c = missed_passed tt _ _ WrongKey (λ l. l) _ c.in_default.ensures (missed_passed tt _ _ StrayCode (λ l. l) _ c.in-None.ensures (ok_at_end tt))
