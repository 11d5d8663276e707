-- `reader::looking::find`: where the code leads decides, and at a line whether the record there holds it. Assumes nothing.
use Rattle.std.proofs.Common.{refl, sym, ◌∙◌, ap, ◌≡◌, Err}
use Rattle.directory.specs.declared.Lead.{Lead}
use Rattle.directory.specs.Kind.{HD}
use Rattle.directory.specs.File.{lead_in}
use Rattle.directory.specs.LookingUp.{holds_code}
use Rattle.directory.proofs.LookupLaws.{found_nowhere, past_found, found_here, found-other, lead_in-below}
use Rattle.reader.proofs.looking.find.Goals as goal
use Rattle.reader.proofs.looking.find.Goals.{After-tables, After-holds_code}

-- where the code leads in the directory
led : (c : After-tables) {l : Lead} → l ≡ lead_in HD c.tables.result.header c.tables.result.file.now c.args.code.bytes.now → lead_in HD c.args.directory.header c.args.directory.file.now c.args.code.bytes.now ≡ l
led c e = rw (← c.tables.ensures.same_header, ← c.tables.ensures.same_file) (sym e)

-- whether its line there holds it
held : (c : After-holds_code) → let d = c.args.directory in c.holds_code.result ≡ holds_code HD d.header d.file.now c.args.code.bytes.now c.in-ToLine.l
held c = rw (← c.key.ensures.same_header, ← c.key.ensures.same_file, ← c.key.ensures.its_line) c.holds_code.ensures

pub key-requires : goal.key-requires
key-requires c = let d = c.args.directory in lead_in-below HD d.header d.file.now c.args.code.bytes.now c.in-ToLine.l (led (goal.at.key-requires c).After-tables c.in-ToLine.ensures)

pub returns-in-Nowhere : goal.returns-in-Nowhere
returns-in-Nowhere c = sym (found_nowhere HD _ _ _ (led (goal.at.returns-in-Nowhere c).After-tables c.in-Nowhere.ensures))

pub returns-in-PastLast : goal.returns-in-PastLast
returns-in-PastLast c = ap Err c.at.ensures ∙ sym (past_found HD _ _ _ refl (led (goal.at.returns-in-PastLast c).After-tables c.in-PastLast.ensures))

pub returns-then-holds_code : goal.returns-then-holds_code
returns-then-holds_code c =
    let a = goal.at.returns-then-holds_code c in
    sym (found_here HD _ _ _ (led a.After-tables c.in-ToLine.ensures) (sym (held a.After-holds_code) ∙ c.if-holds_code.true))

pub returns-else-holds_code : goal.returns-else-holds_code
returns-else-holds_code c =
    let a = goal.at.returns-else-holds_code c in
    sym (found-other HD _ _ _ (led a.After-tables c.in-ToLine.ensures) (sym (held a.After-holds_code) ∙ c.if-holds_code.false))
