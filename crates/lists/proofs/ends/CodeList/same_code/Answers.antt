-- What `lists::ends::CodeList::same_code` owes: codes of different lengths differ. Assumes nothing.
use Rattle.lists.proofs.CodeSteps.{other_length}
use borrow.Author.Tests.{ne_eqb}
use Rattle.lists.proofs.ends.CodeList.same_code.Goals as goal

pub returns-else-to-from : goal.returns-else-to-from
returns-else-to-from c = rw (ne_eqb _ _ c.if-to-from.false) (other_length _ _ _ _ c.requires.0 c.requires.1 c.if-to-from.false)
