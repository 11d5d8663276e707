-- What `lists::ends::CodeList::run_missed` owes: past the last code starts what would come next. Assumes nothing.
use Rattle.directory.specs.Codes.{run_missed}
use Rattle.lists.proofs.ends.CodeList.run_missed.Goals as goal

pub returns : goal.returns
unfolding run_missed
returns c = rw (c.start.ensures.0, c.len.ensures)
