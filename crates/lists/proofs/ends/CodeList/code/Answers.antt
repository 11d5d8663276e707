-- What `lists::ends::CodeList::code` owes: what runs from the start to the end is the code. Assumes nothing.
use Rattle.lists.proofs.CodeSteps.{part_is_code}
use Rattle.lists.proofs.ends.CodeList.code.Goals as goal

pub returns : goal.returns
returns c = part_is_code c.args.self.run.now c.args.self.ends.now c.args.k _ _ c.start.ensures.0 c.end.ensures.0
