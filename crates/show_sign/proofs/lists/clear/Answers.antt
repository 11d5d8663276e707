-- Both lists hold the same in every place, as cleared ones do. Assumes nothing.
use Rattle.show_sign.proofs.ListsLaws.{lists-cleared}
use Rattle.show_sign.proofs.lists.clear.Goals as goal

pub returns : goal.returns
returns c = lists-cleared c.args.n c.fill.ensures c.fill-2.ensures c.requires.0 c.requires.1
