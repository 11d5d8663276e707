-- `reader::sizes::allowed`: the three tests are the definition's. Assumes nothing.
use Rattle.std.proofs.Common.{sym, ◌&&◌, ◌∙◌, ◌≡◌}
use Rattle.directory.specs.Sizes.{arity_allowed, codes_allowed, header_allowed}
use Rattle.reader.proofs.sizes.allowed.Goals as goal
use Rattle.reader.proofs.sizes.allowed.Goals.{Joined-codes_allowed, then-codes_allowed, else-codes_allowed}

-- what the first two calls come to
both : (c : Joined-codes_allowed) → let a = c.args in c.if-codes_allowed.value ≡ codes_allowed a.header.n && arity_allowed a.header.r
both c =
    elim c.if-codes_allowed.branch [
      | then-codes_allowed w ↦ rw (sym c.codes_allowed.ensures ∙ w.if-codes_allowed.true) (w.value-is ∙ w.arity_allowed.ensures)
      | else-codes_allowed w ↦ rw (sym c.codes_allowed.ensures ∙ w.if-codes_allowed.false) (w.value-is ∙ w.if-codes_allowed.false)
    ]

pub returns-then-arity_allowed : goal.returns-then-arity_allowed
unfolding header_allowed
returns-then-arity_allowed c = rw (← both (goal.at.returns-then-arity_allowed c).Joined-codes_allowed, c.if-arity_allowed.true) c.part_allowed.ensures

pub returns-else-arity_allowed : goal.returns-else-arity_allowed
unfolding header_allowed
returns-else-arity_allowed c = rw (← both (goal.at.returns-else-arity_allowed c).Joined-codes_allowed, c.if-arity_allowed.false)
