-- `reader::heading::header`: each test decides, and where all pass the header is right. Assumes nothing.
use Rattle.std.proofs.Common.{arith, sym, ap, Err, true, ◌∙◌, ◌≡◌}
use Rattle.directory.specs.Sizes.{headed}
use Rattle.directory.specs.Kind.{HD}
use Rattle.directory.specs.Bytes.{marked}
use Rattle.directory.specs.File.{header_in}
use Rattle.reader.proofs.Papers.{header_given}
use Rattle.records.proofs.FramedLaws.{allowed_room}
use Rattle.reader.proofs.HeadingLaws.{heading_short, heading_unmarked, heading_disallowed, heading_length, heading_is}
use Rattle.reader.proofs.heading.header.Goals as goal
use Rattle.reader.proofs.heading.header.Goals.{After-two-2}

pub returns-then-file-lt-HEADER : goal.returns-then-file-lt-HEADER
returns-then-file-lt-HEADER c = let g = header_given _ (ap Err c.at.ensures ∙ heading_short c.args.file.now (omega arith)) in record { given = g.0; paper = g.1 }

pub returns-then-not-marked : goal.returns-then-not-marked
returns-then-not-marked c =
    let g = header_given _ (ap Err c.at-then-not-marked.ensures ∙ heading_unmarked c.args.file.now (omega arith) (sym c.marked.ensures ∙ c.if-not-marked.true)) in
    record { given = g.0; paper = g.1 }

-- the mark is right
right : (c : After-two-2) → marked c.args.file.now 0 HD.mark ≡ true
right c = sym c.marked.ensures ∙ c.if-not-marked.false

-- the numbers that were read are the header's
numbers : (c : After-two-2) → header_in c.args.file.now ≡ headed c.two.result c.byte.result c.two-2.result
unfolding header_in
numbers c = λ i. record { n = sym c.two.ensures.0 i; r = sym c.byte.ensures.0 i; v = sym c.two-2.ensures.0 i }

pub returns-then-not-allowed : goal.returns-then-not-allowed
returns-then-not-allowed c =
    let a = (goal.at.returns-then-not-allowed c).After-two-2 in
    let g = header_given _ (ap Err c.at-then-not-allowed.ensures ∙ heading_disallowed c.args.file.now (omega arith) (right a) (headed c.two.result c.byte.result c.two-2.result) (numbers a) (sym c.allowed.ensures ∙ c.if-not-allowed.true)) in
    record { given = g.0; paper = g.1 }

pub key_at-requires : goal.key_at-requires
key_at-requires c = let a = allowed_room (headed c.two.result c.byte.result c.two-2.result) (sym c.allowed.ensures ∙ c.if-not-allowed.false) in record { room = a.0; few = a.1 }

pub returns-then-file-key_at : goal.returns-then-file-key_at
returns-then-file-key_at c =
    let a = (goal.at.returns-then-file-key_at c).After-two-2 in
    let g = header_given _ (ap Err c.at-then-file-key_at.ensures ∙ heading_length c.args.file.now (omega arith) (right a) (headed c.two.result c.byte.result c.two-2.result) (numbers a) (sym c.allowed.ensures ∙ c.if-not-allowed.false) (λ e. c.if-file-key_at.true (e ∙ sym c.key_at.ensures))) in
    record { given = g.0; paper = g.1 }

pub returns : goal.returns
returns c =
    let a = (goal.at.returns c).After-two-2 in
    let g = header_given _ (heading_is c.args.file.now (omega arith) (right a) (headed c.two.result c.byte.result c.two-2.result) (numbers a) (sym c.allowed.ensures ∙ c.if-not-allowed.false) (c.if-file-key_at.false ∙ c.key_at.ensures)) in
    record { given = g.0; paper = g.1 }
