-- What `builder::lending::Lent::check` owes: the lowest wrong code, and the length that is needed, are the places of 5 and 6, and where no test fails what is lent is right. Assumes nothing.
use Rattle.std.proofs.Common.{ap, arith, length, sym, true, ◌∙◌, ◌≡◌}
use Rattle.directory.specs.Codes.{wrong_code}
use Rattle.directory.specs.Sizes.{arity_allowed, headed}
use Rattle.directory.specs.Kind.{HD}
use Rattle.directory.specs.File.{file_length}
use Rattle.directory.specs.Refusals.{first}
use Rattle.directory.specs.Building.{lent_refusals}
use Rattle.directory.proofs.WholeLaws.{arity_true}
use Rattle.records.proofs.StandingLaws.{length_from}
use Rattle.counting.proofs.RangeLaws.{found_lowest}
use Rattle.builder.proofs.DecisionsLaws.{sizes_room, search_missed}
use Rattle.builder.proofs.lending.Lent.check.Goals as goal

pub returns-in-Some : goal.returns-in-Some
unfolding first lent_refusals
returns-in-Some c = let some = found_lowest (wrong_code HD.positions c.args.self.list.run.now c.args.self.list.ends.now) (length c.args.self.list.ends.now) c.in-Some.ensures in grind (arith, some)

pub returns-then-run_missed : goal.returns-then-run_missed
unfolding first lent_refusals
returns-then-run_missed c =
    let l = c.args.self.list in
    let none = search_missed (length l.ends.now) (wrong_code HD.positions l.run.now l.ends.now) c.lowest_wrong.result c.lowest_wrong.ensures c.in_default.not-Some in
    grind (arith, none)

pub returns-then-buffer-length : goal.returns-then-buffer-length
unfolding first lent_refusals
returns-then-buffer-length c =
    let a = c.args.self in
    let none = search_missed (length a.list.ends.now) (wrong_code HD.positions a.list.run.now a.list.ends.now) c.lowest_wrong.result c.lowest_wrong.ensures c.in_default.not-Some in
    let long : c.key_at-length.result ≡ file_length HD (headed (length a.list.ends.now) a.r a.v) = c.key_at-length.ensures ∙ length_from _ ∙ ap (λ n. file_length HD (headed n a.r a.v)) c.len-n.ensures in
    grind (arith, none, long)

pub returns : goal.returns
unfolding first lent_refusals
returns c =
    let a = c.args.self in
    let none = search_missed (length a.list.ends.now) (wrong_code HD.positions a.list.run.now a.list.ends.now) c.lowest_wrong.result c.lowest_wrong.ensures c.in_default.not-Some in
    let long : c.key_at-length.result ≡ file_length HD (headed (length a.list.ends.now) a.r a.v) = c.key_at-length.ensures ∙ length_from _ ∙ ap (λ n. file_length HD (headed n a.r a.v)) c.len-n.ensures in
    grind (arith, none, long)

pub overflow_mul-self : goal.overflow_mul-self
overflow_mul-self c = let arity : arity_allowed c.args.self.r ≡ true = sym c.if-not-arity_allowed.ensures in omega (arith, arity_true _ arity)

pub key_at-length-requires-clause-room : goal.key_at-length-requires-clause-room
key_at-length-requires-clause-room c = (sizes_room _ (sym c.if-not-arity_allowed.ensures) (sym c.if-not-part_allowed.ensures) (sym c.if-not-codes_allowed.ensures)).0

pub key_at-length-requires-clause-few : goal.key_at-length-requires-clause-few
key_at-length-requires-clause-few c = (sizes_room _ (sym c.if-not-arity_allowed.ensures) (sym c.if-not-part_allowed.ensures) (sym c.if-not-codes_allowed.ensures)).1
