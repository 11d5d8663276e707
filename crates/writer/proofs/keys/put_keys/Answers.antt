-- What `writer::keys::put_keys` owes beside its invariant: in each turn the code of one line more is written, which has at most 32 bytes. Assumes nothing.
use Rattle.std.proofs.Common.{ap, arith, length, ◌∙◌, ◌≡◌}
use Rattle.storing.proofs.WentLaws.{went_named, went_each_none, went_each-next}
use Rattle.directory.specs.Sizes.{headed}
use Rattle.directory.specs.Codes.{code}
use Rattle.directory.specs.Kind.{HD}
use Rattle.directory.specs.File.{key_record}
use Rattle.lists.proofs.NamingSteps.{code_short}
use Rattle.writer.proofs.keys.put_keys.Goals as goal

pub loop-l-init : goal.loop-l-init
loop-l-init c = record { written = λ h. went_each_none _ _; past = omega arith }

pub loop-l-preserved : goal.loop-l-preserved
loop-l-preserved c =
    let v = c.loop-l in
    let list = c.args.codes.list in
    let is = c.code.ensures ∙ ap (code list.run.now list.ends.now) c.from.ensures in
    record { written = λ h. went_each-next v.l _ (v.invariant.written h) (went_named (ap (key_record HD h) is) (c.put_key.ensures.written h)); past = omega arith }

pub put_key-requires-clause-short : goal.put_key-requires-clause-short
put_key-requires-clause-short c = let codes = c.args.codes in code_short codes.list.run.now codes.list.ends.now _ _ codes.listed (omega (arith, c.from.ensures, c.requires.is_code c.loop-l.l c.loop-l-test.true)) c.code.ensures

pub returns : goal.returns
returns c h = let all : c.loop-l.l ≡ length c.args.keys.now = omega arith in rw (← all) (c.loop-l.invariant.written h)

pub put_key-requires-clause-room : goal.put_key-requires-clause-room
put_key-requires-clause-room c = omega (arith, c.loop-l.invariant.written (headed 0 0 0))
