-- `records::codes::same_bytes`: the first eight decide where they differ. Assumes nothing.
use Rattle.std.proofs.Common.{◌∙◌, sym, refl, arith, ℕ, List, ◌+◌, ◌-◌, ◌≡◌, length, take, drop}
use Rattle.std.proofs.lemmas.List.{length-drop, length-take}
use Rattle.records.proofs.ComparingLaws.{first_decide}
use Rattle.records.proofs.codes.same_bytes.Goals as goal

pub returns-else-eq : goal.returns-else-eq
returns-else-eq c =
    let code = c.args.code.now in
    let part : List ℕ = take (c.args.at + length code - c.args.at) (drop c.args.at c.args.file.now) in
    let all : c.args.at + length code - c.args.at ≡ length code = omega arith in
    let long : length part ≡ length code = omega (arith, c.requires, length-take (c.args.at + length code - c.args.at) (drop c.args.at c.args.file.now), length-drop c.args.at c.args.file.now) in
    let p = c.in-Some-Some.ensures.cases in
    let q = c.in-Some-Some.ensures'.cases in
    rw all at (c.if-eq.false ∙ sym (first_decide 8 part code long p.same refl q.same refl (sym c.if-eq.false ∙ c.eq-2.ensures)))
