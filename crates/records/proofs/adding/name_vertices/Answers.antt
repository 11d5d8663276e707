-- `records::adding::name_vertices`: each part's vertex stands at its place. Assumes nothing.
use Rattle.std.proofs.Common.{[], arith, ℕ, zero, suc, ◌<◌, ◌∙◌, ◌∷◌, ◌≡◌, ◌≤◌}
use Rattle.counting.specs.Holds.{Holds}
use Rattle.records.proofs.SummingLaws.{vertex_from}
use Rattle.records.proofs.adding.name_vertices.Goals as goal
use Rattle.records.proofs.adding.name_vertices.Goals.{then-r-gt-FEWEST_PARTS, else-r-gt-FEWEST_PARTS}

holds_three : (r : ℕ) (f : ℕ → ℕ) (a b c : ℕ) → r ≤ 3 → a ≡ f 0 → b ≡ f 1 → (2 < r → c ≡ f 2) → Holds r f (a ∷ b ∷ c ∷ [])
holds_three r f a b c most first second third zero l = first
holds_three r f a b c most first second third (suc zero) l = second
holds_three r f a b c most first second third (suc (suc zero)) l = third (omega arith)
holds_three r f a b c most first second third (suc (suc (suc i))) l = absurd (omega arith)

pub returns : goal.returns
returns g c =
    let sums = c.code_sums-sums.ensures in
    holds_three _ _ _ _ _ c.requires.sizes.three (c.vertex.ensures ∙ vertex_from _ _ _ 0 _ sums.first) (c.vertex-2.ensures ∙ vertex_from _ _ _ 1 _ sums.second) (λ m.
    elim c.if-r-gt-FEWEST_PARTS.branch [ then-r-gt-FEWEST_PARTS w ↦ w.third-is ∙ w.vertex-third.ensures ∙ vertex_from _ _ _ 2 _ (sums.third m) | else-r-gt-FEWEST_PARTS w ↦ absurd (omega arith) ])
