-- Going through numbered things that are there and right, up to the first that is missing or wrong. Assumes nothing.
use Rattle.std.specs.Prelude.{◌≡◌, Bool, true, false, ℕ, ◌+◌, ◌≤◌, ◌<◌}
use Rattle.std.proofs.Common.{ap, ◌∙◌, ⊎_elim, arith, below_more}
use Rattle.counting.proofs.TestLaws.{lt?, clash}
use Rattle.counting.specs.Below.{lowest}
use Rattle.counting.proofs.SearchLaws.{lowest_is, lowest_only}

-- the first k are there and right
pub record Passed (missing wrong : ℕ → Bool) (k : ℕ) : Type 0 where
  pub there : (j : ℕ) → j < k → missing j ≡ false
  pub right : (j : ℕ) → j < k → wrong j ≡ false

module _ {missing wrong : ℕ → Bool} where
  pub passed_none : Passed missing wrong 0
  passed_none = record { there = λ j l. absurd (omega arith); right = λ j l. absurd (omega arith) }

  pub passed_more : (k : ℕ) → Passed missing wrong k → missing k ≡ false → wrong k ≡ false → Passed missing wrong (k + 1)
  passed_more k p m w = record { there = below_more _ k p.there m; right = below_more _ k p.right w }

  -- ---- of the first `most`: how many there are, and how many of these are right

  module _ (most k : ℕ) (p : Passed missing wrong k) (few : k ≤ most) where
    pub passed_all : (k < most → missing k ≡ true) → (k ≡ lowest most missing) × (k ≡ lowest (lowest most missing) wrong)
    passed_all m =
        let n : k ≡ lowest most missing = lowest_only (record { none_before = p.there; most = few; passes = m }) in
        let r : k ≡ lowest k wrong = lowest_only (record { none_before = p.right; most = omega arith; passes = λ l. absurd (omega arith) }) in
        (n, r ∙ ap (λ x. lowest x wrong) n)

    pub passed_wrong : k < most → missing k ≡ false → wrong k ≡ true → (k < lowest most missing) × (k ≡ lowest (lowest most missing) wrong)
    passed_wrong l m w =
        let low = lowest_is most missing in
        let below : k < lowest most missing = ⊎_elim
        (λ (a : k < lowest most missing). a)
        (λ (a : lowest most missing ≤ k). absurd (clash (low.passes (omega arith)) (below_more _ k p.there m (lowest most missing) (omega arith))))
        (lt? k (lowest most missing)) in
        (below, lowest_only (record { none_before = p.right; most = omega arith; passes = λ a. w }))
