-- One turn of each loop that writes vertices: one vertex more of a code, and one code more. Assumes nothing.
use Rattle.std.specs.Prelude.{◌≡◌, refl, ◌≢◌, List, ℕ, ◌+◌, ◌*◌, ◌≤◌, ◌<◌, length, set}
use Rattle.std.proofs.Common.{◌∙◌, ⊎_elim, mul-le-mul, arith, get_or-set_same, get_or-set_other}
use Rattle.counting.proofs.TestLaws.{eq?}
use Rattle.directory.specs.Codes.{code}
use Rattle.directory.proofs.CodesLaws.{code-length}
use Rattle.records.specs.Standing.{most_bytes}
use Rattle.lists.specs.Listed.{Listed, Named}
use Rattle.lists.specs.Naming.{Noted}

-- ---- one vertex more

pub noted_none : (at : ℕ) (f : ℕ → ℕ) (edges : List ℕ) → Noted at 0 f edges edges
noted_none at f edges = record { noted = λ j l. absurd (omega arith); kept = λ i l. refl }

-- the next number is x, at place p
pub noted_more : (at j : ℕ) (f : ℕ → ℕ) (before after : List ℕ) (p x : ℕ) → Noted at j f before after → p ≡ at + j → p < length after → x ≡ f j → Noted at (j + 1) f before (set after p x)
noted_more at j f before after p x n q l e =
    record {
      noted =
          λ i m.
          ⊎_elim
          (λ (s : i ≡ j). rw (s, ← q) (get_or-set_same after p x 0 l ∙ e))
          (λ (d : i ≢ j). get_or-set_other after p (at + i) x 0 (λ s. d (omega arith)) ∙ n.noted i (omega arith))
          (eq? i j);
      kept = λ i m. get_or-set_other after p i x 0 (λ s. omega arith) ∙ n.kept i m;
    }

-- ---- one code more

-- a code of a list that passes check 5 has 32 bytes at most
pub code_short : (run ends t : List ℕ) (k : ℕ) → Listed run ends → k < length ends → t ≡ code run ends k → length t ≤ most_bytes
code_short run ends t k h l e = let c = h k l in rw (e, code-length most_bytes run ends k c) (omega (arith, c.short))

pub named_more : {k r : ℕ} {f : ℕ → ℕ → ℕ} {g : ℕ → ℕ} {before after : List ℕ} → Named k r f before → Noted (k * r) r g before after → ((j : ℕ) → g j ≡ f k j) → Named (k + 1) r f after
named_more {k} {r} n w s i j l m =
    ⊎_elim
    (λ (q : i ≡ k). rw q (w.noted j m ∙ s j))
    (λ (d : i ≢ k). let a : (i + 1) * r ≤ k * r = mul-le-mul {n₁ = i + 1} {m₁ = r} {n₂ = k} {m₂ = r} (omega arith) (omega arith) in w.kept (i * r + j) (omega arith) ∙ n i j (omega arith) m)
    (eq? i k)
