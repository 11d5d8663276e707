-- An array that is written from its start on, entry by entry, or that is the start of a longer one. Assumes nothing.
use Rattle.std.specs.Prelude.{◌≡◌, ◌≢◌, List, ◌++◌, ℕ, ◌+◌, ◌≤◌, ◌<◌, length, get_or, set, take}
use Rattle.std.proofs.Common.{sym, ap, ◌∙◌, ⊎_elim, arith, get_or-set_same, get_or-set_other, get_or-take}
use Rattle.std.proofs.Math.ListN.{get_or-append}
use Rattle.counting.proofs.TestLaws.{eq?}
use Rattle.counting.specs.Holds.{Holds}

pub holds_none : (f : ℕ → ℕ) (array : List ℕ) → Holds 0 f array
holds_none f array i l = absurd (omega arith)

pub holds_more : (k : ℕ) (f : ℕ → ℕ) (array : List ℕ) (a : ℕ) → Holds k f array → k < length array → a ≡ f k → Holds (k + 1) f (set array k a)
holds_more k f array a h l t i m =
    ⊎_elim
    (λ (e : i ≡ k). ap (λ x. get_or (set array k a) x 0) e ∙ get_or-set_same array k a 0 l ∙ t ∙ ap f (sym e))
    (λ (d : i ≢ k). get_or-set_other array k i a 0 d ∙ h i (omega arith))
    (eq? i k)

pub holds_front : (k : ℕ) (f : ℕ → ℕ) (array rest : List ℕ) → k ≤ length array → Holds k f array → Holds k f (array ++ rest)
holds_front k f array rest l h i m = get_or-append array rest 0 i (omega arith) ∙ h i m

pub holds-take : (k : ℕ) (f : ℕ → ℕ) (array : List ℕ) → Holds k f array → Holds k f (take k array)
holds-take k f array h i m = get_or-take k array i 0 m ∙ h i m
