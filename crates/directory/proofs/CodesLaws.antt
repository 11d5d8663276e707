-- The numbers of bytes that a code may have, and how a code of a list runs, as facts. Assumes nothing.
use Rattle.std.specs.Prelude.{◌≡◌, ◌⊎◌, ◌↔◌, true, false, ◌||◌, List, ℕ, ◌-◌, ◌≤◌, ◌<◌, eqb, ltb, length, drop}
use Rattle.std.proofs.Common.{inl, inr, ⊎_elim, arith, length-drop, length-take-le, eqb-true, eq-eqb, ne_eqb, ltb-true, ltb-false, lt-ltb, le-ltb}
use Rattle.std.proofs.lemmas.Bool.{eqb-false}
use Rattle.counting.proofs.TestLaws.{or_either, or_second, or_neither, or_neither_second, or_none}
use Rattle.directory.specs.Codes.{start, end, code, wrong_length, wrong_code, Runs}

pub length_wrong : (most k : ℕ) → (wrong_length most k ≡ true) ↔ ((k ≡ 0) ⊎ (most < k))
unfolding wrong_length
length_wrong most k = (
  λ t. ⊎_elim (λ a. inl (eqb-true k 0 a)) (λ a. inr (ltb-true most k a)) (or_either (eqb k 0) (ltb most k) t),
  ⊎_elim (λ e. rw (eq-eqb k 0 e)) (λ l. or_second (eqb k 0) (ltb most k) (lt-ltb most k l)),
)

pub length-right : (most k : ℕ) → (wrong_length most k ≡ false) ↔ ((1 ≤ k) × (k ≤ most))
unfolding wrong_length
length-right most k = (
  λ t. let d = eqb-false k 0 (or_neither (eqb k 0) (ltb most k) t) in (omega arith, ltb-false most k (or_neither_second (eqb k 0) (ltb most k) t)),
  λ w. or_none (ne_eqb k 0 (omega arith)) (le-ltb most k w.1),
)

-- code k is not wrong exactly if it runs within the run and has 1 to `most` bytes
pub code-right : (most : ℕ) (run ends : List ℕ) (k : ℕ) → (wrong_code most run ends k ≡ false) ↔ Runs most run ends k
unfolding wrong_code
code-right most run ends k = (
  λ t.
      let falls = ltb (end ends k) (start ends k) in
      let falls_or_passes = falls || ltb (length run) (end ends k) in
      let inside = or_neither falls_or_passes _ t in
      let rises = ltb-false (end ends k) (start ends k) (or_neither falls _ inside) in
      let bytes = (length-right most (end ends k - start ends k)).0 (or_neither_second falls_or_passes _ t) in
      record { some = omega arith; short = omega arith; inside = ltb-false (length run) (end ends k) (or_neither_second falls _ inside) },
  λ w. or_none (or_none (le-ltb (end ends k) (start ends k) (omega (arith, w.some))) (le-ltb _ _ w.inside)) ((length-right most _).1 (omega (arith, w.some), omega (arith, w.short))),
)

pub code-length : (most : ℕ) (run ends : List ℕ) (k : ℕ) → Runs most run ends k → length (code run ends k) ≡ end ends k - start ends k
unfolding code
code-length most run ends k c = length-take-le (end ends k - start ends k) (drop (start ends k) run) (rw (length-drop (start ends k) run) (omega (arith, c.inside)))
