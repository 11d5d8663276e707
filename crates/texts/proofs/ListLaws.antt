-- The code list that is read of a text, as building looks at it: its codes are those of the lines, and what was cut is refused as it would be whole. Assumes nothing.
use Rattle.std.specs.Prelude.{◌≡◌, ◌≢◌, false, List, [], ◌∷◌, ◌++◌, take, drop}
use Rattle.std.proofs.Math.Path.{refl}
use Rattle.std.proofs.Common.{ap, ⊎_elim, append_assoc, append-nil, length-take, lt-ltb, eq-eqb, ne_eqb}
use Rattle.std.proofs.Math.Bool.{not}
use Prim.Native.Nat.{ℕ, zero, suc, ◌+◌, ◌-◌, ◌*◌, ◌≤◌, ◌<◌, min}
use native.Mathlib.Omega.{arith}
use Rattle.std.proofs.Math.ListN.{length, length-append}
use Rattle.std.proofs.Math.Seq.{take-append_seam, drop-append_seam}
use Rattle.counting.proofs.TestLaws.{eq?, lt?}
use Rattle.counting.specs.Lists.{each}
use Rattle.counting.proofs.EachLaws.{length-each, each_at}
use Rattle.directory.specs.Codes.{start, end, code, wrong_length, run_missed}
use Rattle.directory.specs.Kind.{HD}
use Rattle.texts.specs.Lines.{line}
use Rattle.texts.specs.Codes.{code_of, most_kept, kept}
use Rattle.texts.specs.Reading.{run_to, ends_to}

-- ---- part k of a list of parts

part_stands : (k n : ℕ) (f : ℕ → List ℕ) → k < n → (rest : List ℕ) × (each n f ≡ each k f ++ (f k ++ rest))
unfolding each
part_stands k zero f l = absurd (omega arith)
part_stands k (suc n) f l =
    ⊎_elim
    (λ (e : k ≡ n). ([], rw (e, append-nil)))
    (λ (d : k ≢ n). let w = part_stands k n f (omega arith) in (w.0 ++ f n, rw (w.1, append_assoc, append_assoc)))
    (eq? k n)

part_cut : (k n : ℕ) (f : ℕ → List ℕ) → k < n → take (length (f k)) (drop (length (each k f)) (each n f)) ≡ f k
part_cut k n f l = let w = part_stands k n f l in rw (w.1, drop-append_seam, take-append_seam)

-- ---- the ends

module _ (text : List ℕ) (n : ℕ) where
  pub ends_many : length (ends_to text n) ≡ n
  unfolding ends_to
  ends_many = omega (arith, length-each 1 n (λ i. length (run_to text (suc i)) ∷ []) (λ i l. refl))

  pub end_of : (k : ℕ) → k < n → end (ends_to text n) k ≡ length (run_to text (suc k))
  unfolding ends_to
  end_of k l = let e : 1 * k + 0 ≡ k = omega arith in rw e at (each_at 1 n (λ i. length (run_to text (suc i)) ∷ []) (λ i m. refl) k 0 l (omega arith))

  pub start_of : (k : ℕ) → k ≤ n → start (ends_to text n) k ≡ length (run_to text k)
  unfolding start run_to each
  start_of zero l = refl
  start_of (suc k) l = end_of k (omega arith)

  -- ---- what building looks at

  -- code k is what is kept of the code of line k
  pub code_of-line : (k : ℕ) → k < n → code (run_to text n) (ends_to text n) k ≡ kept (line text k)
  unfolding code run_to each
  code_of-line k l =
      let size : length (run_to text (suc k)) - length (run_to text k) ≡ length (kept (line text k)) = omega (arith, length-append (run_to text k) (kept (line text k))) in
      rw (end_of k l, start_of k (omega arith), size) (part_cut k n (λ i. kept (line text i)) l)

  -- the last end meets the run
  pub run_met : run_missed (run_to text n) (ends_to text n) ≡ false
  unfolding run_missed
  run_met = rw (ends_many, start_of n (omega arith)) (ap not (eq-eqb (length (run_to text n)) _ refl))

-- ---- what was cut

-- a code that is kept has a wrong number of bytes exactly if the whole code has
pub cut_as_whole : (l : List ℕ) → wrong_length HD.positions (length (kept l)) ≡ wrong_length HD.positions (length (code_of l))
unfolding wrong_length kept
cut_as_whole l =
    let short : length (take most_kept (code_of l)) ≡ min most_kept (length (code_of l)) = length-take most_kept (code_of l) in
    ⊎_elim
    (λ (m : length (code_of l) < most_kept). let e : length (take most_kept (code_of l)) ≡ length (code_of l) = omega arith in rw e)
    (λ (m : most_kept ≤ length (code_of l)).
    let e : length (take most_kept (code_of l)) ≡ most_kept = omega arith in
    rw (e, lt-ltb 32 (length (code_of l)) (omega arith), ne_eqb (length (code_of l)) 0 (omega arith)))
    (lt? (length (code_of l)) most_kept)
