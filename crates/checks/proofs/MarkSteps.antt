-- The marks after the first: the rows of their refusals, where the code looks. Assumes nothing.
use Rattle.std.specs.Prelude.{◌≡◌, List, [], ◌∷◌, ℕ}
use Rattle.directory.specs.declared.Reason.TheVariants.{WrongMark}
use Rattle.directory.specs.Sizes.{Header}
use Rattle.directory.specs.Kind.{HD}
use Rattle.directory.specs.Bytes.{WT, GV, RK}
use Rattle.directory.specs.Values.{ranks_at}
use Rattle.directory.specs.File.{header_length, weights_at, values_at, key_at}
use Rattle.directory.specs.Opening.{wrong_mark, key_unmarked, mark_refusals}
use Rattle.records.specs.Standing.{values_from, ranks_from}
use Rattle.checks.proofs.RefusalSteps.{searched}

-- GV stands at gv, and RK at rk
pub mark_rows : (h : Header) (f : List ℕ) {gv rk : ℕ} → gv ≡ values_from h.r → rk ≡ ranks_from h → mark_refusals HD h f ≡ wrong_mark HD h f header_length WT ∷ wrong_mark HD h f gv GV ∷ wrong_mark HD h f rk RK ∷ searched (key_unmarked HD h f) h.n WrongMark (key_at HD h) ∷ []
unfolding mark_refusals weights_at values_at ranks_at
mark_rows h f e d = rw (e, d)
