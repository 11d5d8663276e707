-- The KY records: where the length decides nothing, the filling does. Assumes nothing.
use Rattle.std.specs.Prelude.{◌≡◌, ◌≢◌, not, List, ℕ, ◌+◌, ◌-◌, ◌≤◌, eqb, length, slice_range}
use Rattle.std.specs.List.{list_any}
use Rattle.std.proofs.Common.{arith, ◌∙◌, ne_eqb, le-ltb}
use Rattle.counting.specs.Below.{any}
use Rattle.directory.specs.Sizes.{Header}
use Rattle.directory.specs.Codes.{wrong_length}
use Rattle.directory.specs.Kind.{HD}
use Rattle.directory.specs.Bytes.{byte_at}
use Rattle.directory.specs.File.{key_length}
use Rattle.directory.specs.Opening.{filling_set, key_wrong}
use Rattle.records.specs.Standing.{most_bytes, code_from}
use Rattle.records.proofs.StandingLaws.{code_from_lem}
use Rattle.counting.proofs.RangeLaws.{any_part}

-- the KY record of line l gives the length k
pub key_filling : (h : Header) (f : List ℕ) (l k : ℕ) → k ≡ key_length HD h f l → k ≢ 0 → k ≤ most_bytes → code_from h l + most_bytes ≤ length f → list_any (λ b. not (eqb b 0)) (slice_range f (code_from h l + k) (code_from h l + k + (most_bytes - k))) ≡ key_wrong HD h f l
unfolding key_wrong wrong_length filling_set
key_filling h f l k e some most inside =
    let size : code_from h l + k + (most_bytes - k) - (code_from h l + k) ≡ most_bytes - k = omega arith in
    let decides : any (most_bytes - k) (λ i. not (eqb (byte_at f (code_from h l + k + i)) 0)) ≡ key_wrong HD h f l = rw (← e, ne_eqb k 0 some, le-ltb most_bytes k most, code_from_lem h l) in
    rw size (any_part (λ b. not (eqb b 0)) f (code_from h l + k) (most_bytes - k) (omega arith) ∙ decides)
