-- An answer that is the definition's has the paper's numbers. Assumes nothing.
use Rattle.std.specs.Prelude.{◌≡◌, List, ℕ}
use Rattle.std.proofs.Common.{ap, ◌∙◌}
use Rattle.directory.specs.Answers.{Opening, Found, opening_numbers, found_numbers}
use Rattle.directory.specs.Calls.{header_of, open_of, lookup_of, header_numbers_of, open_numbers_of, lookup_numbers_of}
use Rattle.directory.proofs.NumberLaws.{header_paper, open_paper, lookup_paper}

pub header_given : (f : List ℕ) {o : Opening} → o ≡ header_of f → (o ≡ header_of f) × (opening_numbers o ≡ header_numbers_of f)
header_given f e = (e, ap opening_numbers e ∙ header_paper f)

pub open_given : (f : List ℕ) {o : Opening} → o ≡ open_of f → (o ≡ open_of f) × (opening_numbers o ≡ open_numbers_of f)
open_given f e = (e, ap opening_numbers e ∙ open_paper f)

pub lookup_given : (f t : List ℕ) {o : Found} → o ≡ lookup_of f t → (o ≡ lookup_of f t) × (found_numbers o ≡ lookup_numbers_of f t)
lookup_given f t e = (e, ap found_numbers e ∙ lookup_paper f t)
