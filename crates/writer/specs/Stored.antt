-- How numbers and values are stored. Assumes nothing.
use Rattle.std.specs.Prelude.{List, [], ◌∷◌, ℕ, ◌+◌, ◌/◌, length, get_or}
use Rattle.counting.specs.Lists.{each}
use Rattle.directory.specs.Bytes.{two}
use Rattle.directory.specs.Values.{packed, spare_zero}

-- numbers in two bytes each, one after the other
unfoldable pub twos : List ℕ → List ℕ
twos numbers = each (length numbers) (λ i. two (get_or numbers i 0))

-- values, four to a byte: byte b of them, and all
abbrev pub byte_of : List ℕ → ℕ → ℕ
byte_of values b = packed (spare_zero (length values) (λ x. get_or values x 0)) b

unfoldable pub fours : List ℕ → List ℕ
fours values = each ((length values + 3) / 4) (λ b. byte_of values b ∷ [])
