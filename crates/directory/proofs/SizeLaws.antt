-- The length of a file and its bound, as document 01 states them. Assumes nothing.
use Rattle.std.specs.Prelude.{◌≡◌, refl, true, ℕ, ◌+◌, ◌*◌, ◌≤◌}
use Rattle.std.proofs.Common.{arith}
use Rattle.directory.specs.Sizes.{Header, most_codes, header_allowed, value_bytes, rank_entries}
use Rattle.directory.specs.Kind.{HD}
use Rattle.directory.specs.Values.{ranks_at, table_size}
use Rattle.directory.specs.File.{weights_at, values_at, keys_at, key_at, file_length}
use Rattle.directory.proofs.WholeLaws.{sized_true}

abbrev longest_file : ℕ
longest_file = 37_197

pub file-length : (h : Header) → file_length HD h ≡ 13 + 64 * h.r + value_bytes h + 2 * rank_entries h + 35 * h.n
unfolding file_length key_at keys_at table_size ranks_at values_at weights_at
file-length h = omega arith

-- no file that the sizes allow is longer, ..
pub file-length_most : (h : Header) → header_allowed h ≡ true → file_length HD h ≤ longest_file
file-length_most h t = omega (arith, file-length h, sized_true h t)

-- .. and one is as long
pub file-length_reached : file_length HD (record { n = most_codes; r = 3; v = 1365 }) ≡ longest_file
unfolding file_length key_at keys_at table_size ranks_at values_at weights_at
file-length_reached = refl
