-- The letter's three demands, for readers, about the definitions that the calls' contracts cite; what the refusals say one by one is in EveryBuild and EveryFile. Assumes nothing.
use Rattle.std.specs.Prelude.{Ok, Some, None, ◌≡◌, ◌⊎◌, ◌≢◌, ◌↔◌, Bool, List, ◌++◌, ℕ, ◌≤◌, ◌<◌, length, take, drop}
use Rattle.std.proofs.Common.{sym, ◌∙◌}
use Rattle.std.specs.Borrow.{Bor}
use Rattle.directory.specs.declared.Part.{Part}
use Rattle.directory.specs.declared.RefusalGroup.{RefusalGroup}
use Rattle.directory.specs.declared.PlaceMeaning.{PlaceMeaning}
use Rattle.directory.specs.Sizes.{headed}
use Rattle.directory.specs.Kind.{HD}
use Rattle.directory.specs.Refusals.{number_of, refused, Refusal, NoneApplies, Given}
use Rattle.directory.specs.File.{stored_code}
use Rattle.directory.specs.Building.{Lent, Succeeds, code_of, line_of, file_of, GroupOfCodes, build_refusals}
use Rattle.directory.specs.Lending.{WithinLimits, Different}
use Rattle.directory.specs.Conditions.{LargestGroup}
use Rattle.directory.specs.Whole.{LeadsTo}
use Rattle.directory.specs.Showing.{IsPart}
use Rattle.directory.specs.Answers.{Built, Opening, Found, built_numbers, group_of, meaning_of}
use Rattle.directory.specs.Calls.{kind_of, length_of, build_of, buffer_after_of, build_numbers_of, header_of, open_of, lookup_of, show_part_of, show_of}
use Rattle.directory.proofs.NumberLaws.{build-numbers, build_paper}
use Rattle.directory.proofs.BuildingLaws.{build_done, build_refused, after_refused}
use Rattle.directory.proofs.CyclicLaws.{refused_8, cyclic_exactly, done_exactly}
use Rattle.directory.proofs.WrittenLaws as written-laws
use Rattle.directory.proofs.EveryFile.{opens_exactly_if_whole}
use Rattle.directory.specs.declared.Reason.{Reason}
use Rattle.directory.specs.declared.Reason.TheVariants.{Cyclic, WrongCode}

-- the bytes that a build wrote, which its caller hands on: as many of the buffer's first as the length call says
abbrev pub written : Lent → List ℕ
written I = take (length_of (length I.ends) I.r I.v) (buffer_after_of I)

-- the refusals of building in their order
abbrev pub build_table : Lent → List Refusal
build_table I = build_refusals HD I

module _ (I : Lent) where
  open I use {ends, r, v, buffer}

  -- ---- demand 1: a refused build changes no byte of the buffer
  pub a_refused_build_changes_no_byte : (k : Reason) (p : ℕ) → build_of I ≡ refused k p → buffer_after_of I ≡ buffer
  unfolding build_of buffer_after_of
  a_refused_build_changes_no_byte k p = after_refused HD I

  -- building is refused exactly with the reason and place of the first of 1 to 8 that applies
  pub building_is_refused_by_the_first_that_applies : (k : Reason) (p : ℕ) → (build_of I ≡ refused k p) ↔ Given (build_table I) k p
  unfolding build_of
  building_is_refused_by_the_first_that_applies = build_refused HD I

  -- it succeeds exactly if none applies
  pub building_succeeds_exactly_if_none_applies : Succeeds (build_of I) ↔ NoneApplies (build_table I)
  unfolding build_of
  building_succeeds_exactly_if_none_applies = build_done HD I

  -- a refusal has a number from 1 to 8
  pub building_refuses_with_1_to_8 : (k : Reason) (p : ℕ) → build_of I ≡ refused k p → (1 ≤ number_of k) × (number_of k ≤ 8)
  building_refuses_with_1_to_8 k p e = build-numbers HD I ((building_is_refused_by_the_first_that_applies k p).0 e)

  -- the numbers of an answer are the paper's
  pub the_numbers_of_building : built_numbers (build_of I) ≡ build_numbers_of I
  the_numbers_of_building = build_paper I

  -- the buffer is as long as it was
  pub the_buffer_keeps_its_length : length (buffer_after_of I) ≡ length buffer
  the_buffer_keeps_its_length = written-laws.after-length I

  -- after a success the file stands at its start, every byte of it, and the bytes after it are unchanged
  pub the_file_stands_at_the_start_and_the_rest_is_unchanged : Succeeds (build_of I) → (written I ≡ file_of HD I) × (length (written I) ≡ length_of (length ends) r v) × (buffer_after_of I ≡ written I ++ drop (length_of (length ends) r v) buffer)
  the_file_stands_at_the_start_and_the_rest_is_unchanged done = (written-laws.written-file I done, written-laws.written-length I done, written-laws.written_then_rest I done)

  -- ---- demand 2: what was written opens, with the n, r and v that were lent
  pub what_was_written_opens : Succeeds (build_of I) → open_of (written I) ≡ Ok (headed (length ends) r v)
  what_was_written_opens = written-laws.written_opens I

  -- each listed code is found there at its line, the one that the published method gives
  pub each_code_is_found_at_its_line : Succeeds (build_of I) → (k : ℕ) → k < length ends → lookup_of (written I) (code_of HD I k) ≡ Ok (Some (line_of HD I k))
  each_code_is_found_at_its_line = written-laws.written-found I

  -- and its line shows it
  pub each_line_shows_its_code : Succeeds (build_of I) → (k : ℕ) → k < length ends → show_of (written I) (line_of HD I k) ≡ code_of HD I k
  each_line_shows_its_code = written-laws.written_shows I

  -- ---- demand 3: of different codes, all within the limits and with a buffer large enough, the build is refused as cyclic exactly if a group exists
  pub refused_as_cyclic_exactly_if_a_group_exists : WithinLimits HD I → Different HD I → ((p : ℕ) × (build_of I ≡ refused Cyclic p)) ↔ ((S : ℕ → Bool) × GroupOfCodes HD I S)
  unfolding build_of
  refused_as_cyclic_exactly_if_a_group_exists = cyclic_exactly HD I

  -- otherwise, and only then, it succeeds
  pub otherwise_it_is_built : WithinLimits HD I → Different HD I → (¬ ((S : ℕ → Bool) × GroupOfCodes HD I S)) ↔ Succeeds (build_of I)
  unfolding build_of
  otherwise_it_is_built = done_exactly HD I

  -- of any list, 8 is given with the place p exactly if it is such a list and p is the size of the largest group
  pub the_place_is_the_size_of_the_largest_group : (p : ℕ) → (build_of I ≡ refused Cyclic p) ↔ (WithinLimits HD I × Different HD I × LargestGroup HD I p)
  unfolding build_of
  the_place_is_the_size_of_the_largest_group = refused_8 HD I

  -- after a success each line is below n
  pub the_lines_are_below_n : Succeeds (build_of I) → (k : ℕ) → k < length ends → line_of HD I k < length ends
  the_lines_are_below_n = written-laws.written_below I

  -- different codes have different lines
  pub different_codes_have_different_lines : Succeeds (build_of I) → (i k : ℕ) → i < length ends → k < length ends → line_of HD I i ≡ line_of HD I k → i ≡ k
  different_codes_have_different_lines = written-laws.written_own I

  -- every line below n is that of a listed code, and what looking this code up gives
  pub every_line_is_some_codes_answer : Succeeds (build_of I) → (l : ℕ) → l < length ends → (k : ℕ) × (k < length ends) × (line_of HD I k ≡ l) × (lookup_of (written I) (code_of HD I k) ≡ Ok (Some l))
  every_line_is_some_codes_answer = written-laws.written_onto I

  -- a code that is not listed gets no line
  pub any_other_code_gets_no_line : Succeeds (build_of I) → (t : List ℕ) → ((k : ℕ) → k < length ends → code_of HD I k ≢ t) → (lookup_of (written I) t ≡ Ok None) ⊎ (lookup_of (written I) t ≡ refused WrongCode 0)
  any_other_code_gets_no_line = written-laws.written_stranger I

-- (demand 2) any bytes, from us or a stranger, open only if each stored code leads to its own line
pub opens_only_if_each_stored_code_leads_to_its_line : (f : List ℕ) (n r v : ℕ) → open_of f ≡ Ok (headed n r v) → (l : ℕ) → l < n → LeadsTo (kind_of f) (headed n r v) f (stored_code (kind_of f) (headed n r v) f l) l
opens_only_if_each_stored_code_leads_to_its_line f n r v o = ((opens_exactly_if_whole f n r v).0 o).1.homes

-- ---- each call decides what it gives back: any two results that its contract allows are equal

pub building_is_decided : (I : Lent) {a b : Built} {x y : List ℕ} → (a ≡ build_of I) × (x ≡ buffer_after_of I) → (b ≡ build_of I) × (y ≡ buffer_after_of I) → (a ≡ b) × (x ≡ y)
building_is_decided I a b = (a.0 ∙ sym b.0, a.1 ∙ sym b.1)

pub the_header_is_decided : (f : List ℕ) {o p : Opening} → o ≡ header_of f → p ≡ header_of f → o ≡ p
the_header_is_decided f a b = a ∙ sym b

pub opening_is_decided : (f : List ℕ) {o p : Opening} → o ≡ open_of f → p ≡ open_of f → o ≡ p
opening_is_decided f a b = a ∙ sym b

pub looking_up_is_decided : (f t : List ℕ) {o p : Found} → o ≡ lookup_of f t → p ≡ lookup_of f t → o ≡ p
looking_up_is_decided f t a b = a ∙ sym b

pub the_length_is_decided : (n r v : ℕ) {k l : ℕ} → k ≡ length_of n r v → l ≡ length_of n r v → k ≡ l
the_length_is_decided n r v a b = a ∙ sym b

pub the_group_is_decided : (number : ℕ) {a b : RefusalGroup} → a ≡ group_of number → b ≡ group_of number → a ≡ b
the_group_is_decided number a b = a ∙ sym b

pub the_meaning_of_a_place_is_decided : (number : ℕ) {a b : PlaceMeaning} → a ≡ meaning_of number → b ≡ meaning_of number → a ≡ b
the_meaning_of_a_place_is_decided number a b = a ∙ sym b

pub the_part_is_decided : (f : List ℕ) (l : ℕ) {p q : Part} → p ≡ show_part_of f l → q ≡ show_part_of f l → p ≡ q
the_part_is_decided f l a b = a ∙ sym b

-- two slices that are this part of the file's slice have the same bytes, in the same block and at the same place
pub showing_is_decided : (l : ℕ) {slice other file : Bor (List ℕ)} → IsPart slice file (show_part_of file.now l) → IsPart other file (show_part_of file.now l) → (slice.now ≡ other.now) × (slice.ref_ptr.0 ≡ other.ref_ptr.0) × (slice.ref_ptr.1 ≡ other.ref_ptr.1)
showing_is_decided l a b = (a.bytes ∙ sym b.bytes, a.block ∙ sym b.block, a.from ∙ sym b.from)
