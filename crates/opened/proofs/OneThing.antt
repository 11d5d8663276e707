-- The opened directory passed around as one thing, for readers: what follows from the contracts of `hold`, `find`, `shown`, `numbers` and `find_in`, about the definitions that they cite. Assumes nothing.
use Rattle.std.specs.Prelude.{◌≡◌, refl, ◌≢◌, ◌↔◌, List, ℕ, Ok}
use Rattle.std.proofs.Common.{sym, ◌∙◌}
use Rattle.std.specs.Borrow.{Bor}
use Rattle.directory.specs.declared.Reason.{Reason}
use Rattle.directory.specs.Sizes.{Header, headed}
use Rattle.directory.specs.Refusals.{refused}
use Rattle.directory.specs.Showing.{IsPart}
use Rattle.directory.specs.Answers.{Found, found_numbers}
use Rattle.directory.specs.Calls.{open_of, lookup_of, lookup_numbers_of, show_part_of}
use Rattle.directory.proofs.Demands.{looking_up_is_decided, showing_is_decided}
use Rattle.opened.specs.declared.Opened.{Opened}
use Rattle.opened.specs.Held.{numbers_of, held}
use Rattle.opened.proofs.HeldLaws.{numbers-opened, numbers_refused, arity_0, opened-numbers}

-- a file is held
module _ (file : Bor (List ℕ)) (d : Opened) (h : d ≡ held file) where
  -- it refers to the file's bytes: its slice is the one that was lent, in the same place, and no copy
  pub the_slice_is_the_files : d.file ≡ file
  the_slice_is_the_files = rw h

  -- finding a code in it is looking it up in the file
  pub finding_is_looking_up : (code : List ℕ) (o : Found) → (o ≡ lookup_of d.file.now code) × (found_numbers o ≡ lookup_numbers_of d.file.now code) → (o ≡ lookup_of file.now code) × (found_numbers o ≡ lookup_numbers_of file.now code)
  finding_is_looking_up code o found = rw (← the_slice_is_the_files) found

  -- what it shows of a line is what showing gives of the file: a part of the file itself
  pub it_shows_the_files_part : (line : ℕ) (part : Bor (List ℕ)) → IsPart part d.file (show_part_of d.file.now line) → IsPart part file (show_part_of file.now line)
  it_shows_the_files_part line part shown = rw (← the_slice_is_the_files) shown

  -- where the file opens with n, r and v, these are its numbers
  pub its_numbers_are_those_of_opening : (n r v : ℕ) → open_of file.now ≡ Ok (headed n r v) → d.header ≡ headed n r v
  its_numbers_are_those_of_opening n r v o = rw (h, ← numbers-opened file.now (headed n r v) o)

  -- where it does not, they are 0
  pub its_numbers_are_0_where_opening_refuses : (k : Reason) (p : ℕ) → open_of file.now ≡ refused k p → d.header ≡ headed 0 0 0
  its_numbers_are_0_where_opening_refuses k p o = rw (h, ← numbers_refused file.now k p o)

  -- so its r tells: 0 exactly if the file does not open
  pub r_is_0_exactly_if_it_does_not_open : (d.header.r ≡ 0) ↔ ((k : Reason) × (p : ℕ) × (open_of file.now ≡ refused k p))
  r_is_0_exactly_if_it_does_not_open = rw h (arity_0 file.now)

  -- and with any other r the file opens, with its numbers
  pub with_any_other_r_it_opens : d.header.r ≢ 0 → open_of file.now ≡ Ok d.header
  with_any_other_r_it_opens = rw h (opened-numbers file.now)

-- ---- each call decides what it gives back: any two results that its contract allows are equal

pub the_numbers_are_decided : (f : List ℕ) {a b : Header} → a ≡ numbers_of f → b ≡ numbers_of f → a ≡ b
the_numbers_are_decided f a b = a ∙ sym b

pub holding_is_decided : (file : Bor (List ℕ)) {a b : Opened} → a ≡ held file → b ≡ held file → a ≡ b
holding_is_decided file a b = a ∙ sym b

pub finding_is_decided : (d : Opened) (code : List ℕ) {o p : Found} → o ≡ lookup_of d.file.now code → p ≡ lookup_of d.file.now code → o ≡ p
finding_is_decided d code = looking_up_is_decided d.file.now code

pub finding_in_a_file_is_decided : (f code : List ℕ) {o p : Found} → o ≡ lookup_of f code → p ≡ lookup_of f code → o ≡ p
finding_in_a_file_is_decided = looking_up_is_decided

-- two slices that are shown of one line have the same bytes, in the same block and at the same place
pub what_is_shown_is_decided : (d : Opened) (line : ℕ) {slice other : Bor (List ℕ)} → IsPart slice d.file (show_part_of d.file.now line) → IsPart other d.file (show_part_of d.file.now line)
    → (slice.now ≡ other.now) × (slice.ref_ptr.0 ≡ other.ref_ptr.0) × (slice.ref_ptr.1 ≡ other.ref_ptr.1)
what_is_shown_is_decided d line = showing_is_decided line
