-- What the length of a file and the header call give, test by test, with the numbers as the code has them. Assumes nothing.
use Rattle.std.specs.Prelude.{◌≡◌, ◌≢◌, true, false, List, ℕ, ◌≤◌, ◌<◌, length, Ok}
use Rattle.std.proofs.Math.Path.{sym}
use Rattle.std.proofs.Common.{◌∙◌}
use borrow.Author.Tests.{ne_eqb, lt-ltb, le-ltb}
use Rattle.directory.specs.declared.Reason.TheVariants.{WrongSize, WrongMark, WrongHeader}
use Rattle.directory.specs.Sizes.{Header, header_allowed}
use Rattle.directory.specs.Kind.{HD}
use Rattle.directory.specs.Bytes.{marked}
use Rattle.directory.specs.Refusals.{refused, first}
use Rattle.directory.specs.File.{header_length, header_in}
use Rattle.directory.proofs.WholeLaws.{sized_true}
use Rattle.directory.specs.Opening.{header_refusals, header}
use Rattle.directory.proofs.OpeningLaws.{header-opened}
use Rattle.directory.specs.Calls.{length_of, header_of}
use Rattle.records.specs.Standing.{key_from}
use Rattle.records.proofs.StandingLaws.{length_from}

-- ---- the length of a file

pub length_allowed : (h : Header) → header_allowed h ≡ true → key_from h h.n ≡ length_of h.n h.r h.v
unfolding length_of
length_allowed h t = rw t (length_from h)

pub length_disallowed : (h : Header) → header_allowed h ≡ false → 0 ≡ length_of h.n h.r h.v
unfolding length_of
length_disallowed h t = rw t

-- ---- the header

module _ (f : List ℕ) where
  pub heading_short : length f < header_length → refused WrongSize 0 ≡ header_of f
  unfolding header_of header header_refusals first
  heading_short l = rw (lt-ltb (length f) header_length l)

  module _ (long : header_length ≤ length f) where
    pub heading_unmarked : marked f 0 HD.mark ≡ false → refused WrongMark 0 ≡ header_of f
    unfolding header_of header header_refusals first
    heading_unmarked t = rw (le-ltb (length f) header_length long, t)

    module _ (mark : marked f 0 HD.mark ≡ true) (h : Header) (e : header_in f ≡ h) where
      pub heading_disallowed : header_allowed h ≡ false → refused WrongHeader 0 ≡ header_of f
      unfolding header_of header header_refusals first
      heading_disallowed t = rw (le-ltb (length f) header_length long, mark, e, t)

      module _ (right : header_allowed h ≡ true) where
        pub heading_length : length f ≢ key_from h h.n → refused WrongSize 0 ≡ header_of f
        unfolding header_of header header_refusals first
        heading_length d = rw (le-ltb (length f) header_length long, mark, e, right, ne_eqb _ _ (λ i. d (i ∙ sym (length_from h))))

        pub heading_is : length f ≡ key_from h h.n → Ok h ≡ header_of f
        unfolding header_of
        heading_is i = sym ((header-opened HD f h.n h.r h.v).1 (e, record { first_mark = mark; sizes = sized_true h right; size = i ∙ length_from h }))
