-- What a call gives once the header has spoken: its refusal is the call's, and where it is right the call goes on with its n, r and v. Assumes nothing.
use Rattle.std.specs.Prelude.{true, false, ◌≡◌, ℕ, length, Ok, Err}
use Rattle.std.proofs.Math.Path.{sym}
use Rattle.std.proofs.Common.{◌∙◌}
use mathlib.Core.List.{List, [], ◌++◌}
use Rattle.directory.specs.declared.Reason.{Reason}
use Rattle.directory.specs.declared.Reason.TheVariants.{WrongCode}
use Rattle.directory.specs.declared.Refused.{Refused}
use Rattle.directory.specs.Sizes.{Header}
use Rattle.directory.specs.Codes.{wrong_length}
use Rattle.directory.specs.Kind.{HD}
use Rattle.directory.specs.Refusals.{refused, Refusal, first, ok_unless, NoneApplies}
use Rattle.directory.proofs.RefusalLaws.{given_more, given_first, first_none, first_past, first_one}
use Rattle.directory.specs.File.{header_in, lead_in}
use Rattle.directory.specs.Whole.{Framed}
use Rattle.directory.proofs.WholeLaws.{framed_back}
use Rattle.directory.specs.Opening.{header_refusals, record_refusals, open_refusals, opening as opening_by}
use Rattle.directory.proofs.OpeningLaws.{header-opened, header_refused}
use Rattle.directory.specs.LookingUp.{lookup_refusals, found as found_by, lookup}
use Rattle.directory.specs.Showing.{empty_part, key_part, shown_part}
use Rattle.directory.specs.Calls.{header_of, open_of, lookup_of, show_part_of}

module _ (f : List ℕ) where
  -- ---- the header refuses

  module _ (why : Refused) (e : header_of f ≡ Err why) where
    refused_first : {A : Type 0} (ok : A) (refuse : Reason → ℕ → A) (more : List Refusal) → refuse why.reason why.place ≡ first ok refuse (header_refusals HD (header_in f) f ++ more)
    unfolding header_of
    refused_first ok refuse more = sym (given_first ok refuse (given_more more ((header_refused HD f why.reason why.place).0 e)))

    pub lookup_refused : (t : List ℕ) → Err why ≡ lookup_of f t
    unfolding lookup_of lookup lookup_refusals
    lookup_refused t = refused_first _ refused _

    pub open_refused : Err why ≡ open_of f
    unfolding open_of opening_by open_refusals
    open_refused = refused_first _ refused _

    pub show_refused : (l : ℕ) → empty_part ≡ show_part_of f l
    unfolding header_of show_part_of shown_part
    show_refused l = sym (given_first _ (λ reason place. empty_part) ((header_refused HD f why.reason why.place).0 e))

  -- ---- the header is right

  module _ (h : Header) (e : header_of f ≡ Ok h) where
    header_read : header_in f ≡ h
    unfolding header_of
    header_read = ((header-opened HD f h.n h.r h.v).0 e).0

    pub header_framed : Framed HD h f
    unfolding header_of
    header_framed = ((header-opened HD f h.n h.r h.v).0 e).1

    header_passed : NoneApplies (header_refusals HD h f)
    header_passed = framed_back HD h f header_framed

    module _ (t : List ℕ) where
      pub lookup_wrong : wrong_length HD.positions (length t) ≡ true → refused WrongCode 0 ≡ lookup_of f t
      unfolding lookup_of lookup lookup_refusals
      lookup_wrong w = rw header_read (sym (first_past _ refused (header_refusals HD h f) _ header_passed ∙ first_one _ refused _ [] w))

      pub lookup-found : wrong_length HD.positions (length t) ≡ false → found_by HD h f t (lead_in HD h f t) ≡ lookup_of f t
      unfolding lookup_of lookup lookup_refusals
      lookup-found w = rw header_read (sym (first_past _ refused (header_refusals HD h f) _ header_passed ∙ first_none _ refused _ (w, tt)))

    pub show_part : (l : ℕ) → key_part HD h f l ≡ show_part_of f l
    unfolding show_part_of shown_part
    show_part l = rw header_read (sym (first_none _ (λ reason place. empty_part) (header_refusals HD h f) header_passed))

    pub open_rest : ok_unless h (record_refusals HD h f) ≡ open_of f
    unfolding open_of opening_by open_refusals
    open_rest = rw header_read (sym (first_past _ refused (header_refusals HD h f) _ header_passed))
