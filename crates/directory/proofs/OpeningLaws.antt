-- What opening, and the header alone, give on any bytes, as facts. Assumes nothing.
use Rattle.std.specs.Prelude.{refl, Ok, ◌≡◌, ◌↔◌, List, ◌++◌, ℕ}
use Rattle.directory.specs.Sizes.{Header, headed}
use Rattle.directory.specs.Kind.{Kind}
use Rattle.directory.specs.Refusals.{refused, Refusal, ok_unless, NoneApplies, Given}
use Rattle.directory.proofs.RefusalLaws.{given_more, first_past, unless_ok, unless_refused}
use Rattle.directory.specs.File.{header_in}
use Rattle.directory.specs.Whole.{Framed, Whole}
use Rattle.directory.specs.Opening.{header_refusals, open_refusals, header, opening}
use Rattle.directory.proofs.WholeLaws.{framed, framed_back, whole, whole_back}
use Rattle.directory.specs.declared.Reason.{Reason}

-- whatever success gives, a table refuses alike
module _ {A B : Type 0} (x : A) (y : B) (table : List Refusal) where
  pub unless_alike : (k : Reason) (p : ℕ) → ok_unless x table ≡ refused k p → ok_unless y table ≡ refused k p
  unless_alike k p e = (unless_refused y table k p).1 ((unless_refused x table k p).0 e)

  pub unless_none : (z : A) → ok_unless x table ≡ Ok z → ok_unless y table ≡ Ok y
  unless_none z e = (unless_ok y table y).1 (refl, ((unless_ok x table z).0 e).1)

  -- a refusal by a table is one by a longer table; a table of which no row applies is passed
  module _ (more : List Refusal) where
    pub unless_more : (k : Reason) (p : ℕ) → ok_unless x table ≡ refused k p → ok_unless y (table ++ more) ≡ refused k p
    unless_more k p e = (unless_refused y (table ++ more) k p).1 (given_more more ((unless_refused x table k p).0 e))

    pub unless_passed : (z : A) → ok_unless x table ≡ Ok z → ok_unless y (table ++ more) ≡ ok_unless y more
    unless_passed z e = first_past _ refused table more ((unless_ok x table z).0 e).1

-- where `P` says of each header that no row of its table applies
unless_opened : (h : Header) (table : Header → List Refusal) (P : Header → Type 0) → ((g : Header) → NoneApplies (table g) ↔ P g) → (n r v : ℕ)
    → (ok_unless h (table h) ≡ Ok (headed n r v)) ↔ ((h ≡ headed n r v) × P (headed n r v))
unless_opened h table P same n r v =
    let w = unless_ok h (table h) (headed n r v) in (λ e. let c = w.0 e in (c.0, rw (← c.0) ((same h).0 c.1)), λ c. w.1 (c.0, (same h).1 (rw c.0 c.1)))

module _ (K : Kind) (f : List ℕ) where
  -- the header alone: n, r and v exactly if they are the header's and the file is framed
  pub header-opened : (n r v : ℕ) → (header K f ≡ Ok (headed n r v)) ↔ ((header_in f ≡ headed n r v) × Framed K (headed n r v) f)
  unfolding header
  header-opened = unless_opened (header_in f) (λ h. header_refusals K h f) (λ h. Framed K h f) (λ h. (framed K h f, framed_back K h f))

  pub header_refused : (k : Reason) (p : ℕ) → (header K f ≡ refused k p) ↔ Given (header_refusals K (header_in f) f) k p
  unfolding header
  header_refused = unless_refused (header_in f) (header_refusals K (header_in f) f)

  -- opening: n, r and v exactly if they are the header's and the file is whole
  pub opening-opened : (n r v : ℕ) → (opening K f ≡ Ok (headed n r v)) ↔ ((header_in f ≡ headed n r v) × Whole K (headed n r v) f)
  unfolding opening
  opening-opened = unless_opened (header_in f) (λ h. open_refusals K h f) (λ h. Whole K h f) (λ h. (whole K h f, whole_back K h f))

  pub opening_refused : (k : Reason) (p : ℕ) → (opening K f ≡ refused k p) ↔ Given (open_refusals K (header_in f) f) k p
  unfolding opening
  opening_refused = unless_refused (header_in f) (open_refusals K (header_in f) f)
