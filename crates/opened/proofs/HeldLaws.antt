-- The numbers of a file, by what opening gives. Assumes nothing.
use Rattle.std.specs.Prelude.{◌≡◌, refl, ◌≢◌, ◌↔◌, List, ℕ, ◌≤◌, Ok, Err}
use Rattle.std.proofs.Common.{arith}
use Rattle.directory.specs.declared.Reason.{Reason}
use Rattle.directory.specs.Sizes.{Header, headed}
use Rattle.directory.specs.Refusals.{refused}
use Rattle.directory.specs.Answers.{Opening}
use Rattle.directory.specs.Calls.{open_of}
use Rattle.directory.proofs.EveryFile.{opens_exactly_if_whole}
use Rattle.opened.specs.Held.{numbers_of}

module _ (f : List ℕ) where
  pub numbers-opened : (h : Header) → open_of f ≡ Ok h → h ≡ numbers_of f
  unfolding numbers_of
  numbers-opened h e = rw e

  pub numbers_refused : (k : Reason) (p : ℕ) → open_of f ≡ refused k p → headed 0 0 0 ≡ numbers_of f
  unfolding numbers_of
  numbers_refused k p e = rw e

  -- the arity of a file that opens is 2 or 3, ..
  some_arity : (h : Header) → open_of f ≡ Ok h → 2 ≤ h.r
  some_arity h e = ((opens_exactly_if_whole f h.n h.r h.v).0 e).1.framed.sizes.two

  -- .. so it is 0 exactly if the file does not open
  pub arity_0 : ((numbers_of f).r ≡ 0) ↔ ((k : Reason) × (p : ℕ) × (open_of f ≡ refused k p))
  arity_0 = (there (open_of f) refl, λ c. rw (← numbers_refused c.0 c.1 c.2))
    where
      there : (o : Opening) → open_of f ≡ o → (numbers_of f).r ≡ 0 → (k : Reason) × (p : ℕ) × (open_of f ≡ refused k p)
      there (Ok h) e z = absurd (let z' : h.r ≡ 0 = (rw (← numbers-opened h e) at z) in omega (arith, some_arity h e))
      there (Err why) e z = (why.reason, why.place, e)

  pub opened-numbers : (numbers_of f).r ≢ 0 → open_of f ≡ Ok (numbers_of f)
  opened-numbers = there (open_of f) refl
    where
      there : (o : Opening) → open_of f ≡ o → (numbers_of f).r ≢ 0 → open_of f ≡ Ok (numbers_of f)
      there (Ok h) e z = rw (← numbers-opened h e) e
      there (Err why) e z = absurd (z (rw (← numbers_refused why.reason why.place e)))
