-- What building gives, as facts: success where no refusal applies, otherwise the first that does, and the buffer in both cases. Assumes nothing.
use Rattle.std.specs.Prelude.{Ok, ◌≡◌, refl, ◌↔◌, ◌++◌, ℕ, drop}
use Rattle.std.proofs.Common.{sym}
use Rattle.std.proofs.Math.Logic.Iff
use Rattle.graph.specs.Waiting.{most_waiting}
use Rattle.directory.specs.Kind.{Kind}
use Rattle.directory.specs.Refusals.{refused, NoneApplies, Given}
use Rattle.directory.proofs.RefusalLaws.{first_none, given_first, unless_ok, unless_refused}
use Rattle.directory.specs.Building.{Lent, Succeeds, graph, file_of, length_needed, build_refusals, build, buffer_after}
use Rattle.directory.specs.declared.Reason.{Reason}

module _ (K : Kind) (I : Lent) where
  -- ---- the answer

  pub build_done : Succeeds (build K I) ↔ NoneApplies (build_refusals K I)
  unfolding build
  build_done = (λ s. ((unless_ok (most_waiting (graph K I)) (build_refusals K I) s.0).0 s.1).1, λ none. (most_waiting (graph K I), (unless_ok _ (build_refusals K I) _).1 (refl, none)))

  pub build-number : (most : ℕ) → (build K I ≡ Ok most) ↔ (NoneApplies (build_refusals K I) × (most ≡ most_waiting (graph K I)))
  unfolding build
  build-number most = let w = unless_ok (most_waiting (graph K I)) (build_refusals K I) most in (λ e. let c = w.0 e in (c.1, sym c.0), λ c. w.1 (sym c.1, c.0))

  pub build_refused : (k : Reason) (p : ℕ) → (build K I ≡ refused k p) ↔ Given (build_refusals K I) k p
  unfolding build
  build_refused = unless_refused _ (build_refusals K I)

  -- what the table says of a reason, said in other words
  pub refused_by : {k : Reason} {p : ℕ} {A B : Type 0} → Given (build_refusals K I) k p ↔ A → A ↔ B → (build K I ≡ refused k p) ↔ B
  refused_by {k} {p} row facts = Iff.trans (build_refused k p) (Iff.trans row facts)

  -- ---- the buffer afterwards

  pub after_done : Succeeds (build K I) → buffer_after K I ≡ file_of K I ++ drop (length_needed K I) I.buffer
  unfolding buffer_after
  after_done d = first_none _ _ _ (build_done.0 d)

  pub after_refused : {k : Reason} {p : ℕ} → build K I ≡ refused k p → buffer_after K I ≡ I.buffer
  unfolding buffer_after
  after_refused {k} {p} e = given_first _ _ ((build_refused k p).0 e)
