-- The two steps of a build together give its answer and its buffer: test by test of what is lent, then of the graph. Assumes nothing.
use Rattle.std.specs.Prelude.{◌≡◌, refl, ◌≢◌, true, false, List, ℕ, ◌≤◌, length, Ok, Option, Some, None, Bool}
use Rattle.std.proofs.Math.Path.{sym}
use Rattle.std.proofs.Common.{ap, ◌∙◌}
use Rattle.std.proofs.Math.Bool.{not}
use borrow.Author.Tests.{eq-eqb, ne_eqb}
use Rattle.counting.specs.Below.{lowest, any}
use Rattle.counting.proofs.TestLaws.{and_both}
use Rattle.graph.specs.Peeling.{number_left}
use Rattle.graph.specs.Waiting.{most_waiting}
use Rattle.directory.specs.declared.Reason.{Reason}
use Rattle.directory.specs.declared.Reason.TheVariants.{RepeatedCode, Cyclic}
use Rattle.directory.specs.Sizes.{Header, most_codes, arity_allowed, part_allowed, codes_allowed, header_allowed}
use Rattle.directory.specs.Codes.{code, repeated}
use Rattle.directory.specs.Kind.{HD}
use Rattle.directory.specs.Refusals.{first, refused, NoneApplies}
use Rattle.directory.proofs.RefusalLaws.{given_more, first_past, first_none, unless_ok, unless_refused}
use Rattle.directory.specs.Building.{Lent, code_of, graph, lent_refusals, graph_refusals, build_refusals, build, buffer_after}
use Rattle.directory.proofs.RepeatedLaws.{none_repeated}
use Rattle.directory.specs.Lending.{WithinLimits}
use Rattle.directory.proofs.LendingLaws.{limits}
use Rattle.directory.proofs.BuildingLaws.{build_refused, after_refused}
use Rattle.directory.proofs.NumberLaws.{build_paper}
use Rattle.directory.specs.Answers.{Built, built_numbers}
use Rattle.directory.specs.Calls.{build_of, buffer_after_of, build_numbers_of}
use Rattle.std.specs.List.{range_with_len, find}
use Rattle.counting.proofs.RangeLaws.{found_lowest, missed_any, missed_lowest}
use Rattle.records.specs.Standing.{Room}
use Rattle.records.proofs.FramedLaws.{allowed_room}
use Rattle.builder.specs.Decisions.{of_lent, of_graph, with_file, after_graph}

-- ---- what is lent

-- the length can be computed
pub sizes_room : (h : Header) → arity_allowed h.r ≡ true → part_allowed h.r h.v ≡ true → codes_allowed h.n ≡ true → Room h.r h.v × (h.n ≤ most_codes)
unfolding header_allowed
sizes_room h arity part few = allowed_room h (and_both (and_both few arity) part)

-- what a search misses, no number passes
pub search_missed : (n : ℕ) (p : ℕ → Bool) (r : Option ℕ) → r ≡ find p (range_with_len 0 n) → ((k : ℕ) → r ≡ Some k → ⊥) → (any n p ≡ false) × (n ≡ lowest n p)
search_missed n p (Some k) found missed = absurd (missed k refl)
search_missed n p None none missed = (missed_any p n none, missed_lowest p n none)

module _ (I : Lent) where
  open I use {run, ends, r, v, weights, buffer}

  abbrev n : ℕ
  n = length ends

  -- ---- the codes and their graph

  none_applies : number_left (graph HD I) ≡ 0 → NoneApplies (graph_refusals HD I)
  unfolding graph_refusals
  none_applies z = (none_repeated HD I z, (ap not (eq-eqb _ 0 z), tt))

  pub graph_done : number_left (graph HD I) ≡ 0 → (most : ℕ) → most ≡ most_waiting (graph HD I) → (Ok most ≡ of_graph I) × (with_file I ≡ after_graph I)
  graph_done z most is = let none = none_applies z in (sym ((unless_ok _ (graph_refusals HD I) most).1 (sym is, none)), sym (first_none (with_file I) (λ k p. buffer) (graph_refusals HD I) none))

  pub graph-repeated : (k : ℕ) → Some k ≡ find (repeated (code run ends)) (range_with_len 0 n) → (refused RepeatedCode k ≡ of_graph I) × (buffer ≡ after_graph I)
  unfolding first graph_refusals code_of
  graph-repeated k found = let w = found_lowest _ n found in rw w.0 (ap (refused RepeatedCode) w.1, refl)

  pub graph-cyclic : None ≡ find (repeated (code run ends)) (range_with_len 0 n) → (left : ℕ) → left ≡ number_left (graph HD I) → left ≢ 0 → (refused Cyclic left ≡ of_graph I) × (buffer ≡ after_graph I)
  unfolding first graph_refusals code_of
  graph-cyclic none left e d = rw (missed_any _ n none, ne_eqb (number_left (graph HD I)) 0 (λ z. d (e ∙ z))) (ap (refused Cyclic) e, refl)

  -- ---- both steps

  pub lent_refused : {k : Reason} {p : ℕ} → refused k p ≡ of_lent I → (refused k p ≡ build_of I) × (buffer ≡ buffer_after_of I)
  unfolding build_refusals build_of buffer_after_of
  lent_refused {k} {p} e =
      let given = (unless_refused tt (lent_refusals HD I) k p).0 (sym e) in
      let answer = (build_refused HD I k p).1 (given_more (graph_refusals HD I) given) in
      (sym answer, sym (after_refused HD I answer))

  lent_none : Ok tt ≡ of_lent I → NoneApplies (lent_refusals HD I)
  lent_none e = ((unless_ok tt (lent_refusals HD I) tt).0 (sym e)).1

  pub lent_limits : Ok tt ≡ of_lent I → WithinLimits HD I
  lent_limits e = limits HD I (lent_none e)

  pub graph_decides : Ok tt ≡ of_lent I → (of_graph I ≡ build_of I) × (after_graph I ≡ buffer_after_of I)
  unfolding build_of build buffer_after_of buffer_after build_refusals
  graph_decides e = (sym (first_past _ refused (lent_refusals HD I) (graph_refusals HD I) (lent_none e)), sym (first_past (with_file I) (λ k p. buffer) (lent_refusals HD I) (graph_refusals HD I) (lent_none e)))

  -- the third promise follows from the first
  pub answered : {b : Built} {after : List ℕ} → (b ≡ build_of I) × (after ≡ buffer_after_of I) → (b ≡ build_of I) × ((after ≡ buffer_after_of I) × (built_numbers b ≡ build_numbers_of I))
  answered e = (e.0, (e.1, ap built_numbers e.0 ∙ build_paper I))
