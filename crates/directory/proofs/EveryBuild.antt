-- What is proved of every build beside the demands, for readers: its numbers, what the refusals 1 to 7 say as facts, and the waiting queue. Assumes nothing.
use Rattle.std.specs.Prelude.{Ok, refl, ◌≡◌, ◌≢◌, ◌↔◌, false, List, ◌++◌, ℕ, ◌≤◌, ◌<◌, length, get_or}
use Rattle.std.proofs.Common.{arith}
use Rattle.counting.specs.Below.{any}
use Rattle.counting.specs.Lists.{occurrences}
use Rattle.graph.specs.Run.{Reached, ever_waiting}
use Rattle.graph.specs.Waiting.{most_waiting, SoManyWait}
use Rattle.graph.proofs.PeelingLaws.{ever_waiting_begins, ever_waiting_once}
use Rattle.graph.proofs.WaitingLaws.{most_bound, most_attained, most_edges}
use Rattle.directory.specs.Codes.{repeated}
use Rattle.directory.specs.Kind.{HD}
use Rattle.directory.specs.Refusals.{number_of, refused, NoneApplies}
use Rattle.directory.specs.Building.{Lent, graph, code_of, length_needed, lent_refusals}
use Rattle.directory.specs.Lending.{WithinLimits, Different}
use Rattle.directory.specs.Conditions.{ArityRight, PartRight, WeightsRight, FewCodes, ListRight, RoomEnough, FirstWrong, FirstRepeated}
use Rattle.directory.specs.Calls.{build_of, build_numbers_of}
use Rattle.directory.proofs.LendingLaws.{limits, limits_back, different, different_back}
use Rattle.directory.proofs.NumberLaws.{build_paper, numbers_of_done, numbers_of_refused, number_some, refused_by_number}
use Rattle.directory.proofs.BuildingLaws.{build-number}
use Rattle.directory.proofs.WaitingLaws.{waiting_different, waiting_places}
use Rattle.directory.proofs.RefusedLaws.{refused_1, refused_2, refused_3, refused_4, refused_5, refused_6, refused_7}
use Rattle.directory.proofs.Demands.{build_table}
use Rattle.directory.specs.declared.Reason.{Reason}
use Rattle.directory.specs.declared.Reason.TheVariants.{WrongArity, WrongPartSize, WrongWeights, TooManyCodes, WrongList, ShortBuffer, RepeatedCode}

module _ (I : Lent) where
  -- ---- the paper's numbers

  -- number 0 is given exactly if the build succeeds, with the place 0 and the number that success gives
  pub number_0_exactly_if_it_is_built : (most : ℕ) → (build_numbers_of I ≡ (0, 0, most)) ↔ (build_of I ≡ Ok most)
  number_0_exactly_if_it_is_built = rw (← build_paper I) (numbers_of_done (build_of I))

  -- otherwise the number and the place are those of the refusal, with 0 beside them
  pub otherwise_the_refusals_number_and_place : (number p : ℕ) → 1 ≤ number → (build_numbers_of I ≡ (number, p, 0)) ↔ ((k : Reason) × (number_of k ≡ number) × (build_of I ≡ refused k p))
  otherwise_the_refusals_number_and_place = rw (← build_paper I) (numbers_of_refused (build_of I))

  -- a number is that of one reason, so these numbers tell the refusal itself
  pub the_numbers_tell_the_refusal : (k : Reason) (p : ℕ) → (build_numbers_of I ≡ (number_of k, p, 0)) ↔ (build_of I ≡ refused k p)
  the_numbers_tell_the_refusal k p =
      let w = otherwise_the_refusals_number_and_place (number_of k) p (number_some k) in
      (λ e. refused_by_number k p (w.0 e), λ e. w.1 (k, refl, e))

  -- ---- none of 1 to 7

  -- none of 1 to 6 applies exactly if all is within the limits and the buffer is large enough
  pub none_of_1_to_6_applies_exactly_within_the_limits : NoneApplies (lent_refusals HD I) ↔ WithinLimits HD I
  none_of_1_to_6_applies_exactly_within_the_limits = (limits HD I, limits_back HD I)

  -- 7 does not apply exactly if the codes are different
  pub seven_does_not_apply_exactly_to_different_codes : (any (length I.ends) (repeated (code_of HD I)) ≡ false) ↔ Different HD I
  seven_does_not_apply_exactly_to_different_codes = (different HD I, different_back HD I)

  -- ---- each of 1 to 7, with the place p

  module _ (p : ℕ) where
    -- 1 exactly if r is not 2 or 3
    pub refused_with_1_exactly_if_the_arity_is_wrong : (build_of I ≡ refused WrongArity p) ↔ ((¬ ArityRight HD I) × (p ≡ 0))
    unfolding build_of
    refused_with_1_exactly_if_the_arity_is_wrong = refused_1 HD I p

    -- 2 exactly if r is right and v is 0 or r·v over 4,096
    pub refused_with_2_exactly_if_the_part_size_is_wrong : (build_of I ≡ refused WrongPartSize p) ↔ (ArityRight HD I × (¬ PartRight HD I) × (p ≡ 0))
    unfolding build_of
    refused_with_2_exactly_if_the_part_size_is_wrong = refused_2 HD I p

    -- 3 exactly if these are right and the weights are not 32·r in number
    pub refused_with_3_exactly_if_the_weights_are_wrong : (build_of I ≡ refused WrongWeights p) ↔ (ArityRight HD I × PartRight HD I × (¬ WeightsRight HD I) × (p ≡ 0))
    unfolding build_of
    refused_with_3_exactly_if_the_weights_are_wrong = refused_3 HD I p

    -- 4 exactly if these are right and there are more than 1,024 codes
    pub refused_with_4_exactly_if_there_are_too_many_codes : (build_of I ≡ refused TooManyCodes p) ↔ (ArityRight HD I × PartRight HD I × WeightsRight HD I × (¬ FewCodes HD I) × (p ≡ 0))
    unfolding build_of
    refused_with_4_exactly_if_there_are_too_many_codes = refused_4 HD I p

    -- 5 exactly if these are right and p is the lowest code that does not run as it has to, or n where all do and the last end misses the run's length
    pub refused_with_5_exactly_at_the_lowest_wrong_code : (build_of I ≡ refused WrongList p) ↔ (ArityRight HD I × PartRight HD I × WeightsRight HD I × FewCodes HD I × FirstWrong HD I p)
    unfolding build_of
    refused_with_5_exactly_at_the_lowest_wrong_code = refused_5 HD I p

    -- 6 exactly if these are right, so is the list, and the buffer is shorter than the file, whose length is the place
    pub refused_with_6_exactly_if_the_buffer_is_short : (build_of I ≡ refused ShortBuffer p) ↔ (ArityRight HD I × PartRight HD I × WeightsRight HD I × FewCodes HD I × ListRight HD I × (¬ RoomEnough HD I) × (p ≡ length_needed HD I))
    unfolding build_of
    refused_with_6_exactly_if_the_buffer_is_short = refused_6 HD I p

    -- 7 exactly if all is within the limits and p is the lowest code that equals an earlier one
    pub refused_with_7_exactly_at_the_lowest_repeated_code : (build_of I ≡ refused RepeatedCode p) ↔ (WithinLimits HD I × FirstRepeated HD I p)
    unfolding build_of
    refused_with_7_exactly_at_the_lowest_repeated_code = refused_7 HD I p

  -- ---- the waiting queue: document 02, request b

  -- after the start and after each peeling step, the removed and then the waiting are the beginning of all that ever enter the queue
  pub what_waits_has_entered_the_queue : {removed waiting : List ℕ} → Reached (graph HD I) removed waiting → (later : List ℕ) × (ever_waiting (graph HD I) ≡ removed ++ waiting ++ later)
  what_waits_has_entered_the_queue = ever_waiting_begins (graph HD I)

  -- and over the whole build no code of the list enters it twice
  pub no_code_waits_twice : (k : ℕ) → occurrences k (ever_waiting (graph HD I)) ≤ 1
  no_code_waits_twice = ever_waiting_once (graph HD I)

  -- so where the codes of the list are different, no two of all that ever enter it are equal
  pub all_that_ever_wait_are_different : Different HD I → (i k : ℕ) → i < k → k < length (ever_waiting (graph HD I)) → code_of HD I (get_or (ever_waiting (graph HD I)) i 0) ≢ code_of HD I (get_or (ever_waiting (graph HD I)) k 0)
  all_that_ever_wait_are_different = waiting_different HD I

  -- within the limits a queue of 1,024 places is enough for all of them, no place being used twice
  pub a_queue_of_1024_places_is_enough : WithinLimits HD I → length (ever_waiting (graph HD I)) ≤ 1024
  a_queue_of_1024_places_is_enough = waiting_places HD I

  module _ (most : ℕ) where
    -- success gives the most codes that wait at once, counted after the start and after each peeling step
    pub success_gives_the_most_waiting : (build_of I ≡ Ok most) ↔ (NoneApplies (build_table I) × (most ≡ most_waiting (graph HD I)))
    unfolding build_of
    success_gives_the_most_waiting = build-number HD I most

    -- that is, after the start and after each step at most so many wait
    pub at_no_moment_do_more_wait : build_of I ≡ Ok most → {removed waiting : List ℕ} → Reached (graph HD I) removed waiting → length waiting ≤ most
    at_no_moment_do_more_wait done r = omega (arith, most_bound (graph HD I) r, (success_gives_the_most_waiting.0 done).1)

    -- and at one of these moments so many do
    pub at_some_moment_so_many_wait : build_of I ≡ Ok most → SoManyWait (graph HD I) most
    at_some_moment_so_many_wait done = rw (success_gives_the_most_waiting.0 done).1 (most_attained (graph HD I))

    -- they are at most n
    pub at_most_n_wait_at_once : build_of I ≡ Ok most → most ≤ length I.ends
    unfolding graph
    at_most_n_wait_at_once done = omega (arith, most_edges (graph HD I), (success_gives_the_most_waiting.0 done).1)
