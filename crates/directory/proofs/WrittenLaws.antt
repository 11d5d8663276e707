-- What the calls give on the bytes that a build wrote: the first `length` bytes of the buffer afterwards. Assumes nothing.
use Rattle.std.specs.Prelude.{Ok, Some, None, ◌≡◌, ◌⊎◌, ◌≢◌, List, ◌++◌, ℕ, ◌<◌, take}
use Rattle.std.proofs.Common.{sym, ◌∙◌, arith, length-append, length-drop, take_at}
use Rattle.std.proofs.Math.Path.{ap}
use Rattle.std.proofs.Math.Logic.{⊎_elim}
use Rattle.std.proofs.Math.ListN.{length, drop}
use Rattle.graph.specs.Peeling.{number_left}
use Rattle.directory.specs.Kind.{HD}
use Rattle.directory.proofs.RefusalLaws.{given_or_none}
use Rattle.directory.specs.Building.{Lent, Succeeds, header, code_of, graph, line_of, file_of, length_needed, build_refusals}
use Rattle.directory.specs.Lending.{WithinLimits}
use Rattle.directory.proofs.WholeLaws.{true_sized}
use Rattle.directory.proofs.BuildingLaws.{build_done, build_refused, after_done, after_refused}
use Rattle.directory.proofs.DoneLaws.{done_limits, done_nothing}
use Rattle.directory.proofs.FileWholeLaws.{file-length, file_opens, code-found, line_shows, stranger, lines-below, lines_own, lines_onto}
use Rattle.directory.specs.Calls.{length_of, build_of, buffer_after_of, open_of, lookup_of, show_of}
use Rattle.directory.specs.declared.Reason.TheVariants.{WrongCode}
use Rattle.directory.specs.Refusals.{refused}
use Rattle.directory.specs.Sizes.{headed}

module _ (I : Lent) where
  open I use {ends, r, v, buffer}

  abbrev n : ℕ
  n = length ends

  abbrev size : ℕ
  size = length_of n r v

  abbrev written : List ℕ
  written = take size (buffer_after_of I)

  module _ (d : Succeeds (build_of I)) where
    within : WithinLimits HD I
    unfolding build_of
    within = done_limits HD I d

    nothing : number_left (graph HD I) ≡ 0
    unfolding build_of
    nothing = done_nothing HD I d

    -- ---- the buffer

    size_needed : size ≡ length_needed HD I
    unfolding length_of
    size_needed = rw (true_sized (header HD I) within.sizes)

    after : buffer_after_of I ≡ file_of HD I ++ drop (length_needed HD I) buffer
    unfolding build_of buffer_after_of
    after = after_done HD I d

    pub written-file : written ≡ file_of HD I
    written-file = rw (size_needed, after) (take_at (file_of HD I) _ (length_needed HD I) (file-length HD I within nothing))

    pub written-length : length written ≡ size
    written-length = ap length written-file ∙ file-length HD I within nothing ∙ sym size_needed

    pub written_then_rest : buffer_after_of I ≡ written ++ drop size buffer
    written_then_rest = rw (written-file, size_needed) after

    -- ---- the calls

    pub written_opens : open_of written ≡ Ok (headed n r v)
    unfolding open_of
    written_opens = rw written-file (file_opens HD I within nothing)

    pub written-found : (k : ℕ) → k < n → lookup_of written (code_of HD I k) ≡ Ok (Some (line_of HD I k))
    unfolding lookup_of
    written-found = rw written-file (code-found HD I within nothing)

    pub written_shows : (k : ℕ) → k < n → show_of written (line_of HD I k) ≡ code_of HD I k
    unfolding show_of
    written_shows = rw written-file (line_shows HD I within nothing)

    pub written_stranger : (t : List ℕ) → ((k : ℕ) → k < n → code_of HD I k ≢ t) → (lookup_of written t ≡ Ok None) ⊎ (lookup_of written t ≡ refused WrongCode 0)
    unfolding lookup_of
    written_stranger = rw written-file (stranger HD I within nothing)

    -- ---- the lines

    pub written_below : (k : ℕ) → k < n → line_of HD I k < n
    written_below = lines-below HD I within nothing

    pub written_own : (i k : ℕ) → i < n → k < n → line_of HD I i ≡ line_of HD I k → i ≡ k
    written_own = lines_own HD I within nothing

    -- every line is given to some code of the list
    pub written_onto : (l : ℕ) → l < n → (k : ℕ) × (k < n) × (line_of HD I k ≡ l) × (lookup_of written (code_of HD I k) ≡ Ok (Some l))
    written_onto l m = let w = lines_onto HD I within nothing l m in (w.0, w.1, w.2, written-found w.0 w.1 ∙ ap (λ k. Ok (Some k)) w.2)

  -- a build leaves the buffer as long as it was
  pub after-length : length (buffer_after_of I) ≡ length buffer
  unfolding build_of buffer_after_of
  after-length =
      ⊎_elim
      (λ w. ap length (after_refused HD I ((build_refused HD I w.0 w.1).1 w.2)))
      (λ c. let d = (build_done HD I).1 c in ap length (after_done HD I d) ∙ long d)
      (given_or_none (build_refusals HD I))
    where
      long : Succeeds (build_of I) → length (file_of HD I ++ drop (length_needed HD I) buffer) ≡ length buffer
      long d = rw (length-append, length-drop) (omega (arith, file-length HD I (within d) (nothing d), (within d).room))
