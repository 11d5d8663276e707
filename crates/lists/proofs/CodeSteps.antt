-- What the start and the end of a code tell of it. Assumes nothing.
use Rattle.std.specs.Prelude.{◌≡◌, ◌≢◌, Bool, ◌||◌, List, ℕ, ◌+◌, ◌-◌, ◌≤◌, ◌<◌, length, take, drop}
use Rattle.std.proofs.Math.Path.{refl, sym}
use Rattle.std.proofs.Common.{ap, ◌∙◌, inl, inr, ⊎_elim, add-one, arith, length-drop, length-take-le}
use Rattle.std.proofs.Math.Bool.{true, false}
use Rattle.std.proofs.Math.Dec.{ltb}
use borrow.Author.Tests.{lt-ltb, le-ltb, ltb-true, ltb-false}
use Rattle.counting.specs.Lists.{same}
use Rattle.counting.proofs.ListsLaws.{same_equal}
use Rattle.counting.proofs.TestLaws.{eq?, never_true, or_second}
use Rattle.directory.specs.Codes.{start, end, code, wrong_length, wrong_code}
use Rattle.directory.proofs.CodesLaws.{length_wrong, length-right}
use Rattle.records.specs.Standing.{most_bytes}

-- ---- where a code starts

pub start_first : (ends : List ℕ) (k : ℕ) → k ≡ 0 → 0 ≡ start ends k
unfolding start
start_first ends k e = rw e

pub start-after : (ends : List ℕ) (k : ℕ) → end ends k ≡ start ends (k + 1)
unfolding start
start-after ends k = rw (add-one k)

-- ---- code k of a list runs from `from` up to `to`

module _ (run ends : List ℕ) (k from to : ℕ) (starts : from ≡ start ends k) (stops : to ≡ end ends k) where
  pub part_is_code : take (to - from) (drop from run) ≡ code run ends k
  unfolding code
  part_is_code = rw (starts, stops)

  -- the end falls, or the code is empty
  pub end-not_past : to ≤ from → true ≡ wrong_code most_bytes run ends k
  unfolding wrong_code
  end-not_past l =
      rw (← starts, ← stops)
      (⊎_elim
      (λ (e : to ≡ from). sym (or_second (ltb to from || ltb (length run) to) _ ((length_wrong most_bytes (to - from)).1 (inl (omega arith)))))
      (λ (d : to ≢ from). rw (lt-ltb to from (omega arith)))
      (eq? to from))

  -- it passes the run
  pub end_outside : length run < to → true ≡ wrong_code most_bytes run ends k
  unfolding wrong_code
  end_outside l = rw (← starts, ← stops, lt-ltb (length run) to l) (go (ltb to from))
    where
      go : (b : Bool) → true ≡ b || true || wrong_length most_bytes (to - from)
      go true = refl
      go false = refl

  -- otherwise the number of bytes decides
  pub bytes_decide : from < to → to ≤ length run → ltb (from + most_bytes) to ≡ wrong_code most_bytes run ends k
  unfolding wrong_code
  bytes_decide some inside = rw (← starts, ← stops, le-ltb to from (omega arith), le-ltb (length run) to inside) (go (ltb (from + most_bytes) to) refl)
    where
      go : (b : Bool) → ltb (from + most_bytes) to ≡ b → b ≡ wrong_length most_bytes (to - from)
      go true t = sym ((length_wrong most_bytes (to - from)).1 (inr (omega (arith, ltb-true (from + most_bytes) to t))))
      go false t = sym ((length-right most_bytes (to - from)).1 (omega (arith, ltb-false (from + most_bytes) to t), omega (arith, ltb-false (from + most_bytes) to t)))

-- ---- a part of the run beside a code

pub other_length : (run : List ℕ) (from to : ℕ) (t : List ℕ) → from ≤ to → to ≤ length run → to - from ≢ length t → false ≡ same (take (to - from) (drop from run)) t
other_length run from to t some inside d =
    let s = take (to - from) (drop from run) in
    let e : length s ≡ to - from = length-take-le (to - from) (drop from run) (rw (length-drop from run) (omega arith)) in
    sym (never_true (same s t) (λ i. d (sym e ∙ ap length (same_equal s t i))))
