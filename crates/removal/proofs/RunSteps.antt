-- The whole run of the peeling, over the arrays: its start, the count from step to step, and its end. Assumes nothing.
-- D, C, M and O stand for the arrays of degrees, index sums, marks and order; a prime marks what has become of one.
use Rattle.std.specs.Prelude.{◌≡◌, List, [], ℕ, suc, ◌+◌, ◌-◌, ◌≤◌, ◌<◌, max, length, take}
use Rattle.std.proofs.Common.{sym, ap, ◌∙◌, ⊎_elim, arith, length-take, length-drop, drop_of_length-le, length-take-le}
use Rattle.counting.specs.Larger.{larger}
use Rattle.counting.proofs.LargerLaws.{larger-first, larger_second}
use Rattle.counting.proofs.TestLaws.{lt?}
use Rattle.graph.specs.Graph.{Graph}
use Rattle.graph.specs.Peeling.{unremoved, first_waiting, removal_list}
use Rattle.graph.specs.Run.{start}
use Rattle.graph.proofs.PeelingLaws.{peel_none, reached_removal, left-and_removed}
use Rattle.graph.specs.Waiting.{Counted}
use Rattle.graph.proofs.WaitingLaws.{counted_start, counted_step, counted-end}
use Rattle.removal.specs.Arrays.{graph_in, Held, Wide, Tallied}
use Rattle.removal.specs.Queue.{removed_of, waiting_of, Queued, Going, Starts, Stepped, Removed}
use Rattle.removal.proofs.PeelSteps.{front, removed_more}

-- the first queue stands in the array: the peeling can start
pub starts_ready : {n r m : ℕ} {edges D C M O : List ℕ} {tail : ℕ} → Held n r m edges → Wide m D C → length M ≡ n → length O ≡ n → Tallied (graph_in n r m edges) (unremoved []) D C → Queued n [] (first_waiting (graph_in n r m edges)) M O tail → Starts n r m edges D C M O tail
starts_ready {n} {r} {m} {edges} held wide for_marks for_order tallied q =
    record {
      high = q.high;
      ready = rw q.list (record { held = held; wide = wide; for_marks = for_marks; for_order = for_order; reached = start; tallied = tallied; marks = q.marks });
      is_first = q.list;
    }

-- between two steps, so many waiting at once at the most so far
pub record Running (n r m : ℕ) (edges D C M O : List ℕ) (head tail most : ℕ) : Type 0 where
  pub going : Going n r m edges D C M O head tail
  pub counted : Counted (graph_in n r m edges) (n - head) (removed_of O head) (waiting_of O head tail) most

-- as many wait as there are places from `head` up to `tail`
many_wait : {n r m : ℕ} {edges D C M O : List ℕ} {head tail : ℕ} → Going n r m edges D C M O head tail → length (waiting_of O head tail) ≡ tail - head
many_wait {O = O} {head} {tail} g = length-drop head (take tail O) ∙ ap (λ k. k - head) (length-take-le tail O (omega (arith, g.high, g.ready.for_order)))

pub running_start : {n r m : ℕ} {edges D C M O : List ℕ} {tail : ℕ} → Starts n r m edges D C M O tail → Running n r m edges D C M O 0 tail tail
running_start {n} {r} {m} {edges} {O = O} {tail} s =
    let all : n - 0 ≡ n = omega arith in
    let many : length (first_waiting (graph_in n r m edges)) ≡ tail = rw (← s.is_first) (length-take-le tail O (omega (arith, s.high, s.ready.for_order))) in
    record {
      going = record { low = omega arith; high = s.high; ready = s.ready };
      counted = rw (all, s.is_first) (rw many at (counted_start (graph_in n r m edges)));
    }

-- the larger of two is the library's maximum
pub larger-max : (a b : ℕ) → larger a b ≡ max a b
larger-max a b =
    ⊎_elim
    (λ (l : a < b). omega (arith, larger_second a b (omega arith)))
    (λ (l : b ≤ a). omega (arith, larger-first a b l))
    (lt? a b)

pub running_step : {n r m : ℕ} {edges D C M O : List ℕ} {head tail most : ℕ} → Running n r m edges D C M O head tail most → head < tail → {D' C' M' O' : List ℕ} {t : ℕ} → Going n r m edges D' C' M' O' (head + 1) t → Stepped (graph_in n r m edges) O head tail O' t → {most' : ℕ} → most' ≡ larger most (t - (head + 1)) → Running n r m edges D' C' M' O' (head + 1) t most'
running_step {n} {O = O} {head} {tail} s l {O' = O'} {t} g p e =
    let k : n - head ≡ suc (n - (head + 1)) = omega (arith, s.going.high) in
    let more = removed_more s.going l in
    record {
      going = g;
      counted = rw (e, ← many_wait g, p.waiting, p.removed, more) (counted_step _ (rw (k, front s.going l) at s.counted));
    }

-- at the end none waits
pub running_end : {n r m : ℕ} {edges D C M O : List ℕ} {head tail most : ℕ} → Running n r m edges D C M O head tail most → tail ≤ head → Removed (graph_in n r m edges) D C O (n - head) most
running_end {n} {r} {m} {edges} {D} {C} {O = O} {head} {tail} {most} s h =
    record {
      is_left = omega (arith, left-and_removed G, ap length list, length-take-le head O (omega (arith, high, s.going.ready.for_order)));
      is_most = counted-end G (rw none at s.counted);
      list = rw back list;
      tallied = rw list at s.going.ready.tallied;
    }
  where
    G : Graph
    G = graph_in n r m edges

    high : head ≤ n
    high = omega (arith, s.going.low, s.going.high)

    none : waiting_of O head tail ≡ []
    none = drop_of_length-le (take tail O) {i = head} (omega (arith, length-take tail O))

    back : n - (n - head) ≡ head
    back = omega (arith, high)

    list : removed_of O head ≡ removal_list G
    list = sym (peel_none G n (removed_of O head)) ∙ reached_removal G (rw none at s.going.ready.reached) n (omega arith)
