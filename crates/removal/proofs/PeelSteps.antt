-- One step of the peeling, over the arrays: the front edge is removed, and what follows it joins. Assumes nothing.
-- D, C, M and O stand for the arrays of degrees, index sums, marks and order; a prime marks what has become of one.
use Rattle.std.specs.Prelude.{◌≡◌, ◌≢◌, List, [], ◌∷◌, ◌++◌, ℕ, ◌+◌, ◌-◌, ◌≤◌, ◌<◌, length, get_or, set, take, drop}
use Rattle.std.proofs.Common.{sym, ◌∙◌, add-one, arith, length-append, length-set, take-suc, length-take-le, take-take, get_or-take, get_or-set_same, drop-cons, take_at, drop_at}
use Rattle.std.proofs.Math.Path.{ap}
use Rattle.counting.specs.Lists.{occurrences}
use Rattle.counting.proofs.OccurrenceLaws.{occurrences_back}
use Rattle.graph.specs.Graph.{Graph}
use Rattle.graph.specs.Peeling.{unremoved, follow_all}
use Rattle.graph.specs.Run.{Reached, step}
use Rattle.graph.proofs.DegreeLaws.{OneMore, removed_one_more}
use Rattle.graph.specs.Moment.{Sound}
use Rattle.graph.proofs.PeelingLaws.{front_edge, front_absent, step_sound, reached_peeled}
use Rattle.removal.specs.Arrays.{graph_in, vertex_at, Wide}
use Rattle.removal.specs.Linking.{Added}
use Rattle.removal.proofs.LinkingSteps.{added_none, UnlinkTurn, unlink_turn}
use Rattle.removal.proofs.TallyLaws.{tallied_less, tallied_enough, left-degree, left-sum}
use Rattle.removal.specs.Queue.{removed_of, waiting_of, Queued, Ready, Going, Stepped, Joinable, Joined}
use Rattle.removal.proofs.QueueSteps.{removed_waiting, Turn, c-below, joins_none, can_join, joins_one}

-- its first j vertices are looked at: it is off them, and what is left alone on them has joined
pub record Removing (n r m : ℕ) (edges D C O : List ℕ) (head tail : ℕ) (D' C' M' O' : List ℕ) (t j : ℕ) : Type 0 where
  pub low : j ≤ r
  pub wide : Wide m D' C'
  pub for_marks : length M' ≡ n
  pub for_order : length O' ≡ n
  pub taken : Added r (get_or O head 0) edges j D' C' D C
  pub queued : Queued n (removed_of O (head + 1)) (follow_all (graph_in n r m edges) (removed_of O (head + 1)) (get_or O head 0) j (waiting_of O (head + 1) tail)) M' O' t

module _ {n r m : ℕ} {edges D C M O : List ℕ} {head tail : ℕ} (g : Going n r m edges D C M O head tail) (more-wait : head < tail) where
  abbrev R : Ready n r m edges D C M O (removed_of O head) (waiting_of O head tail)
  R = g.ready

  abbrev G : Graph
  G = graph_in n r m edges

  abbrev e : ℕ
  e = get_or O head 0

  pub front : waiting_of O head tail ≡ e ∷ waiting_of O (head + 1) tail
  front =
      let l : head < length (take tail O) = omega (arith, R.for_order, g.high, length-take-le tail O (omega (arith, R.for_order, g.high))) in
      rw (add-one head, ← get_or-take tail O head 0 more-wait) (drop-cons (take tail O) head 0 l)

  pub removed_more : removed_of O (head + 1) ≡ removed_of O head ++ e ∷ []
  removed_more = rw (add-one head) (take-suc O head 0 (omega (arith, R.for_order, g.high)))

  reached_front : Reached G (removed_of O head) (e ∷ waiting_of O (head + 1) tail)
  reached_front = rw front at R.reached

  sound_front : Sound G (removed_of O head) (e ∷ waiting_of O (head + 1) tail)
  sound_front = (reached_peeled G reached_front).sound

  sound_removed : Sound G (removed_of O (head + 1)) (waiting_of O (head + 1) tail)
  sound_removed = rw removed_more (step_sound G sound_front)

  pub front_below : e < n
  front_below = front_edge G sound_front

  more : OneMore (unremoved (removed_of O (head + 1))) (unremoved (removed_of O head)) e
  more = rw removed_more (removed_one_more (removed_of O head) e (front_absent G sound_front))

  pub removing_none : Removing n r m edges D C O head tail D C M O tail 0
  unfolding follow_all occurrences
  removing_none =
      record {
        low = omega arith;
        wide = R.wide;
        for_marks = R.for_marks;
        for_order = R.for_order;
        taken = added_none r e edges D C;
        queued =
            record {
              high = g.high;
              list = removed_waiting O (head + 1) tail (omega arith);
              marks = λ f l. rw removed_more (omega (arith, R.marks f l, ap (occurrences f) front, occurrences_back f e (removed_of O head)));
            };
      }

  module _ {D' C' M' O' : List ℕ} {t j : ℕ} (s : Removing n r m edges D C O head tail D' C' M' O' t j) where
    -- ---- one vertex more: x, which has degree d without the edge, and the sum c

    module _ (l : j < r) {x : ℕ} (i : x ≡ vertex_at r edges e j) where
      abbrev d : ℕ
      d = get_or D' x 0 - 1

      abbrev c : ℕ
      c = get_or C' x 0 - e

      pub off : UnlinkTurn r e edges j x D C D' C'
      off = unlink_turn (tallied_enough R.held more front_below R.wide R.tallied) s.taken l (s.wide.for_degrees ∙ sym R.wide.for_degrees) (s.wide.for_sums ∙ sym R.wide.for_sums) i

      turn : Turn n r m edges (removed_of O (head + 1)) (waiting_of O (head + 1) tail) e j x d c
      turn =
          record {
            held = R.held;
            sound = sound_removed;
            is_vertex = i;
            of_degree = sym (get_or-set_same D' x d 0 off.in_degrees) ∙ (rw (← i) at (left-degree R.held more front_below j l off.taken R.tallied));
            of_sum = sym (get_or-set_same C' x c 0 off.in_sums) ∙ (rw (← i) at (left-sum R.held more front_below j l off.taken R.tallied));
          }

      pub one_below : d ≡ 1 → c < n
      one_below one = c-below turn one

      pub one_joins : d ≡ 1 → Joinable c t M' O'
      one_joins one = can_join turn s.queued s.for_marks s.for_order one

      next : {M'' O'' : List ℕ} {t'' : ℕ} → length M'' ≡ n → length O'' ≡ n → Queued n (removed_of O (head + 1)) (follow_all G (removed_of O (head + 1)) e (j + 1) (waiting_of O (head + 1) tail)) M'' O'' t'' → Removing n r m edges D C O head tail (set D' x d) (set C' x c) M'' O'' t'' (j + 1)
      next p q Q =
          record {
            low = omega arith;
            wide = record { for_degrees = length-set D' x d ∙ s.wide.for_degrees; for_sums = length-set C' x c ∙ s.wide.for_sums };
            for_marks = p;
            for_order = q;
            taken = off.taken;
            queued = Q;
          }

      pub removing_more : d ≢ 1 → Removing n r m edges D C O head tail (set D' x d) (set C' x c) M' O' t (j + 1)
      removing_more none = next s.for_marks s.for_order (joins_none turn s.queued none)

      pub removing_joined : d ≡ 1 → {M'' O'' : List ℕ} {t'' : ℕ} → Joined c t M' O' M'' O'' t'' → length M'' ≡ n → length O'' ≡ n → Removing n r m edges D C O head tail (set D' x d) (set C' x c) M'' O'' t'' (j + 1)
      removing_joined one J p q = next p q (joins_one turn s.queued s.for_marks s.for_order one J)

    -- ---- all its vertices are looked at

    module _ (all : j ≡ r) where
      abbrev joined : List ℕ
      joined = follow_all G (removed_of O (head + 1)) e r (waiting_of O (head + 1) tail)

      Q : Queued n (removed_of O (head + 1)) joined M' O' t
      Q = rw all at s.queued

      len : length (take (head + 1) O) ≡ head + 1
      len = length-take-le (head + 1) O (omega (arith, R.for_order, g.high))

      within : head + 1 ≤ t
      within = omega (arith, len, ap length Q.list, length-append (take (head + 1) O) joined, length-take-le t O' (omega (arith, Q.high, s.for_order)))

      same_removed : removed_of O' (head + 1) ≡ removed_of O (head + 1)
      same_removed = sym (take-take (head + 1) t O' within) ∙ ap (take (head + 1)) Q.list ∙ take_at (take (head + 1) O) _ (head + 1) len

      now_waiting : waiting_of O' (head + 1) t ≡ joined
      now_waiting = ap (drop (head + 1)) Q.list ∙ drop_at (take (head + 1) O) _ (head + 1) len

      reached_next : Reached G (removed_of O (head + 1)) joined
      reached_next = rw removed_more (step reached_front)

      pub removing_all : Going n r m edges D' C' M' O' (head + 1) t
      removing_all =
          record {
            low = within;
            high = Q.high;
            ready =
                rw (same_removed, now_waiting)
                (record {
                  held = R.held;
                  wide = s.wide;
                  for_marks = s.for_marks;
                  for_order = s.for_order;
                  reached = reached_next;
                  tallied = tallied_less R.held more front_below (rw all at s.taken) R.tallied;
                  marks = Q.marks;
                });
          }

      pub removing_stepped : Stepped G O head tail O' t
      removing_stepped = record { removed = same_removed; waiting = now_waiting }
