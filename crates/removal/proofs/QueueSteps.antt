-- One turn of the loop that lets edges join the queue, over the arrays. Assumes nothing.
-- M and O stand for the arrays of marks and order; a prime marks what has become of one.
use Rattle.std.specs.Prelude.{◌≡◌, ◌≢◌, List, [], ◌∷◌, ◌++◌, ℕ, ◌+◌, ◌≤◌, ◌<◌, length, get_or, set, take, drop}
use Rattle.std.proofs.Common.{sym, ap, ◌∙◌, ⊎_elim, append_assoc, add-one, arith, length-append, take-append-drop, get_or-set_same, get_or-set_other, take-suc-set, length-take-le, take-take}
use Rattle.std.proofs.Math.Bool.{true, false}
use Rattle.std.proofs.Math.Dec.{eqb}
use borrow.Author.Tests.{eq-eqb, ne_eqb}
use Rattle.counting.proofs.TestLaws.{eq?}
use Rattle.counting.proofs.CountLaws.{bit_self, bit-other}
use Rattle.counting.specs.Lists.{occurrences}
use Rattle.counting.proofs.OccurrenceLaws.{occurrences_back}
use Rattle.graph.specs.Graph.{Graph}
use Rattle.graph.specs.Peeling.{unremoved, join_back, degree, one_left, follow, follow_all}
use Rattle.graph.specs.Moment.{Sound}
use Rattle.graph.proofs.QueueLaws.{one_left_lem, sound_room, follow_all_sound}
use Rattle.removal.specs.Arrays.{vertex_at, graph_in, Held, index_sum}
use Rattle.removal.proofs.TallyLaws.{index_one-left}
use Rattle.removal.specs.Queue.{removed_of, waiting_of, Queued, Joinable, Joined}

-- ---- following a vertex, by its degree and the mark of the edge left on it

module _ (G : Graph) (removed : List ℕ) (x : ℕ) (waiting : List ℕ) where
  follow_none : degree G removed x ≢ 1 → follow G removed x waiting ≡ waiting
  unfolding follow
  follow_none d = rw (ne_eqb _ _ d)

  module _ (d : degree G removed x ≡ 1) where
    abbrev f : ℕ
    f = one_left G removed x

    follow-marked : occurrences f removed + occurrences f waiting ≢ 0 → follow G removed x waiting ≡ waiting
    unfolding follow join_back
    follow-marked m =
        let z : eqb (occurrences f waiting) 0 ≡ false = ne_eqb (occurrences f waiting) 0 (λ k. m (omega (arith, k, (one_left_lem G removed x d).absent))) in
        rw (eq-eqb _ _ d, z)

    follow_unmarked : occurrences f removed + occurrences f waiting ≡ 0 → follow G removed x waiting ≡ waiting ++ f ∷ []
    unfolding follow join_back
    follow_unmarked m =
        let z : eqb (occurrences f waiting) 0 ≡ true = eq-eqb (occurrences f waiting) 0 (omega arith) in
        rw (eq-eqb _ _ d, z)

-- ---- the two lists in one array

pub removed_waiting : (order : List ℕ) (head tail : ℕ) → head ≤ tail → take tail order ≡ removed_of order head ++ waiting_of order head tail
removed_waiting order head tail h = sym (ap (λ l. l ++ drop head (take tail order)) (sym (take-take head tail order h)) ∙ take-append-drop head (take tail order))

-- ---- a turn: vertex x of edge e has degree d now, and c is the sum of the indices on it

pub record Turn (n r m : ℕ) (edges removed waiting : List ℕ) (e j x d c : ℕ) : Type 0 where
  pub held : Held n r m edges
  pub sound : Sound (graph_in n r m edges) removed waiting
  pub is_vertex : x ≡ vertex_at r edges e j
  pub of_degree : d ≡ degree (graph_in n r m edges) removed x
  pub of_sum : c ≡ index_sum (graph_in n r m edges) (unremoved removed) x

module _ {n r m : ℕ} {edges removed waiting : List ℕ} {e j x d c : ℕ} (T : Turn n r m edges removed waiting e j x d c) where
  abbrev G : Graph
  G = graph_in n r m edges

  abbrev now : List ℕ
  now = follow_all G removed e j waiting

  abbrev next : List ℕ
  next = follow_all G removed e (j + 1) waiting

  next_is : next ≡ follow G removed x now
  unfolding follow_all
  next_is = rw (add-one j, T.is_vertex)

  -- at degree 1 the index sum is the one edge left
  module _ (one : d ≡ 1) where
    single : degree G removed x ≡ 1
    single = sym T.of_degree ∙ one

    pub c_is : c ≡ one_left G removed x
    c_is = T.of_sum ∙ index_one-left G removed x single

    pub c-below : c < n
    c-below = rw c_is (one_left_lem G removed x single).is_edge

  module _ {M O : List ℕ} {t : ℕ} (Q : Queued n removed now M O t) where
    pub joins_none : d ≢ 1 → Queued n removed next M O t
    joins_none more = rw (next_is, follow_none G removed x now (λ s. more (T.of_degree ∙ s))) Q

    module _ (for_marks : length M ≡ n) (for_order : length O ≡ n) (one : d ≡ 1) where
      absent : get_or M c 0 ≡ 0 → occurrences c removed + occurrences c now ≡ 0
      absent z = sym (Q.marks c (c-below one)) ∙ z

      joined : get_or M c 0 ≡ 0 → next ≡ now ++ c ∷ []
      joined z = next_is ∙ follow_unmarked G removed x now (single one) (rw (← c_is one) (absent z)) ∙ ap (λ a. now ++ a ∷ []) (sym (c_is one))

      pub can_join : Joinable c t M O
      can_join =
          record {
            marked = omega (arith, c-below one);
            fits = omega (arith, c-below one, T.held.few_edges);
            room =
                λ z.
                let a : length (take t O) ≡ length (removed ++ now) = ap length Q.list in
                let b : length removed + length (now ++ c ∷ []) ≤ n = rw (joined z) at (sound_room G removed next (follow_all_sound G removed e (j + 1) waiting T.sound)) in
                omega (arith, length-take-le t O (omega (arith, Q.high)), length-append removed now, length-append now (c ∷ []));
          }

      added : (z : get_or M c 0 ≡ 0) → Queued n removed (now ++ c ∷ []) (set M c 1) (set O t c) (t + 1)
      added z =
          record {
            high = omega (arith, can_join.room z);
            list = rw (add-one t) (take-suc-set O t _ (can_join.room z) ∙ ap (λ l. l ++ c ∷ []) Q.list ∙ append_assoc removed now _);
            marks =
                λ h b.
                ⊎_elim
                (λ (s : h ≡ c). rw s (omega (arith, get_or-set_same M c 1 0 can_join.marked, occurrences_back c c now, bit_self c, absent z)))
                (λ (s : h ≢ c). omega (arith, get_or-set_other M c h 1 0 s, Q.marks h b, occurrences_back h c now, bit-other h c s))
                (eq? h c);
          }

      pub joins_one : {M' O' : List ℕ} {t' : ℕ} → Joined c t M O M' O' t' → Queued n removed next M' O' t'
      joins_one J =
          ⊎_elim
          (λ (z : get_or M c 0 ≡ 0). let w = J.joins z in rw (joined z, w.0, w.1, w.2) (added z))
          (λ (z : get_or M c 0 ≢ 0). let w = J.stays z in rw (next_is, follow-marked G removed x now (single one) (λ s. z (Q.marks c (c-below one) ∙ rw (c_is one) s)), w.0, w.1, w.2) Q)
          (eq? (get_or M c 0) 0)
