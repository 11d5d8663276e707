-- The run of the peeling: what holds at its start, at each moment and at its end; more steps change nothing. Assumes nothing.
use Rattle.std.specs.Prelude.{◌≡◌, ◌≢◌}
use Rattle.std.proofs.Math.Path.{refl, sym, ap}
use Rattle.std.proofs.Common.{◌∙◌, arith}
use Rattle.std.proofs.Math.Logic.{⊎_elim}
use Rattle.std.proofs.Math.Bool.{Bool, true, false}
use mathlib.Core.List.{List, [], ◌∷◌, ◌++◌, append_assoc, append-nil}
use Prim.Native.Nat.{ℕ, zero, suc, ◌+◌, ◌≤◌, ◌<◌}
use Rattle.std.proofs.Math.Dec.{eqb}
use Rattle.std.proofs.Math.ListN.{length, drop, length-append}
use Rattle.std.proofs.Math.Seq.{drop-append_seam}
use borrow.Author.Tests.{eqb-true, eq-eqb}
use Rattle.counting.proofs.TestLaws.{eq?, lt?}
use Rattle.counting.specs.Below.{sum, bit, any}
use Rattle.counting.proofs.BelowLaws.{sum_equal, sum-add, sum_constant}
use Rattle.counting.proofs.CountLaws.{bit_true, bit_most, bit_self, count_has}
use Rattle.counting.proofs.SearchLaws.{any_has, any_some}
use Rattle.counting.specs.Lists.{occurrences}
use Rattle.counting.proofs.OccurrenceLaws.{occurrences_back, occurrences-length, those_past, those_once}
use Rattle.graph.specs.Graph.{Graph, names}
use Rattle.graph.specs.Peeling.{unremoved, degree, first_waiting, follow_all, peel, removal_list, left_over, number_left}
use Rattle.graph.specs.Run.{Reached, start, step, joining, ever_waiting}
use Rattle.graph.specs.Moment.{Sound, Complete, Peeled}
use Rattle.graph.proofs.DegreeLaws.{absent_unremoved, unremoved-before, names_at, names_some, degree_mono, degree-size, removed_one_more, degree_more}
use Rattle.graph.proofs.QueueLaws.{sound_room, follow_all_sound, follow_all_grows, follow_all_in, follow_all_back}

module _ (G : Graph) where
  open G use {edges, arity, vertex_of}

  -- ---- the start

  pub start_peeled : Peeled G [] (first_waiting G)
  unfolding first_waiting occurrences
  start_peeled =
      record {
        sound =
            record {
              once = λ e. ⊎_elim (λ (l : e < edges). omega (arith, those_once edges has_one e l, bit_most (has_one e))) (λ (l : edges ≤ e). omega (arith, those_past edges has_one e l)) (lt? e edges);
              is_edge = below;
              alone =
                  λ e m.
                  let w = any_some arity _ (bit_true (has_one e) (omega (arith, those_once edges has_one e (below e (omega arith))))) in
                  let d : degree G [] (vertex_of e w.0) ≡ 1 = eqb-true _ _ w.2 in
                  (w.0, w.1, omega arith);
            };
        complete = λ e j l m o d. omega (arith, those_once edges has_one e l, ap bit (any_has arity (λ i. eqb (degree G [] (vertex_of e i)) 1) j m (eq-eqb _ _ d)));
      }
    where
      has_one : ℕ → Bool
      has_one e = any arity (λ j. eqb (degree G [] (vertex_of e j)) 1)

      below : (e : ℕ) → 1 ≤ occurrences e [] + occurrences e (first_waiting G) → e < edges
      below e m = ⊎_elim (λ (l : e < edges). l) (λ (l : edges ≤ e). absurd (omega (arith, those_past edges has_one e l))) (lt? e edges)

  -- ---- a step

  module _ {removed : List ℕ} {front : ℕ} {waiting : List ℕ} where
    pub front_edge : Sound G removed (front ∷ waiting) → front < edges
    unfolding occurrences
    front_edge s = s.is_edge front (omega (arith, bit_self front))

    pub front_absent : Sound G removed (front ∷ waiting) → occurrences front removed ≡ 0
    unfolding occurrences
    front_absent s = omega (arith, s.once front, bit_self front)

    pub step_sound : Sound G removed (front ∷ waiting) → Sound G (removed ++ front ∷ []) waiting
    unfolding occurrences
    step_sound s =
        record {
          once = λ e. omega (arith, s.once e, occurrences_back e front removed);
          is_edge = λ e m. s.is_edge e (omega (arith, occurrences_back e front removed));
          alone = λ e m. let w = s.alone e (omega arith) in (w.0, w.1, omega (arith, w.2, degree_mono G (unremoved (removed ++ front ∷ [])) (unremoved removed) (vertex_of e w.0) (λ i l t. unremoved-before removed front i t)));
        }

    step_complete : Peeled G removed (front ∷ waiting) → Complete G (removed ++ front ∷ []) (follow_all G (removed ++ front ∷ []) front arity waiting)
    unfolding occurrences
    step_complete p e j l m o d = go (names G front (vertex_of e j)) refl
      where
        go : (b : Bool) → names G front (vertex_of e j) ≡ b → 1 ≤ occurrences e (follow_all G (removed ++ front ∷ []) front arity waiting)
        go true t =
            let w = names_some G front (vertex_of e j) t in
            follow_all_in G (removed ++ front ∷ []) front arity waiting w.0 e w.1 (rw w.2 d) (record { is_edge = l; absent = o; named = names_at G e j _ m (sym w.2) })
        go false t =
            let same : degree G removed (vertex_of e j) ≡ 1 = omega (arith, degree_more G (removed_one_more removed front (front_absent p.sound)) (front_edge p.sound) (vertex_of e j), ap bit t, d) in
            omega (arith, p.complete e j l m (omega (arith, o, occurrences_back e front removed)) same, follow_all_grows G (removed ++ front ∷ []) front arity waiting e, o, occurrences_back e front removed)

    pub step_peeled : Peeled G removed (front ∷ waiting) → Peeled G (removed ++ front ∷ []) (follow_all G (removed ++ front ∷ []) front arity waiting)
    step_peeled p = record { sound = follow_all_sound G (removed ++ front ∷ []) front arity waiting (step_sound p.sound); complete = step_complete p }

  fuel_step : (removed : List ℕ) (front k : ℕ) → edges ≤ length removed + suc k → edges ≤ length (removed ++ front ∷ []) + k
  fuel_step removed front k h = omega (arith, length-append removed (front ∷ []))

  pub reached_peeled : {removed waiting : List ℕ} → Reached G removed waiting → Peeled G removed waiting
  reached_peeled start = start_peeled
  reached_peeled (step r) = step_peeled (reached_peeled r)

  -- so at each moment no edge is removed or waits twice, and removed and waiting together are at most as many as there are edges
  pub reached_once : {removed waiting : List ℕ} → Reached G removed waiting → (e : ℕ) → occurrences e removed + occurrences e waiting ≤ 1
  reached_once r = (reached_peeled r).sound.once

  pub reached_room : {removed waiting : List ℕ} → Reached G removed waiting → length removed + length waiting ≤ edges
  reached_room {removed} {waiting} r = sound_room G removed waiting (reached_peeled r).sound

  -- ---- the end

  -- with a step for each edge that is not removed yet, the run comes to a moment at which none waits
  peel_reached : (k : ℕ) {removed waiting : List ℕ} → Reached G removed waiting → edges ≤ length removed + k → Reached G (peel G k removed waiting) []
  unfolding peel
  peel_reached zero {waiting = []} r h = r
  peel_reached zero {waiting = (front ∷ waiting)} r h = absurd (omega (arith, reached_room r))
  peel_reached (suc k) {waiting = []} r h = r
  peel_reached (suc k) {removed} {waiting = (front ∷ waiting)} r h = peel_reached k (step r) (fuel_step removed front k h)

  pub peel_none : (k : ℕ) (removed : List ℕ) → peel G k removed [] ≡ removed
  unfolding peel
  peel_none zero removed = refl
  peel_none (suc k) removed = refl

  -- any two numbers of steps that are enough give the same
  peel_enough : (k m : ℕ) (removed waiting : List ℕ) → edges ≤ length removed + k → edges ≤ length removed + m → Sound G removed waiting → peel G k removed waiting ≡ peel G m removed waiting
  unfolding peel
  peel_enough zero m removed [] h i s = sym (peel_none m removed)
  peel_enough zero m removed (front ∷ waiting) h i s = absurd (omega (arith, sound_room G removed (front ∷ waiting) s))
  peel_enough (suc k) m removed [] h i s = sym (peel_none m removed)
  peel_enough (suc k) zero removed (front ∷ waiting) h i s = absurd (omega (arith, sound_room G removed (front ∷ waiting) s))
  peel_enough (suc k) (suc m) removed (front ∷ waiting) h i s = peel_enough k m _ _ (fuel_step removed front k h) (fuel_step removed front m i) (follow_all_sound G _ front arity waiting (step_sound s))

  -- from each moment the run ends with the removal list
  pub reached_removal : {removed waiting : List ℕ} → Reached G removed waiting → (k : ℕ) → edges ≤ length removed + k → peel G k removed waiting ≡ removal_list G
  unfolding peel removal_list
  reached_removal start k h = peel_enough k edges [] (first_waiting G) h (omega arith) start_peeled.sound
  reached_removal (step {removed} {front} r) k h = reached_removal r (suc k) (omega (arith, length-append removed (front ∷ [])))

  -- the end is a moment of the run: all of the removal list is removed, and none waits
  pub removal_reached : Reached G (removal_list G) []
  unfolding removal_list
  removal_reached = peel_reached edges start (omega arith)

  pub removal_peeled : Peeled G (removal_list G) []
  removal_peeled = reached_peeled removal_reached

  -- no edge is removed twice, and only edges are
  pub removal_once : (e : ℕ) → occurrences e (removal_list G) ≤ 1
  removal_once e = omega (arith, reached_once removal_reached e)

  pub removal_edges : (e : ℕ) → 1 ≤ occurrences e (removal_list G) → e < edges
  removal_edges e m = removal_peeled.sound.is_edge e (omega arith)

  -- ---- the removal list is all that ever waited, in its order

  joining-peel : (k : ℕ) (removed waiting : List ℕ) → edges ≤ length removed + k → Sound G removed waiting → removed ++ waiting ++ joining G k removed waiting ≡ peel G k removed waiting
  unfolding peel joining
  joining-peel zero removed [] h s = simp append-nil
  joining-peel zero removed (front ∷ waiting) h s = absurd (omega (arith, sound_room G removed (front ∷ waiting) s))
  joining-peel (suc k) removed [] h s = simp append-nil
  joining-peel (suc k) removed (front ∷ waiting) h s =
      let back = follow_all_back G (removed ++ front ∷ []) front arity waiting in
      let new : drop (length waiting) (follow_all G (removed ++ front ∷ []) front arity waiting) ≡ back.0 = ap (drop (length waiting)) back.1 ∙ drop-append_seam waiting back.0 in
      let rest = joining G k (removed ++ front ∷ []) (follow_all G (removed ++ front ∷ []) front arity waiting) in
      rw new (regroup back.0 rest ∙ ap (λ l. removed ++ front ∷ [] ++ l ++ rest) (sym back.1) ∙ joining-peel k _ _ (fuel_step removed front k h) (follow_all_sound G _ front arity waiting (step_sound s)))
    where
      regroup : (new rest : List ℕ) → removed ++ front ∷ waiting ++ (new ++ rest) ≡ removed ++ front ∷ [] ++ (waiting ++ new) ++ rest
      regroup new rest = simp append_assoc

  pub ever_waiting_removed : ever_waiting G ≡ removal_list G
  unfolding ever_waiting removal_list
  ever_waiting_removed = joining-peel edges [] (first_waiting G) (omega arith) start_peeled.sound

  -- at each moment it begins with what is removed, and then what waits
  pub ever_waiting_begins : {removed waiting : List ℕ} → Reached G removed waiting → (later : List ℕ) × (ever_waiting G ≡ removed ++ waiting ++ later)
  ever_waiting_begins {removed} {waiting} r =
      let enough : edges ≤ length removed + edges = omega arith in
      (joining G edges removed waiting, ever_waiting_removed ∙ sym (reached_removal r edges enough) ∙ sym (joining-peel edges removed waiting enough (reached_peeled r).sound))

  -- no edge enters the queue twice in the whole run
  pub ever_waiting_once : (e : ℕ) → occurrences e (ever_waiting G) ≤ 1
  ever_waiting_once e = rw ever_waiting_removed (removal_once e)

  pub ever_waiting_edges : (e : ℕ) → 1 ≤ occurrences e (ever_waiting G) → e < edges
  ever_waiting_edges e m = removal_edges e (rw (← ever_waiting_removed) m)

  pub ever_waiting_most : length (ever_waiting G) ≤ edges
  ever_waiting_most = rw ever_waiting_removed (omega (arith, reached_room removal_reached))

  -- the edges left over are those that the removal list lacks
  pub left-and_removed : number_left G + length (removal_list G) ≡ edges
  unfolding number_left left_over unremoved
  left-and_removed =
      let l = removal_list G in
      let o : sum edges (λ e. occurrences e l) ≡ length l = occurrences-length edges l removal_edges in
      let t : sum edges (λ e. bit (eqb (occurrences e l) 0) + occurrences e l) ≡ sum edges (λ e. 1) = sum_equal edges _ _ (λ e m. absent_or_once (occurrences e l) (removal_once e)) in
      omega (arith, sum-add edges (λ e. bit (eqb (occurrences e l) 0)) (λ e. occurrences e l), sum_constant edges 1)
    where
      absent_or_once : (k : ℕ) → k ≤ 1 → bit (eqb k 0) + k ≡ 1
      absent_or_once zero h = refl
      absent_or_once (suc zero) h = refl
      absent_or_once (suc (suc k)) h = absurd (omega arith)

  -- where none is left over, every edge is removed
  module _ (none : number_left G ≡ 0) where
    pub removal_length : length (removal_list G) ≡ edges
    removal_length = omega (arith, left-and_removed)

    pub removed_all : (e : ℕ) → e < edges → 1 ≤ occurrences e (removal_list G)
    unfolding number_left left_over
    removed_all e l =
        ⊎_elim
        (λ (i : occurrences e (removal_list G) ≡ 0). absurd (omega (arith, count_has edges (left_over G) e l (absent_unremoved _ e i))))
        (λ (d : occurrences e (removal_list G) ≢ 0). omega arith)
        (eq? (occurrences e (removal_list G)) 0)

    -- so every degree is 0
    pub removed_degree : (x : ℕ) → degree G (removal_list G) x ≡ 0
    unfolding number_left left_over
    removed_degree x = omega (arith, degree-size G (unremoved (removal_list G)) x)
