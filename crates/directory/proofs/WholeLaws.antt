-- No refusal of opening applies exactly if the file is whole: for each test the fact that it tests, and back. Assumes nothing.
use Rattle.std.specs.Prelude.{◌≡◌, ◌≢◌, true, false, ◌&&◌, List, ℕ, ◌≤◌, ◌<◌, eqb, ltb, leb, length}
use Rattle.std.proofs.Math.Path.{ap}
use Rattle.std.proofs.Common.{◌∙◌, ⊎_elim, arith}
use Rattle.std.proofs.Math.Bool.{not}
use borrow.Author.Tests.{eqb-true, eq-eqb, ltb-true, lt-ltb, le-ltb, leb-true, le-leb, not-false}
use Rattle.counting.proofs.TestLaws.{eq?, and_left, and_right, and_both, or_either, or_second, or_neither, or_neither_second, or_none}
use Rattle.counting.proofs.SearchLaws.{any_none, any_false}
use Rattle.directory.specs.declared.Lead.TheVariants.{ToLine, PastLast}
use Rattle.directory.specs.Sizes.{Header, most_vertices, most_codes, arity_allowed, part_allowed, codes_allowed, header_allowed, vertex_count}
use Rattle.directory.specs.Codes.{wrong_length}
use Rattle.directory.proofs.CodesLaws.{length-right}
use Rattle.directory.specs.Kind.{Kind, vertex}
use Rattle.directory.proofs.KindLaws.{vertex-below}
use Rattle.directory.specs.Refusals.{NoneApplies}
use Rattle.directory.proofs.RefusalLaws.{none_left, none_right, none_both}
use Rattle.directory.specs.Values.{table_refusals}
use Rattle.directory.proofs.TableLaws.{values_most, spare_zero_lem, ranks_right, total_right, table_none}
use Rattle.directory.proofs.LeadLaws.{leads_to_lem, to_leads, lead_line, lead_assigned, lead_never_past}
use Rattle.directory.specs.File.{header_length, weights_at, values_at, keys_at, key_at, file_length, weight_in, table_in, key_length, stored_code, lead_in}
use Rattle.directory.specs.Opening.{header_refusals, wrong_mark, key_unmarked, mark_refusals, filling_set, key_wrong, astray, key_refusals, record_refusals, open_refusals}
use Rattle.directory.specs.Whole.{Sized, Framed, Marks, Table, Key, landing_of, LeadsTo, Whole}

-- ---- sizes

pub arity_true : (r : ℕ) → arity_allowed r ≡ true → (2 ≤ r) × (r ≤ 3)
unfolding arity_allowed
arity_true r t = ⊎_elim (λ a. let e = eqb-true r 2 a in (omega arith, omega arith)) (λ a. let e = eqb-true r 3 a in (omega arith, omega arith)) (or_either (eqb r 2) (eqb r 3) t)

pub true_arity : (r : ℕ) → 2 ≤ r → r ≤ 3 → arity_allowed r ≡ true
unfolding arity_allowed
true_arity r a b = ⊎_elim (λ (e : r ≡ 2). rw (eq-eqb r 2 e)) (λ (d : r ≢ 2). or_second (eqb r 2) (eqb r 3) (eq-eqb r 3 (omega arith))) (eq? r 2)

pub sized_true : (h : Header) → header_allowed h ≡ true → Sized h
unfolding header_allowed codes_allowed part_allowed
sized_true h t =
    let codes_and_arity = and_left (leb h.n most_codes && arity_allowed h.r) _ t in
    let part = and_right (leb h.n most_codes && arity_allowed h.r) _ t in
    let arity = arity_true h.r (and_right (leb h.n most_codes) _ codes_and_arity) in
    record {
      two = arity.0;
      three = arity.1;
      some = ltb-true 0 h.v (and_left (ltb 0 h.v) _ part);
      room = leb-true (vertex_count h) most_vertices (and_right (ltb 0 h.v) _ part);
      few = leb-true h.n most_codes (and_left (leb h.n most_codes) _ codes_and_arity);
    }

pub true_sized : (h : Header) → Sized h → header_allowed h ≡ true
unfolding header_allowed codes_allowed part_allowed
true_sized h s = and_both (and_both (le-leb _ _ s.few) (true_arity h.r s.two s.three)) (and_both (lt-ltb _ _ s.some) (le-leb _ _ s.room))

module _ (K : Kind) (h : Header) (f : List ℕ) where
  open K use {positions}
  open h use {n, r, v}

  -- ---- 9, 10, 11 and 9

  pub framed : NoneApplies (header_refusals K h f) → Framed K h f
  unfolding header_refusals
  framed c = record { first_mark = not-false _ c.1.0; sizes = sized_true h (not-false _ c.1.1.0); size = eqb-true _ _ (not-false _ c.1.1.1.0) }

  pub framed_back : Framed K h f → NoneApplies (header_refusals K h f)
  unfolding header_refusals file_length key_at keys_at values_at weights_at
  framed_back w = (le-ltb (length f) header_length (omega (arith, w.size)), (ap not w.first_mark, (ap not (true_sized h w.sizes), (ap not (eq-eqb _ _ w.size), tt))))

  -- ---- 10

  pub marks : NoneApplies (mark_refusals K h f) → Marks K h f
  unfolding mark_refusals wrong_mark key_unmarked
  marks c =
      record {
        weights = not-false _ c.0;
        values = not-false _ c.1.0;
        ranks = not-false _ c.1.1.0;
        keys = λ l m. not-false _ (any_false n (key_unmarked K h f) c.1.1.1.0 l m);
      }

  pub marks_back : Marks K h f → NoneApplies (mark_refusals K h f)
  unfolding mark_refusals wrong_mark key_unmarked
  marks_back w = (ap not w.weights, (ap not w.values, (ap not w.ranks, (any_none n _ (λ l m. ap not (w.keys l m)), tt))))

  -- ---- 12 and 13

  pub table : NoneApplies (table_refusals h (table_in K h f)) → Table K h f
  table c = let T = table_in K h f in record { values = values_most h T c; spare = spare_zero_lem h T c; ranks = ranks_right h T c; total = total_right h T c }

  pub table_back : Table K h f → NoneApplies (table_refusals h (table_in K h f))
  table_back w = table_none h (table_in K h f) w.values w.spare w.ranks w.total

  -- ---- 14

  pub key : (l : ℕ) → key_wrong K h f l ≡ false → Key K h f l
  unfolding key_wrong filling_set
  key l t =
      let k = (length-right positions (key_length K h f l)).0 (or_neither (wrong_length positions (key_length K h f l)) _ t) in
      record {
        some = k.0;
        most = k.1;
        filling = λ i m. eqb-true _ 0 (not-false _ (any_false _ _ (or_neither_second (wrong_length positions (key_length K h f l)) _ t) i m));
      }

  pub key_back : (l : ℕ) → Key K h f l → key_wrong K h f l ≡ false
  unfolding key_wrong filling_set
  key_back l w = or_none ((length-right positions _).1 (w.some, w.most)) (any_none _ _ (λ i m. ap not (eq-eqb _ _ (w.filling i m))))

  -- ---- 15, in a file whose header, values and rank entries are right

  module _ (sizes : Sized h) (right : Table K h f) where
    inside : (t : List ℕ) (j : ℕ) → j < r → vertex K v (weight_in K h f) t j < vertex_count h
    inside t j = vertex-below K v (weight_in K h f) t sizes.some r j

    some : 1 ≤ r
    some = omega (arith, sizes.two)

    -- looking a code up leads to a line exactly if the code leads to it
    pub leads : (t : List ℕ) (l : ℕ) → lead_in K h f t ≡ ToLine l → LeadsTo K h f t l
    unfolding lead_in landing_of
    leads t l e = let w = lead_assigned h (table_in K h f) (vertex K v (weight_in K h f) t) right.ranks right.total some (inside t) l e in record { assigned = w.0; below = w.1 }

    pub leads_back : (t : List ℕ) (l : ℕ) → LeadsTo K h f t l → lead_in K h f t ≡ ToLine l
    unfolding lead_in landing_of
    leads_back t l w = lead_line h (table_in K h f) (vertex K v (weight_in K h f) t) right.ranks right.total some (inside t) w.assigned ∙ ap ToLine w.below

    -- and no code leads to a line of n or more
    pub leads_never_past : (t : List ℕ) (b : ℕ) → lead_in K h f t ≢ PastLast b
    unfolding lead_in
    leads_never_past t b = lead_never_past h (table_in K h f) (vertex K v (weight_in K h f) t) right.ranks right.total some (inside t) b

    pub home : (l : ℕ) → astray K h f l ≡ false → LeadsTo K h f (stored_code K h f l) l
    unfolding astray
    home l t = leads _ l (leads_to_lem _ l (not-false _ t))

    pub home_back : (l : ℕ) → LeadsTo K h f (stored_code K h f l) l → astray K h f l ≡ false
    unfolding astray
    home_back l w = ap not (to_leads (leads_back _ l w))

  -- ---- all of them

  pub whole : NoneApplies (open_refusals K h f) → Whole K h f
  unfolding open_refusals record_refusals key_refusals
  whole c =
      let frame = framed (none_left (header_refusals K h f) _ c) in
      let records = none_right (header_refusals K h f) _ c in
      let tables = none_right (mark_refusals K h f) _ records in
      let right = table (none_left (table_refusals h (table_in K h f)) _ tables) in
      let keys = none_right (table_refusals h (table_in K h f)) (key_refusals K h f) tables in
      record {
        framed = frame;
        marks = marks (none_left (mark_refusals K h f) _ records);
        table = right;
        keys = λ l m. key l (any_false n (key_wrong K h f) keys.0 l m);
        homes = λ l m. home frame.sizes right l (any_false n (astray K h f) keys.1.0 l m);
      }

  pub whole_back : Whole K h f → NoneApplies (open_refusals K h f)
  unfolding open_refusals record_refusals key_refusals
  whole_back w =
      none_both (header_refusals K h f) _ (framed_back w.framed)
      (none_both (mark_refusals K h f) _ (marks_back w.marks)
      (none_both (table_refusals h (table_in K h f)) (key_refusals K h f) (table_back w.table)
      (any_none n _ (λ l m. key_back l (w.keys l m)), (any_none n _ (λ l m. home_back w.framed.sizes w.table l (w.homes l m)), tt))))
