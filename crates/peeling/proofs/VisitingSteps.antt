-- One turn of visiting the vertices of an edge, from the last to the first. Assumes nothing.
-- M, M' and W stand for the marks before, the marks so far and the values.
use Rattle.std.specs.Prelude.{◌≡◌, refl, ◌≢◌, true, false, List, ℕ, ◌+◌, ◌-◌, ◌*◌, ◌≤◌, ◌<◌, eqb, length, get_or, set}
use Rattle.std.proofs.Common.{sym, ap, ◌∙◌, ⊎_elim, mul-le-mul, arith, length-set, get_or-set_same, get_or-set_other, eq-eqb, ne_eqb}
use Rattle.counting.proofs.TestLaws.{eq?}
use Rattle.counting.specs.Below.{sum}
use Rattle.counting.proofs.BelowLaws.{sum_none, sum-next, sum_mono, sum_constant}
use Rattle.counting.proofs.SearchLaws.{lowest_only}
use Rattle.counting.specs.Widths.{one_byte, two_bytes}
use Rattle.removal.specs.Arrays.{vertex_at}
use Rattle.peeling.specs.Assigning.{value_sum, Visitable, VisitedFrom, Visited}

-- the vertices from number j on are seen
pub record Seen (j r e : ℕ) (edges M W M' : List ℕ) (first total : ℕ) : Type 0 where
  pub low : j ≤ r
  pub even : length M' ≡ length M
  pub high : first ≤ r
  pub none : (i : ℕ) → j ≤ i → i < first → eqb (get_or M (vertex_at r edges e i) 0) 0 ≡ false
  pub passes : first < r → eqb (get_or M (vertex_at r edges e first) 0) 0 ≡ true
  pub sums : total + sum j (λ i. get_or W (vertex_at r edges e i) 0) ≡ value_sum r e edges W
  pub marks : VisitedFrom j r e edges M M'

pub seen_none : (r e : ℕ) (edges M W : List ℕ) → Seen r r e edges M W M r 0
seen_none r e edges M W =
    record {
      low = omega arith;
      even = refl;
      high = omega arith;
      none = λ i l h. absurd (omega arith);
      passes = λ h. absurd (omega arith);
      sums = omega arith;
      marks = record { marked = λ i l h. absurd (omega arith); others = λ x h. refl };
    }

pub seen_all : {r e : ℕ} {edges M W M' : List ℕ} {first total : ℕ} → Seen 0 r e edges M W M' first total → Visited r e edges M W M' first total
seen_all {r} {e} {edges} {W = W} s =
    record {
      is_first = lowest_only (record { none_before = λ i l. s.none i (omega arith) l; most = s.high; passes = s.passes });
      is_total = omega (arith, s.sums, sum_none (λ i. get_or W (vertex_at r edges e i) 0));
      marks = s.marks;
    }

-- the values sum up to at most r times r
pub sum_square : {r e : ℕ} {edges M W : List ℕ} → Visitable r e edges M W → value_sum r e edges W ≤ r * r
sum_square {r} v = omega (arith, sum_mono r _ (λ i. r) v.most, sum_constant r r)

pub square_small : (r : ℕ) → r < one_byte → r * r < two_bytes
square_small r l = let most : r ≤ one_byte - 1 = omega arith in omega (arith, mul-le-mul most most)

-- ---- a turn: x is vertex j

module _ (j : ℕ) {r e : ℕ} {edges M W M' : List ℕ} {first total x : ℕ} (v : Visitable r e edges M W) (s : Seen (j + 1) r e edges M W M' first total) (i : x ≡ vertex_at r edges e j) where
  is_place_lem : j < r
  is_place_lem = omega (arith, s.low)

  pub x-marked : x < length M'
  x-marked = rw i (omega (arith, v.in_visited.below j is_place_lem, s.even))

  pub x_valued : x < length W
  x_valued = rw i (v.in_values.below j is_place_lem)

  -- its own mark is still the old one
  x-before : get_or M' x 0 ≡ get_or M (vertex_at r edges e j) 0
  x-before = s.marks.others x (λ k l h same. let z : j ≡ k = v.apart j k is_place_lem h (sym i ∙ same) in omega arith) ∙ ap (λ y. get_or M y 0) i

  pub total_fits : total + get_or W x 0 ≤ r * r
  total_fits = rw i (omega (arith, s.sums, sum-next j (λ k. get_or W (vertex_at r edges e k) 0), sum_square v))

  marks_more : VisitedFrom j r e edges M (set M' x 1)
  marks_more =
      record {
        marked =
            λ k l h.
            ⊎_elim
            (λ (same : vertex_at r edges e k ≡ x). ap (λ y. get_or (set M' x 1) y 0) same ∙ get_or-set_same M' x 1 0 x-marked)
            (λ (d : vertex_at r edges e k ≢ x). get_or-set_other M' x _ 1 0 d ∙ s.marks.marked k (later k l d) h)
            (eq? (vertex_at r edges e k) x);
        others = λ y h. get_or-set_other M' x y 1 0 (λ same. h j (omega arith) is_place_lem (same ∙ i)) ∙ s.marks.others y (λ k l m. h k (omega arith) m);
      }
    where
      later : (k : ℕ) → j ≤ k → vertex_at r edges e k ≢ x → j + 1 ≤ k
      later k l d = let z : k ≢ j = λ same. d (ap (vertex_at r edges e) same ∙ sym i) in omega arith

  seen_more : (first' : ℕ) → first' ≤ r → ((k : ℕ) → j ≤ k → k < first' → eqb (get_or M (vertex_at r edges e k) 0) 0 ≡ false) → (first' < r → eqb (get_or M (vertex_at r edges e first') 0) 0 ≡ true) → Seen j r e edges M W (set M' x 1) first' (total + get_or W x 0)
  seen_more first' h n p =
      record {
        low = omega (arith, s.low);
        even = length-set M' x 1 ∙ s.even;
        high = h;
        none = n;
        passes = p;
        sums = rw i (omega (arith, s.sums, sum-next j (λ k. get_or W (vertex_at r edges e k) 0)));
        marks = marks_more;
      }

  pub seen_free : get_or M' x 0 ≡ 0 → Seen j r e edges M W (set M' x 1) j (total + get_or W x 0)
  seen_free z = seen_more j (omega (arith, is_place_lem)) (λ k l h. absurd (omega arith)) (λ h. eq-eqb _ _ (sym x-before ∙ z))

  pub seen_visited : get_or M' x 0 ≢ 0 → Seen j r e edges M W (set M' x 1) first (total + get_or W x 0)
  seen_visited d =
      seen_more first s.high
      (λ k l h. ⊎_elim (λ (same : k ≡ j). rw same (ne_eqb _ _ (λ z. d (x-before ∙ z)))) (λ (o : k ≢ j). s.none k (omega arith) h) (eq? k j))
      s.passes

  -- by its old mark: an unvisited vertex is the first one now
  pub seen_next : {first' : ℕ} → (get_or M' x 0 ≡ 0 → first' ≡ j) → (get_or M' x 0 ≢ 0 → first' ≡ first) → Seen j r e edges M W (set M' x 1) first' (total + get_or W x 0)
  seen_next here kept =
      ⊎_elim
      (λ (z : get_or M' x 0 ≡ 0). rw (here z) (seen_free z))
      (λ (d : get_or M' x 0 ≢ 0). rw (kept d) (seen_visited d))
      (eq? (get_or M' x 0) 0)
