-- What a written file leads to: by its stored weights and values the vertices, landing vertices and counts are those of the weights and values that were written. Assumes nothing.
use Rattle.std.specs.Prelude.{◌≡◌, List, ℕ, ◌*◌, ◌≤◌, ◌<◌, length}
use Rattle.std.proofs.Math.Path.{sym}
use Rattle.std.proofs.Common.{◌∙◌, arith}
use Rattle.graph.specs.Assignment.{landing, assigned_below, block_size, rank_entry}
use Rattle.graph.proofs.RankLaws.{landing_equal, below_equal}
use Rattle.directory.specs.Sizes.{Header, vertex_count}
use Rattle.directory.specs.Kind.{Kind, vertex}
use Rattle.directory.proofs.KindLaws.{vertex-below, vertex_equal}
use Rattle.directory.proofs.ValueLaws.{rank_back, value_back, spare_back}
use Rattle.directory.specs.File.{file, weight_in}
use Rattle.directory.proofs.FileLaws.{weight_back, table_back}
use Rattle.directory.specs.Whole.{Table, value_of, landing_of}

module _ (K : Kind) (h : Header) (weight value : ℕ → ℕ) (key : ℕ → List ℕ) where
  open K use {positions}
  open h use {n, r, v}

  abbrev m : ℕ
  m = vertex_count h

  abbrev f : List ℕ
  f = file K h weight value key

  pub vertex_back : (t : List ℕ) → length t ≤ positions → (j : ℕ) → j < r → vertex K v (weight_in K h f) t j ≡ vertex K v weight t j
  vertex_back t short = vertex_equal K r v (weight_in K h f) weight t short (weight_back K h weight value key)

  -- ---- values that two bits can hold

  module _ (small : (x : ℕ) → x < m → value x ≤ 3) where
    stored-value : (x : ℕ) → x < m → value_of K h f x ≡ value x
    stored-value = value_back h value (table_back K h weight value key) small

    pub landing_back : 1 ≤ r → 1 ≤ v → (t : List ℕ) → length t ≤ positions → landing_of K h f t ≡ landing r value (vertex K v weight t)
    unfolding landing_of
    landing_back some part t short =
        landing_equal r (value_of K h f) value (vertex K v (weight_in K h f) t) (vertex K v weight t) some (vertex_back t short) (λ j l. stored-value _ (vertex-below K v weight t part r j l))

    pub below_back : (y : ℕ) → y ≤ m → assigned_below r (value_of K h f) y ≡ assigned_below r value y
    below_back y l = below_equal r (value_of K h f) value y (λ x b. stored-value x (omega arith))

  -- the table is right where no value is over r and n vertices are assigned
  pub file-table : r ≤ 3 → ((x : ℕ) → x < m → value x ≤ r) → assigned_below r value m ≡ n → Table K h f
  unfolding rank_entry
  file-table three most total =
      let here = table_back K h weight value key in
      let small : (x : ℕ) → x < m → value x ≤ 3 = λ x l. omega (arith, most x l) in
      record {
        values = λ x l. rw (stored-value small x l) (most x l);
        spare = spare_back h value here small;
        ranks = λ b l. rank_back h value here b l ∙ sym (below_back small (block_size * b) (omega arith));
        total = below_back small m (omega arith) ∙ total;
      }
