-- The landing vertex of a code, from the vertices and the values that were read. Assumes nothing.
use Rattle.std.specs.Prelude.{◌≡◌, List, ℕ, ◌%◌, ◌<◌, get_or}
use Rattle.std.proofs.Math.Path.{ap}
use Rattle.std.proofs.Common.{◌∙◌}
use Rattle.counting.specs.Below.{sum}
use Rattle.counting.proofs.BelowLaws.{sum_equal}
use Rattle.counting.specs.Holds.{Holds}
use Rattle.graph.specs.Assignment.{landing}
use Rattle.directory.specs.Sizes.{Header}
use Rattle.directory.specs.Kind.{HD, vertex}
use Rattle.directory.specs.Values.{value_in}
use Rattle.directory.specs.File.{weights_at, values_at, weight_in, table_in}
use Rattle.directory.specs.Whole.{landing_of}
use Rattle.records.specs.Standing.{bytes_from, values_from, weight_of}

module _ (h : Header) (f t : List ℕ) where
  open h use {n, r, v}

  -- the r vertices of the code, s the sum of their values, and the one that s leads to
  pub landing_from : (vertices : List ℕ) (s : ℕ) → Holds r (vertex HD v (weight_of f) t) vertices → s ≡ sum r (λ j. value_in (bytes_from f (values_from r)) (get_or vertices j 0)) → s % r < r → get_or vertices (s % r) 0 ≡ landing_of HD h f t
  unfolding landing_of landing weight_in table_in values_at weights_at
  landing_from vertices s g e l = g (s % r) l ∙ ap (λ k. vertex HD v (weight_of f) t (k % r)) (e ∙ sum_equal r _ _ (λ j m. ap (value_in (bytes_from f (values_from r))) (g j m)))
