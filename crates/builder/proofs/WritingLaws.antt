-- From the arrays to the file: they are ready to be written, and what is written is the file of the list. Assumes nothing.
use Rattle.std.specs.Prelude.{◌≡◌, refl, List, ℕ, ◌*◌, ◌<◌, length, get_or, take}
use Rattle.std.proofs.Math.Path.{sym, ap}
use Rattle.std.proofs.Common.{◌∙◌, arith}
use Rattle.std.proofs.Math.Seq.{length-take-le}
use Rattle.counting.proofs.HoldsLaws.{holds-take}
use Rattle.graph.specs.Assignment.{blocks, block_size, rank_entry, values, edge_of_line}
use Rattle.graph.proofs.RankLaws.{below_equal}
use Rattle.directory.specs.Sizes.{headed}
use Rattle.directory.specs.Codes.{code}
use Rattle.directory.specs.Kind.{HD}
use Rattle.directory.specs.Building.{Lent, weight, code_of, graph, key, file_of}
use Rattle.directory.proofs.FileWholeLaws.{edge_below, small}
use Rattle.directory.proofs.SameFileLaws.{same-file}
use Rattle.writer.specs.Ready.{Ready, Small, file_in}
use Rattle.builder.specs.Graphs.{Settled}

module _ {I : Lent} {values' rank keys : List ℕ} (w : Settled I values' rank keys) where
  open I use {run, ends, r, v, weights, buffer}

  abbrev m : ℕ
  m = r * v

  abbrev n : ℕ
  n = length ends

  of_values_lem : (x : ℕ) → x < m → get_or (take m values') x 0 ≡ values (graph HD I) x
  unfolding graph
  of_values_lem = holds-take m _ values' w.lined.of_values

  of_rank_lem : (b : ℕ) → b < blocks m → get_or (take (blocks m) rank) b 0 ≡ rank_entry r (values (graph HD I)) b
  unfolding graph
  of_rank_lem = holds-take (blocks m) _ rank w.lined.of_rank

  of_keys_lem : (l : ℕ) → l < n → get_or (take n keys) l 0 ≡ edge_of_line (graph HD I) l
  unfolding graph
  of_keys_lem = holds-take n _ keys w.lined.of_keys

  code_of-line : (l : ℕ) → l < n → get_or (take n keys) l 0 < n
  code_of-line l k = rw (of_keys_lem l k) (edge_below HD _ w.within w.nothing l k)

  pub small_values : Small (take m values')
  small_values x l = rw (of_values_lem x (omega (arith, length-take-le m values' w.for_values))) (small HD _ w.within w.nothing x)

  pub ready : Ready r v (take m values') (take (blocks m) rank) ends (take n keys) buffer
  unfolding rank_entry
  ready =
      record {
        for_values = length-take-le m values' w.for_values;
        for_rank = length-take-le (blocks m) rank w.for_rank;
        ranks = λ i l. of_rank_lem i l ∙ below_equal r _ _ (block_size * i) (λ x k. sym (of_values_lem x (omega arith)));
        for_keys = length-take-le n keys w.for_keys;
        is_code = λ l k. code_of-line l (omega (arith, length-take-le n keys w.for_keys));
        room = w.within.room;
      }

  pub file_of_list : file_in r v weights (take m values') run ends (take n keys) ≡ file_of HD I
  unfolding file_of weight key code_of
  file_of_list = same-file HD (headed n r v) _ _ _ _ _ _ (λ i l. refl) of_values_lem (λ l k. ap (code run ends) (of_keys_lem l k))
