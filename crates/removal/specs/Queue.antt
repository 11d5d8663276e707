-- The state of the peeling as the arrays have it: removed edges and waiting edges in one array, and a mark for each edge that ever waited. Assumes nothing.
use Rattle.std.specs.Prelude.{◌≡◌, ◌≢◌, List, [], ◌++◌, ℕ, ◌+◌, ◌-◌, ◌≤◌, ◌<◌, length, get_or, set, take, drop}
use Rattle.counting.specs.Lists.{occurrences}
use Rattle.graph.specs.Graph.{Graph}
use Rattle.graph.specs.Peeling.{unremoved, first_waiting, follow_all, removal_list, number_left}
use Rattle.graph.specs.Run.{Reached}
use Rattle.graph.specs.Waiting.{most_waiting}
use Rattle.counting.specs.Holds.{Holds}
use Rattle.counting.specs.Widths.{two_bytes}
use Rattle.removal.specs.Arrays.{graph_in, Held, Wide, Tallied}

-- the removed edges stand before `head`, those that wait from there up to `tail`
abbrev pub removed_of : List ℕ → ℕ → List ℕ
removed_of order head = take head order

abbrev pub waiting_of : List ℕ → ℕ → ℕ → List ℕ
waiting_of order head tail = drop head (take tail order)

-- a mark for each edge that is removed or waits
abbrev pub Marked : ℕ → List ℕ → List ℕ → List ℕ → Type 0
Marked n removed waiting queued = Holds n (λ e. occurrences e removed + occurrences e waiting) queued

-- the array is written up to t: what is removed, and then what waits
pub record Queued (n : ℕ) (removed waiting queued order : List ℕ) (t : ℕ) : Type 0 where
  pub high : t ≤ n
  pub list : take t order ≡ removed ++ waiting
  pub marks : Marked n removed waiting queued

-- the arrays at a moment of the run
pub record Ready (n r m : ℕ) (edges degrees sums queued order removed waiting : List ℕ) : Type 0 where
  pub held : Held n r m edges
  pub wide : Wide m degrees sums
  pub for_marks : length queued ≡ n
  pub for_order : length order ≡ n
  pub reached : Reached (graph_in n r m edges) removed waiting
  pub tallied : Tallied (graph_in n r m edges) (unremoved removed) degrees sums
  pub marks : Marked n removed waiting queued

-- between two steps of the run
pub record Going (n r m : ℕ) (edges degrees sums queued order : List ℕ) (head tail : ℕ) : Type 0 where
  pub low : head ≤ tail
  pub high : tail ≤ n
  pub ready : Ready n r m edges degrees sums queued order (removed_of order head) (waiting_of order head tail)

-- what a step makes of the two lists: the front edge is removed, and those that follow it have joined
pub record Stepped (G : Graph) (order : List ℕ) (head tail : ℕ) (order' : List ℕ) (tail' : ℕ) : Type 0 where
  pub removed : removed_of order' (head + 1) ≡ removed_of order (head + 1)
  pub waiting : waiting_of order' (head + 1) tail' ≡ follow_all G (removed_of order (head + 1)) (get_or order head 0) G.arity (waiting_of order (head + 1) tail)

-- the arrays at the start of the run: the first queue waits
pub record Starts (n r m : ℕ) (edges degrees sums queued order : List ℕ) (tail : ℕ) : Type 0 where
  pub high : tail ≤ n
  pub ready : Ready n r m edges degrees sums queued order [] (take tail order)
  pub is_first : take tail order ≡ first_waiting (graph_in n r m edges)

-- and at its end: so many edges are left over, so many waited at once at the most, the others stand in the order of their removal, and degrees and sums are those of the edges left over
pub record Removed (G : Graph) (degrees sums order : List ℕ) (left most : ℕ) : Type 0 where
  pub is_left : left ≡ number_left G
  pub is_most : most ≡ most_waiting G
  pub list : removed_of order (G.edges - left) ≡ removal_list G
  pub tallied : Tallied G (unremoved (removal_list G)) degrees sums

-- ---- an edge joins the back of the queue, at place t

-- there is a mark for edge f, and room for it unless it ever waited
pub record Joinable (f t : ℕ) (queued order : List ℕ) : Type 0 where
  pub marked : f < length queued
  pub fits : f < two_bytes
  pub room : get_or queued f 0 ≡ 0 → t < length order

-- unless it ever waited, it stands there and is marked
pub record Joined (f t : ℕ) (queued order queued' order' : List ℕ) (t' : ℕ) : Type 0 where
  pub joins : get_or queued f 0 ≡ 0 → (queued' ≡ set queued f 1) × (order' ≡ set order t f) × (t' ≡ t + 1)
  pub stays : get_or queued f 0 ≢ 0 → (queued' ≡ queued) × (order' ≡ order) × (t' ≡ t)
