-- Where a code leads, by any bytes T from the mark of GV on. Assumes nothing.
use Rattle.std.proofs.Math.Path.{◌≡◌, refl, ap}
use Rattle.std.proofs.Common.{⊎_elim, mod-lt, arith}
use Rattle.std.specs.Prelude.{◌≢◌, Bool, ℕ, ◌/◌, ◌≤◌, ◌<◌}
use Rattle.std.proofs.Math.Bool.{true, false, not, cond}
use Rattle.std.proofs.Math.Dec.{ltb}
use borrow.Author.Tests.{ltb-true, lt-ltb, eqb-true, eq-eqb, ne_eqb}
use Rattle.counting.proofs.TestLaws.{eq?}
use Rattle.graph.specs.Assignment.{unassigned, assigned, landing, assigned_below, block_size, rank_entry}
use Rattle.directory.specs.declared.Lead.{Lead}
use Rattle.directory.specs.declared.Lead.TheVariants.{Nowhere, ToLine, PastLast}
use Rattle.directory.specs.Sizes.{Header, vertex_count, rank_entries}
use Rattle.directory.specs.Values.{value_in, rank_in, line_in}
use Rattle.directory.specs.Leads.{lead_of, leads_to}
use Rattle.directory.proofs.TableLaws.{line-below, line_few}

-- ---- the test that a code leads to a line

pub leads_to_lem : (d : Lead) (l : ℕ) → leads_to l d ≡ true → d ≡ ToLine l
leads_to_lem Nowhere l t = cc
leads_to_lem (ToLine k) l t = ap ToLine (eqb-true k l t)
leads_to_lem (PastLast b) l t = cc

pub to_leads : {d : Lead} {l : ℕ} → d ≡ ToLine l → leads_to l d ≡ true
to_leads {d} {l} e = rw e (eq-eqb l l refl)

-- ---- the code with the vertices x 0, x 1, ..

module _ (h : Header) (T : ℕ → ℕ) (x : ℕ → ℕ) where
  open h use {n, r}

  abbrev y : ℕ
  y = landing r (value_in T) x

  -- a landing vertex that is unassigned leads nowhere
  pub lead_nowhere : value_in T y ≡ unassigned r → lead_of h T x ≡ Nowhere
  unfolding lead_of
  lead_nowhere e = ap (λ here. cond here (cond (ltb (line_in h T y) n) (ToLine (line_in h T y)) (PastLast (y / block_size))) Nowhere) (ap not (eq-eqb (value_in T y) r e))

  -- a line that it leads to is below n, whatever the bytes
  pub lead_below : (l : ℕ) → lead_of h T x ≡ ToLine l → l < n
  unfolding lead_of
  lead_below l = go (assigned r (value_in T y)) (ltb (line_in h T y) n) refl
    where
      go : (a b : Bool) → ltb (line_in h T y) n ≡ b → cond a (cond b (ToLine (line_in h T y)) (PastLast (y / block_size))) Nowhere ≡ ToLine l → l < n
      go true true t e = let i : line_in h T y ≡ l = cc in rw (← i) (ltb-true _ _ t)
      go true false t e = absurd (let z : ◌≡◌ {A = ℕ} 0 1 = cc in omega arith)
      go false b t e = absurd (let z : ◌≡◌ {A = ℕ} 0 1 = cc in omega arith)

  -- by right rank entries and n assigned vertices in all, ..
  module _
      (ranks : (b : ℕ) → b < rank_entries h → rank_in h T b ≡ rank_entry r (value_in T) b)
      (total : assigned_below r (value_in T) (vertex_count h) ≡ n)
      (some : 1 ≤ r)
      (inside : (j : ℕ) → j < r → x j < vertex_count h)
    where
      landing_inside : y < vertex_count h
      unfolding landing
      landing_inside = inside _ (mod-lt _ some)

      -- .. an assigned one leads to the line that counts the assigned vertices below it
      pub lead_line : value_in T y ≢ unassigned r → lead_of h T x ≡ ToLine (assigned_below r (value_in T) y)
      unfolding lead_of
      lead_line d =
          let t : assigned r (value_in T y) ≡ true = ap not (ne_eqb _ _ d) in
          let e : line_in h T y ≡ assigned_below r (value_in T) y = line-below h T ranks y landing_inside in
          rw (t, e, lt-ltb _ _ (line_few h T total y landing_inside t))

      pub lead_assigned : (l : ℕ) → lead_of h T x ≡ ToLine l → (value_in T y ≢ unassigned r) × (assigned_below r (value_in T) y ≡ l)
      lead_assigned l e =
          ⊎_elim
          (λ (i : value_in T y ≡ unassigned r). absurd (let q = lead_nowhere i in let z : ◌≡◌ {A = ℕ} 0 1 = cc in omega arith))
          (λ (d : value_in T y ≢ unassigned r). let q = lead_line d in (d, cc))
          (eq? (value_in T y) (unassigned r))

      -- so no code leads to a line of n or more
      pub lead_never_past : (b : ℕ) → lead_of h T x ≢ PastLast b
      lead_never_past b e =
          ⊎_elim
          (λ (i : value_in T y ≡ unassigned r). let q = lead_nowhere i in let z : ◌≡◌ {A = ℕ} 0 1 = cc in omega arith)
          (λ (d : value_in T y ≢ unassigned r). let q = lead_line d in let z : ◌≡◌ {A = ℕ} 0 1 = cc in omega arith)
          (eq? (value_in T y) (unassigned r))
