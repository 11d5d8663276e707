-- Laws of the searches `any` and `lowest`. Assumes nothing.
use Rattle.std.specs.Prelude.{◌≡◌, refl, ◌≢◌, Bool, true, false, ◌||◌, cond, ℕ, zero, suc, ◌+◌, ◌≤◌, ◌<◌, ltb}
use Rattle.std.proofs.Common.{sym, ap, ◌∙◌, ⊎_elim, arith, ltb-true, ltb-false, lt-ltb, le-ltb}
use Rattle.counting.proofs.TestLaws.{eq?, lt?, clash, never_true, or_second}
use Rattle.counting.specs.Below.{sum, bit, count, any, lowest}
use Rattle.counting.proofs.CountLaws.{count-one}

pub any_has : (k : ℕ) (p : ℕ → Bool) (i : ℕ) → i < k → p i ≡ true → any k p ≡ true
unfolding any
any_has zero p i l t = absurd (omega arith)
any_has (suc k) p i l t = ⊎_elim (λ (e : i ≡ k). or_second (any k p) (p k) (ap p (sym e) ∙ t)) (λ (d : i ≢ k). rw (any_has k p i (omega arith) t)) (eq? i k)

pub any_some : (k : ℕ) (p : ℕ → Bool) → any k p ≡ true → (i : ℕ) × (i < k) × (p i ≡ true)
unfolding any
any_some zero p t = absurd (clash t refl)
any_some (suc k) p t = go (any k p) refl (any_some k p)
  where
    go : (b : Bool) → any k p ≡ b → (any k p ≡ true → (i : ℕ) × (i < k) × (p i ≡ true)) → (i : ℕ) × (i < suc k) × (p i ≡ true)
    go true e ih = let w = ih e in (w.0, omega arith, w.2)
    go false e ih = (k, omega arith, cc)

pub any_none : (k : ℕ) (p : ℕ → Bool) → ((i : ℕ) → i < k → p i ≡ false) → any k p ≡ false
any_none k p h = go (any k p) refl
  where
    go : (b : Bool) → any k p ≡ b → any k p ≡ false
    go true t = let w = any_some k p t in absurd (clash w.2 (h w.0 w.1))
    go false t = t

pub any_false : (k : ℕ) (p : ℕ → Bool) → any k p ≡ false → (i : ℕ) → i < k → p i ≡ false
any_false k p h i l = never_true (p i) (λ t. clash (any_has k p i l t) h)

pub any_equal : (k : ℕ) (p q : ℕ → Bool) → ((i : ℕ) → i < k → p i ≡ q i) → any k p ≡ any k q
unfolding any
any_equal zero p q h = refl
any_equal (suc k) p q h = rw (any_equal k p q (λ i l. h i (omega arith)), h k (omega arith))

-- of a test that at most one number passes, the count says whether one does
pub count-any : (k : ℕ) (p : ℕ → Bool) → ((i j : ℕ) → i < k → j < k → p i ≡ true → p j ≡ true → i ≡ j) → count k p ≡ bit (any k p)
unfolding sum any
count-any zero p h = refl
count-any (suc k) p h = omega (arith, count-any k p (λ i j l m. h i j (omega arith) (omega arith)), go (any k p) refl (p k) refl)
  where
    go : (a : Bool) → any k p ≡ a → (b : Bool) → p k ≡ b → bit a + bit b ≡ bit (a || b)
    go true s true t = let w = any_some k p s in absurd (omega (arith, h w.0 k (omega arith) (omega arith) w.2 t))
    go true s false t = refl
    go false s true t = refl
    go false s false t = refl

-- ---- the lowest number that passes

-- i is the lowest number below k that passes, or k where none does
pub record Lowest (k : ℕ) (p : ℕ → Bool) (i : ℕ) : Type 0 where
  pub none_before : (j : ℕ) → j < i → p j ≡ false
  pub most : i ≤ k
  pub passes : i < k → p i ≡ true

pub lowest_is : (k : ℕ) (p : ℕ → Bool) → Lowest k p (lowest k p)
unfolding lowest
lowest_is zero p = record { none_before = λ j l. absurd (omega arith); most = omega arith; passes = λ l. absurd (omega arith) }
lowest_is (suc k) p = go (lowest_is k p) (ltb (lowest k p) k) refl (p k) refl
  where
    go : Lowest k p (lowest k p) → (a : Bool) → ltb (lowest k p) k ≡ a → (b : Bool) → p k ≡ b → Lowest (suc k) p (cond a (lowest k p) (cond b k (suc k)))
    go ih true s b t = let l = ltb-true (lowest k p) k s in record { none_before = ih.none_before; most = omega arith; passes = λ m. ih.passes l }
    go ih false s true t = let l = ltb-false (lowest k p) k s in record { none_before = λ j m. ih.none_before j (omega arith); most = omega arith; passes = λ m. t }
    go ih false s false t =
        let l = ltb-false (lowest k p) k s in
        record {
          none_before = λ j m. ⊎_elim (λ (e : j ≡ k). ap p e ∙ t) (λ (d : j ≢ k). ih.none_before j (omega arith)) (eq? j k);
          most = omega arith;
          passes = λ m. absurd (omega arith);
        }

-- no other number is
pub lowest_only : {k : ℕ} {p : ℕ → Bool} {i : ℕ} → Lowest k p i → i ≡ lowest k p
lowest_only {k} {p} {i} h =
    let w = lowest_is k p in
    ⊎_elim
    (λ (l : i < lowest k p). absurd (clash (h.passes (omega (arith, w.most))) (w.none_before i l)))
    (λ (l : lowest k p ≤ i). ⊎_elim (λ (m : lowest k p < i). absurd (clash (w.passes (omega (arith, h.most))) (h.none_before (lowest k p) m))) (λ (m : i ≤ lowest k p). omega arith) (lt? (lowest k p) i))
    (lt? i (lowest k p))

-- a search that has found none before i stops there, where i passes
pub lowest_at : {k : ℕ} {p : ℕ → Bool} {i : ℕ} → ((j : ℕ) → j < i → p j ≡ false) → i < k → p i ≡ true → i ≡ lowest k p
lowest_at before l here = lowest_only (record { none_before = before; most = omega arith; passes = λ m. here })

-- a search that has found none up to the bound ends there
pub lowest_past : {k : ℕ} {p : ℕ → Bool} {i : ℕ} → ((j : ℕ) → j < i → p j ≡ false) → k ≤ i → k ≡ lowest k p
lowest_past before e = lowest_only (record { none_before = λ j l. before j (omega arith); most = omega arith; passes = λ l. absurd (omega arith) })

pub lowest_equal : (k : ℕ) (p q : ℕ → Bool) → ((i : ℕ) → i < k → p i ≡ q i) → lowest k p ≡ lowest k q
lowest_equal k p q h =
    let w = lowest_is k p in
    lowest_only (record { none_before = λ j l. sym (h j (omega (arith, w.most))) ∙ w.none_before j l; most = w.most; passes = λ l. sym (h _ l) ∙ w.passes l })

pub lowest-below : (k : ℕ) (p : ℕ → Bool) (i : ℕ) → i < k → p i ≡ true → lowest k p ≤ i
lowest-below k p i l t = ⊎_elim (λ (m : i < lowest k p). absurd (clash t ((lowest_is k p).none_before i m))) (λ (m : lowest k p ≤ i). m) (lt? i (lowest k p))

-- where some number passes, it is below k and passes
pub lowest_some : (k : ℕ) (p : ℕ → Bool) (i : ℕ) → i < k → p i ≡ true → (lowest k p < k) × (p (lowest k p) ≡ true)
lowest_some k p i l t = let m : lowest k p < k = omega (arith, lowest-below k p i l t) in (m, (lowest_is k p).passes m)

-- where one number at most passes, it is that one
pub lowest-one : (k : ℕ) (p : ℕ → Bool) → count k p ≤ 1 → (i : ℕ) → i < k → p i ≡ true → lowest k p ≡ i
lowest-one k p h i l t = let w = lowest_some k p i l t in count-one k p h (lowest k p) i w.0 l w.1 t

-- some number passes exactly if the lowest is below k
pub any-lowest : (k : ℕ) (p : ℕ → Bool) → any k p ≡ ltb (lowest k p) k
any-lowest k p = go (any k p) refl
  where
    go : (b : Bool) → any k p ≡ b → b ≡ ltb (lowest k p) k
    go true t = let w = any_some k p t in sym (lt-ltb _ _ (lowest_some k p w.0 w.1 w.2).0)
    go false t = ⊎_elim (λ (l : lowest k p < k). absurd (clash (any_has k p (lowest k p) l ((lowest_is k p).passes l)) t)) (λ (l : k ≤ lowest k p). sym (le-ltb _ _ l)) (lt? (lowest k p) k)

-- so the lowest, once it is found, tells whether some number passes
pub lowest-found : (k : ℕ) (p : ℕ → Bool) (i : ℕ) → i ≡ lowest k p → i < k → any k p ≡ true
lowest-found k p i e l = any-lowest k p ∙ rw (← e) (lt-ltb i k l)

pub lowest_missed : (k : ℕ) (p : ℕ → Bool) (i : ℕ) → i ≡ lowest k p → k ≤ i → any k p ≡ false
lowest_missed k p i e l = any-lowest k p ∙ rw (← e) (le-ltb i k l)
