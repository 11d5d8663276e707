-- What a chain over the numbers of a range, or over a part of a list, comes to: a count, whether something passes a test, and the lowest that does. Assumes nothing.
use Rattle.std.specs.Prelude.{◌≡◌, refl, Bool, true, false, cond, ◌||◌, List, [], ◌∷◌, ◌++◌, ℕ, zero, suc, ◌+◌, ◌≤◌, ◌<◌, ltb, length, get_or, take, drop, count_by, Option, Some, None}
use Rattle.std.specs.List.{range_with_len, find, list_any}
use Rattle.std.proofs.Common.{sym, ap, ◌∙◌, arith, add-one, zero-add, ltb-true, ltb-false, lt-ltb, le-ltb, length-drop, get_or-drop}
use Rattle.std.proofs.Math.Seq.{take-suc}
use Rattle.std.proofs.lemmas.List.{map-id}
use Rattle.std.proofs.lemmas.List.FromFn.{map-range_with_len_more}
use Rattle.std.proofs.lemmas.List.Sums.{sum_by_push}
use Rattle.counting.specs.Below.{bit, sum, count, any, lowest}
use Rattle.counting.proofs.SearchLaws.{any-lowest, lowest_is, lowest_at, lowest_past}

-- one number more
range_more : (a n : ℕ) → range_with_len a (suc n) ≡ range_with_len a n ++ (a + n) ∷ []
range_more a n =
    let more : range_with_len a (n + 1) ≡ range_with_len a n ++ (a + n) ∷ [] = sym (map-id (range_with_len a (n + 1))) ∙ map-range_with_len_more (λ (x : ℕ). x) a n (a + n) refl ∙ ap (λ l. l ++ (a + n) ∷ []) (map-id (range_with_len a n)) in
    rw add-one at more

next : (n : ℕ) → range_with_len 0 (suc n) ≡ range_with_len 0 n ++ n ∷ []
next n = range_more 0 n ∙ ap (λ m. range_with_len 0 n ++ m ∷ []) (zero-add n)

module _ (p : ℕ → Bool) where
  -- ---- how many numbers pass

  bit_cond : (b : Bool) → cond b 1 0 ≡ bit b
  bit_cond true = refl
  bit_cond false = refl

  pub count_range : (n : ℕ) → count_by p (range_with_len 0 n) ≡ count n p
  unfolding sum
  count_range zero = refl
  count_range (suc n) = omega (arith, ap (count_by p) (next n), sum_by_push (λ x. cond (p x) 1 0) (range_with_len 0 n) n, count_range n, bit_cond (p n))

  -- ---- whether some number passes

  any_push : (s : List ℕ) (x : ℕ) → list_any p (s ++ x ∷ []) ≡ (list_any p s || p x)
  any_push [] x = elim (p x) as (λ b. (b || false) ≡ (false || b)) [ true ↦ refl | false ↦ refl ]
  any_push (y ∷ s) x = elim (p y) as (λ b. (b || list_any p (s ++ x ∷ [])) ≡ ((b || list_any p s) || p x)) [ true ↦ refl | false ↦ any_push s x ]

  pub any_range : (a n : ℕ) → list_any p (range_with_len a n) ≡ any n (λ i. p (a + i))
  unfolding any
  any_range a zero = refl
  any_range a (suc n) = ap (list_any p) (range_more a n) ∙ any_push (range_with_len a n) (a + n) ∙ ap (λ b. b || p (a + n)) (any_range a n)

  -- .. and the same of a part of a list
  pub any_part : (s : List ℕ) (a n : ℕ) → a + n ≤ length s → list_any p (take n (drop a s)) ≡ any n (λ i. p (get_or s (a + i) 0))
  unfolding any
  any_part s a zero l = refl
  any_part s a (suc n) l =
      let m : n < length (drop a s) = omega (arith, length-drop a s) in
      ap (list_any p) (take-suc (drop a s) n 0 m) ∙ any_push (take n (drop a s)) (get_or (drop a s) n 0) ∙ rw (any_part s a n (omega arith), get_or-drop a s n 0) refl

  -- ---- the lowest that passes

  -- x, where nothing was found before
  abbrev or_else : Option ℕ → ℕ → Option ℕ
  or_else (Some y) x = Some y
  or_else None x = cond (p x) (Some x) None

  find_push : (s : List ℕ) (x : ℕ) → find p (s ++ x ∷ []) ≡ or_else (find p s) x
  find_push [] x = refl
  find_push (y ∷ s) x = elim (p y) as (λ b. cond b (Some y) (find p (s ++ x ∷ [])) ≡ or_else (cond b (Some y) (find p s)) x) [ true ↦ refl | false ↦ find_push s x ]

  -- i is the lowest number below n that passes, or n
  lowest_push : (i n : ℕ) (a : Bool) → ltb i n ≡ a → (b : Bool) → p n ≡ b → or_else (cond a (Some i) None) n ≡ cond (ltb (cond a i (cond b n (suc n))) (suc n)) (Some (cond a i (cond b n (suc n)))) None
  lowest_push i n true s b t = rw (lt-ltb i (suc n) (omega (arith, ltb-true i n s)))
  lowest_push i n false s true t = rw (t, lt-ltb n (suc n) (omega arith))
  lowest_push i n false s false t = rw (t, le-ltb (suc n) (suc n) (omega arith))

  pub find_range : (n : ℕ) → find p (range_with_len 0 n) ≡ cond (ltb (lowest n p) n) (Some (lowest n p)) None
  unfolding lowest
  find_range zero = refl
  find_range (suc n) = ap (find p) (next n) ∙ find_push (range_with_len 0 n) n ∙ ap (λ o. or_else o n) (find_range n) ∙ lowest_push (lowest n p) n (ltb (lowest n p) n) refl (p n) refl

  -- what was found is the lowest, and what was not found is nowhere
  pub found_lowest : (n : ℕ) {l : ℕ} → Some l ≡ find p (range_with_len 0 n) → (any n p ≡ true) × (l ≡ lowest n p) × (l < n)
  found_lowest n {l} e = go (ltb (lowest n p) n) refl
    where
      go : (b : Bool) → ltb (lowest n p) n ≡ b → (any n p ≡ true) × (l ≡ lowest n p) × (l < n)
      go true t = let f : Some l ≡ Some (lowest n p) = e ∙ find_range n ∙ rw t in let same : l ≡ lowest n p = cc in (any-lowest n p ∙ t, same, omega (arith, ltb-true (lowest n p) n t))
      go false t = let f : Some l ≡ None = e ∙ find_range n ∙ rw t in cc

  pub missed_any : (n : ℕ) → None ≡ find p (range_with_len 0 n) → any n p ≡ false
  missed_any n e = any-lowest n p ∙ go (ltb (lowest n p) n) refl
    where
      go : (b : Bool) → ltb (lowest n p) n ≡ b → ltb (lowest n p) n ≡ false
      go true t = let f : None ≡ Some (lowest n p) = e ∙ find_range n ∙ rw t in cc
      go false t = t

  pub missed_lowest : (n : ℕ) → None ≡ find p (range_with_len 0 n) → n ≡ lowest n p
  missed_lowest n e = go (ltb (lowest n p) n) refl
    where
      go : (b : Bool) → ltb (lowest n p) n ≡ b → n ≡ lowest n p
      go true t = let f : None ≡ Some (lowest n p) = e ∙ find_range n ∙ rw t in cc
      go false t = omega (arith, ltb-false (lowest n p) n t, (lowest_is n p).most)

  -- so a loop finds it
  pub found_at : (n : ℕ) {l : ℕ} → ((i : ℕ) → i < l → p i ≡ false) → l < n → p l ≡ true → Some l ≡ find p (range_with_len 0 n)
  found_at n {l} before m t = let e : l ≡ lowest n p = lowest_at before m t in sym (find_range n ∙ rw (← e, lt-ltb l n m))

  pub missed_all : (n : ℕ) → ((i : ℕ) → i < n → p i ≡ false) → None ≡ find p (range_with_len 0 n)
  missed_all n before = let e : n ≡ lowest n p = lowest_past before (omega arith) in sym (find_range n ∙ rw (← e, le-ltb n n (omega arith)))
