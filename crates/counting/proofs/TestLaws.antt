-- Tests: two numbers compared, and two truth values joined by "and" or "or". Assumes nothing.
use Rattle.std.specs.Prelude.{◌≡◌, refl, ◌⊎◌, ◌≢◌, ◌↔◌, Bool, true, false, ◌&&◌, ◌||◌, ℕ, ◌≤◌, ◌<◌, eqb, ltb}
use Rattle.std.proofs.Common.{inl, inr, arith, eqb-true, ltb-true, ltb-false}
use Rattle.std.proofs.lemmas.Bool.{eqb-false}

pub eq? : (a b : ℕ) → (a ≡ b) ⊎ (a ≢ b)
eq? a b = go (eqb a b) refl
  where
    go : (t : Bool) → eqb a b ≡ t → (a ≡ b) ⊎ (a ≢ b)
    go true e = inl (eqb-true a b e)
    go false e = inr (eqb-false a b e)

pub lt? : (a b : ℕ) → (a < b) ⊎ (b ≤ a)
lt? a b = go (ltb a b) refl
  where
    go : (t : Bool) → ltb a b ≡ t → (a < b) ⊎ (b ≤ a)
    go true e = inl (ltb-true a b e)
    go false e = inr (ltb-false a b e)

pub clash : {b : Bool} → b ≡ true → b ≡ false → ⊥
clash t f = let z : ◌≡◌ {A = ℕ} 0 1 = cc in omega arith

pub never_true : (b : Bool) → (b ≡ true → ⊥) → b ≡ false
never_true true h = absurd (h refl)
never_true false h = refl

pub and_left : (a b : Bool) → a && b ≡ true → a ≡ true
and_left true b t = refl
and_left false b t = t

pub and_right : (a b : Bool) → a && b ≡ true → b ≡ true
and_right true b t = t
and_right false b t = cc

pub and_both : {a b : Bool} → a ≡ true → b ≡ true → a && b ≡ true
and_both s t = cc

pub and_false : (a : Bool) → a && false ≡ false
and_false true = refl
and_false false = refl

pub and_true : (a : Bool) → a && true ≡ a
and_true true = refl
and_true false = refl

pub or_either : (a b : Bool) → a || b ≡ true → (a ≡ true) ⊎ (b ≡ true)
or_either true b t = inl refl
or_either false b t = inr t

pub or_second : (a b : Bool) → b ≡ true → a || b ≡ true
or_second true b t = refl
or_second false b t = t

pub or_neither : (a b : Bool) → a || b ≡ false → a ≡ false
or_neither true b t = t
or_neither false b t = refl

pub or_neither_second : (a b : Bool) → a || b ≡ false → b ≡ false
or_neither_second true b t = cc
or_neither_second false b t = t

pub or_none : {a b : Bool} → a ≡ false → b ≡ false → a || b ≡ false
or_none s t = cc

-- where a test is false exactly if P holds, it is true exactly if P does not
pub not_exactly : {b : Bool} {P : Type 0} → (b ≡ false) ↔ P → (b ≡ true) ↔ (P → ⊥)
not_exactly {b} {P} w = (λ t h. clash t (w.1 h), λ d. go b refl d)
  where
    go : (c : Bool) → b ≡ c → (P → ⊥) → b ≡ true
    go true e d = e
    go false e d = absurd (d (w.0 e))
