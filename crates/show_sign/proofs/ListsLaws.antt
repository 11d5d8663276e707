-- Lists that hold the same in every place, and the cleared ones. Assumes nothing.
use Rattle.std.specs.Prelude.{◌≡◌, refl, List, [], ◌∷◌, ◌++◌, ℕ, zero, suc, length, drop}
use Rattle.std.proofs.Common.{ap, ◌∙◌, append-nil, arith, drop_of_length-le}
use Rattle.counting.specs.Lists.{each}
use Rattle.counting.proofs.EachLaws.{length-each}
use Rattle.counting.specs.Wrote.{Wrote}
use Rattle.counting.proofs.WroteLaws.{wrote_whole}
use Rattle.sign.specs.Places.{place_bytes, place_at, byte0, byte1, byte2, byte3, filled}
use Rattle.sign.specs.Keeping.{lists, cleared}

-- the four bytes of a number
abbrev place : ℕ → List ℕ
place x = byte0 x ∷ byte1 x ∷ byte2 x ∷ byte3 x ∷ []

-- one place more at the end is one more at the start
filled-last : (n x : ℕ) → filled n x ++ place x ≡ filled (suc n) x
unfolding filled
filled-last zero x = refl
filled-last (suc n) x = ap (λ t. byte0 x ∷ byte1 x ∷ byte2 x ∷ byte3 x ∷ t) (filled-last n x)

each-filled : (n x : ℕ) → each n (λ i. place x) ≡ filled n x
unfolding each filled
each-filled zero x = refl
each-filled (suc n) x = rw (each-filled n x) (filled-last n x)

-- a list of n places into which n places were written holds just these
list_filled : (n x : ℕ) {before after : List ℕ} {to : ℕ} → Wrote 0 (each n (λ i. place x)) before after to → length before ≡ place_at n → after ≡ filled n x
list_filled n x {before} {after} w long =
    let size : length (each n (λ i. place x)) ≡ place_at n = length-each place_bytes n (λ i. place x) (λ i l. refl) in
    let none : drop (length (each n (λ i. place x))) before ≡ [] = drop_of_length-le before {i = length (each n (λ i. place x))} (omega arith) in
    wrote_whole w (omega arith) ∙ rw (none, append-nil) (each-filled n x)

pub lists-cleared : (n : ℕ) {levels times levels' times' : List ℕ} {a b : ℕ} → Wrote 0 (each n (λ i. place 30000)) levels levels' a → Wrote 0 (each n (λ i. place 0)) times times' b → length levels ≡ place_at n → length times ≡ place_at n → lists levels' times' ≡ cleared n
unfolding cleared
lists-cleared n v w l t = rw (list_filled n 30000 v l, list_filled n 0 w t)
