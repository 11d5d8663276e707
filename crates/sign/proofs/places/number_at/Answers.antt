-- What `sign::places::number_at` reads: the number of the chunk of four bytes at the line's place. Assumes nothing.
use Rattle.std.proofs.Common.{ap, arith, length, lt-ltb, ◌∙◌, ◌<◌, ◌/◌, List, [], ℕ, Some, get_or}
use Rattle.std.specs.Int.{w32, from_le_bytes}
use Rattle.sign.specs.Places.{place_bytes}
use Rattle.sign.proofs.PlaceLaws.{number_read}
use Rattle.sign.proofs.places.number_at.Goals as goal

pub returns : goal.returns
returns c =
    let many = length c.args.list.now / place_bytes in
    let below : c.args.line < many = omega (arith, c.in_ok-place.ensures.lookup, c.as_chunks.ensures.front_len) in
    let its = c.in_ok-place.ensures.lookup.3.1 [] ∙ ap (λ (places : List (List ℕ)). get_or places c.args.line []) c.as_chunks.ensures.front in
    rw (lt-ltb c.args.line many below) (ap Some (c.from_le_bytes.ensures ∙ ap (from_le_bytes w32) its ∙ number_read many c.args.line c.args.list.now below))
