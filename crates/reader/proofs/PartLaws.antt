-- Which part of the file a line shows, case by case, and that it lies within the file. Assumes nothing.
use Rattle.std.specs.Prelude.{true, false, ◌≡◌, List, ℕ, ◌+◌, ◌-◌, ◌≤◌, ◌<◌, length, take, drop}
use Rattle.std.proofs.Common.{arith, lt-ltb, le-ltb}
use Rattle.directory.specs.declared.Part.{Part}
use Rattle.directory.specs.Sizes.{Header}
use Rattle.directory.specs.Codes.{wrong_length}
use Rattle.directory.specs.Kind.{HD}
use Rattle.directory.specs.File.{key_length}
use Rattle.directory.specs.Showing.{empty_part, bytes_of, key_part}
use Rattle.directory.proofs.ShowingLaws.{part_within}
use Rattle.directory.specs.Calls.{show_part_of}
use Rattle.records.specs.Standing.{code_from}
use Rattle.records.proofs.StandingLaws.{code_from_lem}

module _ (h : Header) (f : List ℕ) (l : ℕ) where
  pub part_past : h.n ≤ l → empty_part ≡ key_part HD h f l
  unfolding key_part
  part_past m = rw (le-ltb l h.n m)

  -- the KY record gives the length k
  module _ (m : l < h.n) (k : ℕ) (e : k ≡ key_length HD h f l) where
    pub part_wrong : wrong_length HD.positions k ≡ true → empty_part ≡ key_part HD h f l
    unfolding key_part
    part_wrong w = rw (lt-ltb l h.n m, ← e, w)

    abbrev part : Part
    part = record { start = code_from h l; size = k }

    pub part_here : wrong_length HD.positions k ≡ false → part ≡ key_part HD h f l
    unfolding key_part
    part_here w = rw (lt-ltb l h.n m, ← e, w, code_from_lem h l)

-- the part that a line shows
module _ (f : List ℕ) (l : ℕ) (p : Part) (e : p ≡ show_part_of f l) where
  pub shown_within : p.start + p.size ≤ length f
  unfolding show_part_of
  shown_within = rw e (part_within HD f l)

  -- the bytes from its start up to its end are its bytes
  pub shown_bytes : take (p.start + p.size - p.start) (drop p.start f) ≡ bytes_of f (show_part_of f l)
  shown_bytes = let s : p.start + p.size - p.start ≡ p.size = omega arith in rw (s, e)
