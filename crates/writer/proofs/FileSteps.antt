-- The records one after the other are the file, and fill the start of the buffer. Assumes nothing.
use Rattle.std.specs.Prelude.{◌≡◌, List, ◌++◌, ℕ, ◌≤◌, ◌<◌, length, get_or, drop}
use Rattle.std.proofs.Common.{ap, ◌∙◌, arith}
use Rattle.counting.specs.Lists.{each}
use Rattle.counting.specs.Wrote.{Wrote}
use Rattle.counting.proofs.WroteLaws.{wrote_whole, wrote_named}
use Rattle.directory.specs.Sizes.{Header, headed}
use Rattle.directory.specs.Codes.{code}
use Rattle.directory.proofs.CodesLaws.{code-length}
use Rattle.directory.specs.Kind.{HD}
use Rattle.directory.specs.Values.{value_record, rank_record, table_records}
use Rattle.directory.specs.File.{header_record, weight_record, key_record, file, file_length}
use Rattle.directory.proofs.FileLaws.{file-size}
use Rattle.records.specs.Standing.{key_from}
use Rattle.records.proofs.StandingLaws.{length_from}
use Rattle.lists.specs.Listed.{Listed}
use Rattle.writer.specs.Ready.{file_in, Ready}

module _ {r v : ℕ} {values rank ends keys buffer : List ℕ} (ready : Ready r v values rank ends keys buffer) where
  abbrev h : Header
  h = headed (length ends) r v

  -- there is room up to where the KY record of one line more would stand
  pub fits : key_from h h.n ≤ length buffer
  fits = omega (arith, ready.room, length_from h)

  module _ (weights run : List ℕ) (listed : Listed run ends) where
    abbrev weight : ℕ → ℕ
    weight i = get_or weights i 0

    abbrev value : ℕ → ℕ
    value x = get_or values x 0

    abbrev key : ℕ → List ℕ
    key l = code run ends (get_or keys l 0)

    short : (l : ℕ) → l < length ends → length (key l) ≤ HD.positions
    short l m = let k = get_or keys l 0 in let c = listed k (ready.is_code l (omega (arith, ready.for_keys))) in omega (arith, code-length HD.positions run ends k c, c.short)

    -- the records, one after the other
    abbrev pub records : List ℕ
    records = header_record HD h ++ (weight_record HD h weight ++ ((value_record h value ++ rank_record h value) ++ each (length keys) (λ l. key_record HD h (key l))))

    records-file : records ≡ file_in r v weights values run ends keys
    unfolding file table_records
    records-file = rw ready.for_keys

    -- the file, and after it the bytes that stood there
    pub filled : {after : List ℕ} {to : ℕ} → Wrote 0 records buffer after to → after ≡ file_in r v weights values run ends keys ++ drop (file_length HD h) buffer
    filled w =
        let size : length (file_in r v weights values run ends keys) ≡ file_length HD h = file-size HD h weight value key short in
        wrote_whole (wrote_named records-file w) (omega (arith, ready.room)) ∙ ap (λ k. file_in r v weights values run ends keys ++ drop k buffer) size
