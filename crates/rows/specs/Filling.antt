-- A text filled with blanks to a width. Assumes nothing.
use Rattle.std.specs.Prelude.{List, ◌++◌, ℕ, ◌-◌, length, replicate}
use Rattle.directory.specs.Listing.{blank}
use Rattle.rows.specs.declared.Side.{Side}
use Rattle.rows.specs.declared.Side.TheVariants.{Left, Right}

abbrev pub blanks : ℕ → List ℕ
blanks count = replicate count blank

-- as many blanks as are missing, on one side; none where the text is as wide already
unfoldable pub filled : Side → ℕ → List ℕ → List ℕ
filled Left width t = blanks (width - length t) ++ t
filled Right width t = t ++ blanks (width - length t)
