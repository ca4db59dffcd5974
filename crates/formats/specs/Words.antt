-- The formats of the code as those of the definitions, and the words that name them.
use Rattle.std.specs.Prelude.{ℕ, List, ◌++◌, Ok, Err, Result, ◌≡◌, ◌≢◌, codes, decimal as numeral}
use Rattle.formats.specs.Formats.{Format as DefinedFormat, binary64, decimal}
use Rattle.formats.specs.declared.Format.{Format}
use Rattle.formats.specs.declared.Format.TheVariants.{Binary64, Decimal}
use Rattle.formats.specs.declared.NotAFormat.{NotAFormat}

abbrev pub told_format : Format → DefinedFormat
told_format Binary64 = binary64
told_format (Decimal p) = decimal p.digits

-- the word of each format; behind that of decimal stands how many digits it has
abbrev pub format_name : Format → List ℕ
format_name Binary64 = codes "binary64"
format_name (Decimal p) = codes "decimal" ++ numeral p.digits

-- the format that a word names; an error for a word that names none
abbrev pub Names : List ℕ → Result Format NotAFormat → Type 0
Names word (Ok f) = word ≡ format_name f
Names word (Err e) = (f : Format) → word ≢ format_name f
