-- The report of a sheet, byte for byte.
use Rattle.std.specs.Prelude.{ℕ, List}
use Rattle.formats.specs.Formats.{meaning_of}
use Rattle.sheet.specs.Layout.{Opening, opened, refused, opening}
use Rattle.report.specs.Text.{fault_line, text}

-- by the header: where it is refused, the line of its fault; else the report of the slips
abbrev pub by_header : List ℕ → Opening → List ℕ
by_header s (opened format K) = text (meaning_of format) K s
by_header s (refused f) = fault_line f

abbrev pub report : List ℕ → List ℕ
report s = by_header s (opening s)
