-- The report of a sheet: the lines of the book that its slips write, then a line that tells how the reading of the sheet ended.
use Rattle.std.specs.Prelude.{ℕ, List, [], ◌++◌, Option, None, Some, codes, decimal}
use Rattle.arithmetic.specs.Meaning.{Meaning}
use Rattle.coefficients.specs.Calls.{Making, State, new_bench}
use Rattle.coefficients.specs.Book.{Entry}
use Rattle.bench.specs.Refusals.{detail_text}
use Rattle.calls.specs.Lines.{newline, lines}
use Rattle.sheet.specs.Layout.{Fault}
use Rattle.sheet.specs.Contents.{Ending, whole, broken, Contents, contents}
use Rattle.slips.specs.Book.{book_of}

abbrev pub cause_text : Option ℕ → List ℕ
cause_text None = []
cause_text (Some c) = detail_text c

-- the number of a fault, its slip, its byte, and the cause if a pattern is no number
abbrev pub fault_line : Fault → List ℕ
fault_line f = codes "F " ++ (decimal f.number ++ (detail_text f.place.slip ++ (detail_text f.place.byte ++ (cause_text f.cause ++ newline))))

-- at the sheet's end the count of slips
abbrev pub ending_line : Ending → List ℕ
ending_line (whole slips) = codes "end " ++ (decimal slips ++ newline)
ending_line (broken f) = fault_line f

-- the report of a sheet's contents, on a bench in some state
abbrev pub text_from : Making → State → Contents → List ℕ
text_from b s c = lines b.meaning (book_of c.slips b s) ++ ending_line c.ending

-- the bench of a sheet has the number 1 and the highest order of its header
abbrev pub making : Meaning → ℕ → Making
making m K = record { meaning = m; bench_number = 1; K = K }

-- the book of a sheet, in an arithmetic and with the highest order K
abbrev pub sheet_book : Meaning → ℕ → List ℕ → List Entry
sheet_book m K s = book_of (contents m s).slips (making m K) (new_bench (making m K))

-- its lines, and then the line of the ending
abbrev pub text : Meaning → ℕ → List ℕ → List ℕ
text m K s = lines m (sheet_book m K s) ++ ending_line (contents m s).ending
