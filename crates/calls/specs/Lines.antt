-- The lines that tell the entries of a book: of each answer a letter for the call and its values, or the number and the details of a refusal.
use Rattle.std.specs.Prelude.{ℕ, List, [], ◌∷◌, ◌++◌, flat_map, codes, decimal}
use Rattle.arithmetic.specs.Meaning.{Meaning}
use Rattle.coefficients.specs.Book.{Entry}
use Rattle.closing.specs.Words.{word}
use Rattle.bench.specs.Refusals.{detail_text}
use Rattle.patterns.specs.Patterns.{byte_text}
use Rattle.calls.specs.Told.{Values, zero_number, coefficient, judgement, no_values, details, Told, told, answers}
use Rattle.calls.specs.declared.answer.Answer.{Answer}

-- an answer with a number; a pattern is shown by its sixteen digits
abbrev pub text_of : ℕ → Values → List ℕ
text_of n (zero_number i) = codes "Z " ++ decimal i
text_of n (coefficient k v b) = codes "K " ++ (decimal k ++ (codes " " ++ (flat_map byte_text v ++ (codes " " ++ flat_map byte_text b))))
text_of n (judgement k v) = codes "M " ++ (decimal k ++ (codes " " ++ word v))
text_of n no_values = codes "C"
text_of n (details ds) = codes "R " ++ (decimal n ++ flat_map detail_text ds)

abbrev pub told_text : Told → List ℕ
told_text t = text_of t.number t.values

-- how an answer of the code is shown
abbrev pub answer_text : Answer → List ℕ
answer_text a = told_text (told a)

-- a line ends with byte 10
abbrev pub newline : List ℕ
newline = 10 ∷ []

abbrev pub line : Told → List ℕ
line t = told_text t ++ newline

abbrev pub lines : Meaning → List Entry → List ℕ
lines m es = flat_map line (answers m es)
