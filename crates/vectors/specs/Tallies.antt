-- What a tally counts: one score for each operation.
use Rattle.std.specs.Prelude.{Bool}
use Rattle.comparison.specs.Scores.{no_answers, counted}
use Rattle.vectors.specs.declared.tally.Tally.{Tally}
use Rattle.vectors.specs.declared.tally.Operation.{Operation}
use Rattle.vectors.specs.declared.tally.Operation.TheVariants.{Sum, SplitSum, Product, SplitProduct, Lift, Admission, Comparison}

-- before any answer
abbrev pub no_vectors : Tally
no_vectors =
    record { sum = no_answers; split_sum = no_answers; product = no_answers; split_product = no_answers; lift = no_answers; admission = no_answers; comparison = no_answers }

-- after one answer of an operation more: its score alone has counted it
abbrev pub noted : Tally → Operation → Bool → Tally
noted t Sum agrees = record t { sum = counted t.sum agrees }
noted t SplitSum agrees = record t { split_sum = counted t.split_sum agrees }
noted t Product agrees = record t { product = counted t.product agrees }
noted t SplitProduct agrees = record t { split_product = counted t.split_product agrees }
noted t Lift agrees = record t { lift = counted t.lift agrees }
noted t Admission agrees = record t { admission = counted t.admission agrees }
noted t Comparison agrees = record t { comparison = counted t.comparison agrees }
