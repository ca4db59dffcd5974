-- What a making promises, clause by clause, from a row that was made new and has kept its length.
use Rattle.std.proofs.Common.{◌≡◌, ℕ, ◌-◌, List, length, sym, ap, ◌∙◌}
use Rattle.arithmetic.specs.Meaning.{Meaning}
use Rattle.arithmetic.specs.Setting.{Setting}
use Rattle.coefficients.specs.Row.{new_row}
use Rattle.coefficients.specs.Calls.{Making, new_bench}
use Rattle.coefficients.specs.Law.{BookLaw}
use Rattle.coefficients.proofs.Books.{book_law}
use Rattle.row.specs.declared.cell.Cell.{Cell}
use Rattle.row.specs.Reading.{readings}

pub made : (m : Meaning) (number long long' : ℕ) → long' ≡ long → ◌≡◌ {A = Making} (record { meaning = m; bench_number = number; K = long' - 1 }) (record { meaning = m; bench_number = number; K = long - 1 })
made m number long long' e = ap (λ l. record { meaning = m; bench_number = number; K = l - 1 }) e

pub stands_new : {P : Type 0} (st : Setting P) (row : List (Cell P)) (bench long : ℕ) → length row ≡ long → readings st row ≡ new_row st.meaning (long - 1) →
    record { row = readings st row; held = 0; out = 0 } ≡ new_bench (record { meaning = st.meaning; bench_number = bench; K = length row - 1 })
stands_new st row bench long e f = ap (λ r. record { row = r; held = 0; out = 0 }) (f ∙ ap (λ l. new_row st.meaning (l - 1)) (sym e))

pub book : BookLaw
book = book_law
