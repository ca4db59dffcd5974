-- The worked figures, by computation.
use Rattle.std.proofs.Common.{◌≡◌, ℕ, ◌≤◌, pos, refl}
use Rattle.rounding.specs.Radix.{nearest, exponent, rounded, rounding}
use Rattle.arithmetic.specs.Operations.{sum, product, lift, grain, product_error, sum_split, product_split}
use Rattle.binary64.specs.Limits.{least, reach}
use Rattle.binary64.specs.Patterns.{significand, size, admission, unsigned, written, admitted, pattern, meaning}
use Rattle.coefficients.specs.Row.{new_cell, row_after}
use Rattle.coefficients.specs.Closing.{closed, verdict}
use Rattle.coefficients.specs.Calls.{step}
use Rattle.scientific.specs.Forms.{lowest, highest}
use Rattle.scientific.specs.Patterns.{meaning as decimal, one_form, admission as decimal_admission, reads, zeros, written as decimal_written, admitted as decimal_admitted, pattern as decimal_pattern}
use Rattle.scientific.proofs.Precisions.{each_precision}
use Rattle.card.specs.Figures.{places, holding, asks, adds, marks, Binary64Figures, OneTwoThree, EightDigitFigures, FourDigitFigures, Figures}

binary64_figures : Binary64Figures
unfolding nearest exponent rounded rounding sum product lift grain product_error sum_split product_split least reach significand size admission unsigned written admitted pattern meaning new_cell row_after closed verdict step holding asks adds marks
binary64_figures = record { no_zeros = refl; card = refl; minus_six = refl; above_zeros = refl; claim_right = refl; claim_wrong = refl; claim_open = refl; below_zero = refl; smallest = refl; too_small = refl; too_large = refl }

eight_digit_figures : EightDigitFigures (decimal 8)
unfolding decimal lowest highest nearest exponent rounded rounding sum product lift grain product_error sum_split product_split new_cell row_after closed verdict step holding asks adds marks
eight_digit_figures = record {
  square = refl;
  claim_open = refl;
  claim_right = refl;
  claim_wrong = refl;
  cancelled = refl;
  split_up = refl;
  split_exact = refl;
  order_1 = refl;
}

one_two_three : (d : ℕ) → 4 ≤ d → d ≤ 8 → OneTwoThree (decimal d)
unfolding decimal lowest highest one_form decimal_admission zeros decimal_written decimal_admitted decimal_pattern nearest exponent rounded rounding sum product lift grain product_error sum_split product_split new_cell row_after closed verdict step
one_two_three = each_precision (λ d. OneTwoThree (decimal d)) refl refl refl refl refl

four_digit_figures : FourDigitFigures (decimal 4)
unfolding decimal lowest highest nearest exponent rounded rounding sum product lift grain product_error sum_split product_split new_cell row_after closed verdict step holding asks adds marks
four_digit_figures = record { square = refl; order_1 = refl; order_2 = refl; order_3 = refl; claim_open = refl; claim_right = refl; claim_wrong = refl }

other_digits : reads 4 (decimal_written 8 (places 10000002 7)) ≡ pos 0
unfolding lowest highest one_form decimal_admission reads zeros decimal_written exponent
other_digits = refl

pub figures : Figures
figures = record { of_binary64 = binary64_figures; of_each_decimal = one_two_three; of_eight_digits = eight_digit_figures; of_four_digits = four_digit_figures; other_digits = other_digits }
