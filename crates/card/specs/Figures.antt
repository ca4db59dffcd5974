-- The worked figures: what the definitions give on small cards, in binary64 and in decimal.
use Rattle.std.specs.Prelude.{◌≡◌, ℕ, ◌-◌, ◌*◌, ◌^◌, ◌≤◌, List, [], ◌∷◌, ℤ, pos, neg_ℤ}
use Rattle.std.proofs.Math.Option.{some}
use Rattle.arithmetic.specs.Meaning.{Meaning}
use Rattle.arithmetic.specs.Operations.{sum_split}
use Rattle.binary64.specs.Patterns.{meaning, pattern}
use Rattle.scientific.specs.Patterns.{meaning as decimal, written, reads}
use Rattle.coefficients.specs.Closing.{right, wrong, left_open}
use Rattle.coefficients.specs.Calls.{Making, State, Call, Answer, step, new_bench, add_number, mark_numbers, add, clear, ask, issue, added, cleared, asked, marked, refused}

-- bench number 1
abbrev pub bench_of : Meaning → ℕ → Making
bench_of m K = record { meaning = m; bench_number = 1; K = K }

-- a new bench after the zeros of a list
abbrev pub after_zeros : Making → State → List ℤ → State
after_zeros b s [] = s
after_zeros b s (z ∷ zs) = after_zeros b (add_number b s z).then zs

unfoldable pub holding : Making → List ℤ → State
holding b zs = after_zeros b (new_bench b) zs

-- what a bench with these zeros answers to an asking, and to the addition of one more zero
unfoldable pub asks : Meaning → ℕ → List ℤ → ℕ → Answer
asks m K zs k = (step (bench_of m K) (holding (bench_of m K) zs) (ask k)).answer

unfoldable pub adds : Meaning → ℕ → List ℤ → ℤ → Answer
adds m K zs z = (add_number (bench_of m K) (holding (bench_of m K) zs) z).answer

-- what it answers to a claim with a tolerance, once a question is issued
unfoldable pub marks : Meaning → ℕ → List ℤ → ℕ → ℤ → ℤ → Answer
marks m K zs k claim T = (mark_numbers (bench_of m K) (step (bench_of m K) (holding (bench_of m K) zs) (issue k)).then 1 k claim T).answer

-- the answers of a list of calls
abbrev pub answers : Making → State → List Call → List Answer
answers b s [] = []
answers b s (c ∷ cs) = (step b s c).answer ∷ answers b (step b s c).then cs

-- ---- numbers
-- the whole number n
abbrev pub whole : Meaning → ℕ → ℤ
whole m n = pos (n * m.Q)

-- 2^(n − 1074)
abbrev pub binary : ℕ → ℤ
binary n = pos (2 ^ n)

-- n · 10^−e, for e at most 70
abbrev pub places : ℕ → ℕ → ℤ
places n e = pos (n * 10 ^ (70 - e))

-- ---- the table
pub record Binary64Figures : Type 0 where
  -- no zeros: order 0 is 1 with the bound 0
  pub no_zeros : asks meaning 3 [] 0 ≡ asked (whole meaning 1) (pos 0)
  -- zeros 1, 2, 3: the coefficients 1, −6, 11, −6 with bounds 0; here as calls of one bench with a refused addition of 2^900, a
  -- refused asking and a clearing
  pub card : answers (bench_of meaning 3) (new_bench (bench_of meaning 3))
      (add (pattern (whole meaning 1)) ∷ add (pattern (whole meaning 2)) ∷ add (pattern (whole meaning 3)) ∷ ask 0 ∷ ask 1 ∷ ask 2 ∷ ask 3 ∷ add (pattern (binary 1974)) ∷ ask 4 ∷ clear ∷ [])
      ≡ added 1 ∷ added 2 ∷ added 3 ∷ asked (whole meaning 1) (pos 0) ∷ asked (neg_ℤ (whole meaning 6)) (pos 0) ∷ asked (whole meaning 11) (pos 0) ∷ asked (neg_ℤ (whole meaning 6)) (pos 0) ∷
      refused 5 (3 ∷ 1 ∷ []) ∷ refused 6 [] ∷ cleared ∷ []
  -- the pattern of −6
  pub minus_six : pattern (neg_ℤ (whole meaning 6)) ≡ 192 ∷ 24 ∷ 0 ∷ 0 ∷ 0 ∷ 0 ∷ 0 ∷ 0 ∷ []
  -- two zeros: order 3 is above them, though the row has it
  pub above_zeros : asks meaning 3 (whole meaning 1 ∷ whole meaning 2 ∷ []) 3 ≡ refused 7 []
  -- the claim −6 of order 1 with the tolerance 0.5 is right, −5 is wrong, −6.5 is open; a tolerance of −1 is refused
  pub claim_right : marks meaning 3 (whole meaning 1 ∷ whole meaning 2 ∷ whole meaning 3 ∷ []) 1 (neg_ℤ (whole meaning 6)) (binary 1073) ≡ marked right
  pub claim_wrong : marks meaning 3 (whole meaning 1 ∷ whole meaning 2 ∷ whole meaning 3 ∷ []) 1 (neg_ℤ (whole meaning 5)) (binary 1073) ≡ marked wrong
  pub claim_open : marks meaning 3 (whole meaning 1 ∷ whole meaning 2 ∷ whole meaning 3 ∷ []) 1 (neg_ℤ (pos (13 * 2 ^ 1073))) (binary 1073) ≡ marked left_open
  pub below_zero : marks meaning 3 (whole meaning 1 ∷ whole meaning 2 ∷ whole meaning 3 ∷ []) 1 (neg_ℤ (whole meaning 6)) (neg_ℤ (whole meaning 1)) ≡ refused 11 []
  -- 2^−450 twice: order 2 is 2^−900 with the bound 0
  pub smallest : asks meaning 2 (binary 624 ∷ binary 624 ∷ []) 2 ≡ asked (binary 174) (pos 0)
  -- the second 2^−460 is refused: the product is too small
  pub too_small : adds meaning 2 (binary 614 ∷ []) (binary 614) ≡ refused 5 (2 ∷ 1 ∷ [])
  -- the second 2^900 is refused: the sum is too large
  pub too_large : adds meaning 1 (binary 1974 ∷ []) (binary 1974) ≡ refused 5 (1 ∷ 2 ∷ [])

-- with any count of digits: no zeros, order 0 is 1 with the bound 0; then the zeros 1, 2, 3: the coefficients 1, −6, 11, −6 with bounds 0
abbrev pub OneTwoThree : Meaning → Type 0
OneTwoThree m =
    answers (bench_of m 3) (new_bench (bench_of m 3)) (ask 0 ∷ add (m.pattern (whole m 1)) ∷ add (m.pattern (whole m 2)) ∷ add (m.pattern (whole m 3)) ∷ ask 0 ∷ ask 1 ∷ ask 2 ∷ ask 3 ∷ [])
    ≡ asked (whole m 1) (pos 0) ∷ added 1 ∷ added 2 ∷ added 3 ∷ asked (whole m 1) (pos 0) ∷ asked (neg_ℤ (whole m 6)) (pos 0) ∷ asked (whole m 11) (pos 0) ∷ asked (neg_ℤ (whole m 6)) (pos 0) ∷ []

-- with eight digits
pub record EightDigitFigures (m : Meaning) : Type 0 where
  -- 1.0000001 twice: order 2 is 1.0000002 with the bound 1.0000002 · 10^−14
  pub square : asks m 2 (places 10000001 7 ∷ places 10000001 7 ∷ []) 2 ≡ asked (places 10000002 7) (places 10000002 21)
  -- then the claim 1.0000002 is open with the tolerance 0 and right with 2 · 10^−14; the claim 1.0000003 is wrong with 0
  pub claim_open : marks m 2 (places 10000001 7 ∷ places 10000001 7 ∷ []) 2 (places 10000002 7) (pos 0) ≡ marked left_open
  pub claim_right : marks m 2 (places 10000001 7 ∷ places 10000001 7 ∷ []) 2 (places 10000002 7) (places 2 14) ≡ marked right
  pub claim_wrong : marks m 2 (places 10000001 7 ∷ places 10000001 7 ∷ []) 2 (places 10000003 7) (pos 0) ≡ marked wrong
  -- zeros 10^10, 45, 45, −10^10, 1.2345678: order 1 is −91.234568 with the bound 3.6200045 · 10^−5
  pub cancelled : asks m 5 (whole m (10 ^ 10) ∷ whole m 45 ∷ whole m 45 ∷ neg_ℤ (whole m (10 ^ 10)) ∷ places 12345678 7 ∷ []) 1 ≡ asked (neg_ℤ (places 91234568 6)) (places 36200045 12)
  -- 99999999 and 0.5 split to 10^8 and −0.5; 10000000 and 0.5 to 10000000 and 0.5
  pub split_up : sum_split m (whole m 99999999) (places 5 1) ≡ some (record { main = whole m (10 ^ 8); error = neg_ℤ (places 5 1) })
  pub split_exact : sum_split m (whole m 10000000) (places 5 1) ≡ some (record { main = whole m 10000000; error = places 5 1 })
  -- the zeros 1.234, 5.678, 9.012: order 1 is −15.924 with the bound 0
  pub order_1 : asks m 3 (places 1234 3 ∷ places 5678 3 ∷ places 9012 3 ∷ []) 1 ≡ asked (neg_ℤ (places 15924 3)) (pos 0)

-- with four digits: what fewer digits do to a value and its bound
pub record FourDigitFigures (m : Meaning) : Type 0 where
  -- 1.001 twice: order 2 is 1.002 with the bound 1.002 · 10^−6
  pub square : asks m 2 (places 1001 3 ∷ places 1001 3 ∷ []) 2 ≡ asked (places 1002 3) (places 1002 9)
  -- the zeros 1.234, 5.678, 9.012: four digits do not hold the coefficients −15.924, 69.297596 and −63.143947824
  pub order_1 : asks m 3 (places 1234 3 ∷ places 5678 3 ∷ places 9012 3 ∷ []) 1 ≡ asked (neg_ℤ (places 1592 2)) (places 4012 6)
  pub order_2 : asks m 3 (places 1234 3 ∷ places 5678 3 ∷ places 9012 3 ∷ []) 2 ≡ asked (places 6930 2) (places 2411 6)
  pub order_3 : asks m 3 (places 1234 3 ∷ places 5678 3 ∷ places 9012 3 ∷ []) 3 ≡ asked (neg_ℤ (places 6314 2)) (places 3964 6)
  -- then the claim −15.92 of order 1 is open with the tolerance 0 and right with 0.01; the claim −15.93 is wrong with 0
  pub claim_open : marks m 3 (places 1234 3 ∷ places 5678 3 ∷ places 9012 3 ∷ []) 1 (neg_ℤ (places 1592 2)) (pos 0) ≡ marked left_open
  pub claim_right : marks m 3 (places 1234 3 ∷ places 5678 3 ∷ places 9012 3 ∷ []) 1 (neg_ℤ (places 1592 2)) (places 1 2) ≡ marked right
  pub claim_wrong : marks m 3 (places 1234 3 ∷ places 5678 3 ∷ places 9012 3 ∷ []) 1 (neg_ℤ (places 1593 2)) (pos 0) ≡ marked wrong

pub record Figures : Type 0 where
  pub of_binary64 : Binary64Figures
  pub of_each_decimal : (d : ℕ) → 4 ≤ d → d ≤ 8 → OneTwoThree (decimal d)
  pub of_eight_digits : EightDigitFigures (decimal 8)
  pub of_four_digits : FourDigitFigures (decimal 4)
  -- 1.0000002 as a cell keeps it with eight digits reads as 0 with four
  pub other_digits : reads 4 (written 8 (places 10000002 7)) ≡ pos 0
