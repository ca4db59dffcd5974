-- Closing an order to a value and its error bound, and the verdict on a claim.
use Rattle.std.specs.Prelude.{ℕ, zero, suc, ◌-◌, ◌*◌, cond, ℤ, pos, neg_ℤ, int_le, int_lt}
use Rattle.arithmetic.specs.Meaning.{Meaning}
use Rattle.arithmetic.specs.Operations.{sum, product, lift, grain, sum_split, size}
use Rattle.coefficients.specs.Exact.{signed}
use Rattle.coefficients.specs.Row.{Cell, Trial, done, operation}

pub record Closed : Type 0 where
  pub value : ℤ
  pub bound : ℤ

-- the six operations of closing order k, with n zeros held
unfoldable pub closed : Meaning → Cell → ℕ → ℕ → Trial Closed
closed m c n k =
    operation 1 (sum_split m c.S c.C) (λ vc.
    operation 2 (lift m (grain m (2 * (n - 1))) (2 * (n - 1))) (λ γ.
    operation 3 (product m γ c.E) (λ e.
    operation 4 (lift m e (3 * n)) (λ α.
    operation 5 (sum m (size vc.error) α) (λ s.
    operation 6 (lift m s 2) (λ b.
    done (record { value = signed k vc.main; bound = b })))))))

-- order 0 is 1 with the bound 0, and carries out no operation
abbrev pub close : Meaning → Cell → ℕ → ℕ → Trial Closed
close m c n zero = done (record { value = pos m.Q; bound = pos 0 })
close m c n (suc k) = closed m c n (suc k)

pub data Verdict : Type 0 where
  right : Verdict
  wrong : Verdict
  left_open : Verdict

-- right when near is at most T; otherwise wrong when far is below d; otherwise open
abbrev pub judged : ℤ → ℤ → ℤ → ℤ → Verdict
judged T d near far = cond (int_le near T) right (cond (int_lt far d) wrong left_open)

-- the verdict on a claim within the tolerance T: all five operations are carried out before it is chosen
unfoldable pub verdict : Meaning → Closed → ℤ → ℤ → Trial Verdict
verdict m v claim T =
    operation 1 (sum m claim (neg_ℤ v.value)) (λ d.
    operation 2 (sum m (size d) v.bound) (λ a.
    operation 3 (lift m a 3) (λ near.
    operation 4 (sum m T v.bound) (λ b.
    operation 5 (lift m b 3) (λ far.
    done (judged T (size d) near far))))))
