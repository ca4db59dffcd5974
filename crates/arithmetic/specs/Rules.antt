-- The rules that an arithmetic must show. That an answer depends on the operands alone is no field: every operation is a
-- function of them.
use Rattle.std.specs.Prelude.{◌≡◌, ℕ, ◌-◌, ◌*◌, ◌<◌, ◌≤◌, List, All, length, ℤ, pos, ◌+ℤ◌, ◌-ℤ◌, ◌*ℤ◌, neg_ℤ, unsigned_abs}
use Rattle.std.proofs.Math.Option.{some}
use Rattle.arithmetic.specs.Meaning.{Meaning, Number, number}
use Rattle.arithmetic.specs.Operations.{sum, product, lift, grain, sum_error, product_error}

-- r/Q errs from n/d by at most u times n/d, and by at most u times r/Q
pub record Close (m : Meaning) (n : ℤ) (d : ℕ) (r : ℤ) : Type 0 where
  pub by_exact : m.U * unsigned_abs (r *ℤ pos d -ℤ n *ℤ pos m.Q) ≤ unsigned_abs n * m.Q
  pub by_rounded : m.U * unsigned_abs (r *ℤ pos d -ℤ n *ℤ pos m.Q) ≤ unsigned_abs r * d

pub record Rules (m : Meaning) : Type 0 where
  -- U is at least 1,000; low is above 0 and at most 1; high is at least 1
  pub some_scale : 0 < m.Q
  pub fine : 1000 ≤ m.U
  pub low_above_zero : 0 < m.low
  pub low_at_most_one : m.low ≤ m.Q
  pub one_at_most_high : m.Q ≤ m.high
  -- rounding gives one multiple for each fraction, however it is written, and rounding twice is rounding once
  pub one_for_each : (n n' : ℤ) (d d' : ℕ) → 0 < d → 0 < d' → n *ℤ pos d' ≡ n' *ℤ pos d → m.rounding n d ≡ m.rounding n' d'
  pub twice_is_once : (n : ℤ) (d : ℕ) → 0 < d → m.rounding (m.rounding n d) m.Q ≡ m.rounding n d
  -- an accepted rounded sum, product or lift errs by at most u times the exact and u times the rounded result
  pub sum_close : (a b r : ℤ) → Number m a → Number m b → sum m a b ≡ some r → Close m (a +ℤ b) m.Q r
  pub product_close : (a b r : ℤ) → Number m a → Number m b → product m a b ≡ some r → Close m (a *ℤ b) (m.Q * m.Q) r
  pub lift_close : (a r : ℤ) (k : ℕ) → k ≤ 192 → Number m a → lift m a k ≡ some r → Close m (a *ℤ pos m.U) (m.Q * (m.U - k)) r
  -- one, every error part, every grain and every negative of a number are numbers
  pub one_is_number : Number m (pos m.Q)
  pub sum_error_is_number : (a b r : ℤ) → Number m a → Number m b → sum m a b ≡ some r → Number m (sum_error a b r)
  pub product_error_is_number : (a b r : ℤ) → Number m a → Number m b → product m a b ≡ some r → Number m (product_error m a b r)
  pub grain_is_number : (k : ℕ) → k ≤ 192 → Number m (grain m k)
  pub negative_is_number : (a : ℤ) → Number m a → Number m (neg_ℤ a)
  -- the two parts of a product split make the exact product, and a grain is exactly k u
  pub product_error_is_exact : (a b r : ℤ) → Number m a → Number m b → product m a b ≡ some r → pos m.Q *ℤ (r +ℤ product_error m a b r) ≡ a *ℤ b
  pub grain_is_exact : (k : ℕ) → k ≤ 192 → grain m k *ℤ pos m.U ≡ pos k *ℤ pos m.Q
  -- what is admitted is a number; each number is written as one pattern of eight bytes, which is admitted as that number
  pub admitted_is_number : (bytes : List ℕ) (a : ℤ) → m.admit bytes ≡ number a → Number m a
  pub pattern_is_admitted : (a : ℤ) → Number m a → m.admit (m.pattern a) ≡ number a
  pub pattern_is_eight : (a : ℤ) → length (m.pattern a) ≡ 8
  pub pattern_is_bytes : (a : ℤ) → All (λ x. x < 256) (m.pattern a)
