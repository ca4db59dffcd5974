-- The numbers of p digits in radix B: multiples of B^e of at most B^p such. A multiple of B^e that is B^p of them exactly is
-- a number too, with one zero more. What is rounded is a number, since its significand is at most B^p, and a number is left
-- unchanged.
use Rattle.std.proofs.Common.{◌≡◌, ℕ, suc, ◌+◌, ◌-◌, ◌*◌, ◌^◌, ◌<◌, ◌≤◌, sym, ap, ◌∙◌, mul-le-mul_right, le_of_mul-le-mul_right, arith, pow-add}
use native.Mathlib.Nat.{pow-succ'}
use native.Mathlib.Decide.{dec_le}
use Rattle.integers.proofs.Naturals.{dist, dist_times, some_power}
use Rattle.rounding.specs.Radix.{rounded}
use Rattle.rounding.specs.Digits.{Digits}
use Rattle.rounding.proofs.Rounded.{Rounds, rounds, stays, at_most_digits, H_is}

-- a multiple of x
pub record Multiple (x v : ℕ) : Type 0 where
  pub times : ℕ
  pub is : v ≡ times * x

pub multiple_sum : (x a b : ℕ) → Multiple x a → Multiple x b → Multiple x (a + b)
multiple_sum x a b h k = record { times = h.times + k.times; is = omega (arith, h.is, k.is) }

pub multiple_dist : (x a b : ℕ) → Multiple x a → Multiple x b → Multiple x (dist a b)
multiple_dist x a b h k = record { times = dist h.times k.times; is = rw (h.is, k.is) (dist_times h.times k.times x) }

module _ (B p : ℕ) (base : 2 ≤ B) (digits : 1 ≤ p) where
  pub multiple_power : (i j v : ℕ) → i ≤ j → Multiple (B ^ j) v → Multiple (B ^ i) v
  multiple_power i j v l h = record { times = h.times * B ^ (j - i); is = h.is ∙ ap (λ x. h.times * x) split ∙ regroup h.times (B ^ i) (B ^ (j - i)) }
    where
      parts : j ≡ i + (j - i)
      parts = omega arith

      split : B ^ j ≡ B ^ i * B ^ (j - i)
      split = ap (λ x. B ^ x) parts ∙ pow-add B i (j - i)

      regroup : (t x y : ℕ) → t * (x * y) ≡ t * y * x
      regroup t x y = omega arith

  -- a multiple of B^e that is not above B^(p+e)
  pub digits_from : (v e : ℕ) → Multiple (B ^ e) v → v ≤ B ^ p * B ^ e → Digits B p v
  digits_from v e h l = go (dec_le (suc h.times) (B ^ p))
    where
      few : h.times ≤ B ^ p
      few = le_of_mul-le-mul_right {k = B ^ e} (omega (arith, h.is)) (some_power B e (omega arith))

      go : Dec (suc h.times ≤ B ^ p) → Digits B p v
      go (yes k) = record { m = h.times; e = e; is = h.is; few = k }
      go (no k) = record { m = B ^ (p - 1); e = suc e; is = h.is ∙ ap (λ x. x * B ^ e) top ∙ rw (H_is B p base digits, pow-succ' B e) (regroup B (B ^ (p - 1)) (B ^ e)); few = rw (H_is B p base digits) (less (B ^ (p - 1)) (some_power B (p - 1) (omega arith))) }
        where
          top : h.times ≡ B ^ p
          top = omega (arith, few)

          regroup : (b x y : ℕ) → b * x * y ≡ x * (b * y)
          regroup b x y = omega arith

          less : (x : ℕ) → 0 < x → x < B * x
          less x q = omega (arith, mul-le-mul_right x base)

  pub digits_rounded : (n d : ℕ) → 0 < d → Digits B p (rounded B p n d)
  digits_rounded n d h = digits_from _ a.e (record { times = a.m; is = a.is }) (rw a.is (mul-le-mul_right (B ^ a.e) (at_most_digits B p base digits n d _ h a)))
    where
      a : Rounds B p n d (rounded B p n d)
      a = rounds B p base digits n d h

  pub digits_stay : (v d : ℕ) → 0 < d → Digits B p v → rounded B p (v * d) d ≡ v
  digits_stay v d h k = rw k.is (stays B p base digits k.m k.e d h (omega (arith, k.few)))

  pub digits_zero : Digits B p 0
  digits_zero = record { m = 0; e = 0; is = sym (none (B ^ 0)); few = some_power B p (omega arith) }
    where
      none : (x : ℕ) → 0 * x ≡ 0
      none x = omega arith
