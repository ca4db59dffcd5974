-- M and e that read as a number other than 0 are those that the number is written with. They are in the one form with some zeros
-- behind M, and these are the least zeros for which the size is below 10^d with them: M is below 10^d, and at least 10^(d−1) where
-- there is a zero. The quotient of M with these zeros by their power of ten is M.
use Rattle.std.proofs.Common.{◌≡◌, ℕ, suc, ◌-◌, ◌*◌, ◌^◌, ◌≤◌, true, cond, ◌&&◌, ◌||◌, eqb, ltb, leb, ℤ, pos, nat_abs, sym, refl, ap, ◌∙◌, inl, inr, mul-le-mul_right, mul-lt-mul_of_pos_right, zero-mul, arith, lit≤}
use native.Mathlib.Nat.{pow-succ'}
use native.Mathlib.Decide.{ℕ_discrete}
use Rattle.std.proofs.lemmas.Int.{ints}
use Rattle.std.proofs.lemmas.Bool.Decides.{nat_tests}
use Rattle.integers.proofs.Integers.{abs_mul, quot_exact}
use Rattle.rounding.proofs.Rounded.{H_is}
use Rattle.arithmetic.specs.Meaning.{Admission, number, not_admitted}
use Rattle.arithmetic.specs.Setting.{ZeroOrWritten}
use Rattle.scientific.specs.Forms.{is_form}
use Rattle.scientific.specs.Patterns.{admission, reads, written, setting}
use Rattle.scientific.specs.declared.precision.Precision.{Precision}
use Rattle.scientific.specs.declared.written.Written.{Written}
use Rattle.scientific.proofs.Tens.{some_ten}
use Rattle.scientific.proofs.LeastZeros.{Least, zeros_is}
use Rattle.scientific.proofs.CutDigits.{written_by}
use Rattle.scientific.proofs.Admissions.{Admitted, admitted_by, few_digits, reads_number, reads_none}

full_digits : (d m k : ℕ) → is_form d m k ≡ true → (m ≡ 0 → ⊥) → (k ≡ 0 → ⊥) → 10 ^ (d - 1) ≤ m
full_digits d m k f n z = full m (10 ^ d) (10 ^ (d - 1)) k f n z
  where
    full : (m L H k : ℕ) → cond (eqb m 0) (eqb k 70) (ltb m L && (eqb k 0 || leb H m)) ≡ true → (m ≡ 0 → ⊥) → (k ≡ 0 → ⊥) → H ≤ m
    full m L H k f n z = grind (arith, nat_tests)

form_least : (d m k : ℕ) → 1 ≤ d → is_form d m k ≡ true → (m ≡ 0 → ⊥) → Least d (m * 10 ^ k) k
form_least d m k h f n = record { under = mul-lt-mul_of_pos_right (few_digits d m k f) (some_ten k); least = least }
  where
    wide : (H m x : ℕ) → H ≤ m → 10 * H * x ≤ m * (10 * x)
    wide H m x l = omega (arith, mul-le-mul_right (10 * x) l)

    least : (j : ℕ) → k ≡ suc j → 10 ^ d * 10 ^ j ≤ m * 10 ^ k
    least j e = rw (H_is 10 d (lit≤ tt) h, ap (λ x. 10 ^ x) e, pow-succ' 10 j) (wide (10 ^ (d - 1)) m (10 ^ j) (full_digits d m k f n (λ z. absurd (omega arith))))

module _ (p : Precision) (w : Written) where
  abbrev d : ℕ
  d = p.digits

  module _ (z : ℤ) (t : Admitted d w.m w.e z) (n : nat_abs z ≡ 0 → ⊥) where
    size : nat_abs w.m * 10 ^ t.k ≡ nat_abs z
    size = sym (abs_mul w.m (pos (10 ^ t.k))) ∙ ap nat_abs t.is

    own_zeros : Least d (nat_abs z) t.k
    own_zeros = rw (← size) (form_least d (nat_abs w.m) t.k (omega (arith, p.least)) t.form (λ e. n (sym size ∙ rw e (zero-mul (10 ^ t.k)))))

    own_form : w ≡ written d z
    own_form = written_by d z t.k w (zeros_is d z t.k own_zeros) n (sym (rw (← t.is) (quot_exact w.m (10 ^ t.k) (some_ten t.k)))) t.behind

  admitted_form : (z : ℤ) → admission d w.m w.e ≡ number z → ZeroOrWritten (setting d) w
  admitted_form z e = go (ℕ_discrete (nat_abs z) 0)
    where
      is : z ≡ reads d w
      is = reads_number d w z (sym e)

      zero_of : (z : ℤ) → nat_abs z ≡ 0 → z ≡ pos 0
      zero_of z q = omega (arith, ints)

      go : Dec (nat_abs z ≡ 0) → ZeroOrWritten (setting d) w
      go (yes q) = inl (sym is ∙ zero_of z q)
      go (no n) = inr (ap (written d) (sym is) ∙ sym (own_form z (admitted_by d w.m w.e z p.most e) n))

  by_admission : (a : Admission) → admission d w.m w.e ≡ a → ZeroOrWritten (setting d) w
  by_admission (number z) e = admitted_form z e
  by_admission (not_admitted c) e = inl (sym (reads_none d w c (sym e)))

  pub zero_or_written : ZeroOrWritten (setting d) w
  zero_or_written = by_admission (admission d w.m w.e) refl
