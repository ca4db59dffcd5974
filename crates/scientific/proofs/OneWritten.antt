-- How a number is written. With the least k for which its size is below 10^d · 10^k, the size is a whole multiple of 10^k, since
-- some m · 10^e with m below 10^d and so an e of at least k is equal to it. The quotient M is below 10^d, and at least 10^(d−1)
-- unless k is 0: this is the one form, and it is admitted as that number.
use Rattle.std.proofs.Common.{◌≡◌, ℕ, ◌+◌, ◌-◌, ◌*◌, ◌^◌, ◌<◌, ◌≤◌, Bool, true, cond, ◌&&◌, ◌||◌, eqb, ltb, leb, ◌⊎◌, ℤ, pos, ◌-ℤ◌, ◌*ℤ◌, nat_abs, sym, refl, ap, ◌∙◌, subst, inl, inr, zero-le, le_trans, lt_of_mul-lt-mul_right, mul-lt-mul_of_pos_right, mul-pos, zero-mul, le_of_mul-le-mul_right, arith, lit<, lit≤, pow-add}
use native.Mathlib.Nat.{pow-succ', zero-div}
use native.Mathlib.Decide.{dec_le, ℕ_discrete}
use lib.Signed.{quot_z}
use lib.IntN.{zero-*ℤ}
use Rattle.std.proofs.lemmas.Int.{ints}
use Rattle.std.proofs.lemmas.Bool.Decides.{nat_tests}
use Rattle.integers.proofs.Integers.{abs_mul, quot_exact}
use Rattle.integers.proofs.Naturals.{before}
use Rattle.integers.proofs.Tests.{eqb_no}
use Rattle.rounding.specs.Digits.{Digits}
use Rattle.rounding.proofs.Rounded.{H_is}
use Rattle.arithmetic.specs.Meaning.{Number, number}
use Rattle.scientific.specs.Forms.{with_zeros, highest}
use Rattle.scientific.specs.Patterns.{zeros, written, admission, reads, meaning}
use Rattle.scientific.proofs.Tens.{tens, some_ten}
use Rattle.scientific.proofs.OneForm.{signed_multiple}
use Rattle.scientific.proofs.LeastZeros.{Least, zeros_least, no_more}
use Rattle.scientific.proofs.NumberOf.{bound_of}
use Rattle.scientific.proofs.Meanings.{digits_of}
use Rattle.scientific.proofs.Admissions.{admission_yes, reads_number}

-- ---- the quotient
-- M · 10^k is z, in the one form
pub record Shape (d : ℕ) (z : ℤ) (M : ℤ) (k : ℕ) : Type 0 where
  pub is : M *ℤ pos (10 ^ k) ≡ z
  pub few : nat_abs M < 10 ^ d
  pub full : (k ≡ 0) ⊎ (10 ^ (d - 1) ≤ nat_abs M)

multiple : (d n k : ℕ) → Least d n k → Digits 10 d n → (t : ℕ) × (n ≡ t * 10 ^ k)
multiple d n k l g = (g.m * 10 ^ (g.e - k), g.is ∙ ap (λ x. g.m * x) split ∙ regroup g.m (10 ^ k) (10 ^ (g.e - k)))
  where
    regroup : (m x y : ℕ) → m * (x * y) ≡ m * y * x
    regroup m x y = omega arith

    under : (n m x y : ℕ) → n ≡ m * x → m < y → 0 < x → n < y * x
    under n m x y e h p = rw e (mul-lt-mul_of_pos_right h p)

    order : k ≤ g.e
    order = no_more d n k g.e l (under n g.m (10 ^ g.e) (10 ^ d) g.is g.few (some_ten g.e))

    split : 10 ^ g.e ≡ 10 ^ k * 10 ^ (g.e - k)
    split = ap (λ x. 10 ^ x) (parts k g.e order) ∙ pow-add 10 k (g.e - k)
      where
        parts : (a b : ℕ) → a ≤ b → b ≡ a + (b - a)
        parts a b q = omega arith

written_m : (d : ℕ) (z : ℤ) → (written d z).m ≡ quot_z z (pos (10 ^ zeros d z))
unfolding written
written_m d z = refl

pub shape : (d : ℕ) (z : ℤ) → 1 ≤ d → Digits 10 d (nat_abs z) → Shape d z (written d z).m (zeros d z)
shape d z h g = subst (λ (m : ℤ). Shape d z m k) (sym m_is) (record { is = w.1; few = rw w.2 small; full = rw w.2 (large (ℕ_discrete k 0)) })
  where
    k : ℕ
    k = zeros d z

    l : Least d (nat_abs z) k
    l = zeros_least d z

    t : (t : ℕ) × (nat_abs z ≡ t * 10 ^ k)
    t = multiple d (nat_abs z) k l g

    w : (w : ℤ) × (w *ℤ pos (10 ^ k) ≡ z) × (nat_abs w ≡ t.0)
    w = signed_multiple z (10 ^ k) t.0 t.1

    m_is : (written d z).m ≡ w.0
    m_is = written_m d z ∙ ap (λ (y : ℤ). quot_z y (pos (10 ^ k))) (sym w.1) ∙ quot_exact w.0 (10 ^ k) (some_ten k)

    small : t.0 < 10 ^ d
    small = lt_of_mul-lt-mul_right (10 ^ k) (rw t.1 at l.under)

    large : Dec (k ≡ 0) → (k ≡ 0) ⊎ (10 ^ (d - 1) ≤ t.0)
    large (yes q) = inl q
    large (no q) = let j = before k (omega arith) in inr (le_of_mul-le-mul_right {k = 10 * 10 ^ j.0} (shared (10 ^ (d - 1)) (10 ^ j.0) t.0 (rw (t.1, H_is 10 d (lit≤ tt) h, ap (λ x. 10 ^ x) j.1, pow-succ' 10 j.0) at (l.least j.0 j.1))) (mul-pos (lit< tt) (some_ten j.0)))
      where
        shared : (H x t : ℕ) → 10 * H * x ≤ t * (10 * x) → H * (10 * x) ≤ t * (10 * x)
        shared H x t q = omega arith

-- ---- how many zeros there are
below_highest : (i : ℕ) → 10 ^ i ≤ highest → i ≤ 110
unfolding highest
below_highest i h = go (dec_le i 110)
  where
    apart : (x y z : ℕ) → x ≤ y → y < z → z ≤ x → ⊥
    apart x y z p q r = omega arith

    go : Dec (i ≤ 110) → i ≤ 110
    go (yes l) = l
    go (no l) = absurd (apart (10 ^ i) (10 ^ 110) (10 ^ 111) h (lit< tt) (tens 111 i (omega arith)))

pub few_zeros : (d : ℕ) (z : ℤ) → nat_abs z ≤ highest → zeros d z ≤ 111 - d
few_zeros d z h = go (ℕ_discrete (zeros d z) 0)
  where
    go : Dec (zeros d z ≡ 0) → zeros d z ≤ 111 - d
    go (yes q) = omega arith
    go (no q) = let j = before (zeros d z) (omega arith) in omega (arith, j.1, below_highest (d + j.0) (rw (pow-add 10 d j.0) (le_trans ((zeros_least d z).least j.0 j.1) h)))

-- ---- what is written is admitted
formed : (m k H L : ℕ) → (m ≡ 0 → ⊥) → m < L → (k ≡ 0) ⊎ (H ≤ m) → cond (eqb m 0) (eqb k 70) (ltb m L && (eqb k 0 || leb H m)) ≡ true
formed m k H L n p q = grind (arith, nat_tests)

written_zero : (d : ℕ) → written d (pos 0) ≡ record { m = pos 0; e = pos 0 }
unfolding written
written_zero d = ap (λ (x : ℕ). record { m = pos x; e = pos 0 }) (zero-div (10 ^ zeros d (pos 0)))

pub written_none : (d : ℕ) (s : ℤ) (q : ℕ) → s ≡ pos 0 → record { m = pos 0; e = pos 0 } ≡ written d (with_zeros s q)
written_none d s q e = sym (ap (written d) (ap (λ (x : ℤ). with_zeros x q) e ∙ zero-*ℤ (pos (10 ^ q))) ∙ written_zero d)

module _ (d : ℕ) (z : ℤ) (h : 1 ≤ d) (l : d ≤ 8) (N : Number (meaning d) z) where
  written_e : (nat_abs z ≡ 0 → ⊥) → (written d z).e ≡ pos (zeros d z) -ℤ pos 70
  unfolding written
  written_e n = ap (λ (t : Bool). cond t (pos 0) (pos (zeros d z) -ℤ pos 70)) (eqb_no (nat_abs z) 0 n)

  s : Shape d z (written d z).m (zeros d z)
  s = shape d z h (digits_of d h z N)

  size : nat_abs (written d z).m * 10 ^ zeros d z ≡ nat_abs z
  size = sym (abs_mul (written d z).m (pos (10 ^ zeros d z))) ∙ ap nat_abs s.is

  some : (nat_abs z ≡ 0 → ⊥) → number z ≡ admission d (written d z).m (written d z).e
  some n = rw (written_e n) (ap number (sym s.is) ∙ admission_yes d (written d z).m (zeros d z) l (few_zeros d z (bound_of d z N))
      (formed (nat_abs (written d z).m) (zeros d z) (10 ^ (d - 1)) (10 ^ d) (λ e. n (sym size ∙ rw e (zero-mul (10 ^ zeros d z)))) s.few s.full) (rw size (bound_of d z N)))

  none : nat_abs z ≡ 0 → number z ≡ admission d (written d z).m (written d z).e
  none e = rw (zero_of z e) (rw (written_zero d) (admission_yes d (pos 0) 70 l (omega arith) refl zero-le))
    where
      zero_of : (z : ℤ) → nat_abs z ≡ 0 → z ≡ pos 0
      zero_of z e = omega (arith, ints)

  pub written_admitted : number z ≡ admission d (written d z).m (written d z).e
  written_admitted = go (ℕ_discrete (nat_abs z) 0)
    where
      go : Dec (nat_abs z ≡ 0) → number z ≡ admission d (written d z).m (written d z).e
      go (yes e) = none e
      go (no n) = some n

  pub written_reads : reads d (written d z) ≡ z
  written_reads = sym (reads_number d (written d z) z written_admitted)

  -- M and e are small
  pub small_m : nat_abs (written d z).m < 10 ^ d
  small_m = s.few
