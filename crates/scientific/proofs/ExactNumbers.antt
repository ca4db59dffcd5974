-- Sizes in the form with eight digits. More zeros are a larger size, since then the larger has all eight digits: 10^7 with a zero
-- more are 10^8. So the zeros and then the significand order the sizes, and 10^30 units are reached at 23 zeros.
use Rattle.std.proofs.Common.{◌≡◌, ℕ, suc, ◌+◌, ◌*◌, ◌^◌, ◌<◌, ◌≤◌, Bool, true, false, ◌&&◌, leb, ◌⊎◌, ℤ, pos, negsuc, ◌-ℤ◌, neg_ℤ, nat_abs, sym, refl, ap, ◌∙◌, subst, inl, inr, ⊎_elim, le_trans, lt_irrefl, lt_of_le_of_lt, lt_of_lt_of_le, mul-le-mul_right, mul-le-mul, mul-lt-mul_of_pos_right, zero-mul, arith, lit<, w32, to_z, of_z}
use native.Mathlib.Nat.{pow-succ'}
use native.Mathlib.Decide.{dec_le}
use lib.Dec.{leb-suc-zero}
use lib.Signed.{lt_z, le_z}
use Rattle.std.proofs.lemmas.Int.{ints}
use Rattle.std.proofs.lemmas.Bool.Decides.{nat_tests}
use Rattle.integers.proofs.Ring.{ring, at, num, ◌⊗◌, ⊖◌}
use Rattle.integers.proofs.Tests.{leb_yes, leb_no, eqb_no}
use Rattle.rounding.specs.Value.{signed}
use Rattle.arithmetic.specs.Operations.{in_limits}
use Rattle.scientific.specs.Forms.{size_of, with_zeros, is_small, lowest, highest}
use Rattle.scientific.specs.Numbers.{units}
use Rattle.scientific.specs.Patterns.{meaning}
use Rattle.scientific.specs.declared.number.Scientific.{Scientific}
use Rattle.scientific.proofs.Tens.{tens, some_ten}
use Rattle.scientific.proofs.Values.{size_with}
use Rattle.scientific.proofs.Limits.{full_is, small_in, under_highest, from_lowest, below_lowest}
use Rattle.arithmetic.specs.Meaning.{Number}
use Rattle.arithmetic.proofs.Accepted.{zero_is_number}
use Rattle.scientific.specs.declared.precision.Precision.{Precision}
use Rattle.scientific.proofs.TheRules.{rules}
use Rattle.scientific.proofs.CutDigits.{some_size}
use Rattle.scientific.proofs.Meanings.{bounded}

-- ---- signs
negative_is : (n : ℤ) (k : ℕ) → with_zeros (neg_ℤ n) k ≡ neg_ℤ (with_zeros n k)
negative_is n k = ring ((⊖ at n) ⊗ num (10 ^ k)) (⊖ (at n ⊗ num (10 ^ k))) (omega arith)

by_sign : (n : ℤ) (k : ℕ) → signed (lt_z n (pos 0)) (nat_abs n * 10 ^ k) ≡ with_zeros n k
by_sign (pos n) k = ap (λ (t : Bool). signed t (n * 10 ^ k)) (leb-suc-zero n)
by_sign (negsuc n) k = refl

-- ---- the form with eight digits
abbrev Full : ℕ → ℕ → Type 0
Full m k = (m < 10 ^ 8) × ((k ≡ 0) ⊎ (10 ^ 7 ≤ m))

more_zeros : (m k m' k' : ℕ) → Full m k → Full m' k' → k < k' → m * 10 ^ k < m' * 10 ^ k'
more_zeros m k m' k' a b h = lt_of_lt_of_le (mul-lt-mul_of_pos_right a.0 (some_ten k)) (le_trans (ten_more (10 ^ k)) (mul-le-mul (enough b.1) (rw (pow-succ' 10 k) at (tens (suc k) k' h))))
  where
    ten_more : (x : ℕ) → 10 ^ 8 * x ≤ 10 ^ 7 * (10 * x)
    ten_more x = omega arith

    enough : (k' ≡ 0) ⊎ (10 ^ 7 ≤ m') → 10 ^ 7 ≤ m'
    enough (inl e) = absurd (omega arith)
    enough (inr l) = l

abbrev rank : ℕ → ℕ → ℕ
rank m k = k * 10 ^ 8 + m

rank_le : (m k m' k' : ℕ) → Full m k → Full m' k' → rank m k ≤ rank m' k' → m * 10 ^ k ≤ m' * 10 ^ k'
rank_le m k m' k' a b h = go (dec_le (suc k) k')
  where
    weak : {x y : ℕ} → x < y → x ≤ y
    weak l = omega arith

    order : (k < k' → ⊥) → k ≡ k'
    order n = omega (arith, a.0, b.0)

    less : (k < k' → ⊥) → m ≤ m'
    less n = omega (arith, a.0, b.0)

    go : Dec (k < k') → m * 10 ^ k ≤ m' * 10 ^ k'
    go (yes l) = weak (more_zeros m k m' k' a b l)
    go (no n) = rw (← order n) (mul-le-mul_right (10 ^ k) (less n))

rank_lt : (m k m' k' : ℕ) → Full m k → Full m' k' → rank m k < rank m' k' → m * 10 ^ k < m' * 10 ^ k'
rank_lt m k m' k' a b h = go (dec_le (suc k) k')
  where
    order : (k < k' → ⊥) → k ≡ k'
    order n = omega (arith, a.0, b.0)

    less : (k < k' → ⊥) → m < m'
    less n = omega (arith, a.0, b.0)

    go : Dec (k < k') → m * 10 ^ k < m' * 10 ^ k'
    go (yes l) = more_zeros m k m' k' a b l
    go (no n) = rw (← order n) (mul-lt-mul_of_pos_right (less n) (some_ten k))

nothing : Full 0 0
nothing = (lit< tt, inl refl)

-- what orders the sizes orders them with their signs
signed_order : (s t : Bool) (R R' V V' : ℕ) → (R ≤ R' → V ≤ V') → (R' < R → V' < V) → (R' ≤ R → V' ≤ V) → (R < R' → V < V') → (R ≡ 0 → V ≡ 0) → (0 < R → 0 < V) → (R' ≡ 0 → V' ≡ 0) → (0 < R' → 0 < V') → le_z (signed s R) (signed t R') ≡ le_z (signed s V) (signed t V')
signed_order true true R R' V V' a b c e f g h k = grind (arith, ints, nat_tests)
signed_order true false R R' V V' a b c e f g h k = grind (arith, ints, nat_tests)
signed_order false true R R' V V' a b c e f g h k = grind (arith, ints, nat_tests)
signed_order false false R R' V V' a b c e f g h k = grind (arith, ints, nat_tests)

rank_order : (n : ℤ) (k : ℕ) (n' : ℤ) (k' : ℕ) → Full (nat_abs n) k → Full (nat_abs n') k'
    → le_z (signed (lt_z n (pos 0)) (k * 10 ^ 8 + nat_abs n)) (signed (lt_z n' (pos 0)) (k' * 10 ^ 8 + nat_abs n')) ≡ le_z (with_zeros n k) (with_zeros n' k')
rank_order n k n' k' a b = rw (← by_sign n k, ← by_sign n' k')
    (signed_order (lt_z n (pos 0)) (lt_z n' (pos 0)) (rank m k) (rank m' k') (size_of m k) (size_of m' k') (rank_le m k m' k' a b) (rank_lt m' k' m k b a) (rank_le m' k' m k b a) (rank_lt m k m' k' a b) (none m k a) (some m k a) (none m' k' b) (some m' k' b))
  where
    m : ℕ
    m = nat_abs n

    m' : ℕ
    m' = nat_abs n'

    some : (m k : ℕ) → Full m k → 0 < rank m k → 0 < size_of m k
    some m k a h = rank_lt 0 0 m k nothing a h

    none : (m k : ℕ) → Full m k → rank m k ≡ 0 → size_of m k ≡ 0
    none m k a h = let e : m ≡ 0 = omega arith in rw e (zero-mul (10 ^ k))

-- ---- the limits
-- a number is at most 10^40 in size, so only zero and the lower limit are left to tell
limits_some : (d : ℕ) (x : Scientific) → (x.significand ≡ pos 0 → ⊥) → leb lowest (nat_abs (units x)) ≡ in_limits (meaning d) (units x)
unfolding meaning
limits_some d x n = rw (leb_yes (nat_abs (units x)) highest (bounded x), eqb_no (nat_abs (units x)) 0 (some_size x.significand x.zeros n)) (last (leb lowest (nat_abs (units x))))
  where
    last : (t : Bool) → t ≡ (t && true)
    last true = refl
    last false = refl

pub limits_by_lowest : (d : ℕ) (x : Scientific) → (of_z w32 x.significand ≡ 0 → ⊥) → in_limits (meaning d) (units x) ≡ leb lowest (nat_abs (units x))
limits_by_lowest d x n = sym (limits_some d x (λ e. n (ap (of_z w32) e)))

pub lowest_by_zeros : (x : Scientific) → leb 23 x.zeros ≡ leb lowest (nat_abs (units x))
lowest_by_zeros x = go (dec_le 23 x.zeros)
  where
    s : ℕ
    s = nat_abs x.significand

    from : 23 ≤ x.zeros → lowest ≤ nat_abs (units x)
    from h = rw (size_with x.significand x.zeros) (from_lowest s x.zeros (⊎_elim (λ e. absurd (omega arith)) (λ l. l) (full_is s x.zeros x.full).1) h)

    below : x.zeros < 23 → nat_abs (units x) < lowest
    below h = rw (size_with x.significand x.zeros) (below_lowest s x.zeros (full_is s x.zeros x.full).0 h)

    go : Dec (23 ≤ x.zeros) → leb 23 x.zeros ≡ leb lowest (nat_abs (units x))
    go (yes h) = leb_yes 23 x.zeros h ∙ sym (leb_yes lowest (nat_abs (units x)) (from h))
    go (no h) = leb_no 23 x.zeros h ∙ sym (leb_no lowest (nat_abs (units x)) (λ l. lt_irrefl lowest (lt_of_le_of_lt l (below (omega arith)))))

-- ---- comparisons
pub order_by_rank : (a b : Scientific) → le_z (units a) (units b) ≡ le_z (signed (lt_z a.significand (pos 0)) (a.zeros * 10 ^ 8 + nat_abs a.significand)) (signed (lt_z b.significand (pos 0)) (b.zeros * 10 ^ 8 + nat_abs b.significand))
order_by_rank a b = sym (rank_order a.significand a.zeros b.significand b.zeros (full_is (nat_abs a.significand) a.zeros a.full) (full_is (nat_abs b.significand) b.zeros b.full))

-- ---- zero and one
pub zero_number : (p : Precision) → Number (meaning p.digits) (pos 0)
zero_number p = zero_is_number (meaning p.digits) (rules p)

pub one_small : is_small 10000000 63 ≡ true
one_small = small_in 10000000 63 (under_highest 10000000 63 (lit< tt) (lit< tt))

-- ---- with a sign
pub sign_number : (p : Precision) (z : ℤ) → Number (meaning p.digits) (neg_ℤ z) → Number (meaning p.digits) z
sign_number p z n = subst (Number (meaning p.digits)) (twice z) ((rules p).negative_is_number (neg_ℤ z) n)
  where
    twice : (z : ℤ) → neg_ℤ (neg_ℤ z) ≡ z
    twice z = omega (arith, ints)

-- the negative as the machine has it
pub negative_number : (p : Precision) (a : Scientific) → Number (meaning p.digits) (units a) → Number (meaning p.digits) (with_zeros (to_z w32 (of_z w32 (pos 0 -ℤ to_z w32 (of_z w32 a.significand)))) a.zeros)
negative_number p a n = rw (less a.significand (full_is (nat_abs a.significand) a.zeros a.full).0, negative_is a.significand a.zeros) ((rules p).negative_is_number _ n)
  where
    less : (s : ℤ) → nat_abs s < 10 ^ 8 → to_z w32 (of_z w32 (pos 0 -ℤ to_z w32 (of_z w32 s))) ≡ neg_ℤ s
    less s h = omega (arith, ints)
