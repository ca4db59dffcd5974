-- The rules of the tables, each by one test that antt computes at all entries, one after the other. A rule has the test of its table as
-- a premise, so a wrong entry leaves open what is said of the function that reads it. Then what the least digits say: a number of so
-- many bits has the digits that its entry says, or one more; and that a product by a factor, shifted, is the quotient.
use Rattle.std.proofs.Common.{pow_pos, ◌/◌, ◌≡◌, ℕ, zero, suc, ◌+◌, ◌-◌, ◌*◌, ◌^◌, ◌<◌, ◌≤◌, Bool, true, ◌&&◌, T, eqb, ltb, leb, List, [], ◌∷◌, length, get_or, sym, refl, ◌∙◌, subst, le_of_suc-le-suc, not-suc-le-zero, add-one, add-zero, add-suc, suc-add, zero-add, arith, eqb→eq, ltb→lt, leb→le}
use native.Mathlib.Nat.{pow-succ'}
use Rattle.std.proofs.Math.Nat.{div-div-eq-div-mul, div-eq_of_lt-le, div-mul-le_self, lt-div-mul-add, mul-le-mul_left, lt_of_mul-lt-mul_left}
use Rattle.std.proofs.lemmas.Nat.{pow-add}
use Rattle.scientific.proofs.Tens.{some_ten}
use lib.Count.{count_leading_zeros, leading_length}
use Rattle.integers.proofs.Tests.{both}
use Rattle.scientific.specs.declared.tables.TheConstants.{POWERS, LEAST_DIGITS, FACTORS, SHIFTS}

-- the test f passes at each entry of the list and its place, counted from i
abbrev every : (ℕ → ℕ → Bool) → ℕ → List ℕ → Bool
every f i [] = true
every f i (x ∷ xs) = f i x && every f (suc i) xs

from : (f : ℕ → ℕ → Bool) (xs : List ℕ) (i : ℕ) → T (every f i xs) → (k : ℕ) → k < length xs → T (f (i + k) (get_or xs k 0))
from f [] i t k h = absurd (not-suc-le-zero h)
from f (x ∷ xs) i t zero h = subst (λ (m : ℕ). T (f m x)) (sym (add-zero i)) (both (f i x) (every f (suc i) xs) t).0
from f (x ∷ xs) i t (suc k) h =
    subst (λ (m : ℕ). T (f m (get_or xs k 0))) (suc-add i k ∙ sym (add-suc i k))
    (from f xs (suc i) (both (f i x) (every f (suc i) xs) t).1 k (le_of_suc-le-suc h))

passes : (f : ℕ → ℕ → Bool) (xs : List ℕ) → every f 0 xs ≡ true → (k : ℕ) → k < length xs → T (f k (get_or xs k 0))
passes f xs t k h = subst (λ (m : ℕ). T (f m (get_or xs k 0))) (zero-add k) (from f xs 0 (subst T (sym t) tt) k h)

three : (a b c : Bool) → T (a && (b && c)) → T a × T b × T c
three a b c t = let p = both a (b && c) t in let q = both b c p.1 in (p.0, q.0, q.1)

-- ---- the powers of ten
abbrev is_power : ℕ → ℕ → Bool
is_power k x = eqb x (10 ^ k)

pub power_at : (k : ℕ) → k ≤ 19 → every is_power 0 POWERS ≡ true → get_or POWERS k 0 ≡ 10 ^ k
power_at k h t = eqb→eq (get_or POWERS k 0) (10 ^ k) (passes is_power POWERS t k (omega arith))

-- ---- the least digits of so many bits: x digits reach at most 2^(bits − 1) and then pass it, so they are the digits of that power
abbrev is_least : ℕ → ℕ → Bool
is_least bits x = leb (10 ^ x) (5 * 2 ^ bits) && ltb (2 ^ bits) (2 * 10 ^ x)

module _ (bits : ℕ) (h : bits ≤ 64) (right : every is_least 0 LEAST_DIGITS ≡ true) where
  abbrev x : ℕ
  x = get_or LEAST_DIGITS bits 0

  at_bits : T (leb (10 ^ x) (5 * 2 ^ bits)) × T (ltb (2 ^ bits) (2 * 10 ^ x))
  at_bits = both _ _ (passes is_least LEAST_DIGITS right bits (omega arith))

  pub least_reached : 10 ^ get_or LEAST_DIGITS bits 0 ≤ 5 * 2 ^ bits
  least_reached = leb→le _ _ at_bits.0

  pub least_past : 2 ^ bits < 2 * 10 ^ get_or LEAST_DIGITS bits 0
  least_past = ltb→lt _ _ at_bits.1

abbrev is_few : ℕ → ℕ → Bool
is_few bits x = leb x 19

pub least_few : (bits : ℕ) → bits ≤ 64 → get_or LEAST_DIGITS bits 0 ≤ 19
least_few bits h = leb→le _ _ (passes is_few LEAST_DIGITS refl bits (omega arith))

-- n has x digits or one more
module _ (n x : ℕ) (fits : n < 2 ^ 64) where
  abbrev bits : ℕ
  bits = 64 - count_leading_zeros 64 n

  length_is : (n < 2 ^ bits) × (2 ^ bits ≤ 2 * n + 1)
  length_is = let l = leading_length 64 n fits in let e : l.0 ≡ bits = omega (arith, l.1) in rw (← e) (l.2, l.3)

  pub under_next : 2 ^ (64 - count_leading_zeros 64 n) < 2 * 10 ^ x → n < 10 ^ (x + 1)
  under_next past = rw (add-one x, pow-succ' 10 x) (omega (arith, length_is.0))

  pub from_last : (k : ℕ) → 10 ^ x ≤ 5 * 2 ^ (64 - count_leading_zeros 64 n) → x ≡ suc k → 10 ^ k ≤ n
  from_last k reached e = low (10 ^ k) (2 ^ bits) (rw (e, pow-succ' 10 k) at reached) length_is.1
    where
      low : (y z : ℕ) → 10 * y ≤ 5 * z → z ≤ 2 * n + 1 → y ≤ n
      low y z a b = omega arith

-- ---- factors and shifts: a factor is 2^(62 + s) / 10^k, rounded up
abbrev is_factor : ℕ → ℕ → Bool
is_factor k m = leb (2 ^ (62 + get_or SHIFTS k 0)) (m * 10 ^ k) && (leb (m * 10 ^ k) (2 ^ (62 + get_or SHIFTS k 0) + 2 ^ get_or SHIFTS k 0) && leb (get_or SHIFTS k 0) 50)

record Factor (k m s : ℕ) : Type 0 where
  pub least : 2 ^ (62 + s) ≤ m * 10 ^ k
  pub most : m * 10 ^ k ≤ 2 ^ (62 + s) + 2 ^ s
  pub few : s ≤ 50

module _ (k : ℕ) (h : k ≤ 15) (right : every is_factor 0 FACTORS ≡ true) where
  abbrev m : ℕ
  m = get_or FACTORS k 0

  abbrev s : ℕ
  s = get_or SHIFTS k 0

  factor_at : Factor k m s
  factor_at = let p = three (leb (2 ^ (62 + s)) (m * 10 ^ k)) (leb (m * 10 ^ k) (2 ^ (62 + s) + 2 ^ s)) (leb s 50) (passes is_factor FACTORS right k (omega arith)) in
      record { least = leb→le _ _ p.0; most = leb→le _ _ p.1; few = leb→le _ _ p.2 }

-- the product by a factor, shifted, is the quotient
quotient_least : (q D m T n : ℕ) → q * D ≤ n → T ≤ m * D → q * T ≤ n * m
quotient_least q D m T n a b = omega (arith, mul-le-mul_left q b, mul-le-mul_left m a)

quotient_most : (q D m T P n : ℕ) → n < suc q * D → m * D ≤ T + P → n * P < T → n * m < suc q * T
quotient_most q D m T P n a b c = lt_of_mul-lt-mul_left D (omega (arith, mul-le-mul_left n b, mul-le-mul_left T a))

-- by four times as much
four_least : (q n m S : ℕ) → q * (2 ^ 62 * S) ≤ n * m → q * (2 ^ 64 * S) ≤ n * 4 * m
four_least q n m S h = omega (arith, h)

four_most : (q n m S : ℕ) → n * m < suc q * (2 ^ 62 * S) → n * 4 * m < (q + 1) * (2 ^ 64 * S)
four_most q n m S h = omega (arith, h)

divides : (n k m s : ℕ) → n < 2 ^ 62 → Factor k m s → n * 4 * m / 2 ^ 64 / 2 ^ s ≡ n / 10 ^ k
divides n k m s h F = div-div-eq-div-mul (n * 4 * m) (2 ^ 64) (2 ^ s) ∙ div-eq_of_lt-le (2 ^ 64 * 2 ^ s) (four_least (n / 10 ^ k) n m (2 ^ s) low) (four_most (n / 10 ^ k) n m (2 ^ s) high)
  where
    split : 2 ^ (62 + s) ≡ 2 ^ 62 * 2 ^ s
    split = pow-add 2 62 s

    low : n / 10 ^ k * (2 ^ 62 * 2 ^ s) ≤ n * m
    low = subst (λ (t : ℕ). n / 10 ^ k * t ≤ n * m) split (quotient_least (n / 10 ^ k) (10 ^ k) m (2 ^ (62 + s)) n (div-mul-le_self n (10 ^ k)) F.least)

    high : n * m < suc (n / 10 ^ k) * (2 ^ 62 * 2 ^ s)
    high = subst (λ (t : ℕ). n * m < suc (n / 10 ^ k) * t) split
        (quotient_most (n / 10 ^ k) (10 ^ k) m (2 ^ (62 + s)) (2 ^ s) n (omega (arith, lt-div-mul-add {a = n} {b = 10 ^ k} (some_ten k))) F.most (omega (arith, split, pow_pos s, mul-le-mul_left (2 ^ s) h)))

pub divided_at : (n k : ℕ) → n < 2 ^ 62 → k ≤ 15 → every is_factor 0 FACTORS ≡ true → n * 4 * get_or FACTORS k 0 / 2 ^ 64 / 2 ^ get_or SHIFTS k 0 ≡ n / 10 ^ k
divided_at n k h l right = divides n k _ _ h (factor_at k l right)
