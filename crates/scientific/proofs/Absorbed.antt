-- A number is not moved by what is less than half a unit of the digit after its last: S, with the last digit at 10^(k + 1), plus or
-- minus L with 2 L below 10^k rounds to S. Where S − L falls below the least number with that last digit, it has one digit more
-- and is rounded at 10^k, to the same S. So a number of eight digits absorbs one whose zeros are eleven or more fewer.
use Rattle.std.proofs.Common.{◌≡◌, ℕ, suc, ◌+◌, ◌-◌, ◌*◌, ◌^◌, ◌<◌, ◌≤◌, sym, refl, ap, ◌∙◌, subst, lt_of_lt_of_le, lt_of_le_of_lt, mul-le-mul_right, lt_of_mul-lt-mul_right, mul-one, arith, lit≤}
use native.Mathlib.Nat.{pow-succ'}
use native.Mathlib.Decide.{dec_le}
use Rattle.integers.proofs.Naturals.{before}
use Rattle.rounding.specs.Digits.{Digits}
use Rattle.rounding.specs.Radix.{rounded}
use Rattle.rounding.proofs.Nearest.{Nearest}
use Rattle.rounding.proofs.Numbers.{digits_stay}
use Rattle.rounding.proofs.Rounded.{Rounds, rounds, one_rounds}
use Rattle.scientific.specs.Forms.{size_of}
use Rattle.scientific.proofs.Tens.{tens, some_ten, below, joined, ten}

-- S + L and S − L have S nearest, as m times D, where 2 L is below D
near_plus : (S L D m : ℕ) → S ≡ m * D → 2 * L < D → Nearest (S + L) (1 * D) m
near_plus S L D m e h = record { not_above = omega arith; not_below = omega arith; even_down = λ q. absurd (omega arith); even_up = λ q. absurd (omega arith) }

near_minus : (S L D m : ℕ) → S ≡ m * D → 2 * L < D → L ≤ S → Nearest (S - L) (1 * D) m
near_minus S L D m e h l = record { not_above = omega arith; not_below = omega arith; even_down = λ q. absurd (omega arith); even_up = λ q. absurd (omega arith) }

module _ (d S L k m : ℕ) (P : 1 ≤ d) (is : S ≡ m * 10 ^ suc k) (under : S < 10 ^ d * 10 ^ suc k) (least : 10 ^ d * 10 ^ k ≤ S) (small : 2 * L < 10 ^ k) where
  top : 10 ^ suc k ≡ 10 * 10 ^ k
  top = pow-succ' 10 k

  significand : m < 10 ^ d
  significand = lt_of_mul-lt-mul_right (10 ^ suc k) (rw is at under)

  -- L is less than S
  less : L ≤ S
  less = plain (10 ^ d) (10 ^ k) (some_ten d) least small
    where
      plain : (x y : ℕ) → 0 < x → x * y ≤ S → 2 * L < y → L ≤ S
      plain x y p h l = omega (arith, mul-le-mul_right y p)

  round_is : (n : ℕ) → Rounds 10 d n 1 S → rounded 10 d n 1 ≡ S
  round_is n a = one_rounds 10 d ten P n 1 n 1 _ _ (lit≤ tt) (lit≤ tt) refl (rounds 10 d ten P n 1 (lit≤ tt)) a

  at_least : (j n : ℕ) → suc k ≡ suc j → 10 ^ d * 10 ^ k ≤ n → 1 * 10 ^ d * 10 ^ j ≤ n
  at_least j n q h = let e : k ≡ j = omega arith in rw (← e) (omega arith)

  plus : rounded 10 d (S + L) 1 ≡ S
  plus = round_is (S + L) (record { e = suc k; m = m; is = is; under = rw top (room (10 ^ d) (10 ^ k) significand (rw top at is) small); least = λ j q. at_least j (S + L) q (omega arith); near = near_plus S L (10 ^ suc k) m is (rw top (omega arith)) })
    where
      room : (x y : ℕ) → m < x → S ≡ m * (10 * y) → 2 * L < y → S + L < 1 * x * (10 * y)
      room x y h e l = omega (arith, mul-le-mul_right (10 * y) h)

  -- where S − L keeps the last digit, and where it has one more
  kept : 10 ^ d * 10 ^ k ≤ S - L → Rounds 10 d (S - L) 1 S
  kept h = record { e = suc k; m = m; is = is; under = room; least = λ j q. at_least j (S - L) q h; near = near_minus S L (10 ^ suc k) m is (rw top (omega arith)) less }
    where
      room : S - L < 1 * 10 ^ d * 10 ^ suc k
      room = omega (arith, under)

  one_more : S - L < 10 ^ d * 10 ^ k → Rounds 10 d (S - L) 1 S
  one_more h = record { e = k; m = m * 10; is = own; under = omega arith; least = deeper; near = near_minus S L (10 ^ k) (m * 10) own small less }
    where
      own : S ≡ m * 10 * 10 ^ k
      own = is ∙ rw top (regroup m (10 ^ k))
        where
          regroup : (m x : ℕ) → m * (10 * x) ≡ m * 10 * x
          regroup m x = omega arith

      deeper : (j : ℕ) → k ≡ suc j → 1 * 10 ^ d * 10 ^ j ≤ S - L
      deeper j q = plain (10 ^ d) (10 ^ j) (some_ten d) (rw (q, pow-succ' 10 j) at least) (rw (q, pow-succ' 10 j) at small)
        where
          plain : (x y : ℕ) → 0 < x → x * (10 * y) ≤ S → 2 * L < 10 * y → 1 * x * y ≤ S - L
          plain x y p h l = omega (arith, mul-le-mul_right y p)

  minus : rounded 10 d (S - L) 1 ≡ S
  minus = round_is (S - L) (go (dec_le (10 ^ d * 10 ^ k) (S - L)))
    where
      go : Dec (10 ^ d * 10 ^ k ≤ S - L) → Rounds 10 d (S - L) 1 S
      go (yes h) = kept h
      go (no h) = one_more (omega arith)

-- ---- a number s with z zeros, of eight digits, and l with y zeros, eleven or more fewer
module _ (d s z l y : ℕ) (P : 1 ≤ d) (few : d ≤ 8) (number : Digits 10 d (size_of s z)) (long : 10 ^ 7 ≤ s) (short : l < 10 ^ 8) (far : y + 10 < z) where
  abbrev S : ℕ
  S = size_of s z

  stays : rounded 10 d S 1 ≡ S
  stays = ap (λ (x : ℕ). rounded 10 d x 1) (sym (mul-one S)) ∙ digits_stay 10 d ten P S 1 (lit≤ tt) number

  a : Rounds 10 d S 1 S
  a = subst (Rounds 10 d S 1) stays (rounds 10 d ten P S 1 (lit≤ tt))

  large : 10 ^ (7 + z) ≤ S
  large = rw (← joined 7 z (7 + z) refl) (mul-le-mul_right (10 ^ z) long)

  -- the last digit is at 10^z or above
  last : z ≤ a.e
  last = let h = below (7 + z) (8 + a.e) (lt_of_le_of_lt large (lt_of_lt_of_le a.under wide)) in omega arith
    where
      wide : 1 * 10 ^ d * 10 ^ a.e ≤ 10 ^ (8 + a.e)
      wide = rw (← joined 8 a.e (8 + a.e) refl) (omega (arith, mul-le-mul_right (10 ^ a.e) (tens d 8 few)))

  k : (k : ℕ) × (a.e ≡ suc k)
  k = before a.e (omega (arith, last))

  small : 2 * size_of l y < 10 ^ k.0
  small = lt_of_lt_of_le (rw (← joined 9 y (9 + y) refl) (plain (10 ^ y) (some_ten y) short)) (tens (9 + y) k.0 (omega (arith, last, k.1)))
    where
      plain : (x : ℕ) → 0 < x → l < 10 ^ 8 → 2 * (l * x) < 10 ^ 9 * x
      plain x p h = omega (arith, mul-le-mul_right x h)

  once : (x y : ℕ) → 1 * x * y ≡ x * y
  once x y = omega arith

  least : 10 ^ d * 10 ^ k.0 ≤ S
  least = rw (once (10 ^ d) (10 ^ k.0)) at (a.least k.0 k.1)

  under : S < 10 ^ d * 10 ^ suc k.0
  under = subst (λ (e : ℕ). S < 10 ^ d * 10 ^ e) k.1 (rw (once (10 ^ d) (10 ^ a.e)) at a.under)

  is : S ≡ a.m * 10 ^ suc k.0
  is = a.is ∙ ap (λ (e : ℕ). a.m * 10 ^ e) k.1

  pub absorbs_more : rounded 10 d (size_of s z + size_of l y) 1 ≡ size_of s z
  absorbs_more = plus d S (size_of l y) k.0 a.m P is under least small

  pub absorbs_less : rounded 10 d (size_of s z - size_of l y) 1 ≡ size_of s z
  absorbs_less = minus d S (size_of l y) k.0 a.m P is under least small

  pub no_more : size_of l y ≤ size_of s z
  no_more = less d S (size_of l y) k.0 a.m P is under least small
