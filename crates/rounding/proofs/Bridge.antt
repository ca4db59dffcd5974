-- The rounding of specs/Radix in radix 2 is the rounding of the library's model of floats. That model counts the binary
-- digits of the whole part and drops those beyond p, so its exponent is the least that leaves p digits, and what it keeps is
-- the nearest whole number, even at a tie. Both are therefore the one rounding of the fraction.
use Rattle.std.proofs.Common.{◌≡◌, ℕ, zero, suc, ◌+◌, ◌-◌, ◌*◌, ◌/◌, ◌%◌, ◌^◌, ◌<◌, ◌≤◌, not, T, eqb, ℤ, pos, negsuc, neg_ℤ, refl, ap, ◌∙◌, subst, le_trans, mod-lt, mul_assoc, div-lt_iff_lt-mul, mul-pos, div-add-mod', le-div_iff_mul-le, arith, lit≤, eqb→eq, leb→le, pow_pos, pow_mono, pow-add}
use Prim.Native.Nat.{compare, Ordering}
use lib.Dec.{is_le, compare_is_eq, nleb→lt, eqb_refl}
use lib.Arith.{lt_of_le-ne}
use lib.Ieee.{size, nearest}
use lib.Ieee.Digits.{size-lt, size_reaches}
use lib.Ieee.Nearest.{closest}
use lib.Ieee.Order.{kept, drop}
use Rattle.rounding.proofs.Model.{rounding, rounded}
use Rattle.rounding.proofs.FloatRounding.{rounded_same}
use Rattle.rounding.specs.Radix.{rounded as defined, rounding as defined_rounding}
use Rattle.rounding.proofs.Nearest.{Nearest}
use Rattle.rounding.proofs.Rounded.{Rounds, rounds, one_rounds}

abbrev Cmp : Ordering → ℕ → ℕ → Type 0
Cmp Ordering.lt a b = a < b
Cmp Ordering.eq a b = a ≡ b
Cmp Ordering.gt a b = b < a

cmp : (a b : ℕ) → Cmp (compare a b) a b
cmp a b = go (compare a b) (leb→le a b) (nleb→lt a b) (eqb→eq a b) (λ (e : a ≡ b). subst (λ (x : ℕ). T (eqb a x)) e (eqb_refl a))
  where
    go : (o : Ordering) → (T (is_le o) → a ≤ b) → (T (not (is_le o)) → b < a) → (T (compare_is_eq o) → a ≡ b) → (a ≡ b → T (compare_is_eq o)) → Cmp o a b
    go Ordering.lt h k e n = lt_of_le-ne (h tt) n
    go Ordering.eq h k e n = e tt
    go Ordering.gt h k e n = k tt

near_by : (n d w r : ℕ) (o : Ordering) → w * d + r ≡ n → r < d → Cmp o (r * 2) d → Nearest n d (nearest w o)
near_by n d w r Ordering.lt e h c = record { not_above = omega arith; not_below = omega arith; even_down = λ x. absurd (omega arith); even_up = λ x. absurd (omega arith) }
near_by n d w r Ordering.gt e h c = record { not_above = omega arith; not_below = omega arith; even_down = λ x. absurd (omega arith); even_up = λ x. absurd (omega arith) }
near_by n d w r Ordering.eq e h c = tie (w % 2) refl (mod-lt w (omega arith))
  where
    tie : (t : ℕ) → w % 2 ≡ t → t < 2 → Nearest n d (w + t)
    tie zero q l = record { not_above = omega arith; not_below = omega arith; even_down = λ x. omega arith; even_up = λ x. absurd (omega arith) }
    tie (suc zero) q l = record { not_above = omega arith; not_below = omega arith; even_down = λ x. absurd (omega arith); even_up = λ x. omega arith }
    tie (suc (suc t)) q l = absurd (omega arith)

closest_near : (n d : ℕ) → 0 < d → Nearest n d (closest n d)
closest_near n d h = near_by n d (n / d) (n % d) (compare (n % d * 2) d) (div-add-mod' n d) (mod-lt n h) (cmp (n % d * 2) d)

-- the rounding of lib.Ieee is one to p digits
ieee_rounds : (p n d : ℕ) → 0 < d → Rounds 2 p n d (rounded p n d)
unfolding rounded
ieee_rounds p n d D =
    record {
      e = k;
      m = kept p n d;
      is = refl;
      under = subst (λ (z : ℕ). n < z) (group (2 ^ p) (2 ^ k) d) (subst (λ (z : ℕ). n < z * d) (pow-add 2 p k) ((div-lt_iff_lt-mul D).0 (up (n / d) (size-lt (n / d)))));
      least = least;
      near = closest_near n (d * 2 ^ k) (mul-pos D (pow_pos k));
    }
  where
    k : ℕ
    k = drop p n d

    group : (x y d : ℕ) → x * y * d ≡ d * x * y
    group x y d = omega arith

    up : (w : ℕ) → w < 2 ^ size w → w < 2 ^ (p + (size w - p))
    up w h = le_trans h (pow_mono {i = size w} {j = p + (size w - p)} (omega arith))

    least : (j : ℕ) → k ≡ suc j → d * 2 ^ p * 2 ^ j ≤ n
    least j e = subst (λ (z : ℕ). z ≤ n) (group (2 ^ p) (2 ^ j) d) (subst (λ (z : ℕ). z * d ≤ n) (pow-add 2 p j) ((le-div_iff_mul-le D).0 (size_reaches (n / d) (p + j) (omega arith))))

-- the definitions' rounding and lib.Ieee's are one
pub one_rounding : (p n d : ℕ) → 0 < p → 0 < d → defined 2 p n d ≡ rounded p n d
one_rounding p n d P D = one_rounds 2 p (lit≤ tt) P n d n d (defined 2 p n d) (rounded p n d) D D refl (rounds 2 p (lit≤ tt) P n d D) (ieee_rounds p n d D)

-- in units of 1/Q: z / (Q d), of the definitions, is z / d units
pub in_units : (p Q : ℕ) (z : ℤ) (d : ℕ) → 0 < p → 0 < Q → 0 < d → defined_rounding 2 p Q z (Q * d) ≡ rounding p z d
unfolding Rattle.rounding.specs.Radix.rounding rounding
in_units p Q (pos n) d P H D = ap pos (one_rounding p (n * Q) (Q * d) P (mul-pos H D) ∙ rounded_same p (n * Q) (Q * d) n d (mul-pos H D) D (mul_assoc n Q d))
in_units p Q (negsuc n) d P H D = ap (λ (k : ℕ). neg_ℤ (pos k)) (one_rounding p (suc n * Q) (Q * d) P (mul-pos H D) ∙ rounded_same p (suc n * Q) (Q * d) (suc n) d (mul-pos H D) D (mul_assoc (suc n) Q d))
