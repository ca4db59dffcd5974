-- Rounding with a sign. The size of what is rounded is the rounding of the size, and a fraction and its negative are rounded
-- alike, so each law is shown for sizes and then carried over: of two results with the sign of the fraction the distances
-- are those of the sizes, and a number on the other side of 0 is farther off than 0 is.
use Rattle.std.proofs.Common.{◌≡◌, ℕ, zero, suc, ◌+◌, ◌*◌, ◌<◌, ◌≤◌, ℤ, pos, negsuc, ◌-ℤ◌, ◌*ℤ◌, neg_ℤ, nat_abs, ◌≤ℤ◌, sym, refl, ap, ◌∙◌, subst, mul-le-mul_right, mul-pos, arith}
use lib.IntN.{neg_ℤ-neg_ℤ}
use Rattle.std.proofs.lemmas.Int.{ints}
use Rattle.integers.proofs.Ring.{ring, at, num, ◌⊕◌, ◌⊗◌, ⊖◌}
use Rattle.integers.proofs.Integers.{abs_mul, abs_neg, no_sign}
use Rattle.integers.proofs.Naturals.{dist}
use Rattle.rounding.specs.Radix.{rounded, rounding}
use Rattle.rounding.specs.Digits.{Digits, Number}
use Rattle.rounding.specs.Laws.{off, EvenSignificand, NearestEven}
use Rattle.rounding.proofs.Rounded.{Rounds, rounds, one_rounds, rounds_mono}
use Rattle.rounding.proofs.Numbers.{digits_rounded, digits_stay, digits_zero}
use Rattle.rounding.proofs.Closest.{closest, tie_even, only}

-- ---- distances
pub apart : (a b : ℕ) → nat_abs (pos a -ℤ pos b) ≡ dist b a
apart a b = omega (arith, ints)

pub off_neg : (Q : ℕ) (z : ℤ) (d : ℕ) (a : ℤ) → off Q (neg_ℤ z) d (neg_ℤ a) ≡ off Q z d a
off_neg Q z d a = ap nat_abs (ring ((⊖ at a) ⊗ num d ⊕ (⊖ ((⊖ at z) ⊗ num Q))) (⊖ (at a ⊗ num d ⊕ (⊖ (at z ⊗ num Q)))) (omega arith)) ∙ abs_neg (a *ℤ pos d -ℤ z *ℤ pos Q)

-- across 0
off_across : (Q n d k : ℕ) → off Q (pos n) d (negsuc k) ≡ suc k * d + n * Q
off_across Q n d k = sum (suc k * d) (n * Q)
  where
    sum : (x y : ℕ) → nat_abs (neg_ℤ (pos x) -ℤ pos y) ≡ x + y
    sum x y = omega (arith, ints)

neg_turned : (x y : ℤ) → neg_ℤ x ≡ y → x ≡ neg_ℤ y
neg_turned x y e = sym (neg_ℤ-neg_ℤ x) ∙ ap neg_ℤ e

-- ---- nearest and even: of the negative, where it is of the fraction
nearest_neg : (β p Q : ℕ) (z : ℤ) (d : ℕ) (a : ℤ) → NearestEven β p Q z d a → NearestEven β p Q (neg_ℤ z) d (neg_ℤ a)
nearest_neg β p Q z d a h = record { is_number = subst (Digits β p) (sym (abs_neg a)) h.is_number; none_nearer = nearer; even_at_tie = even }
  where
    other : (y : ℤ) → off Q (neg_ℤ z) d y ≡ off Q z d (neg_ℤ y)
    other y = ap (off Q (neg_ℤ z) d) (sym (neg_ℤ-neg_ℤ y)) ∙ off_neg Q z d (neg_ℤ y)

    number : (y : ℤ) → Number β p y → Number β p (neg_ℤ y)
    number y k = subst (Digits β p) (sym (abs_neg y)) k

    nearer : (y : ℤ) → Number β p y → off Q (neg_ℤ z) d (neg_ℤ a) ≤ off Q (neg_ℤ z) d y
    nearer y k = rw (off_neg Q z d a, other y) (h.none_nearer (neg_ℤ y) (number y k))

    even : (y : ℤ) → Number β p y → ¬ (y ≡ neg_ℤ a) → off Q (neg_ℤ z) d y ≡ off Q (neg_ℤ z) d (neg_ℤ a) → EvenSignificand β p (nat_abs (neg_ℤ z) * Q) d (nat_abs (neg_ℤ a))
    even y k ne e = rw (abs_neg z, abs_neg a) (h.even_at_tie (neg_ℤ y) (number y k) (λ s. ne (neg_turned y a s)) (sym (other y) ∙ e ∙ off_neg Q z d a))

module _ (β p Q : ℕ) (base : 2 ≤ β) (digits : 1 ≤ p) (scale : 1 ≤ Q) where
  abbrev R : ℕ → ℕ → ℕ
  R n d = rounded β p n d

  abbrev pub N : ℤ → ℕ → ℤ
  N z d = rounding β p Q z d

  rounds_at : (n d : ℕ) → 0 < d → Rounds β p n d (R n d)
  rounds_at = rounds β p base digits

  -- ---- the size and the sign
  pub abs_rounding : (z : ℤ) (d : ℕ) → nat_abs (N z d) ≡ R (nat_abs z * Q) d
  unfolding rounding
  abs_rounding (pos n) d = refl
  abs_rounding (negsuc n) d = abs_neg (pos (R (suc n * Q) d))

  none : (d : ℕ) → 0 < d → R (0 * Q) d ≡ 0
  none d h = ap (λ x. R x d) zeros ∙ digits_stay β p base digits 0 d h (digits_zero β p base digits)
    where
      zeros : 0 * Q ≡ 0 * d
      zeros = omega arith

  pub odd : (z : ℤ) (d : ℕ) → 0 < d → N (neg_ℤ z) d ≡ neg_ℤ (N z d)
  unfolding rounding
  odd (pos zero) d h = ap pos (none d h) ∙ ap (λ (x : ℕ). neg_ℤ (pos x)) (sym (none d h))
  odd (pos (suc n)) d h = refl
  odd (negsuc n) d h = sym (neg_ℤ-neg_ℤ (pos (R (suc n * Q) d)))

  -- how far the rounding is off
  pub off_rounding : (z : ℤ) (d : ℕ) → off Q z d (N z d) ≡ dist (nat_abs z * Q) (R (nat_abs z * Q) d * d)
  unfolding rounding
  off_rounding (pos n) d = apart (R (n * Q) d * d) (n * Q)
  off_rounding (negsuc n) d = off_neg Q (pos (suc n)) d (pos (R (suc n * Q) d)) ∙ apart (R (suc n * Q) d * d) (suc n * Q)

  -- ---- a number is what rounding leaves unchanged
  pub gives_number : (z : ℤ) (d : ℕ) → 0 < d → Number β p (N z d)
  gives_number z d h = subst (Digits β p) (sym (abs_rounding z d)) (digits_rounded β p base digits (nat_abs z * Q) d h)

  pub number_stays : (a : ℤ) → Number β p a → N a Q ≡ a
  unfolding rounding
  number_stays (pos n) k = ap pos (digits_stay β p base digits n Q scale k)
  number_stays (negsuc n) k = ap (λ (x : ℕ). neg_ℤ (pos x)) (digits_stay β p base digits (suc n) Q scale k)

  -- ---- no number is nearer, and a tie goes to the even significand
  nearest_pos : (n d : ℕ) → 0 < d → NearestEven β p Q (pos n) d (pos (R (n * Q) d))
  nearest_pos n d h = record { is_number = digits_rounded β p base digits (n * Q) d h; none_nearer = nearer; even_at_tie = even }
    where
      r : ℕ
      r = R (n * Q) d

      a : Rounds β p (n * Q) d r
      a = rounds_at (n * Q) d h

      from_zero : dist (n * Q) (r * d) ≤ n * Q
      from_zero = plain (n * Q) (r * d) d (closest β p base digits (n * Q) d r 0 h a (digits_zero β p base digits))
        where
          plain : (x y d : ℕ) → dist x y ≤ dist x (0 * d) → dist x y ≤ x
          plain x y d l = omega arith

      nearer : (y : ℤ) → Number β p y → off Q (pos n) d (pos r) ≤ off Q (pos n) d y
      nearer (pos y) k = rw (apart (r * d) (n * Q), apart (y * d) (n * Q)) (closest β p base digits (n * Q) d r y h a k)
      nearer (negsuc y) k = rw (apart (r * d) (n * Q), off_across Q n d y) (more (suc y * d) (n * Q) _ from_zero)
        where
          more : (x y z : ℕ) → z ≤ y → z ≤ x + y
          more x y z l = omega arith

      even : (y : ℤ) → Number β p y → ¬ (y ≡ pos r) → off Q (pos n) d y ≡ off Q (pos n) d (pos r) → EvenSignificand β p (n * Q) d r
      even (pos y) k ne e = tie_even β p base digits (n * Q) d r y h a k (λ s. ne (ap pos s)) (sym (apart (y * d) (n * Q)) ∙ e ∙ apart (r * d) (n * Q))
      even (negsuc y) k ne e = absurd (clash (suc y * d) (n * Q) _ (mul-pos (omega arith) h) from_zero (sym (off_across Q n d y) ∙ e ∙ apart (r * d) (n * Q)))
        where
          clash : (x y z : ℕ) → 0 < x → z ≤ y → x + y ≡ z → ⊥
          clash x y z l k e = omega arith

  pub nearest_even : (z : ℤ) (d : ℕ) → 0 < d → NearestEven β p Q z d (N z d)
  unfolding rounding
  nearest_even (pos n) d h = nearest_pos n d h
  nearest_even (negsuc n) d h = nearest_neg β p Q (pos (suc n)) d (pos (R (suc n * Q) d)) (nearest_pos (suc n) d h)

  -- nearest and even is one only
  only_pos : (n d : ℕ) (a : ℤ) → 0 < d → NearestEven β p Q (pos n) d a → a ≡ pos (R (n * Q) d)
  only_pos n d (pos y) h k = ap pos (only β p base digits (n * Q) d r y h (rounds_at (n * Q) d h) k.is_number near even)
    where
      r : ℕ
      r = R (n * Q) d

      has_digits : Digits β p r
      has_digits = digits_rounded β p base digits (n * Q) d h

      near : dist (n * Q) (y * d) ≤ dist (n * Q) (r * d)
      near = rw (← apart (r * d) (n * Q), ← apart (y * d) (n * Q)) (k.none_nearer (pos r) has_digits)

      even : ¬ (r ≡ y) → dist (n * Q) (r * d) ≡ dist (n * Q) (y * d) → EvenSignificand β p (n * Q) d y
      even ne e = k.even_at_tie (pos r) has_digits (λ s. ne (ap nat_abs s)) (apart (r * d) (n * Q) ∙ e ∙ sym (apart (y * d) (n * Q)))
  only_pos n d (negsuc y) h k = absurd (clash (suc y * d) (n * Q) d (mul-pos (omega arith) h) (rw (off_across Q n d y, apart (0 * d) (n * Q)) at (k.none_nearer (pos 0) (digits_zero β p base digits))))
    where
      clash : (x y d : ℕ) → 0 < x → x + y ≤ dist y (0 * d) → ⊥
      clash x y d l e = omega arith

  pub only_one : (z a : ℤ) (d : ℕ) → 0 < d → NearestEven β p Q z d a → a ≡ N z d
  unfolding rounding
  only_one (pos n) a d h k = only_pos n d a h k
  only_one (negsuc n) a d h k = neg_turned a (pos (R (suc n * Q) d)) (only_pos (suc n) d (neg_ℤ a) h (nearest_neg β p Q (negsuc n) d a k))

  -- ---- order
  wider : (n n' d d' : ℕ) → n * d' ≤ n' * d → n * Q * d' ≤ n' * Q * d
  wider n n' d d' e = omega (arith, mul-le-mul_right Q e)

  mono : (n n' d d' : ℕ) → 0 < d → 0 < d' → n * d' ≤ n' * d → R (n * Q) d ≤ R (n' * Q) d'
  mono n n' d d' h h' e = rounds_mono β p base digits (n' * Q) d' (n * Q) d _ _ h' h (wider n n' d d' e) (rounds_at (n' * Q) d' h') (rounds_at (n * Q) d h)

  pub monotone : (z z' : ℤ) (d d' : ℕ) → 0 < d → 0 < d' → (z *ℤ pos d') ≤ℤ (z' *ℤ pos d) → (N z d) ≤ℤ (N z' d')
  unfolding rounding
  monotone (pos n) (pos n') d d' h h' e = up (R (n * Q) d) (R (n' * Q) d') (mono n n' d d' h h' (down (n * d') (n' * d) e))
    where
      up : (x y : ℕ) → x ≤ y → (pos x) ≤ℤ (pos y)
      up x y l = omega (arith, ints)

      down : (x y : ℕ) → (pos x) ≤ℤ (pos y) → x ≤ y
      down x y l = omega (arith, ints)
  monotone (negsuc n) (negsuc n') d d' h h' e = up (R (suc n * Q) d) (R (suc n' * Q) d') (mono (suc n') (suc n) d' d h' h (down (suc n * d') (suc n' * d) e))
    where
      up : (x y : ℕ) → y ≤ x → (neg_ℤ (pos x)) ≤ℤ (neg_ℤ (pos y))
      up x y l = omega (arith, ints)

      down : (x y : ℕ) → (neg_ℤ (pos x)) ≤ℤ (neg_ℤ (pos y)) → y ≤ x
      down x y l = omega (arith, ints)
  monotone (negsuc n) (pos n') d d' h h' e = across (R (suc n * Q) d) (R (n' * Q) d')
    where
      across : (x y : ℕ) → (neg_ℤ (pos x)) ≤ℤ (pos y)
      across x y = omega (arith, ints)
  monotone (pos n) (negsuc n') d d' h h' e = absurd (clash (n * d') (suc n' * d) (mul-pos (omega arith) h) e)
    where
      clash : (x y : ℕ) → 0 < y → (pos x) ≤ℤ (neg_ℤ (pos y)) → ⊥
      clash x y l k = omega (arith, ints)

  -- ---- equal fractions, and rounding twice
  same : (n n' d d' : ℕ) → 0 < d → 0 < d' → n * d' ≡ n' * d → R (n * Q) d ≡ R (n' * Q) d'
  same n n' d d' h h' e = one_rounds β p base digits (n * Q) d (n' * Q) d' _ _ h h' (shape n n' e) (rounds_at (n * Q) d h) (rounds_at (n' * Q) d' h')
    where
      shape : (n n' : ℕ) → n * d' ≡ n' * d → n * Q * d' ≡ n' * Q * d
      shape n n' e = omega (arith, ap (λ x. x * Q) e)

  pub alike : (z z' : ℤ) (d d' : ℕ) → 0 < d → 0 < d' → z *ℤ pos d' ≡ z' *ℤ pos d → N z d ≡ N z' d'
  unfolding rounding
  alike (pos n) (pos n') d d' h h' e = ap pos (same n n' d d' h h' (ap nat_abs e))
  alike (negsuc n) (negsuc n') d d' h h' e = ap (λ (x : ℕ). neg_ℤ (pos x)) (same (suc n) (suc n') d d' h h' (sym (abs_mul (negsuc n) (pos d')) ∙ ap nat_abs e ∙ abs_mul (negsuc n') (pos d)))
  alike (pos n) (negsuc n') d d' h h' e = absurd (no_sign (n * d') (suc n' * d) (mul-pos (omega arith) h) e)
  alike (negsuc n) (pos n') d d' h h' e = absurd (no_sign (n' * d) (suc n * d') (mul-pos (omega arith) h') (sym e))

  pub twice_once : (z : ℤ) (d : ℕ) → 0 < d → N (N z d) Q ≡ N z d
  twice_once z d h = number_stays (N z d) (gives_number z d h)
