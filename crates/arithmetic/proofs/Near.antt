-- A rounded result near its exact one: by at most u times the exact one, and by at most u times the rounded one. U is 1/u.
use Rattle.std.proofs.Common.{◌≡◌, ℕ, suc, ◌+◌, ◌*◌, ◌<◌, ◌≤◌, ℤ, pos, negsuc, ◌-ℤ◌, ◌*ℤ◌, nat_abs, refl, ap, ◌∙◌, mul-le-mul_right, mul-le-mul_left, le_of_mul-le-mul_right, arith}
use Rattle.std.proofs.lemmas.Int.{ints}
use Rattle.integers.proofs.Ring.{ring, at, num, ◌⊕◌, ◌⊗◌, ⊖◌}
use Rattle.integers.proofs.Integers.{abs_mul}

pub record Near (U : ℕ) (r e : ℤ) : Type 0 where
  pub by_exact : U * nat_abs (r -ℤ e) ≤ nat_abs e
  pub by_rounded : U * nat_abs (r -ℤ e) ≤ nat_abs r

times : (r e : ℤ) (q : ℕ) → nat_abs (r *ℤ pos q -ℤ e *ℤ pos q) ≡ nat_abs (r -ℤ e) * q
times r e q = ap nat_abs (ring (at r ⊗ num q ⊕ (⊖ (at e ⊗ num q))) ((at r ⊕ (⊖ at e)) ⊗ num q) (omega arith)) ∙ abs_mul (r -ℤ e) (pos q)

pub near_times : (U : ℕ) (r e : ℤ) (q : ℕ) → Near U r e → Near U (r *ℤ pos q) (e *ℤ pos q)
near_times U r e q h = record {
  by_exact = omega (arith, ap (λ x. U * x) (times r e q), abs_mul e (pos q), mul-le-mul_right q h.by_exact);
  by_rounded = omega (arith, ap (λ x. U * x) (times r e q), abs_mul r (pos q), mul-le-mul_right q h.by_rounded);
}

pub near_without : (U : ℕ) (r e : ℤ) (q : ℕ) → 0 < q → Near U (r *ℤ pos q) (e *ℤ pos q) → Near U r e
near_without U r e q k h = record {
  by_exact = le_of_mul-le-mul_right {k = q} (omega (arith, ap (λ x. U * x) (times r e q), abs_mul e (pos q), h.by_exact)) k;
  by_rounded = le_of_mul-le-mul_right {k = q} (omega (arith, ap (λ x. U * x) (times r e q), abs_mul r (pos q), h.by_rounded)) k;
}

-- what is near a natural number is one
pub record Natural (U : ℕ) (r : ℤ) (e : ℕ) : Type 0 where
  pub is : r ≡ pos (nat_abs r)
  pub exact_below : U * e ≤ (U + 1) * nat_abs r
  pub rounded_below : U * nat_abs r ≤ (U + 1) * e

pub near_natural : (U : ℕ) (r : ℤ) (e : ℕ) → 0 < U → Near U r (pos e) → Natural U r e
near_natural U (pos n) e h k = record { is = refl; exact_below = omega (arith, k.by_rounded, mul-le-mul_left U d); rounded_below = omega (arith, k.by_exact, mul-le-mul_left U d') }
  where
    d : e ≤ n + nat_abs (pos n -ℤ pos e)
    d = omega (arith, ints)

    d' : n ≤ e + nat_abs (pos n -ℤ pos e)
    d' = omega (arith, ints)
near_natural U (negsuc n) e h k = absurd (omega (arith, k.by_exact, mul-le-mul_left U d, mul-le-mul_right (e + suc n) h))
  where
    d : e + suc n ≤ nat_abs (negsuc n -ℤ pos e)
    d = omega (arith, ints)

-- the size of a rounded result against the size of the exact one
pub exact_size : (U : ℕ) (r e : ℤ) → Near U r e → U * nat_abs e ≤ (U + 1) * nat_abs r
exact_size U r e h = omega (arith, h.by_rounded, mul-le-mul_left U d)
  where
    d : nat_abs e ≤ nat_abs r + nat_abs (r -ℤ e)
    d = omega (arith, ints)

pub rounded_size : (U : ℕ) (r e : ℤ) → Near U r e → U * nat_abs r ≤ (U + 1) * nat_abs e
rounded_size U r e h = omega (arith, h.by_exact, mul-le-mul_left U d)
  where
    d : nat_abs r ≤ nat_abs e + nat_abs (r -ℤ e)
    d = omega (arith, ints)
