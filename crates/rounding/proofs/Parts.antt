-- The errors of rounded sums and products of numbers of p digits are numbers of p digits. Say that the exact result is a
-- multiple of B^f, where f is an exponent that an operand has. Either the rounded result is exact, or it is a multiple of
-- B^f too, and so is their distance; that this is at most B^(p+f) is left to show. For a sum it holds because the other
-- operand is a number that lies no further off than the one with the exponent f, and nothing is nearer than the rounded sum.
-- For a product, of at most 2 p digits, it holds because at most p of them are dropped.
use Rattle.std.proofs.Common.{◌≡◌, ℕ, suc, ◌+◌, ◌*◌, ◌^◌, ◌<◌, ◌≤◌, ◌⊎◌, sym, ap, ◌∙◌, subst, ⊎_elim, le_trans, le_refl, mul-le-mul_right, mul-le-mul_left, arith, pow-add}
use native.Mathlib.Nat.{pow-le-pow_right}
use native.Mathlib.Decide.{dec_le, ℕ_discrete}
use Rattle.integers.proofs.Naturals.{dist, some_power, before}
use Rattle.rounding.specs.Digits.{Digits}
use Rattle.rounding.proofs.Nearest.{Nearest}
use Rattle.rounding.proofs.Rounded.{Rounds, exact_out, some_B}
use Rattle.rounding.proofs.Numbers.{Multiple, multiple_sum, multiple_dist, multiple_power, digits_from, digits_zero}
use Rattle.rounding.proofs.Closest.{closest}

module _ (B p : ℕ) (base : 2 ≤ B) (digits : 1 ≤ p) where
  one_times : (x : ℕ) → 1 * x ≡ x
  one_times x = omega arith

  -- no number is nearer to a whole number of units
  best : (n r y : ℕ) → Rounds B p n 1 r → Digits B p y → dist n r ≤ dist n y
  best n r y a b = omega (arith, closest B p base digits n 1 r y (omega arith) a b)

  part : (n r w f : ℕ) → Rounds B p n 1 r → Multiple (B ^ f) n → w ≤ B ^ p * B ^ f → dist n r ≤ w → Digits B p (dist n r)
  part n r w f a h l near = go (dec_le a.e f)
    where
      go : Dec (a.e ≤ f) → Digits B p (dist n r)
      go (yes k) = subst (Digits B p) (sym gone) (digits_zero B p base digits)
        where
          t : Multiple (B ^ a.e) n
          t = multiple_power B p base digits a.e f n k h

          exact : r * 1 ≡ n
          exact = exact_out B p base digits n 1 r t.times (omega arith) a (t.is ∙ ap (λ x. t.times * x) (sym (one_times (B ^ a.e))))

          gone : dist n r ≡ 0
          gone = omega (arith, exact)
      go (no k) = digits_from B p base digits (dist n r) f (multiple_dist (B ^ f) n r h (multiple_power B p base digits f a.e r (omega arith) (record { times = a.m; is = a.is }))) (le_trans near l)

  -- the error of a sum: n is the sum or the difference of two such numbers
  under_own : (v : ℕ) → (b : Digits B p v) → v ≤ B ^ p * B ^ b.e
  under_own v b = rw b.is (mul-le-mul_right (B ^ b.e) (low b.m (B ^ p) b.few))
    where
      low : (x y : ℕ) → x < y → x ≤ y
      low x y h = omega arith

  pub sum_part : (n r u v : ℕ) → Rounds B p n 1 r → Digits B p u → Digits B p v → (n ≡ u + v) ⊎ (n ≡ dist u v) → Digits B p (dist n r)
  sum_part n r u v a b c h = go (dec_le b.e c.e)
    where
      reach : (w y : ℕ) → dist n y ≤ w → Digits B p y → dist n r ≤ w
      reach w y l k = le_trans (best n r y a k) l

      all : (f : ℕ) → Multiple (B ^ f) u → Multiple (B ^ f) v → Multiple (B ^ f) n
      all f x y = ⊎_elim (λ q. subst (Multiple (B ^ f)) (sym q) (multiple_sum (B ^ f) u v x y)) (λ q. subst (Multiple (B ^ f)) (sym q) (multiple_dist (B ^ f) u v x y)) h

      by_u : dist n v ≤ u
      by_u = ⊎_elim (λ q. omega arith) (λ q. omega arith) h

      by_v : dist n u ≤ v
      by_v = ⊎_elim (λ q. omega arith) (λ q. omega arith) h

      go : Dec (b.e ≤ c.e) → Digits B p (dist n r)
      go (yes l) = part n r u b.e a (all b.e (record { times = b.m; is = b.is }) (multiple_power B p base digits b.e c.e v l (record { times = c.m; is = c.is }))) (under_own u b) (reach u v by_u c)
      go (no l) = part n r v c.e a (all c.e (multiple_power B p base digits c.e b.e u (omega arith) (record { times = b.m; is = b.is })) (record { times = c.m; is = c.is })) (under_own v c) (reach v u by_v b)

  half_off : (z r : ℕ) → (a : Rounds B p z 1 r) → dist z r ≤ B ^ a.e
  half_off z r a = rw a.is (half z (B ^ a.e) a.m b.not_above b.not_below)
    where
      b : Nearest z (B ^ a.e) a.m
      b = subst (λ (x : ℕ). Nearest z x a.m) (one_times (B ^ a.e)) a.near

      half : (z D m : ℕ) → 2 * (m * D) ≤ 2 * z + D → 2 * z ≤ 2 * (m * D) + D → dist z (m * D) ≤ D
      half z D m h k = omega arith

  -- the error of a product z = i B^g with i below B^(2p)
  pub product_part : (z r i g : ℕ) → Rounds B p z 1 r → z ≡ i * B ^ g → i < B ^ p * B ^ p → Digits B p (dist z r)
  product_part z r i g a q l = part z r (B ^ p * B ^ g) g a (record { times = i; is = q }) (le_refl (B ^ p * B ^ g)) (le_trans (half_off z r a) (subst (λ (x : ℕ). B ^ a.e ≤ x) (pow-add B p g) (pow-le-pow_right (some_B B p base digits) low)))
    where
      low_by : (k : ℕ) → a.e ≡ suc k → Dec (p + g ≤ k) → a.e ≤ p + g
      low_by k w (yes m) = absurd (clash (B ^ p) (B ^ g) (B ^ k) i z q l (rw (one_times (B ^ p)) at (a.least k w)) (subst (λ (x : ℕ). x ≤ B ^ k) (pow-add B p g) (pow-le-pow_right (some_B B p base digits) m)) (some_power B g (omega arith)))
        where
          clash : (x y t i z : ℕ) → z ≡ i * y → i < x * x → x * t ≤ z → x * y ≤ t → 0 < y → ⊥
          clash x y t i z q l h₁ h₂ h₃ = omega (arith, mul-le-mul_left x h₂, mul-le-mul_right y l)
      low_by k w (no m) = omega arith

      low : a.e ≤ p + g
      low = go (ℕ_discrete a.e 0)
        where
          go : Dec (a.e ≡ 0) → a.e ≤ p + g
          go (yes w) = omega arith
          go (no w) = let k = before a.e (omega arith) in low_by k.0 k.1 (dec_le (p + g) k.0)
