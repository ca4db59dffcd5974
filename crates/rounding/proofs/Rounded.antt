-- Rounding the size n / d to p digits in radix B. The exponent is the least that leaves p digits, and the significand is the
-- nearest whole number (`Rounds`); everything else follows from these two facts. The significand lies between B^(p−1) and
-- B^p, unless the exponent is 0. So a larger fraction rounds to no less, equal fractions round alike, the error, half a unit
-- of the last digit, is small against the value, and what has p digits is left unchanged.
use Rattle.std.proofs.Common.{◌≡◌, ℕ, zero, suc, ◌+◌, ◌-◌, ◌*◌, ◌^◌, ◌<◌, ◌≤◌, Bool, true, false, ltb, ◌⊎◌, sym, refl, ap, ◌∙◌, subst, ⊎_elim, le_trans, le_of_eq, mul-le-mul_right, mul-le-mul, le_antisymm, mul-le-mul_left, mul-pos, le_of_mul-le-mul_right, arith, pow-add, ltb-false, ltb-true}
use native.Mathlib.Nat.{pow-succ', pow-zero, pow-le-pow_right}
use native.Mathlib.Decide.{dec_le, ℕ_discrete}
use Rattle.integers.proofs.Naturals.{cancel, some_power, before}
use Rattle.rounding.specs.Radix.{nearest, exponent, rounded}
use Rattle.rounding.proofs.Nearest.{Nearest, nearest_is, nearest_mono}

-- r is n / d rounded: m · B^e
pub record Rounds (B p n d r : ℕ) : Type 0 where
  pub e : ℕ
  pub m : ℕ
  pub is : r ≡ m * B ^ e
  pub under : n < d * B ^ p * B ^ e
  pub least : (k : ℕ) → e ≡ suc k → d * B ^ p * B ^ k ≤ n
  pub near : Nearest n (d * B ^ e) m

pub exponent_is : (B tries n limit : ℕ) → n < limit * B ^ tries → (n < limit * B ^ exponent B tries n limit) × ((k : ℕ) → exponent B tries n limit ≡ suc k → limit * B ^ k ≤ n)
unfolding exponent
exponent_is B zero n limit h = (h, λ k e. absurd (omega arith))
exponent_is B (suc tries) n limit h = go (ltb n limit) refl (λ k. exponent_is B tries n (limit * B) k)
  where
    go : (t : Bool) → ltb n limit ≡ t → (n < limit * B * B ^ tries → (n < limit * B * B ^ exponent B tries n (limit * B)) × ((k : ℕ) → exponent B tries n (limit * B) ≡ suc k → limit * B * B ^ k ≤ n)) →
        (n < limit * B ^ (elim t [ true ↦ 0 | false ↦ suc (exponent B tries n (limit * B)) ])) × ((k : ℕ) → (elim t [ true ↦ 0 | false ↦ suc (exponent B tries n (limit * B)) ]) ≡ suc k → limit * B ^ k ≤ n)
    go true e f = (rw (pow-zero B) (omega (arith, ltb-true n limit e)), λ k z. absurd (omega arith))
    go false e f = (rw (pow-succ' B (exponent B tries n (limit * B))) (regroup limit B _ r.0), least)
      where
        regroup : (l b x : ℕ) → n < l * b * x → n < l * (b * x)
        regroup l b x k = omega arith

        group : (l b x : ℕ) → n < l * (b * x) → n < l * b * x
        group l b x k = omega arith

        r : (n < limit * B * B ^ exponent B tries n (limit * B)) × ((k : ℕ) → exponent B tries n (limit * B) ≡ suc k → limit * B * B ^ k ≤ n)
        r = f (group limit B (B ^ tries) (rw (pow-succ' B tries) at h))

        least : (k : ℕ) → suc (exponent B tries n (limit * B)) ≡ suc k → limit * B ^ k ≤ n
        least zero z = rw (pow-zero B) (omega (arith, ltb-false n limit e))
        least (suc k) z = rw (pow-succ' B k) (same limit B (B ^ k) (r.1 k (omega arith)))
          where
            same : (l b x : ℕ) → l * b * x ≤ n → l * (b * x) ≤ n
            same l b x q = omega arith

pub below_power : (B n : ℕ) → 2 ≤ B → n < B ^ n
below_power B zero h = rw (pow-zero B) (omega arith)
below_power B (suc n) h = rw (pow-succ' B n) (more (B ^ n) (below_power B n h))
  where
    more : (x : ℕ) → n < x → suc n < B * x
    more x k = omega (arith, mul-le-mul_right x h)

crossing : (n d n' d' X x y : ℕ) → n' * d ≤ n * d' → n < d * X * x → d' * X * y ≤ n' → x ≤ y → 0 < d' → ⊥
crossing n d n' d' X x y e h k l p = omega (arith, mul-le-mul_right d' h, mul-le-mul_right d k, mul-le-mul_left (d * d' * X) l)

-- U |r d − n| is at most n and at most r d
pub record Tight (U n x : ℕ) : Type 0 where
  pub up_exact : U * x ≤ U * n + n
  pub down_exact : U * n ≤ U * x + n
  pub up_rounded : U * x ≤ U * n + x
  pub down_rounded : U * n ≤ U * x + x

tight_by : (H D m n : ℕ) → 2 * (m * D) ≤ 2 * n + D → 2 * n ≤ 2 * (m * D) + D → H * D ≤ n → H * D ≤ m * D → Tight (2 * H) n (m * D)
tight_by H D m n a b h k = record { up_exact = omega (arith, x, y); down_exact = omega (arith, x, y); up_rounded = omega (arith, x, y); down_rounded = omega (arith, x, y) }
  where
    x : H * (2 * (m * D)) ≤ H * (2 * n + D)
    x = mul-le-mul_left H a

    y : H * (2 * n) ≤ H * (2 * (m * D) + D)
    y = mul-le-mul_left H b

no_smaller : (H D m n : ℕ) → 0 < D → H * D ≤ n → 2 * n ≤ 2 * (m * D) + D → H ≤ m
no_smaller H D m n p h k = half (le_of_mul-le-mul_right {m = 2 * H} {n = 2 * m + 1} {k = D} (omega arith) p)
  where
    half : 2 * H ≤ 2 * m + 1 → H ≤ m
    half q = omega arith

exact_nearest : (c D m : ℕ) → 0 < D → Nearest (c * D) D m → m ≡ c
exact_nearest c D m p a = omega (arith, le_of_mul-le-mul_right {m = 2 * m} {n = 2 * c + 1} {k = D} (omega (arith, a.not_above)) p, le_of_mul-le-mul_right {m = 2 * c} {n = 2 * m + 1} {k = D} (omega (arith, a.not_below)) p)

module _ (B p : ℕ) (base : 2 ≤ B) (digits : 1 ≤ p) where
  pub some_B : 0 < B
  some_B = omega arith

  pub rounds : (n d : ℕ) → 0 < d → Rounds B p n d (rounded B p n d)
  unfolding rounded
  rounds n d h = record { e = e; m = nearest n (d * B ^ e); is = refl; under = x.0; least = x.1; near = nearest_is n (d * B ^ e) (mul-pos h (some_power B e some_B)) }
    where
      e : ℕ
      e = exponent B n n (d * B ^ p)

      enough : (l b : ℕ) → 0 < l → n < b → n < l * b
      enough l b k q = omega (arith, mul-le-mul_right b k)

      x : (n < d * B ^ p * B ^ e) × ((k : ℕ) → e ≡ suc k → d * B ^ p * B ^ k ≤ n)
      x = exponent_is B n n (d * B ^ p) (enough (d * B ^ p) (B ^ n) (mul-pos h (some_power B p some_B)) (below_power B n base))

  -- ---- the significand lies between B^(p−1), unless the exponent is 0, and B^p
  abbrev pub H : ℕ
  H = B ^ (p - 1)

  pub H_is : B ^ p ≡ B * H
  H_is = ap (λ x. B ^ x) (up p digits) ∙ pow-succ' B (p - 1)
    where
      up : (p : ℕ) → 1 ≤ p → p ≡ suc (p - 1)
      up p h = omega arith

  pub at_most_digits : (n d r : ℕ) → 0 < d → (a : Rounds B p n d r) → a.m ≤ B ^ p
  at_most_digits n d r h a = le (le_of_mul-le-mul_right {m = 2 * a.m} {n = 2 * B ^ p + 1} {k = d * B ^ a.e} (omega (arith, a.near.not_above, a.under)) (mul-pos h (some_power B a.e some_B)))
    where
      le : 2 * a.m ≤ 2 * B ^ p + 1 → a.m ≤ B ^ p
      le z = omega arith

  large : (n d r k : ℕ) → (a : Rounds B p n d r) → a.e ≡ suc k → H * (d * B ^ a.e) ≤ n
  large n d r k a q = rw (q, pow-succ' B k) (regroup H d B (B ^ k) (rw H_is at (a.least k q)))
    where
      regroup : (H d B x : ℕ) → d * (B * H) * x ≤ n → H * (d * (B * x)) ≤ n
      regroup H d B x z = omega arith

  pub at_least : (n d r k : ℕ) → 0 < d → (a : Rounds B p n d r) → a.e ≡ suc k → H ≤ a.m
  at_least n d r k h a q = no_smaller H (d * B ^ a.e) a.m n (mul-pos h (some_power B a.e some_B)) (large n d r k a q) a.near.not_below

  -- ---- a larger fraction is rounded to no less
  -- its exponent is no smaller
  exponent_mono : (n d n' d' r r' : ℕ) → 0 < d → 0 < d' → n' * d ≤ n * d' → (a : Rounds B p n d r) (b : Rounds B p n' d' r') → b.e ≤ a.e
  exponent_mono n d n' d' r r' h h' q a b = go (dec_le b.e a.e)
    where
      go : Dec (b.e ≤ a.e) → b.e ≤ a.e
      go (yes l) = l
      go (no l) = absurd (crossing n d n' d' (B ^ p) (B ^ a.e) (B ^ k.0) q a.under (b.least k.0 k.1) (pow-le-pow_right some_B (omega (arith, k.1))) h')
        where
          k : (k : ℕ) × (b.e ≡ suc k)
          k = before b.e (omega arith)

  -- at the same exponent the significands decide
  same_exponent : (n d n' d' r r' : ℕ) → 0 < d → 0 < d' → n' * d ≤ n * d' → (a : Rounds B p n d r) (b : Rounds B p n' d' r') → b.e ≡ a.e → r' ≤ r
  same_exponent n d n' d' r r' h h' q a b s = rw (a.is, b.is, s) (mul-le-mul_right (B ^ a.e) (nearest_mono n (d * B ^ a.e) n' (d' * B ^ a.e) a.m b.m (some h) (some h') (widen (B ^ a.e)) a.near (subst (λ (x : ℕ). Nearest n' (d' * B ^ x) b.m) s b.near)))
    where
      some : {x : ℕ} → 0 < x → 0 < x * B ^ a.e
      some k = mul-pos k (some_power B a.e some_B)

      widen : (x : ℕ) → n' * (d * x) ≤ n * (d' * x)
      widen x = omega (arith, mul-le-mul_right x q)

  -- at a larger one, B^(p−1) units of it are at least B^p of any smaller
  pub rounds_mono : (n d n' d' r r' : ℕ) → 0 < d → 0 < d' → n' * d ≤ n * d' → Rounds B p n d r → Rounds B p n' d' r' → r' ≤ r
  rounds_mono n d n' d' r r' h h' q a b = go (dec_le a.e b.e)
    where
      order : b.e ≤ a.e
      order = exponent_mono n d n' d' r r' h h' q a b

      go : Dec (a.e ≤ b.e) → r' ≤ r
      go (yes l) = same_exponent n d n' d' r r' h h' q a b (le_antisymm order l)
      go (no l) = up (before a.e (omega arith))
        where
          up : ((k : ℕ) × (a.e ≡ suc k)) → r' ≤ r
          up k = le_trans small (rw (a.is, k.1, pow-succ' B k.0) (large a.m H (B ^ k.0) B (at_least n d r k.0 h a k.1)))
            where
              small : r' ≤ B * H * B ^ k.0
              small = rw (b.is, ← H_is) (mul-le-mul (at_most_digits n' d' r' h' b) (pow-le-pow_right some_B (omega (arith, k.1))))

              large : (m x y b : ℕ) → x ≤ m → b * x * y ≤ m * (b * y)
              large m x y b z = omega (arith, mul-le-mul_right (b * y) z)

  -- equal fractions are rounded alike
  pub one_rounds : (n d n' d' r r' : ℕ) → 0 < d → 0 < d' → n * d' ≡ n' * d → Rounds B p n d r → Rounds B p n' d' r' → r ≡ r'
  one_rounds n d n' d' r r' h h' q a b = le_antisymm (rounds_mono n' d' n d r' r h' h (le_of_eq q) b a) (rounds_mono n d n' d' r r' h h' (le_of_eq (sym q)) a b)

  -- ---- the errors, with U = 2 B^(p−1)
  pub tight : (n d r : ℕ) → 0 < d → (a : Rounds B p n d r) → (a.e ≡ 0 → (r * d ≡ n) ⊎ (H < r)) → Tight (2 * H) n (r * d)
  tight n d r h a small = go (ℕ_discrete a.e 0)
    where
      D : ℕ
      D = d * B ^ a.e

      value : r * d ≡ a.m * D
      value = ap (λ x. x * d) a.is ∙ regroup a.m (B ^ a.e) d
        where
          regroup : (m x d : ℕ) → m * x * d ≡ m * (d * x)
          regroup m x d = omega arith

      wide : H * D ≤ n → H * D ≤ a.m * D → Tight (2 * H) n (r * d)
      wide k l = rw value (tight_by H D a.m n a.near.not_above a.near.not_below k l)

      exact : r * d ≡ n → Tight (2 * H) n (r * d)
      exact q = rw q (record { up_exact = omega arith; down_exact = omega arith; up_rounded = omega arith; down_rounded = omega arith })

      above : a.e ≡ 0 → H < r → Tight (2 * H) n (r * d)
      above q k = wide (low a.near.not_above) (mul-le-mul_right D (omega (arith, k')))
        where
          m_is : r ≡ a.m
          m_is = a.is ∙ rw (q, pow-zero B) (once a.m)
            where
              once : (m : ℕ) → m * 1 ≡ m
              once m = omega arith

          k' : H + 1 ≤ a.m
          k' = omega (arith, m_is)

          low : 2 * (a.m * D) ≤ 2 * n + D → H * D ≤ n
          low z = omega (arith, mul-le-mul_right D k')

      go : Dec (a.e ≡ 0) → Tight (2 * H) n (r * d)
      go (yes q) = ⊎_elim exact (above q) (small q)
      go (no q) = let k = before a.e (omega arith) in wide (large n d r k.0 a k.1) (mul-le-mul_right D (at_least n d r k.0 h a k.1))

  -- ---- what is rounded stays
  pub exact_out : (n d r t : ℕ) → 0 < d → (c : Rounds B p n d r) → n ≡ t * (d * B ^ c.e) → r * d ≡ n
  exact_out n d r t h c q = ap (λ x. x * d) (c.is ∙ ap (λ x. x * B ^ c.e) m_is) ∙ regroup t (B ^ c.e) d ∙ sym q
    where
      m_is : c.m ≡ t
      m_is = exact_nearest t (d * B ^ c.e) c.m (mul-pos h (some_power B c.e some_B)) (subst (λ x. Nearest x (d * B ^ c.e) c.m) q c.near)

      regroup : (m x d : ℕ) → m * x * d ≡ m * (d * x)
      regroup m x d = omega arith

  squeezed : (m X x y d : ℕ) → m ≤ X → x ≤ y → d * X * y ≤ m * x * d → m * x * d ≡ d * X * y
  squeezed m X x y d h k l = omega (arith, mul-le-mul_right (x * d) h, mul-le-mul_left (d * X) k)

  top : (n d r k : ℕ) → 0 < d → (c : Rounds B p n d r) → c.e ≡ suc k → n ≡ d * B ^ p * B ^ k → r * d ≡ n
  top n d r k h c q z = exact_out n d r H h c (z ∙ shape ∙ ap (λ x. H * (d * B ^ x)) (sym q))
    where
      regroup : (d B H x : ℕ) → d * (B * H) * x ≡ H * (d * (B * x))
      regroup d B H x = omega arith

      shape : d * B ^ p * B ^ k ≡ H * (d * B ^ suc k)
      shape = rw (pow-succ' B k, H_is) (regroup d B H (B ^ k))

  pub stays : (m e d : ℕ) → 0 < d → m ≤ B ^ p → rounded B p (m * B ^ e * d) d ≡ m * B ^ e
  stays m e d h l = cancel (rounded B p n d) (m * B ^ e) d h (go (dec_le c.e e))
    where
      n : ℕ
      n = m * B ^ e * d

      c : Rounds B p n d (rounded B p n d)
      c = rounds n d h

      go : Dec (c.e ≤ e) → rounded B p n d * d ≡ m * B ^ e * d
      go (yes k) = exact_out n d (rounded B p n d) (m * B ^ (e - c.e)) h c (ap (λ x. m * x * d) split ∙ regroup m (B ^ c.e) (B ^ (e - c.e)) d)
        where
          split : B ^ e ≡ B ^ c.e * B ^ (e - c.e)
          split = ap (λ x. B ^ x) (parts c.e e k) ∙ pow-add B c.e (e - c.e)
            where
              parts : (a b : ℕ) → a ≤ b → b ≡ a + (b - a)
              parts a b q = omega arith

          regroup : (m x y d : ℕ) → m * (x * y) * d ≡ m * y * (d * x)
          regroup m x y d = omega arith
      go (no k) = up_one (before c.e (omega arith))
        where
          up_one : ((k : ℕ) × (c.e ≡ suc k)) → rounded B p n d * d ≡ m * B ^ e * d
          up_one j = top n d (rounded B p n d) j.0 h c j.1 (squeezed m (B ^ p) (B ^ e) (B ^ j.0) d l (pow-le-pow_right some_B (omega (arith, j.1))) (c.least j.0 j.1))
