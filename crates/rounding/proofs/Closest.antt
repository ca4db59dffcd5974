-- No number of p digits is nearer to n / d than what it is rounded to, and a tie goes to the even significand. The multiples
-- of the last digit's unit are no nearer, since the significand is the nearest whole number. A number that is no such
-- multiple has a smaller exponent, so it lies below B^(p−1) units of the last digit, which are a multiple, and at most n /
-- d. Where a multiple is as near, n / d lies half-way between two neighbours, and the significand is even: so of two
-- candidates that are both nearest and both even there is one only.
use Rattle.std.proofs.Common.{◌≡◌, ℕ, suc, ◌+◌, ◌-◌, ◌*◌, ◌%◌, ◌^◌, ◌<◌, ◌≤◌, ◌⊎◌, sym, ap, ◌∙◌, subst, inl, inr, le_trans, le_refl, mul-le-mul_right, mul-le-mul_left, mul-pos, arith}
use native.Mathlib.Nat.{pow-succ', pow-le-pow_right}
use native.Mathlib.Decide.{dec_le, ℕ_discrete}
use Rattle.integers.proofs.Naturals.{cancel, dist, some_power, before}
use Rattle.rounding.specs.Digits.{Digits}
use Rattle.rounding.specs.Laws.{EvenSignificand}
use Rattle.rounding.proofs.Nearest.{Nearest}
use Rattle.rounding.proofs.Rounded.{Rounds, H_is, some_B}
use Rattle.rounding.proofs.Numbers.{Multiple, multiple_power}

-- ---- among the multiples of D
nearer_below : (n D m t : ℕ) → 2 * (m * D) ≤ 2 * n + D → 2 * n ≤ 2 * (m * D) + D → suc t ≤ m → dist n (m * D) ≤ dist n (t * D)
nearer_below n D m t a b l = omega (arith, mul-le-mul_right D l)

nearer_above : (n D m t : ℕ) → 2 * (m * D) ≤ 2 * n + D → 2 * n ≤ 2 * (m * D) + D → suc m ≤ t → dist n (m * D) ≤ dist n (t * D)
nearer_above n D m t a b l = omega (arith, mul-le-mul_right D l)

nearer : (n D m t : ℕ) → Nearest n D m → dist n (m * D) ≤ dist n (t * D)
nearer n D m t a = go (dec_le (suc t) m) (dec_le (suc m) t)
  where
    go : Dec (suc t ≤ m) → Dec (suc m ≤ t) → dist n (m * D) ≤ dist n (t * D)
    go (yes l) k = nearer_below n D m t a.not_above a.not_below l
    go (no l) (yes k) = nearer_above n D m t a.not_above a.not_below k
    go (no l) (no k) = let q : m ≡ t = omega arith in rw q (le_refl (dist n (t * D)))

-- where t is as near as m, they are neighbours and m is even
record Tie (m t : ℕ) : Type 0 where
  even : m % 2 ≡ 0
  neighbours : (t ≡ suc m) ⊎ (m ≡ suc t)

half_up : (n D m t : ℕ) → 2 * (m * D) ≤ 2 * n + D → 2 * n ≤ 2 * (m * D) + D → dist n (t * D) ≡ dist n (m * D) → suc t ≤ m → 0 < D → (2 * (m * D) ≡ 2 * n + D) × (m * D ≡ suc t * D)
half_up n D m t a b q l h = omega (arith, mul-le-mul_right D l)

half_down : (n D m t : ℕ) → 2 * (m * D) ≤ 2 * n + D → 2 * n ≤ 2 * (m * D) + D → dist n (t * D) ≡ dist n (m * D) → suc m ≤ t → 0 < D → (2 * n ≡ 2 * (m * D) + D) × (t * D ≡ suc m * D)
half_down n D m t a b q l h = omega (arith, mul-le-mul_right D l)

tie : (n D m t : ℕ) → 0 < D → Nearest n D m → dist n (t * D) ≡ dist n (m * D) → ¬ (t ≡ m) → Tie m t
tie n D m t h a q ne = go (dec_le (suc t) m)
  where
    go : Dec (suc t ≤ m) → Tie m t
    go (yes l) = let w = half_up n D m t a.not_above a.not_below q l h in record { even = a.even_up w.0; neighbours = inr (cancel m (suc t) D h w.1) }
    go (no l) = let w = half_down n D m t a.not_above a.not_below q (above l ne) h in record { even = a.even_down w.0; neighbours = inl (cancel t (suc m) D h w.1) }
      where
        above : ¬ (suc t ≤ m) → ¬ (t ≡ m) → suc m ≤ t
        above l ne = omega arith

module _ (B p : ℕ) (base : 2 ≤ B) (digits : 1 ≤ p) where
  regroup : (t x d : ℕ) → t * x * d ≡ t * (d * x)
  regroup t x d = omega arith

  in_digits : (n d r : ℕ) → (a : Rounds B p n d r) → r * d ≡ a.m * (d * B ^ a.e)
  in_digits n d r a = ap (λ x. x * d) a.is ∙ regroup a.m (B ^ a.e) d

  grid : (n d r t : ℕ) → (a : Rounds B p n d r) → dist n (r * d) ≤ dist n (t * (d * B ^ a.e))
  grid n d r t a = rw (in_digits n d r a) (nearer n (d * B ^ a.e) a.m t a.near)

  -- a number with a smaller exponent lies below a multiple that is at most n / d
  record Lower (n d r y : ℕ) : Type 0 where
    stop : ℕ
    near : dist n (r * d) ≤ dist n stop
    below : y * d < stop
    low : stop ≤ n

  lower : (n d r y k : ℕ) → 0 < d → (a : Rounds B p n d r) (b : Digits B p y) → a.e ≡ suc k → b.e ≤ k → Lower n d r y
  lower n d r y k h a b q l = record { stop = d * B ^ p * B ^ k; near = subst (λ (x : ℕ). dist n (r * d) ≤ dist n x) shape (grid n d r (B ^ (p - 1)) a); below = less b.m (B ^ b.e) (B ^ p) (B ^ k) b.few (pow-le-pow_right (some_B B p base digits) l) (some_power B k (some_B B p base digits)) b.is; low = a.least k q }
    where
      shape : B ^ (p - 1) * (d * B ^ a.e) ≡ d * B ^ p * B ^ k
      shape = ap (λ x. B ^ (p - 1) * (d * B ^ x)) q ∙ rw (pow-succ' B k, H_is B p base digits) (turn (B ^ (p - 1)) B (B ^ k))
        where
          turn : (h b x : ℕ) → h * (d * (b * x)) ≡ d * (b * h) * x
          turn h b x = omega arith

      less : (m x X z : ℕ) → m < X → x ≤ z → 0 < z → y ≡ m * x → y * d < d * X * z
      less m x X z u v w e = rw e (under (m * x) (X * z) (omega (arith, mul-le-mul_left m v, mul-le-mul_right z u)) (turn X z))
        where
          turn : (X z : ℕ) → d * X * z ≡ X * z * d
          turn X z = omega arith

          under : (s t : ℕ) → s < t → d * X * z ≡ t * d → s * d < d * X * z
          under s t g f = omega (arith, mul-le-mul_right d g)

  -- no number is nearer
  pub closest : (n d r y : ℕ) → 0 < d → Rounds B p n d r → Digits B p y → dist n (r * d) ≤ dist n (y * d)
  closest n d r y h a b = go (dec_le a.e b.e)
    where
      go : Dec (a.e ≤ b.e) → dist n (r * d) ≤ dist n (y * d)
      go (yes l) = subst (λ (x : ℕ). dist n (r * d) ≤ dist n x) (sym (ap (λ x. x * d) w.is ∙ regroup w.times (B ^ a.e) d)) (grid n d r w.times a)
        where
          w : Multiple (B ^ a.e) y
          w = multiple_power B p base digits a.e b.e y l (record { times = b.m; is = b.is })
      go (no l) = let k = before a.e (omega arith) in below (lower n d r y k.0 h a b k.1 (omega (arith, k.1)))
        where
          below : Lower n d r y → dist n (r * d) ≤ dist n (y * d)
          below w = omega arith

  -- where a number is as near, it is a neighbour at the same exponent, and the significand is even
  record Rival (n d r y : ℕ) (a : Rounds B p n d r) : Type 0 where
    times : ℕ
    is : y ≡ times * B ^ a.e
    tied : Tie a.m times

  rival : (n d r y : ℕ) → 0 < d → (a : Rounds B p n d r) → Digits B p y → ¬ (y ≡ r) → dist n (y * d) ≡ dist n (r * d) → Rival n d r y a
  rival n d r y h a b ne q = go (dec_le a.e b.e)
    where
      go : Dec (a.e ≤ b.e) → Rival n d r y a
      go (yes l) = record { times = w.times; is = w.is; tied = tie n (d * B ^ a.e) a.m w.times (mul-pos h (some_power B a.e (some_B B p base digits))) a.near (sym (ap (dist n) (ap (λ x. x * d) w.is ∙ regroup w.times (B ^ a.e) d)) ∙ q ∙ ap (dist n) (in_digits n d r a)) (λ s. ne (w.is ∙ ap (λ x. x * B ^ a.e) s ∙ sym a.is)) }
        where
          w : Multiple (B ^ a.e) y
          w = multiple_power B p base digits a.e b.e y l (record { times = b.m; is = b.is })
      go (no l) = let k = before a.e (omega arith) in absurd (below (lower n d r y k.0 h a b k.1 (omega (arith, k.1))))
        where
          farther : (x y s : ℕ) → dist n x ≤ dist n s → y < s → s ≤ n → dist n y ≡ dist n x → ⊥
          farther x y s f g i j = omega arith

          below : Lower n d r y → ⊥
          below w = farther (r * d) (y * d) w.stop w.near w.below w.low q

  pub tie_even : (n d r y : ℕ) → 0 < d → Rounds B p n d r → Digits B p y → ¬ (y ≡ r) → dist n (y * d) ≡ dist n (r * d) → EvenSignificand B p n d r
  tie_even n d r y h a b ne q = record { m = a.m; e = a.e; is = a.is; enough = a.under; least = least; even = (rival n d r y h a b ne q).tied.even }
    where
      least : (k : ℕ) → k < a.e → d * B ^ p * B ^ k ≤ n
      least k l = let j = before a.e (omega arith) in le_trans (mul-le-mul_left (d * B ^ p) (pow-le-pow_right (some_B B p base digits) (omega (arith, j.1)))) (a.least j.0 j.1)

  -- ---- nearest and even is one only
  same_exponent : (n d r y : ℕ) → (a : Rounds B p n d r) (c : EvenSignificand B p n d y) → c.e ≡ a.e
  same_exponent n d r y a c = go (dec_le (suc c.e) a.e) (dec_le (suc a.e) c.e)
    where
      clash : (x y z : ℕ) → n < d * x * y → d * x * z ≤ n → y ≤ z → ⊥
      clash x y z u v w = omega (arith, mul-le-mul_left (d * x) w)

      go : Dec (suc c.e ≤ a.e) → Dec (suc a.e ≤ c.e) → c.e ≡ a.e
      go (yes l) k = let j = before a.e (omega arith) in absurd (clash (B ^ p) (B ^ c.e) (B ^ j.0) c.enough (a.least j.0 j.1) (pow-le-pow_right (some_B B p base digits) (omega (arith, j.1))))
      go (no l) (yes k) = absurd (clash (B ^ p) (B ^ a.e) (B ^ a.e) a.under (c.least a.e k) (le_refl (B ^ a.e)))
      go (no l) (no k) = omega arith

  pub only : (n d r y : ℕ) → 0 < d → Rounds B p n d r → Digits B p y → dist n (y * d) ≤ dist n (r * d) → (¬ (r ≡ y) → dist n (r * d) ≡ dist n (y * d) → EvenSignificand B p n d y) → y ≡ r
  only n d r y h a b near even = go (ℕ_discrete y r)
    where
      as_near : dist n (y * d) ≡ dist n (r * d)
      as_near = omega (arith, closest n d r y h a b)

      go : Dec (y ≡ r) → y ≡ r
      go (yes e) = e
      go (no ne) = absurd (clash a.m c.m v.times same c.even v.tied.even v.tied.neighbours)
        where
          c : EvenSignificand B p n d y
          c = even (λ e. ne (sym e)) (sym as_near)

          v : Rival n d r y a
          v = rival n d r y h a b ne as_near

          same : c.m ≡ v.times
          same = cancel c.m v.times (B ^ a.e) (some_power B a.e (some_B B p base digits)) (ap (λ x. c.m * B ^ x) (sym (same_exponent n d r y a c)) ∙ sym c.is ∙ v.is)

          clash : (m s t : ℕ) → s ≡ t → s % 2 ≡ 0 → m % 2 ≡ 0 → (t ≡ suc m) ⊎ (m ≡ suc t) → ⊥
          clash m s t e i j (inl k) = omega arith
          clash m s t e i j (inr k) = omega arith
