-- The limits of binary64 by bits: 2^900 has the bits 1923 · 2^52, and 2^-900 the bits 123 · 2^52. A float is at most 2^900 in size
-- exactly when its bits without the sign are at most the first, and at least 2^-900 when they are at least the second.
use Rattle.std.specs.Prelude.{◌≡◌, ℕ, zero, suc, ◌+◌, ◌-◌, ◌*◌, ◌/◌, ◌%◌, ◌^◌, ◌<◌, ◌≤◌, Bool, true, false, cond, not, T, ℤ, nat_le, refl, Float}
use Rattle.std.proofs.Common.{sym, ap, ◌∙◌, subst, mod-lt, lt_of_not-le, le_antisymm, arith, lit<, lit≤, leb→le, le→leb}
use Rattle.std.proofs.Math.Decide.{dec_le}
use Rattle.std.specs.Float.Ieee.{size, fits, hid, top, to_bits, is_nan}
use Rattle.std.specs.Float.Ieee.Bits.{to_bits-lt}
use Rattle.std.specs.Float.Ieee.Scale.{finite}
use Rattle.std.specs.Float.{float_with_sign, nan, inf, fin, binary64}
use Rattle.rounding.specs.Value.{magnitude}
use Rattle.rounding.proofs.BinaryNearest.{Rep}
use Rattle.rounding.proofs.Floats.{Held, value_rep}
use Rattle.rounding.proofs.Compare.{abs_held, abs_value}
use Rattle.binary64.specs.Limits.{reach, least, Small, InRange}
use Rattle.binary64.specs.Means.{held}
use Rattle.binary64.specs.BitOrder.{code, below, at_least, above, whole}

abbrev pub sign_bit : ℕ
sign_bit = 9223372036854775808

abbrev pub high_pattern : ℕ
high_pattern = 8660422083433463808

abbrev pub low_pattern : ℕ
low_pattern = 553942754166571008

-- the bits of infinity
abbrev pub infinity_pattern : ℕ
infinity_pattern = 9218868437227405312

-- ---- the bits of a float without its sign
digits_of : (x : Float) → Held binary64 x → magnitude binary64 x / 2 ^ (size (magnitude binary64 x) - 53) * 2 ^ (size (magnitude binary64 x) - 53) ≡ magnitude binary64 x
digits_of x h = whole 53 (magnitude binary64 x) (subst (Rep 53) (abs_value binary64 x) (value_rep binary64 (float_with_sign false x) (abs_held binary64 x h)))

signed_fits : (s : Bool) (m : ℕ) (e : ℤ) → T (fits binary64 (fin s m e)) → T (fits binary64 (fin true m e))
unfolding fits
signed_fits s zero e h = h
signed_fits s (suc m) e h = h

pub bits_of : (t s : Bool) (m : ℕ) (e : ℤ) → to_bits binary64 (fin t m e) ≡ cond t (top binary64) 0 + (size (magnitude binary64 (fin s m e)) - 53) * hid binary64 + magnitude binary64 (fin s m e) / 2 ^ (size (magnitude binary64 (fin s m e)) - 53)
unfolding to_bits magnitude
bits_of t s m e = refl

low_bits : (x : Float) → Held binary64 x → to_bits binary64 x % sign_bit ≡ code 53 (magnitude binary64 x)
low_bits nan h = absurd h.1
low_bits (inf s) h = absurd h.1
low_bits (fin s m e) h =
    let n = magnitude binary64 (fin s m e) in
    let l : code 53 n < sign_bit = under (to_bits binary64 (fin true m e)) ((size n - 53) * hid binary64) (n / 2 ^ (size n - 53)) (bits_of true s m e) (to_bits-lt binary64 (fin true m e) (signed_fits s m e h.0)) in
    ap (λ (y : ℕ). y % sign_bit) (bits_of s s m e) ∙ cut s ((size n - 53) * hid binary64) (n / 2 ^ (size n - 53)) l
  where
    under : (b u v : ℕ) → b ≡ sign_bit + u + v → b < 2 * sign_bit → u + v < sign_bit
    under b u v e h = omega arith

    cut : (s : Bool) (u v : ℕ) → u + v < sign_bit → (cond s sign_bit 0 + u + v) % sign_bit ≡ u + v
    cut true u v h = omega arith
    cut false u v h = omega arith

-- ---- the two limits
inf_bits : (s : Bool) → to_bits binary64 (inf s) % sign_bit ≡ infinity_pattern
unfolding to_bits
inf_bits true = refl
inf_bits false = refl

apart : (a b : ℕ) → b < a → a ≤ b → ⊥
apart a b h k = omega arith

not_low : (x : ℕ) → x ≡ infinity_pattern → x ≤ high_pattern → ⊥
not_low x e h = omega arith

at_most : (n : ℕ) → n ≤ 2 ^ 1974 → code 53 n ≤ high_pattern
unfolding size
at_most n h = go (dec_le (2 ^ 1974) n)
  where
    weak : {x y : ℕ} → x < y → x ≤ y
    weak h = omega arith

    go : Dec (2 ^ 1974 ≤ n) → code 53 n ≤ high_pattern
    go (yes l) = subst (λ (k : ℕ). code 53 k ≤ high_pattern) (le_antisymm l h) (lit≤ tt)
    go (no l) = weak (below 53 1974 n (lit< tt) (lit≤ tt) (lt_of_not-le l))

pub high_in : (x : Float) → T (fits binary64 x) → finite x ≡ true → Small x → to_bits binary64 x % sign_bit ≤ high_pattern
unfolding reach
high_in x f n s = subst (λ (y : ℕ). y ≤ high_pattern) (sym (low_bits x (held binary64 x f n))) (at_most (magnitude binary64 x) s)

pub high_out : (x : Float) → T (fits binary64 x) → T (not (is_nan x)) → to_bits binary64 x % sign_bit ≤ high_pattern → (finite x ≡ true) × Small x
unfolding reach is_nan
high_out nan f n h = absurd n
high_out (inf s) f n h = absurd (not_low (to_bits binary64 (inf s) % sign_bit) (inf_bits s) h)
high_out (fin s m e) f n h = (refl, go (dec_le (magnitude binary64 (fin s m e)) (2 ^ 1974)))
  where
    go : Dec (magnitude binary64 (fin s m e) ≤ 2 ^ 1974) → magnitude binary64 (fin s m e) ≤ 2 ^ 1974
    go (yes l) = l
    go (no l) = absurd (apart (code 53 (magnitude binary64 (fin s m e))) high_pattern (above 53 1974 (magnitude binary64 (fin s m e)) (lit< tt) (lit≤ tt) (digits_of (fin s m e) (f, tt)) (lt_of_not-le l)) (subst (λ (y : ℕ). y ≤ high_pattern) (low_bits (fin s m e) (f, tt)) h))

low_in : (x : Float) → T (fits binary64 x) → finite x ≡ true → 2 ^ least ≤ magnitude binary64 x → low_pattern ≤ to_bits binary64 x % sign_bit
unfolding least
low_in x f n l = subst (λ (y : ℕ). low_pattern ≤ y) (sym (low_bits x (held binary64 x f n))) (at_least 53 174 (magnitude binary64 x) (lit< tt) (lit≤ tt) l)

low_out : (x : Float) → T (fits binary64 x) → finite x ≡ true → low_pattern ≤ to_bits binary64 x % sign_bit → 2 ^ least ≤ magnitude binary64 x
unfolding least
low_out x f n h = go (dec_le (2 ^ 174) (magnitude binary64 x))
  where
    go : Dec (2 ^ 174 ≤ magnitude binary64 x) → 2 ^ 174 ≤ magnitude binary64 x
    go (yes l) = l
    go (no l) = absurd (apart low_pattern (code 53 (magnitude binary64 x)) (below 53 174 (magnitude binary64 x) (lit< tt) (lit≤ tt) (lt_of_not-le l)) (subst (λ (y : ℕ). low_pattern ≤ y) (low_bits x (held binary64 x f n)) h))

range_in : (x : Float) → T (fits binary64 x) → T (not (is_nan x)) → low_pattern ≤ to_bits binary64 x % sign_bit → to_bits binary64 x % sign_bit ≤ high_pattern → InRange x
range_in x f n l h = let t = high_out x f n h in (t.0, t.1, low_out x f t.0 l)

range_out : (x : Float) → T (fits binary64 x) → InRange x → (low_pattern ≤ to_bits binary64 x % sign_bit) × (to_bits binary64 x % sign_bit ≤ high_pattern)
range_out x f (n, s, l) = (low_in x f n l, high_in x f n s)

once_in : (v : ℕ) → v < sign_bit → nat_le ((v + 17892801319542980608) % 18446744073709551616) 8106479329266892800 ≡ true → (low_pattern ≤ v) × (v ≤ high_pattern)
once_in v h e = let l = leb→le ((v + 17892801319542980608) % 18446744073709551616) 8106479329266892800 (subst T (sym e) tt) in (omega arith, omega arith)

once_out : (v : ℕ) → nat_le ((v + 17892801319542980608) % 18446744073709551616) 8106479329266892800 ≡ false → (low_pattern ≤ v) × (v ≤ high_pattern) → ⊥
once_out v e (l, h) = subst T e (le→leb ((v + 17892801319542980608) % 18446744073709551616) 8106479329266892800 (omega arith))

pub range_once_in : (x : Float) → T (fits binary64 x) → T (not (is_nan x)) → nat_le ((to_bits binary64 x % sign_bit + 17892801319542980608) % 18446744073709551616) 8106479329266892800 ≡ true → InRange x
range_once_in x f n e = let t = once_in (to_bits binary64 x % sign_bit) (mod-lt (to_bits binary64 x) (lit< tt)) e in range_in x f n t.0 t.1

pub range_once_out : (x : Float) → T (fits binary64 x) → nat_le ((to_bits binary64 x % sign_bit + 17892801319542980608) % 18446744073709551616) 8106479329266892800 ≡ false → InRange x → ⊥
range_once_out x f e i = once_out (to_bits binary64 x % sign_bit) e (range_out x f i)
