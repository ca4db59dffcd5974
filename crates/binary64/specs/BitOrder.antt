-- Without the sign, the bits of floats are in the order of their sizes. For a significand of p digits, n units have the bits
-- (size n − p) · 2^(p−1) + n / 2^(size n − p), where size counts binary digits: the digits that are dropped give the exponent, and
-- the kept ones the rest. So a power 2^c has the bits (c − p + 2) · 2^(p−1), and what is below or above it has fewer or more.
use Rattle.std.specs.Prelude.{◌≡◌, ℕ, zero, suc, ◌+◌, ◌-◌, ◌*◌, ◌/◌, ◌^◌, ◌<◌, ◌≤◌, pos}
use Rattle.std.proofs.Common.{sym, ap, ◌∙◌, subst, le_trans, mul-le-mul_right, mul-div_cancel, le-div_iff_mul-le, lt_of_mul-lt-mul_right, mul_assoc, arith, pow_pos, pow-add, pow_mono}
use Rattle.std.proofs.Math.Nat.{pow-succ'}
use Rattle.std.proofs.Math.Decide.{dec_le}
use Rattle.std.specs.Float.Ieee.{size}
use Rattle.std.specs.Float.Ieee.Digits.{size-lt, size-le, size_reaches}
use Rattle.std.specs.Float.Ieee.Fits.{kept-lt}
use Rattle.rounding.proofs.BinaryNearest.{Rep, split_pow}

-- the bits without the sign of n units, for p digits
abbrev pub code : ℕ → ℕ → ℕ
code p n = (size n - p) * 2 ^ (p - 1) + n / 2 ^ (size n - p)

two_hid : (p : ℕ) → 0 < p → 2 ^ p ≡ 2 * 2 ^ (p - 1)
two_hid zero h = absurd (omega arith)
two_hid (suc p) h = pow-succ' 2 p ∙ ap (λ (n : ℕ). 2 * 2 ^ n) (less p)
  where
    less : (p : ℕ) → p ≡ suc p - 1
    less p = omega arith

-- 2 ^ c has the code (c - p + 2) * 2 ^ (p - 1); smaller numbers have smaller codes
pub below : (p c n : ℕ) → 0 < p → p ≤ c → n < 2 ^ c → code p n < (c - p + 2) * 2 ^ (p - 1)
below p c n P h l = go (size n) (2 ^ (p - 1)) (n / 2 ^ (size n - p)) (size-le n c l) (subst (λ (x : ℕ). n / 2 ^ (size n - p) < x) (two_hid p P) (kept-lt p n))
  where
    go : (z h q : ℕ) → z ≤ c → q < 2 * h → (z - p) * h + q < (c - p + 2) * h
    go z h q l k = omega (arith, mul-le-mul_right {m = z - p} {n = c - p} h (omega arith))

pub size_gt : (n c : ℕ) → 2 ^ c ≤ n → c < size n
size_gt n c h = go (dec_le (size n) c)
  where
    go : Dec (size n ≤ c) → c < size n
    go (yes l) = absurd (clash (size-lt n) h (pow_mono {i = size n} {j = c} l))
      where
        clash : {n x y : ℕ} → n < x → y ≤ n → x ≤ y → ⊥
        clash a b c = omega arith
    go (no l) = omega arith

-- the leading digit is kept
leading : (p n : ℕ) → 0 < p → p ≤ size n → 2 ^ (p - 1) ≤ n / 2 ^ (size n - p)
leading p n P h = (le-div_iff_mul-le (pow_pos (size n - p))).1 (subst (λ (x : ℕ). x ≤ n) (pow-add 2 (p - 1) (size n - p)) (size_reaches n (p - 1 + (size n - p)) (room (size n) h)))
  where
    room : (z : ℕ) → p ≤ z → p - 1 + (z - p) < z
    room z l = omega arith

pub at_least : (p c n : ℕ) → 0 < p → p ≤ c → 2 ^ c ≤ n → (c - p + 2) * 2 ^ (p - 1) ≤ code p n
at_least p c n P h l =
    let z = size_gt n c l in
    go (size n) (2 ^ (p - 1)) (n / 2 ^ (size n - p)) z (leading p n P (over (size n) z))
  where
    over : (z : ℕ) → c < z → p ≤ z
    over z k = omega arith

    go : (z w q : ℕ) → c < z → w ≤ q → (c - p + 2) * w ≤ (z - p) * w + q
    go z w q k l = omega (arith, mul-le-mul_right {m = c - p + 1} {n = z - p} w (omega arith))

pub above : (p c n : ℕ) → 0 < p → p ≤ c → n / 2 ^ (size n - p) * 2 ^ (size n - p) ≡ n → 2 ^ c < n → (c - p + 2) * 2 ^ (p - 1) < code p n
above p c n P h e l =
    let z = size_gt n c (le_trans (up (2 ^ c)) l) in
    go (size n) (2 ^ (p - 1)) (n / 2 ^ (size n - p)) z (leading p n P (over (size n) z)) (λ k. strict k) (pow_pos (p - 1))
  where
    up : (x : ℕ) → x ≤ suc x
    up x = omega arith

    over : (z : ℕ) → c < z → p ≤ z
    over z k = omega arith

    strict : size n ≡ suc c → 2 ^ (p - 1) < n / 2 ^ (size n - p)
    strict k = lt_of_mul-lt-mul_right (2 ^ (size n - p)) (subst (λ (x : ℕ). 2 ^ (p - 1) * 2 ^ (size n - p) < x) (sym e) (subst (λ (x : ℕ). x < n) (ap (λ (x : ℕ). 2 ^ x) (same (size n) k) ∙ pow-add 2 (p - 1) (size n - p)) l))
      where
        same : (z : ℕ) → z ≡ suc c → c ≡ p - 1 + (z - p)
        same z k = omega arith

    go : (z w q : ℕ) → c < z → w ≤ q → (z ≡ suc c → w < q) → 0 < w → (c - p + 2) * w < (z - p) * w + q
    go z w q k l s o = by (dec_le z (suc c))
      where
        by : Dec (z ≤ suc c) → (c - p + 2) * w < (z - p) * w + q
        by (yes m) = omega (arith, s (omega arith), mul-le-mul_right {m = c - p + 1} {n = z - p} w (omega arith))
        by (no m) = omega (arith, mul-le-mul_right {m = c - p + 2} {n = z - p} w (omega arith))

-- a number of p digits loses nothing
pub whole : (p n : ℕ) → Rep p (pos n) → n / 2 ^ (size n - p) * 2 ^ (size n - p) ≡ n
whole p n r =
    let k = size n - p in
    let l = few (size n) (size-le n (p + r.at) (plain r.lt.0)) in
    ap (λ (x : ℕ). x / 2 ^ k * 2 ^ k) (shape k l) ∙ ap (λ (x : ℕ). x * 2 ^ k) (mul-div_cancel ((r.div.u - r.div.d) * 2 ^ (r.at - k)) (pow_pos k)) ∙ sym (shape k l)
  where
    plain : {x : ℕ} → n < 0 + x → n < x
    plain h = omega arith

    few : (z : ℕ) → z ≤ p + r.at → z - p ≤ r.at
    few z h = omega arith

    shape : (k : ℕ) → k ≤ r.at → n ≡ (r.div.u - r.div.d) * 2 ^ (r.at - k) * 2 ^ k
    shape k h = minus n r.div.u r.div.d (2 ^ r.at) r.div.is ∙ ap (λ (x : ℕ). (r.div.u - r.div.d) * x) (split_pow k r.at h) ∙ sym (mul_assoc (r.div.u - r.div.d) (2 ^ (r.at - k)) (2 ^ k))
      where
        minus : (n u d M : ℕ) → n + d * M ≡ 0 + u * M → n ≡ (u - d) * M
        minus n u d M e = by (dec_le d u)
          where
            by : Dec (d ≤ u) → n ≡ (u - d) * M
            by (yes l) = let q : u ≡ d + (u - d) = omega arith in let e' : u * M ≡ (d + (u - d)) * M = ap (λ (x : ℕ). x * M) q in omega arith
            by (no l) = let z : u - d ≡ 0 = omega arith in let z' : (u - d) * M ≡ 0 * M = ap (λ (x : ℕ). x * M) z in omega (arith, mul-le-mul_right {m = u} {n = d} M (omega arith))
