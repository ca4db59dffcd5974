-- Rounding to p digits in radix β: to nearest, ties to the even significand, with no upper end.
-- Sizes are counted in units of the smallest value above 0, so a number of p digits is m · β^e with m < β^p and e ≥ 0.
use Rattle.std.specs.Prelude.{ℕ, zero, suc, ◌*◌, ◌/◌, ◌%◌, ◌^◌, true, false, cond, ◌&&◌, ◌||◌, ℤ, pos, negsuc, neg_ℤ, ◌==◌, nat_lt}

-- the whole number nearest to n / d, the even one of two at a tie
unfoldable pub nearest : ℕ → ℕ → ℕ
nearest n d = cond (nat_lt d (2 * (n % d)) || (d == 2 * (n % d) && n / d % 2 == 1)) (suc (n / d)) (n / d)

-- the least e with n below limit · β^e, found in at most `tries` steps
unfoldable pub exponent : ℕ → ℕ → ℕ → ℕ → ℕ
exponent β zero n limit = 0
exponent β (suc tries) n limit = elim (nat_lt n limit) [ true ↦ 0 | false ↦ suc (exponent β tries n (limit * β)) ]

-- n / d units: with the least exponent at which p digits suffice, the nearest significand
unfoldable pub rounded : ℕ → ℕ → ℕ → ℕ → ℕ
rounded β p n d = let e : ℕ = exponent β n n (d * β ^ p) in nearest n (d * β ^ e) * β ^ e

-- the fraction n / d as a multiple of 1 / Q: its size is rounded, its sign stays
unfoldable pub rounding : ℕ → ℕ → ℕ → ℤ → ℕ → ℤ
rounding β p Q (pos n) d = pos (rounded β p (n * Q) d)
rounding β p Q (negsuc n) d = neg_ℤ (pos (rounded β p (suc n * Q) d))
