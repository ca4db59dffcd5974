-- A prover of polynomial identities over the whole numbers.
-- Every integer is a difference of two naturals, so both sides of an identity become two naturals each, and the identity an
-- equation of polynomials over the naturals, which `omega arith` decides. `ring e f (omega arith)` quotes the two sides.
use Rattle.std.proofs.Common.{◌≡◌, ℕ, ◌+◌, ◌*◌, ℤ, pos, ◌+ℤ◌, ◌*ℤ◌, neg_ℤ, ap, arith}
use borrow.Author.Differences.{up, down, same_in, sum_is_lem, neg_is, product_is}

-- z is p less n
pub record Diff (z : ℤ) (p n : ℕ) : Type 0 where
  pub diff : up z + n ≡ down z + p

pub diff_atom : (z : ℤ) → Diff z (up z) (down z)
diff_atom z = record { diff = omega arith }

pub diff_pos : (n : ℕ) → Diff (pos n) n 0
diff_pos n = record { diff = omega arith }

pub diff_sum : {a b : ℤ} {p n q m : ℕ} → Diff a p n → Diff b q m → Diff (a +ℤ b) (p + q) (n + m)
diff_sum {a} {b} h k = record { diff = omega (arith, sum_is_lem a b, h.diff, k.diff) }

pub diff_neg : {a : ℤ} {p n : ℕ} → Diff a p n → Diff (neg_ℤ a) n p
diff_neg {a} h = record { diff = omega (arith, neg_is a, h.diff) }

mul_diff : (ua da ub db p n q m : ℕ) → ua + n ≡ da + p → ub + m ≡ db + q → (ua * ub + da * db) + (p * m + n * q) ≡ (ua * db + da * ub) + (p * q + n * m)
mul_diff ua da ub db p n q m e f = omega (arith, ap (λ x. x * ub) e, ap (λ x. x * db) e, ap (λ x. p * x) f, ap (λ x. n * x) f)

pub diff_mul : {a b : ℤ} {p n q m : ℕ} → Diff a p n → Diff b q m → Diff (a *ℤ b) (p * q + n * m) (p * m + n * q)
diff_mul {a} {b} {p} {n} {q} {m} h k = record { diff = omega (arith, product_is a b, mul_diff (up a) (down a) (up b) (down b) p n q m h.diff k.diff) }

pub diff_same : {a b : ℤ} {p n q m : ℕ} → Diff a p n → Diff b q m → p + m ≡ q + n → a ≡ b
diff_same {a} {b} h k e = same_in a b (omega (arith, h.diff, k.diff))

-- an integer's expression, for identities
pub data Expr : Type 0 where
  at : ℤ → Expr
  num : ℕ → Expr
  ◌⊕◌ : Expr → Expr → Expr
  ◌⊗◌ : Expr → Expr → Expr
  ⊖◌ : Expr → Expr

infixl 6 ◌⊕◌
infixl 7 ◌⊗◌
infix 8 ⊖◌
abbrev pub value : Expr → ℤ
value (at z) = z
value (num n) = pos n
value (e ⊕ f) = value e +ℤ value f
value (e ⊗ f) = value e *ℤ value f
value (⊖ e) = neg_ℤ (value e)

abbrev mutual
  pub plus : Expr → ℕ
  plus (at z) = up z
  plus (num n) = n
  plus (e ⊕ f) = plus e + plus f
  plus (e ⊗ f) = plus e * plus f + minus e * minus f
  plus (⊖ e) = minus e

  pub minus : Expr → ℕ
  minus (at z) = down z
  minus (num n) = 0
  minus (e ⊕ f) = minus e + minus f
  minus (e ⊗ f) = plus e * minus f + minus e * plus f
  minus (⊖ e) = plus e

pub parts : (e : Expr) → Diff (value e) (plus e) (minus e)
parts (at z) = diff_atom z
parts (num n) = diff_pos n
parts (e ⊕ f) = diff_sum (parts e) (parts f)
parts (e ⊗ f) = diff_mul (parts e) (parts f)
parts (⊖ e) = diff_neg (parts e)

-- the two are equal where they are as polynomials
pub ring : (e f : Expr) → plus e + minus f ≡ plus f + minus e → value e ≡ value f
ring e f h = diff_same (parts e) (parts f) h
