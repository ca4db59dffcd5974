-- From the one form with eight digits to the one form with d: of c digits, c − d are cut off and become zeros. That many zeros
-- are the least, since the first digit stays; and where nothing is cut off but zeros stand behind, all eight digits are there.
use Rattle.std.proofs.Common.{◌≡◌, ℕ, suc, ◌+◌, ◌-◌, ◌*◌, ◌/◌, ◌^◌, ◌<◌, ◌≤◌, Bool, true, cond, ◌⊎◌, ℤ, pos, negsuc, ◌-ℤ◌, neg_ℤ, nat_abs, sym, refl, ap, ◌∙◌, inl, inr, le_trans, lt_of_lt_of_le, lt_irrefl, mul-le-mul_right, mul_comm, mul-lt-mul_of_pos_right, mul-pos, arith, pow-add}
use native.Mathlib.Nat.{mul-div-mul_right}
use native.Mathlib.Decide.{dec_le}
use lib.Signed.{quot_z}
use Rattle.std.proofs.lemmas.Int.{ints}
use Rattle.std.proofs.lemmas.Bool.{ne_eqb}
use Rattle.integers.proofs.Integers.{quot_neg}
use Rattle.integers.proofs.Naturals.{before}
use Rattle.scientific.specs.Forms.{size_of, with_zeros, is_full}
use Rattle.scientific.specs.Patterns.{zeros, written}
use Rattle.scientific.specs.declared.written.Written.{Written}
use Rattle.scientific.proofs.Tens.{tens, some_ten, joined}
use Rattle.scientific.proofs.Limits.{full_is}
use Rattle.scientific.proofs.Values.{size_with}
use Rattle.scientific.proofs.OneForm.{Counts}
use Rattle.scientific.proofs.LeastZeros.{Least, zeros_is}

cut_least : (s q d c : ℕ) → is_full s q ≡ true → d ≤ 8 → Counts s c → Least d (size_of s q) (q + (c - d))
cut_least s q d c f h C = record { under = under; least = least }
  where
    under : s * 10 ^ q < 10 ^ d * 10 ^ (q + (c - d))
    under = lt_of_lt_of_le (mul-lt-mul_of_pos_right C.0 (some_ten q)) (rw (joined c q (c + q) refl, joined d (q + (c - d)) (d + (q + (c - d))) refl) (tens (c + q) (d + (q + (c - d))) (omega arith)))

    -- a power below the significand and its zeros
    reached : (i j : ℕ) → d + j ≡ i + q → 10 ^ i ≤ s → 10 ^ d * 10 ^ j ≤ s * 10 ^ q
    reached i j e l = rw (joined d j (i + q) e, ← joined i q (i + q) refl) (mul-le-mul_right (10 ^ q) l)

    least : (j : ℕ) → q + (c - d) ≡ suc j → 10 ^ d * 10 ^ j ≤ s * 10 ^ q
    least j e = go (dec_le (suc d) c)
      where
        go : Dec (d < c) → 10 ^ d * 10 ^ j ≤ s * 10 ^ q
        go (yes l) = let k = before c (omega arith) in reached k.0 j (omega (arith, k.1)) (C.1 k.0 k.1)
        go (no l) = eight (full_is s q f).1
          where
            eight : (q ≡ 0) ⊎ (10 ^ 7 ≤ s) → 10 ^ d * 10 ^ j ≤ s * 10 ^ q
            eight (inl z) = absurd (omega arith)
            eight (inr m) = le_trans (mul-le-mul_right (10 ^ j) (tens d 8 h)) (rw (joined 8 j (7 + q) (omega arith), ← joined 7 q (7 + q) refl) (mul-le-mul_right (10 ^ q) m))

cut_zeros : (s : ℤ) (q d c : ℕ) → is_full (nat_abs s) q ≡ true → d ≤ 8 → Counts (nat_abs s) c → q + (c - d) ≡ zeros d (with_zeros s q)
cut_zeros s q d c f h C = sym (zeros_is d (with_zeros s q) (q + (c - d)) (rw (size_with s q) (cut_least (nat_abs s) q d c f h C)))

-- ---- M and e of the number
cut_size : (s q x : ℕ) → s / 10 ^ x ≡ size_of s q / 10 ^ (q + x)
cut_size s q x = sym (ap (λ y. s * 10 ^ q / y) (pow-add 10 q x ∙ mul_comm (10 ^ q) (10 ^ x)) ∙ mul-div-mul_right s (10 ^ x) (some_ten q))

cut_signed : (s : ℤ) (q x : ℕ) → quot_z s (pos (10 ^ x)) ≡ quot_z (with_zeros s q) (pos (10 ^ (q + x)))
cut_signed (pos n) q x = ap pos (cut_size n q x)
cut_signed (negsuc n) q x = quot_neg (suc n) (10 ^ x) ∙ ap (λ (y : ℕ). neg_ℤ (pos y)) (cut_size (suc n) q x) ∙ sym (quot_neg (suc n * 10 ^ q) (10 ^ (q + x)))

abbrev make : ℤ → ℤ → Written
make m e = record { m = m; e = e }

alike : (w v : Written) → w.m ≡ v.m → w.e ≡ v.e → w ≡ v
alike w v p q = ap (λ (m : ℤ). make m w.e) p ∙ ap (make v.m) q

pub some_size : (s : ℤ) (q : ℕ) → (s ≡ pos 0 → ⊥) → nat_abs (with_zeros s q) ≡ 0 → ⊥
some_size s q n e = lt_irrefl 0 (rw (sym (size_with s q) ∙ e) at (mul-pos (above s n) (some_ten q)))
  where
    above : (s : ℤ) → (s ≡ pos 0 → ⊥) → 0 < nat_abs s
    above s n = omega (arith, ints)

-- M and e of z units that are not 0, by the zeros that they are written with
pub written_by : (d : ℕ) (z : ℤ) (k : ℕ) (w : Written) → zeros d z ≡ k → (nat_abs z ≡ 0 → ⊥) → w.m ≡ quot_z z (pos (10 ^ k)) → w.e ≡ pos k -ℤ pos 70 → w ≡ written d z
unfolding written
written_by d z k w q n m e = alike w (written d z) (m ∙ ap (λ (x : ℕ). quot_z z (pos (10 ^ x))) (sym q))
    (e ∙ ap (λ (x : ℕ). pos x -ℤ pos 70) (sym q) ∙ ap (λ (b : Bool). cond b (pos 0) (pos (zeros d z) -ℤ pos 70)) (sym (ne_eqb (nat_abs z) 0 n)))

-- the significand s with q zeros has c digits, of which those past the d-th are cut off
pub written_is : (d : ℕ) (s : ℤ) (q c : ℕ) (w : Written) → is_full (nat_abs s) q ≡ true → d ≤ 8 → Counts (nat_abs s) c → (s ≡ pos 0 → ⊥) → w.m ≡ quot_z s (pos (10 ^ (c - d))) → w.e ≡ pos (q + (c - d)) -ℤ pos 70 → w ≡ written d (with_zeros s q)
written_is d s q c w f h C n m e = written_by d (with_zeros s q) (q + (c - d)) w (sym (cut_zeros s q d c f h C)) (some_size s q n) (m ∙ cut_signed s q (c - d)) e
