-- The two ways into the one form as the machine works them out: of more than eight digits the last are cut off, and of fewer
-- zeros are taken in. x is the power of ten that was read.
use Rattle.std.proofs.Common.{◌≡◌, ℕ, suc, ◌+◌, ◌-◌, ◌^◌, ◌<◌, ◌≤◌, true, Option, ℤ, ◌*ℤ◌, nat_abs, min, ap, subst, lt_of_lt_of_le, arith, lit≤, w32, w64, SFits, to_z, of_z}
use lib.Signed.{quot_z}
use Rattle.std.proofs.lemmas.Int.{to_z-of_z}
use Rattle.rounding.specs.Digits.{Digits}
use Rattle.scientific.specs.Forms.{with_zeros, is_full}
use Rattle.scientific.specs.Numbers.{Formed}
use Rattle.scientific.specs.declared.number.Scientific.{Scientific}
use Rattle.scientific.proofs.Casts.{wide, narrow, eight_digits, eight_narrow, power_is}
use Rattle.scientific.proofs.OneForm.{Shape, Counts, cut, taken}

counts : (n : ℤ) (c : ℕ) → SFits w64 n → nat_abs (to_z w64 (of_z w64 n)) < 10 ^ c → ((k : ℕ) → c ≡ suc k → 10 ^ k ≤ nat_abs (to_z w64 (of_z w64 n))) → Counts (nat_abs n) c
counts n c f u l = subst (λ (x : ℕ). Counts x c) (ap nat_abs (to_z-of_z w64 n f)) (u, l)

-- ---- more than eight digits
module _ (n : ℤ) (c x : ℕ) (range : SFits w64 n) (short : Digits 10 8 (nat_abs n)) (under : nat_abs (to_z w64 (of_z w64 n)) < 10 ^ c) (least : (k : ℕ) → c ≡ suc k → 10 ^ k ≤ nat_abs (to_z w64 (of_z w64 n))) (few : c ≤ 20) (power : x ≡ 10 ^ (c - 8)) (more : 8 < c) where
  shape_cut : (zeros : ℕ) → Shape n zeros (quot_z (to_z w64 (of_z w64 n)) (to_z w64 x)) (zeros + (c - 8))
  shape_cut zeros = rw (to_z-of_z w64 n range, power_is x (c - 8) power (omega arith)) (cut n c zeros short (counts n c range under least) more)

  pub cut_fits : SFits w64 (quot_z (to_z w64 (of_z w64 n)) (to_z w64 x))
  cut_fits = wide _ (lt_of_lt_of_le (shape_cut 0).short (lit≤ tt))

  pub cut_narrow : SFits w32 (to_z w64 (of_z w64 (quot_z (to_z w64 (of_z w64 n)) (to_z w64 x))))
  cut_narrow = let s = shape_cut 0 in rw (eight_digits _ s.short) (narrow _ s.short)

  pub cut_full : (zeros : ℕ) → is_full (nat_abs (to_z w32 (of_z w32 (to_z w64 (of_z w64 (quot_z (to_z w64 (of_z w64 n)) (to_z w64 x))))))) (zeros + (c - 8)) ≡ true
  cut_full zeros = let s = shape_cut zeros in rw (eight_narrow _ s.short) s.full

  pub cut_same : (zeros : ℕ) → with_zeros (to_z w32 (of_z w32 (to_z w64 (of_z w64 (quot_z (to_z w64 (of_z w64 n)) (to_z w64 x)))))) (zeros + (c - 8)) ≡ with_zeros n zeros
  cut_same zeros = let s = shape_cut zeros in rw (eight_narrow _ s.short) s.same

-- ---- at most eight
module _ (n : ℤ) (c x zeros r : ℕ) (range : SFits w64 n) (under : nat_abs (to_z w64 (of_z w64 n)) < 10 ^ c) (least : (k : ℕ) → c ≡ suc k → 10 ^ k ≤ nat_abs (to_z w64 (of_z w64 n))) (power : x ≡ 10 ^ r) (room : r ≡ min zeros (8 - c)) (few : c ≤ 8) (some : of_z w64 n ≡ 0 → ⊥) where
  shape_taken : Shape n zeros (to_z w64 (of_z w64 n) *ℤ to_z w64 x) (zeros - r)
  shape_taken = rw (to_z-of_z w64 n range, power_is x r power (omega arith)) (taken n c zeros r (counts n c range under least) few (λ e. some (ap (of_z w64) e)) room)

  pub taken_fits : SFits w64 (to_z w64 (of_z w64 n) *ℤ to_z w64 x)
  taken_fits = wide _ (lt_of_lt_of_le shape_taken.short (lit≤ tt))

  pub taken_narrow : SFits w32 (to_z w64 (of_z w64 (to_z w64 (of_z w64 n) *ℤ to_z w64 x)))
  taken_narrow = rw (eight_digits _ shape_taken.short) (narrow _ shape_taken.short)

  pub taken_full : is_full (nat_abs (to_z w32 (of_z w32 (to_z w64 (of_z w64 (to_z w64 (of_z w64 n) *ℤ to_z w64 x)))))) (zeros - r) ≡ true
  taken_full = rw (eight_narrow _ shape_taken.short) shape_taken.full

  pub taken_formed : (o : Option Scientific) → Formed (with_zeros (to_z w32 (of_z w32 (to_z w64 (of_z w64 (to_z w64 (of_z w64 n) *ℤ to_z w64 x))))) (zeros - r)) o → Formed (with_zeros n zeros) o
  taken_formed o f = subst (λ (z : ℤ). Formed z o) shape_taken.same (rw (eight_narrow _ shape_taken.short) at f)
