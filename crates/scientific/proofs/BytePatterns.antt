-- Eight bytes and back: what is taken apart into bytes is put together again, and two's complement of an integer that is small
-- enough stands for that integer. So the pattern of a number is admitted as the number.
use Rattle.std.proofs.Common.{◌≡◌, ℕ, ◌+◌, ◌-◌, ◌*◌, ◌/◌, ◌%◌, ◌^◌, ◌<◌, ◌≤◌, Bool, true, false, cond, ◌&&◌, eqb, List, [], ◌∷◌, length, get_or, ℤ, pos, negsuc, ◌-ℤ◌, nat_abs, sym, refl, ap, ◌∙◌, lt_of_lt_of_le, div-add-mod', arith, lit≤, w16, w32, SFits, to_z, of_z}
use native.Mathlib.Nat.{div-div-eq-div-mul}
use Rattle.std.specs.List.{All}
use Rattle.std.proofs.lemmas.Int.{ints}
use Rattle.std.proofs.lemmas.Bool.Decides.{nat_tests}
use Rattle.arithmetic.specs.Meaning.{Admission, number, not_admitted, Number}
use Rattle.arithmetic.proofs.Bytes.{are_bytes}
use Rattle.scientific.specs.Forms.{highest}
use Rattle.scientific.specs.declared.written.Written.{Written}
use Rattle.scientific.specs.Patterns.{zeros, written, admission, from_complement, complement, M_in, e_in, ends_in_zeros, admitted, bytes, pattern, meaning}
use Rattle.scientific.proofs.Tens.{tens}
use Rattle.scientific.proofs.NumberOf.{bound_of}
use Rattle.scientific.proofs.Admissions.{admission_number}
use Rattle.scientific.proofs.OneWritten.{written_admitted, small_m, few_zeros}

-- ---- two's complement
back_32 : (z : ℤ) → nat_abs z < 2147483648 → from_complement 32 (complement 32 z) ≡ z
back_32 (pos n) h = grind (arith, ints, nat_tests)
back_32 (negsuc n) h = grind (arith, ints, nat_tests)

back_16 : (z : ℤ) → nat_abs z < 32768 → from_complement 16 (complement 16 z) ≡ z
back_16 (pos n) h = grind (arith, ints, nat_tests)
back_16 (negsuc n) h = grind (arith, ints, nat_tests)

below_32 : (z : ℤ) → complement 32 z < 4294967296
below_32 (pos n) = omega arith
below_32 (negsuc n) = omega arith

below_16 : (z : ℤ) → complement 16 z < 65536
below_16 (pos n) = omega arith
below_16 (negsuc n) = omega arith

next : (n x : ℕ) → n / (x * 256) * 256 + n / x % 256 ≡ n / x
next n x = rw (← div-div-eq-div-mul n x 256) (div-add-mod' (n / x) 256)

joined_32 : (n : ℕ) → n < 4294967296 → (n / 16777216 % 256) * 16777216 + (n / 65536 % 256) * 65536 + (n / 256 % 256) * 256 + n % 256 ≡ n
joined_32 n h = by (n / 16777216) (n / 65536) (n / 256) (n / 16777216 % 256) (n / 65536 % 256) (n / 256 % 256) (n % 256) (omega arith) (next n 65536) (next n 256) (div-add-mod' n 256)
  where
    by : (a b c p q r s : ℕ) → p ≡ a → a * 256 + q ≡ b → b * 256 + r ≡ c → c * 256 + s ≡ n → p * 16777216 + q * 65536 + r * 256 + s ≡ n
    by a b c p q r s e f g k = omega arith

joined_16 : (n : ℕ) → n < 65536 → (n / 256 % 256) * 256 + n % 256 ≡ n
joined_16 n h = omega arith

admitted_bytes : (d : ℕ) (M e : ℤ) → nat_abs M < 2147483648 → nat_abs e < 32768 → admitted d (bytes (complement 32 M) (complement 16 e)) ≡ admission d M e
unfolding admitted
admitted_bytes d M e h l = rw (joined_32 (complement 32 M) (below_32 M), joined_16 (complement 16 e) (below_16 e), back_32 M h, back_16 e l)

small_e : (d k : ℕ) (t : Bool) → k ≤ 111 - d → nat_abs (cond t (pos 0) (pos k -ℤ pos 70)) < 32768
small_e d k true h = lit≤ tt
small_e d k false h = omega (arith, ints)

written_e : (d : ℕ) (z : ℤ) → nat_abs z ≤ highest → nat_abs (written d z).e < 32768
unfolding written
written_e d z h = small_e d (zeros d z) (eqb (nat_abs z) 0) (few_zeros d z h)

pub pattern_admitted : (d : ℕ) (z : ℤ) → 1 ≤ d → d ≤ 8 → Number (meaning d) z → admitted d (pattern d z) ≡ number z
unfolding pattern
pattern_admitted d z h l n = admitted_bytes d (written d z).m (written d z).e (lt_of_lt_of_le (small_m d z h l n) (lower (tens d 8 l))) (written_e d z (bound_of d z n)) ∙ sym (written_admitted d z h l n)
  where
    lower : {x : ℕ} → x ≤ 10 ^ 8 → x ≤ 2147483648
    lower h = omega arith

pub pattern_eight : (d : ℕ) (z : ℤ) → length (pattern d z) ≡ 8
unfolding pattern
pattern_eight d z = refl

pub pattern_bytes : (d : ℕ) (z : ℤ) → All (λ x. x < 256) (pattern d z)
unfolding pattern
pattern_bytes d z = let M = complement 32 (written d z).m in let e = complement 16 (written d z).e in are_bytes ((M / 2 ^ 24) ∷ (M / 2 ^ 16) ∷ (M / 256) ∷ M ∷ (e / 256) ∷ e ∷ 0 ∷ 0 ∷ [])

pub admitted_number : (d : ℕ) (bs : List ℕ) (a : ℤ) → 1 ≤ d → d ≤ 8 → admitted d bs ≡ number a → Number (meaning d) a
unfolding admitted
admitted_number d bs a h l e = go (ends_in_zeros bs) (M_in bs) (e_in bs) e
  where
    go : (t : Bool) (M e : ℤ) → cond t (admission d M e) (not_admitted 3) ≡ number a → Number (meaning d) a
    go true M e q = admission_number d M e a h l q
    go false M e q = let z : ◌≡◌ {A = ℕ} 0 1 = cc in absurd (omega arith)

-- ---- two's complement as the code has it
to_32 : (n : ℕ) → n < 4294967296 → to_z w32 n ≡ from_complement 32 n
to_32 n h = grind (arith, ints, nat_tests)

to_16 : (n : ℕ) → n < 65536 → to_z w16 n ≡ from_complement 16 n
to_16 n h = grind (arith, ints, nat_tests)

of_32 : (z : ℤ) → SFits w32 z → of_z w32 z ≡ complement 32 z
of_32 (pos n) f = let h = f.sfits in omega arith
of_32 (negsuc n) f = let h = f.sfits in omega arith

of_16 : (z : ℤ) → SFits w16 z → of_z w16 z ≡ complement 16 z
of_16 (pos n) f = let h = f.sfits in omega arith
of_16 (negsuc n) f = let h = f.sfits in omega arith

-- ---- what code admits
abbrev outcome : ℕ → List ℕ → Bool → Admission
outcome d bs t = cond t (admission d (M_in bs) (e_in bs)) (not_admitted 3)

pub sixth_other : (d : ℕ) (bs : List ℕ) → (get_or bs 6 0 ≡ 0 → ⊥) → (meaning d).admit bs ≡ not_admitted 3
unfolding meaning admitted
sixth_other d bs n = ap (outcome d bs) (test (get_or bs 6 0) (get_or bs 7 0) n)
  where
    test : (x y : ℕ) → (x ≡ 0 → ⊥) → (eqb x 0 && eqb y 0) ≡ false
    test x y n = grind (arith, nat_tests)

pub seventh_other : (d : ℕ) (bs : List ℕ) → (get_or bs 7 0 ≡ 0 → ⊥) → (meaning d).admit bs ≡ not_admitted 3
unfolding meaning admitted
seventh_other d bs n = ap (outcome d bs) (test (get_or bs 6 0) (get_or bs 7 0) n)
  where
    test : (x y : ℕ) → (y ≡ 0 → ⊥) → (eqb x 0 && eqb y 0) ≡ false
    test x y n = grind (arith, nat_tests)

pub admit_parts : (d : ℕ) (bs : List ℕ) → ((i : ℕ) → get_or bs i 0 < 256) → get_or bs 6 0 ≡ 0 → get_or bs 7 0 ≡ 0
    → (meaning d).admit bs ≡ admission d (to_z w32 (get_or bs 0 0 * 16777216 + get_or bs 1 0 * 65536 + get_or bs 2 0 * 256 + get_or bs 3 0)) (to_z w16 (get_or bs 4 0 * 256 + get_or bs 5 0))
unfolding meaning admitted
admit_parts d bs f x y =
    ap (outcome d bs) (test (get_or bs 6 0) (get_or bs 7 0) x y)
    ∙ sym (rw (to_32 _ (under_32 (get_or bs 0 0) (get_or bs 1 0) (get_or bs 2 0) (get_or bs 3 0) (f 0) (f 1) (f 2) (f 3)), to_16 _ (under_16 (get_or bs 4 0) (get_or bs 5 0) (f 4) (f 5))) refl)
  where
    under_32 : (a b c d : ℕ) → a < 256 → b < 256 → c < 256 → d < 256 → a * 16777216 + b * 65536 + c * 256 + d < 4294967296
    under_32 a b c d p q r s = omega arith

    under_16 : (a b : ℕ) → a < 256 → b < 256 → a * 256 + b < 65536
    under_16 a b p q = omega arith

    test : (x y : ℕ) → x ≡ 0 → y ≡ 0 → (eqb x 0 && eqb y 0) ≡ true
    test x y p q = grind (arith, nat_tests)

-- ---- what code writes
pub pattern_parts : (d : ℕ) (z : ℤ) (w : Written) → w ≡ written d z → SFits w32 w.m → SFits w16 w.e → (meaning d).pattern z ≡ bytes (of_z w32 w.m) (of_z w16 w.e)
unfolding meaning pattern
pattern_parts d z w e f g = sym (ap (λ (x : ℕ). bytes x (of_z w16 w.e)) (of_32 w.m f) ∙ ap (bytes (complement 32 w.m)) (of_16 w.e g) ∙ ap (λ (w : Written). bytes (complement 32 w.m) (complement 16 w.e)) e)
