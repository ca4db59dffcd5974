-- The one form by the significand's size and the zeros behind it, in naturals: with k zeros, e is k − 70. What M and e are
-- admitted as is then read off that form and the size in units; and what is admitted is a number, since its significand is
-- below 10^d.
use Rattle.std.proofs.Common.{◌≡◌, ℕ, ◌-◌, ◌*◌, ◌^◌, ◌<◌, ◌≤◌, Bool, true, false, cond, ◌&&◌, ◌||◌, eqb, ltb, leb, ℤ, pos, negsuc, ◌+ℤ◌, ◌-ℤ◌, ◌*ℤ◌, nat_abs, ◌≤ℤ◌, Some, None, Option, sym, refl, ap, ◌∙◌, subst, lt_of_lt_of_le, arith, w16, w32, w64, SFits, to_z, of_z}
use lib.Signed.{le_z_yes}
use Rattle.std.specs.Option.{ok_or}
use Rattle.std.proofs.lemmas.Int.{ints, to_z-of_z}
use Rattle.std.proofs.lemmas.Bool.{leb-true, leb-false, le-leb, lt-leb}
use Rattle.std.proofs.lemmas.Bool.Decides.{nat_tests}
use Rattle.integers.proofs.Integers.{abs_mul}
use Rattle.arithmetic.specs.Meaning.{Admission, number, not_admitted, Number}
use Rattle.arithmetic.specs.Setting.{Admits, admission as admission_by}
use Rattle.arithmetic.specs.declared.cause.Cause.TheVariants.{TooLarge}
use Rattle.scientific.specs.Numbers.{units, Formed}
use Rattle.scientific.specs.declared.number.Scientific.{Scientific}
use Rattle.scientific.proofs.Casts.{size_read, eight_digits}
use Rattle.scientific.proofs.Meanings.{bounded}
use Rattle.scientific.specs.Forms.{with_zeros, is_form, highest}
use Rattle.scientific.specs.Patterns.{from_to, has_digits, has_fewer, one_form, units_of, admission, reads, meaning}
use Rattle.scientific.specs.declared.precision.Precision.{Precision}
use Rattle.scientific.specs.declared.written.Written.{Written}
use Rattle.scientific.proofs.Tens.{tens, some_ten}
use Rattle.scientific.proofs.Values.{size_with}
use Rattle.scientific.proofs.NumberOf.{number_of}

-- ---- the exponent
at_zero : (k : ℕ) → from_to (pos 0) (pos 0) (pos k -ℤ pos 70) ≡ eqb k 70
at_zero k = grind (arith, ints, nat_tests)

at_least : (k : ℕ) → from_to (negsuc 69) (negsuc 69) (pos k -ℤ pos 70) ≡ eqb k 0
at_least k = grind (arith, ints, nat_tests)

within : (k d : ℕ) → d ≤ 8 → k ≤ 111 - d → from_to (negsuc 69) (pos (41 - d)) (pos k -ℤ pos 70) ≡ true
within k d h l = grind (arith, ints, nat_tests)

outside : (d : ℕ) (e a b : ℤ) → d ≤ 8 → from_to (negsuc 69) (pos (41 - d)) e ≡ false → negsuc 69 ≤ℤ a → b ≤ℤ pos (41 - d) → from_to a b e ≡ false
outside d e a b h l p q = grind (arith, ints, nat_tests)

-- the zeros that an exponent in the range stands for
record Zeros (d : ℕ) (e : ℤ) : Type 0 where
  pub k : ℕ
  pub is : e ≡ pos k -ℤ pos 70
  pub few : k ≤ 111 - d

zeros_of : (d : ℕ) (e : ℤ) → d ≤ 8 → from_to (negsuc 69) (pos (41 - d)) e ≡ true → Zeros d e
zeros_of d e h l = record { k = nat_abs (e +ℤ pos 70); is = grind (arith, ints, nat_tests); few = grind (arith, ints, nat_tests) }

back : (k : ℕ) → nat_abs ((pos k -ℤ pos 70) +ℤ pos 70) ≡ k
back k = omega (arith, ints)

-- ---- the form
together : (m k H L : ℕ) → 0 < H → H ≤ L → (eqb m 0 && eqb k 70) || (((leb H m && ltb m L) && true) || ((ltb 0 m && ltb m H) && eqb k 0)) ≡ cond (eqb m 0) (eqb k 70) (ltb m L && (eqb k 0 || leb H m))
together m k H L h l = grind (arith, nat_tests)

form_is : (d : ℕ) (M : ℤ) (k : ℕ) → d ≤ 8 → k ≤ 111 - d → one_form d M (pos k -ℤ pos 70) ≡ is_form d (nat_abs M) k
unfolding one_form
form_is d M k h l = rw (at_zero k, at_least k, within k d h l) (together (nat_abs M) k (10 ^ (d - 1)) (10 ^ d) (some_ten (d - 1)) (tens (d - 1) d (omega arith)))

nowhere : (a b c : Bool) → (a && false) || ((b && false) || (c && false)) ≡ false
nowhere true true true = refl
nowhere true true false = refl
nowhere true false true = refl
nowhere true false false = refl
nowhere false true true = refl
nowhere false true false = refl
nowhere false false true = refl
nowhere false false false = refl

-- an exponent out of range
form_not : (d : ℕ) (M e : ℤ) → d ≤ 8 → from_to (negsuc 69) (pos (41 - d)) e ≡ false → one_form d M e ≡ false
unfolding one_form
form_not d M e h l = rw (outside d e (pos 0) (pos 0) h l (le_z_yes tt) (omega (arith, ints)), l, outside d e (negsuc 69) (negsuc 69) h l (le_z_yes tt) (omega (arith, ints))) (nowhere (eqb (nat_abs M) 0) (has_digits d M) (has_fewer d M))

-- ---- admission
abbrev outcome : ℕ → ℤ → ℕ → Bool → Admission
outcome d M k t = cond t (cond (leb (nat_abs M * 10 ^ k) highest) (number (M *ℤ pos (10 ^ k))) (not_admitted 2)) (not_admitted 3)

admission_is : (d : ℕ) (M : ℤ) (k : ℕ) → d ≤ 8 → k ≤ 111 - d → admission d M (pos k -ℤ pos 70) ≡ outcome d M k (is_form d (nat_abs M) k)
unfolding admission
admission_is d M k h l = ap (λ (t : Bool). cond t (cond (leb (nat_abs (units_of M (pos k -ℤ pos 70))) highest) (number (units_of M (pos k -ℤ pos 70))) (not_admitted 2)) (not_admitted 3)) (form_is d M k h l) ∙ rw (back k, abs_mul M (pos (10 ^ k)))

pub admission_yes : (d : ℕ) (M : ℤ) (k : ℕ) → d ≤ 8 → k ≤ 111 - d → is_form d (nat_abs M) k ≡ true → nat_abs M * 10 ^ k ≤ highest → number (M *ℤ pos (10 ^ k)) ≡ admission d M (pos k -ℤ pos 70)
admission_yes d M k h l f s = sym (admission_is d M k h l ∙ ap (outcome d M k) f ∙ ap (λ (t : Bool). cond t (number (M *ℤ pos (10 ^ k))) (not_admitted 2)) (le-leb _ _ s))

admission_large : (d : ℕ) (M : ℤ) (k : ℕ) → d ≤ 8 → k ≤ 111 - d → is_form d (nat_abs M) k ≡ true → highest < nat_abs M * 10 ^ k → not_admitted 2 ≡ admission d M (pos k -ℤ pos 70)
admission_large d M k h l f s = sym (admission_is d M k h l ∙ ap (outcome d M k) f ∙ ap (λ (t : Bool). cond t (number (M *ℤ pos (10 ^ k))) (not_admitted 2)) (lt-leb _ _ s))

admission_other : (d : ℕ) (M : ℤ) (k : ℕ) → d ≤ 8 → k ≤ 111 - d → is_form d (nat_abs M) k ≡ false → not_admitted 3 ≡ admission d M (pos k -ℤ pos 70)
admission_other d M k h l f = sym (admission_is d M k h l ∙ ap (outcome d M k) f)

admission_out : (d : ℕ) (M e : ℤ) → d ≤ 8 → from_to (negsuc 69) (pos (41 - d)) e ≡ false → not_admitted 3 ≡ admission d M e
unfolding admission
admission_out d M e h l = ap (λ (t : Bool). cond t (cond (leb (nat_abs (units_of M e)) highest) (number (units_of M e)) (not_admitted 2)) (not_admitted 3)) (sym (form_not d M e h l))

-- ---- what is admitted is a number
pub few_digits : (d m k : ℕ) → is_form d m k ≡ true → m < 10 ^ d
few_digits d m k f = small m (10 ^ d) (10 ^ (d - 1)) k (some_ten d) f
  where
    small : (m L H k : ℕ) → 0 < L → cond (eqb m 0) (eqb k 70) (ltb m L && (eqb k 0 || leb H m)) ≡ true → m < L
    small m L H k p f = grind (arith, nat_tests)

formed_number : (d : ℕ) (M : ℤ) (k : ℕ) → 1 ≤ d → is_form d (nat_abs M) k ≡ true → nat_abs M * 10 ^ k ≤ highest → Number (meaning d) (M *ℤ pos (10 ^ k))
formed_number d M k h f s = number_of d (M *ℤ pos (10 ^ k)) h (record { m = nat_abs M; e = k; is = abs_mul M (pos (10 ^ k)); few = few_digits d (nat_abs M) k f }) (rw (abs_mul M (pos (10 ^ k))) s)

-- M and e that are admitted as a: in their one form with k zeros, and small
pub record Admitted (d : ℕ) (M e a : ℤ) : Type 0 where
  pub k : ℕ
  pub behind : e ≡ pos k -ℤ pos 70
  pub form : is_form d (nat_abs M) k ≡ true
  pub small : nat_abs M * 10 ^ k ≤ highest
  pub is : M *ℤ pos (10 ^ k) ≡ a

pub admitted_by : (d : ℕ) (M e a : ℤ) → d ≤ 8 → admission d M e ≡ number a → Admitted d M e a
admitted_by d M e a l q = go (from_to (negsuc 69) (pos (41 - d)) e) refl
  where
    go : (t : Bool) → from_to (negsuc 69) (pos (41 - d)) e ≡ t → Admitted d M e a
    go false n = let z : ◌≡◌ {A = ℕ} 0 1 = cc (admission_out d M e l n) in absurd (omega arith)
    go true n = formed (is_form d (nat_abs M) x.k) (leb (nat_abs M * 10 ^ x.k) highest) refl refl
      where
        x : Zeros d e
        x = zeros_of d e l n

        at : admission d M (pos x.k -ℤ pos 70) ≡ number a
        at = ap (admission d M) (sym x.is) ∙ q

        formed : (t u : Bool) → is_form d (nat_abs M) x.k ≡ t → leb (nat_abs M * 10 ^ x.k) highest ≡ u → Admitted d M e a
        formed false u f s = let o = admission_other d M x.k l x.few f in let z : ◌≡◌ {A = ℕ} 0 1 = cc (at, o) in absurd (omega arith)
        formed true false f s = let o = admission_large d M x.k l x.few f (leb-false _ _ s) in let z : ◌≡◌ {A = ℕ} 0 1 = cc (at, o) in absurd (omega arith)
        formed true true f s = let y = admission_yes d M x.k l x.few f (leb-true _ _ s) in record { k = x.k; behind = x.is; form = f; small = leb-true _ _ s; is = cc (at, y) }

pub admission_number : (d : ℕ) (M e a : ℤ) → 1 ≤ d → d ≤ 8 → admission d M e ≡ number a → Number (meaning d) a
admission_number d M e a h l q = let t = admitted_by d M e a l q in subst (Number (meaning d)) t.is (formed_number d M t.k h t.form t.small)

-- ---- reading
reads_by : (d : ℕ) (w : Written) (a : Admission) → a ≡ admission d w.m w.e → elim a [ number z ↦ z | not_admitted c ↦ pos 0 ] ≡ reads d w
unfolding reads
reads_by d w a e = ap (λ (a : Admission). elim a [ number z ↦ z | not_admitted c ↦ pos 0 ]) e

pub reads_number : (d : ℕ) (w : Written) (z : ℤ) → number z ≡ admission d w.m w.e → z ≡ reads d w
reads_number d w z e = reads_by d w (number z) e

pub reads_none : (d : ℕ) (w : Written) (c : ℕ) → not_admitted c ≡ admission d w.m w.e → pos 0 ≡ reads d w
reads_none d w c e = reads_by d w (not_admitted c) e

-- ---- with the size s of M and the zeros k apart, as code has them
module _ (p : Precision) (M e : ℤ) (s k : ℕ) (size : s ≡ nat_abs M) (behind : (e ≡ pos k -ℤ pos 70) × (k ≤ 111 - p.digits)) where
  abbrev d : ℕ
  d = p.digits

  formed_by : (t : Bool) → t ≡ is_form d s k → is_form d (nat_abs M) k ≡ t
  formed_by t f = sym (f ∙ ap (λ (x : ℕ). is_form d x k) size)

  at_e : (a : Admission) → a ≡ admission d M (pos k -ℤ pos 70) → a ≡ admission d M e
  at_e a q = q ∙ ap (admission d M) (sym behind.0)

  pub parts_other : false ≡ is_form d s k → not_admitted 3 ≡ admission d M e
  parts_other f = at_e (not_admitted 3) (admission_other d M k p.most behind.1 (formed_by false f))

  pub parts_large : true ≡ is_form d s k → highest < nat_abs (with_zeros M k) → not_admitted 2 ≡ admission d M e
  parts_large f l = at_e (not_admitted 2) (admission_large d M k p.most behind.1 (formed_by true f) (rw (size_with M k) at l))

  pub parts_number : (z : ℤ) → true ≡ is_form d s k → z ≡ with_zeros M k → nat_abs z ≤ highest → (number z ≡ admission d M e) × Number (meaning d) z
  parts_number z f q l = (ap number q ∙ at_e (number (with_zeros M k)) (admission_yes d M k p.most behind.1 (formed_by true f) small), rw q (formed_number d M k (omega (arith, p.least)) (formed_by true f) small))
    where
      small : nat_abs M * 10 ^ k ≤ highest
      small = rw (← size_with M k, ← q) l

-- ---- what code answers
pub out_of_range : (p : Precision) (M e : ℤ) → from_to (negsuc 69) (pos (41 - p.digits)) e ≡ false → admission p.digits M e ≡ not_admitted 3
out_of_range p M e h = sym (admission_out p.digits M e p.most h)

pub form_eight : (d s k : ℕ) → d ≤ 8 → true ≡ is_form d s k → s < 100000000
form_eight d s k h f = lt_of_lt_of_le (few_digits d s k (sym f)) (tens d 8 h)

module _ (p : Precision) (M e : ℤ) (s k : ℕ) (size : s ≡ nat_abs (to_z w32 (of_z w32 M))) (range_M : SFits w32 M) (range_e : SFits w16 e) (e_is : to_z w16 (of_z w16 e) ≡ pos k -ℤ pos 70) (few : k ≤ 111 - p.digits) where
  own_size : s ≡ nat_abs M
  own_size = size_read s M range_M size

  behind : (e ≡ pos k -ℤ pos 70) × (k ≤ 111 - p.digits)
  behind = (sym (to_z-of_z w16 e range_e) ∙ e_is, few)

  pub other_form : false ≡ is_form p.digits s k → admission p.digits M e ≡ not_admitted 3
  other_form f = sym (parts_other p M e s k own_size behind f)

  module _ (f : true ≡ is_form p.digits s k) where
    kept : to_z w64 (of_z w64 (to_z w32 (of_z w32 M))) ≡ M
    kept = rw (to_z-of_z w32 M range_M) (eight_digits M (rw own_size at (form_eight p.digits s k p.most f)))

    outcome_of : (o : Option Scientific) → Formed (with_zeros M k) o → (admission p.digits M e ≡ admission_by units (ok_or o TooLarge)) × Admits (meaning p.digits) units (ok_or o TooLarge)
    outcome_of (Some x) q = let t = parts_number p M e s k own_size behind (units x) f q (bounded x) in (sym t.0, t.1)
    outcome_of None q = (sym (parts_large p M e s k own_size behind f q), tt)

    pub made : (o : Option Scientific) → Formed (with_zeros (to_z w64 (of_z w64 (to_z w32 (of_z w32 M)))) k) o → admission p.digits M e ≡ admission_by units (ok_or o TooLarge)
    made o q = (outcome_of o (rw kept at q)).0

    pub made_number : (o : Option Scientific) → Formed (with_zeros (to_z w64 (of_z w64 (to_z w32 (of_z w32 M)))) k) o → Admits (meaning p.digits) units (ok_or o TooLarge)
    made_number o q = (outcome_of o (rw kept at q)).1
