-- The digits that are cut off are those past the d-th, at most eight; what is written reads as the number.
use Rattle.std.proofs.Common.{◌≡◌, ℕ, ◌+◌, ◌-◌, ◌^◌, ◌<◌, ◌≤◌, pos, ◌-ℤ◌, nat_abs, ap, ◌∙◌, subst, lt_of_le_of_lt, arith, lit<, rules, w16, w32, SFits, to_z, of_z}
use native.Mathlib.Decide.{dec_le}
use lib.Signed.{quot_z, ◌<ℤ◌}
use Rattle.integers.proofs.Naturals.{before}
use Rattle.std.proofs.lemmas.Int.{ints, to_z-of_z, fits_signed_from_abs, quot_fits}
use Rattle.scientific.specs.declared.number.Scientific.{Scientific}
use Rattle.scientific.specs.declared.written.Written.{Written}
use Rattle.scientific.specs.Numbers.{units}
use Rattle.scientific.specs.Patterns.{reads}
use Rattle.scientific.proofs.Tens.{tens, some_ten, below}
use Rattle.scientific.proofs.OneForm.{Counts}
use Rattle.scientific.proofs.Casts.{short, kept, narrow, zero_narrow}
use Rattle.scientific.proofs.CutDigits.{written_is}
use Rattle.scientific.proofs.OneWritten.{written_reads, written_none}
use Rattle.scientific.proofs.bytes.plain.Goals as goal

pub returns-then-a-eq0 : goal.returns-then-a-eq0
returns-then-a-eq0 c =
    let a = c.args.a in
    let d = c.args.p.digits in
    let e = written_none d a.significand a.zeros (zero_narrow a.significand (short a) c.if-a-eq0.true) in
    record { answer = e; back = ap (reads d) e ∙ written_reads d (units a) (omega arith) c.args.p.most c.requires }

-- the significand has c digits, of which x are cut off, and v is the power of ten that was read
module _ (a : Scientific) (c x v : ℕ) (C : Counts (nat_abs a.significand) c) (less : x ≤ c) (e : v ≡ 10 ^ x) where
  eight : c ≤ 8
  eight = go (dec_le c 8)
    where
      go : Dec (c ≤ 8) → c ≤ 8
      go (yes l) = l
      go (no l) = let k = before c (omega arith) in let q = below k.0 8 (lt_of_le_of_lt (C.1 k.0 k.1) (short a)) in absurd (omega (arith, k.1))

  power : 10 ^ x ≤ 10 ^ 8
  power = tens x 8 (omega (arith, eight))

  power_fits : SFits w32 (pos v)
  power_fits = rw e (fits_signed_from_abs w32 (pos (10 ^ x)) (lt_of_le_of_lt power (lit< tt)))

  power_is : to_z w32 v ≡ pos (10 ^ x)
  power_is = rw e (plain (10 ^ x) power)
    where
      plain : (y : ℕ) → y ≤ 10 ^ 8 → to_z w32 y ≡ pos y
      plain y h = omega (arith, ints)

  quotient_fits : SFits w32 (quot_z (to_z w32 (of_z w32 a.significand)) (to_z w32 v))
  quotient_fits = rw (kept a, power_is) (quot_fits w32 a.significand (pos (10 ^ x)) (narrow a.significand (short a)) (above (10 ^ x) (some_ten x)))
    where
      above : (y : ℕ) → 0 < y → pos 0 <ℤ pos y
      above y h = omega (arith, ints)

  m_is : to_z w32 (of_z w32 (quot_z (to_z w32 (of_z w32 a.significand)) (to_z w32 v))) ≡ quot_z a.significand (pos (10 ^ x))
  m_is = to_z-of_z w32 _ quotient_fits ∙ rw (kept a, power_is)

  few_zeros : a.zeros < 256 → a.zeros + x ≤ 300
  few_zeros z = omega (arith, eight)

counts : (a : Scientific) (n c : ℕ) → n ≡ nat_abs (to_z w32 (of_z w32 a.significand)) → Counts n c → Counts (nat_abs a.significand) c
counts a n c e h = subst (λ (x : ℕ). Counts x c) (e ∙ ap nat_abs (kept a)) h

pub overflow_cast-result : goal.overflow_cast-result
overflow_cast-result c = power_fits c.args.a c.digits.result c.saturating_sub-cut.result c.power.result (counts c.args.a c.unsigned_abs.result c.digits.result c.unsigned_abs.ensures.value (c.digits.ensures.under, c.digits.ensures.least)) (omega arith) c.power.ensures

pub nonzero_div-result : goal.nonzero_div-result
nonzero_div-result c = (rw c.power.ensures (some_ten c.saturating_sub-cut.result), quotient_fits c.args.a c.digits.result c.saturating_sub-cut.result c.power.result (counts c.args.a c.unsigned_abs.result c.digits.result c.unsigned_abs.ensures.value (c.digits.ensures.under, c.digits.ensures.least)) (omega arith) c.power.ensures)

pub exponent-requires : goal.exponent-requires
exponent-requires c = few_zeros c.args.a c.digits.result c.saturating_sub-cut.result c.power.result (counts c.args.a c.unsigned_abs.result c.digits.result c.unsigned_abs.ensures.value (c.digits.ensures.under, c.digits.ensures.least)) (omega arith) c.power.ensures (search rules)

pub returns : goal.returns
returns c =
    let a = c.args.a in
    let p = c.args.p in
    let x = c.saturating_sub-cut.result in
    let n = c.digits.result in
    let C = counts a c.unsigned_abs.result n c.unsigned_abs.ensures.value (c.digits.ensures.under, c.digits.ensures.least) in
    let w : Written = record { m = quot_z a.significand (pos (10 ^ x)); e = pos (a.zeros + x) -ℤ pos 70 } in
    let q : x ≡ n - p.digits = c.saturating_sub-cut.ensures in
    let e = written_is p.digits a.significand a.zeros n w a.full p.most C (λ h. c.if-a-eq0.false (ap (of_z w32) h)) (ap (λ (k : ℕ). quot_z a.significand (pos (10 ^ k))) q) (ap (λ (k : ℕ). pos (a.zeros + k) -ℤ pos 70) q) in
    let e_is : to_z w16 (of_z w16 c.exponent.result) ≡ pos (a.zeros + x) -ℤ pos 70 = to_z-of_z w16 c.exponent.result (record { sfits = c.exponent.type_inv }) ∙ c.exponent.ensures in
    rw (m_is a n x c.power.result C (omega arith) c.power.ensures, e_is)
    (record { answer = e; back = ap (reads p.digits) e ∙ written_reads p.digits (units a) (omega arith) p.most c.requires })
