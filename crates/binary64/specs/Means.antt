-- A binary format as an arithmetic, for either format and any limits 2^least and 2^reach that leave room below and above.
-- `Means` is what the meaning of such an arithmetic has to be. From it: floats that are finite and at most 2^reach in size are
-- numbers, and the rounding of the meaning is the rounding of the float operations.
use Rattle.std.specs.Prelude.{◌≡◌, ℕ, zero, suc, ◌+◌, ◌-◌, ◌*◌, ◌/◌, ◌^◌, ◌<◌, ◌≤◌, Bool, true, false, not, T, ℤ, pos, negsuc, ◌≢◌, unsigned_abs, refl, Float}
use Rattle.std.proofs.Common.{sym, ap, ◌∙◌, subst, le_trans, le_of_eq, mul-one, lt_of_lt_of_le, lt_irrefl, arith, lit<, pow_pos}
use Rattle.std.proofs.Math.Pow.{pow-lt}
use Rattle.std.specs.Float.{nan, inf, fin, Format}
use Rattle.std.specs.Float.Ieee.{prec, emax, low, up, down, fits}
use Rattle.std.specs.Float.Ieee.Scale.{finite, overflow}
use borrow.Author.Differences as D
use Rattle.rounding.specs.Value.{signed, value, magnitude}
use Rattle.rounding.specs.ErrorFree.{place}
use Rattle.rounding.proofs.Model.{rounding}
use Rattle.rounding.proofs.Floats.{Held, digits, prec_is, value_rep}
use Rattle.rounding.proofs.FloatRounding.{Rounds, rounded_zero}
use Rattle.rounding.proofs.Fixed.{fixed}
use Rattle.arithmetic.specs.Meaning.{Meaning, Number}

pub record Means (f : Format) (least reach : ℕ) (m : Meaning) : Type 0 where
  pub scale : m.Q ≡ 2 ^ low f
  pub unit : m.U ≡ 2 ^ prec f
  pub lower : m.low ≡ 2 ^ least
  pub upper : m.high ≡ 2 ^ reach
  pub rounds : (z : ℤ) (d : ℕ) → 0 < d → m.rounding z (m.Q * d) ≡ rounding (prec f) z d
  -- the steps of TwoSum and of TwoProduct do not overflow
  pub sum_room : 5 + reach < low f + suc (emax f)
  pub product_room : reach + (8 + place f) < low f + suc (emax f)
  -- an exact product above the lower limit is a whole number of units
  pub below : ℕ
  pub least_is : least ≡ suc below
  pub low_room : suc (digits f) + suc (digits f) ≤ below
  pub high_room : suc (digits f) ≤ reach
  pub grains : 192 < 2 ^ prec f

-- a float that is a number: it fits the format, is finite and at most 2^reach in size
abbrev pub Fine : Format → ℕ → Float → Type 0
Fine f reach x = T (fits f x) × (finite x ≡ true) × (magnitude f x ≤ 2 ^ reach)

-- finite, and from 2^least to 2^reach in size
abbrev pub Ranged : Format → ℕ → ℕ → Float → Type 0
Ranged f least reach x = (finite x ≡ true) × (magnitude f x ≤ 2 ^ reach) × (2 ^ least ≤ magnitude f x)

pub true_of : (b : Bool) → T b → b ≡ true
true_of true t = refl
true_of false t = absurd t

pub held : (f : Format) (x : Float) → T (fits f x) → finite x ≡ true → Held f x
held f x h e = (h, subst T (sym e) tt)

pub size_signed : (s : Bool) (n : ℕ) → unsigned_abs (signed s n) ≡ n
size_signed true zero = refl
size_signed true (suc n) = refl
size_signed false n = refl

pub abs_value : (f : Format) (x : Float) → unsigned_abs (value f x) ≡ magnitude f x
unfolding value magnitude
abs_value f nan = refl
abs_value f (inf s) = refl
abs_value f (fin s m e) = size_signed s (m * up e * 2 ^ low f / down e)

pub zero_abs : (z : ℤ) → unsigned_abs z ≡ 0 → z ≡ pos 0
zero_abs (pos n) e = ap pos e
zero_abs (negsuc n) e = absurd (omega arith)

pub rounding_nil : (p : ℕ) (z : ℤ) (d : ℕ) → 0 < d → unsigned_abs z ≡ 0 → rounding p z d ≡ pos 0
unfolding rounding
rounding_nil p z d D e = ap (λ (y : ℤ). rounding p y d) (zero_abs z e) ∙ ap pos (rounded_zero p d D)

module _ (f : Format) (least reach : ℕ) (m : Meaning) (M : Means f least reach m) where
  -- ---- the rounding of the meaning
  scale_pos : 0 < m.Q
  scale_pos = subst (λ (n : ℕ). 0 < n) (sym M.scale) (pow_pos (low f))

  pub rounds_sum : (z : ℤ) → m.rounding z m.Q ≡ rounding (prec f) z 1
  rounds_sum z = ap (λ (n : ℕ). m.rounding z n) (sym (mul-one m.Q)) ∙ M.rounds z 1 (lit< tt)

  pub rounds_product : (z : ℤ) → m.rounding z (m.Q * m.Q) ≡ rounding (prec f) z (2 ^ low f)
  rounds_product z = M.rounds z m.Q scale_pos ∙ ap (rounding (prec f) z) M.scale

  pub left_over : (k : ℕ) → k ≤ 192 → 0 < 2 ^ prec f - k
  left_over k h = some k (2 ^ prec f) h M.grains
    where
      some : (k U : ℕ) → k ≤ 192 → 192 < U → 0 < U - k
      some k U h g = omega arith

  pub rounds_lift : (z : ℤ) (k : ℕ) → k ≤ 192 → m.rounding z (m.Q * (m.U - k)) ≡ rounding (prec f) z (2 ^ prec f - k)
  rounds_lift z k h = ap (λ (u : ℕ). m.rounding z (m.Q * (u - k))) M.unit ∙ M.rounds z (2 ^ prec f - k) (left_over k h)

  -- ---- sizes
  pub at_most : (x : Float) → magnitude f x ≤ 2 ^ reach → unsigned_abs (value f x) ≤ m.high
  at_most x s = le_trans (le_of_eq (abs_value f x)) (le_trans s (le_of_eq (sym M.upper)))

  pub small_of : (x : Float) → unsigned_abs (value f x) ≤ m.high → magnitude f x ≤ 2 ^ reach
  small_of x s = le_trans (le_of_eq (sym (abs_value f x))) (le_trans s (le_of_eq M.upper))

  pub at_least : (x : Float) → 2 ^ least ≤ magnitude f x → m.low ≤ unsigned_abs (value f x)
  at_least x s = le_trans (le_of_eq M.lower) (le_trans s (le_of_eq (sym (abs_value f x))))

  pub large_of : (x : Float) → m.low ≤ unsigned_abs (value f x) → 2 ^ least ≤ magnitude f x
  large_of x s = le_trans (le_of_eq (sym M.lower)) (le_trans s (le_of_eq (abs_value f x)))

  pub number_of : (x : Float) → Fine f reach x → Number m (value f x)
  number_of x (h, n, s) = record {
    unchanged = rounds_sum (value f x) ∙ subst (λ (p : ℕ). rounding p (value f x) 1 ≡ value f x) (sym (prec_is f)) (fixed (digits f) (value f x) (value_rep f x (held f x h n)));
    bounded = at_most x s;
  }

  -- ---- x is r rounded, or is infinite, where r is too large
  pub record Rounded (r : ℤ) (x : Float) : Type 0 where
    pub exact : T (finite x) → value f x ≡ r
    pub over : T (not (finite x)) → unsigned_abs r ≤ 2 ^ reach → ⊥

  over_high : (r : ℤ) → overflow f ≤ D.up r + D.down r → unsigned_abs r ≤ 2 ^ reach → ⊥
  over_high r h k = lt_irrefl (2 ^ reach) (lt_of_lt_of_le (pow-lt (room M.sum_room)) (le_trans h (le_trans (le_of_eq (sizes r)) k)))
    where
      room : {x : ℕ} → 5 + reach < x → reach < x
      room h = omega arith

      sizes : (r : ℤ) → D.up r + D.down r ≡ unsigned_abs r
      sizes (pos n) = omega arith
      sizes (negsuc n) = omega arith

  pub over_rounded : (r : ℤ) (x : Float) → Rounds f r x → Rounded r x
  over_rounded r x (e, o) = record { exact = e; over = λ t. over_high r (o t) }

  -- a rounded result that is not in range as a float is not in range as a number
  pub outside : (x : Float) (r : ℤ) → Rounded r x → (Ranged f least reach x → ⊥) → m.low ≤ unsigned_abs r → unsigned_abs r ≤ m.high → ⊥
  outside x r R h l u = go (finite x) refl
    where
      go : (t : Bool) → finite x ≢ t
      go true e =
          let v = R.exact (subst T (sym e) tt) in
          h (e, small_of x (subst (λ (z : ℤ). unsigned_abs z ≤ m.high) (sym v) u), large_of x (subst (λ (z : ℤ). m.low ≤ unsigned_abs z) (sym v) l))
      go false e = R.over (subst (λ (b : Bool). T (not b)) (sym e) tt) (subst (λ (n : ℕ). unsigned_abs r ≤ n) M.upper u)
