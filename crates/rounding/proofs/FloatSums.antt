-- TwoSum over floats: the rounded sum and the rest that five more operations give add up to the exact sum. Each float
-- operation gives a nearest number (Floats), and with operands of at most 2^n units no step overflows, so the argument over
-- whole numbers (TwoSum) applies.
use Rattle.std.proofs.Common.{◌≡◌, ℕ, suc, ◌+◌, ◌^◌, ◌<◌, ◌≤◌, T, ℤ, ◌+ℤ◌, ◌-ℤ◌, inr, arith, lit<}
use borrow.Author.Differences.{same_out, sum_is_lem}
use lib.Ieee.{Float, Format, binary32, binary64, emax, low, add, sub}
use lib.Ieee.Fits.{add-fits, sub-fits}
use lib.Ieee.Scale.{finite}
use Rattle.rounding.specs.Value.{value}
use Rattle.rounding.proofs.BinaryNearest.{Near, Nearest, Within, keeps_within}
use Rattle.rounding.proofs.TwoSum.{Sum, sub_is, two_sum}
use Rattle.rounding.proofs.Split.{pow_le}
use Rattle.rounding.proofs.Floats.{digits, Held, value_rep, add_nearest, sub_nearest}

-- x is held, is nearest to v, and is at most 2 ^ n in size
pub record Op (f : Format) (n : ℕ) (v : ℤ) (x : Float) : Type 0 where
  pub held : Held f x
  pub near : Nearest (suc (digits f)) v (value f x)
  pub le : Within (2 ^ n) (value f x)

within_sum : (n : ℕ) (x y : ℤ) → Within (2 ^ n) x → Within (2 ^ n) y → Within (2 ^ suc n) (x +ℤ y)
within_sum n x y a b = omega (arith, sum_is_lem x y)

within_sub : (n : ℕ) (x y : ℤ) → Within (2 ^ n) x → Within (2 ^ n) y → Within (2 ^ suc n) (x -ℤ y)
within_sub n x y a b = omega (arith, sub_is x y)

pub within_up : (m n : ℕ) (x : ℤ) → m ≤ n → Within (2 ^ m) x → Within (2 ^ n) x
within_up m n x h a = omega (arith, pow_le m n h)

pub add_op : (f : Format) (n : ℕ) (x y : Float) → suc n < low f + suc (emax f) → Held f x → Held f y → Within (2 ^ n) (value f x) → Within (2 ^ n) (value f y)
    → Op f (suc n) (value f x +ℤ value f y) (add f x y)
add_op f n x y h hx hy a b =
    let w = within_sum n (value f x) (value f y) a b in
    let r = add_nearest f x y hx hy (inr (suc n, h, w)) in
    record { held = (add-fits f x y, r.0); near = r.1; le = keeps_within (suc (digits f)) (suc n) (value f x +ℤ value f y) (value f (add f x y)) (omega arith) r.1 w }

pub sub_op : (f : Format) (n : ℕ) (x y : Float) → suc n < low f + suc (emax f) → Held f x → Held f y → Within (2 ^ n) (value f x) → Within (2 ^ n) (value f y)
    → Op f (suc n) (value f x -ℤ value f y) (sub f x y)
sub_op f n x y h hx hy a b =
    let w = within_sub n (value f x) (value f y) a b in
    let r = sub_nearest f x y hx hy (inr (suc n, h, w)) in
    record { held = (sub-fits f x y, r.0); near = r.1; le = keeps_within (suc (digits f)) (suc n) (value f x -ℤ value f y) (value f (sub f x y)) (omega arith) r.1 w }

some_digits : (f : Format) → 0 < digits f
some_digits binary32 = lit< tt
some_digits binary64 = lit< tt

-- the second result of TwoSum, as the code computes it
abbrev pub rest : Format → Float → Float → Float → Float
rest f a b x = let z = sub f x a in add f (sub f a (sub f x z)) (sub f b z)

pub two_sum_floats : (f : Format) (n : ℕ) (a b : Float) → 5 + n < low f + suc (emax f) → Held f a → Held f b
    → Within (2 ^ n) (value f a) → Within (2 ^ n) (value f b)
    → Op f (suc n) (value f a +ℤ value f b) (add f a b) × T (finite (rest f a b (add f a b))) × (value f (add f a b) +ℤ value f (rest f a b (add f a b)) ≡ value f a +ℤ value f b)
two_sum_floats f n a b h ha hb la lb =
    let x = add f a b in
    let z = sub f x a in
    let u = sub f x z in
    let v = sub f a u in
    let w = sub f b z in
    let up1 = λ (m k : ℕ) (g : Float) (l : m ≤ k) (e : Within (2 ^ m) (value f g)). within_up m k (value f g) l e in
    let X = add_op f n a b (omega arith) ha hb la lb in
    let Z = sub_op f (suc n) x a (omega arith) X.held ha X.le (up1 n (suc n) a (omega arith) la) in
    let U = sub_op f (2 + n) x z (omega arith) X.held Z.held (up1 (suc n) (2 + n) x (omega arith) X.le) (up1 (suc (suc n)) (2 + n) z (omega arith) Z.le) in
    let V = sub_op f (3 + n) a u (omega arith) ha U.held (up1 n (3 + n) a (omega arith) la) (up1 (suc (2 + n)) (3 + n) u (omega arith) U.le) in
    let W = sub_op f (3 + n) b z (omega arith) hb Z.held (up1 n (3 + n) b (omega arith) lb) (up1 (suc (suc n)) (3 + n) z (omega arith) Z.le) in
    let Y = add_op f (4 + n) v w (omega arith) V.held W.held (up1 (suc (3 + n)) (4 + n) v (omega arith) V.le) (up1 (suc (3 + n)) (4 + n) w (omega arith) W.le) in (
      X,
      Y.held.1,
      two_sum (digits f) (value f a) (value f b) (value f x) (value f z) (value f u) (value f v) (value f w) (value f (add f v w)) (some_digits f) (value_rep f a ha) (value_rep f b hb) X.near Z.near U.near V.near W.near Y.near,
    )

-- where x is near the sum of x and y, y is small
pub left_within : (c : ℕ) (x y s v : ℤ) → Sum x y s → s ≡ v → Near c v x → Within c y
left_within c x y s v e g n = omega (arith, same_out s v g)

-- the error part is no larger than the limit
pub rest_within : (f : Format) (n : ℕ) (a b : Float) → 5 + n < low f + suc (emax f) → Held f a → Held f b → Within (2 ^ n) (value f a) → Within (2 ^ n) (value f b)
    → Within (2 ^ n) (value f (rest f a b (add f a b)))
rest_within f n a b h ha hb la lb =
    let t = two_sum_floats f n a b h ha hb la lb in
    let A = value f a in
    let B = value f b in
    let x = value f (add f a b) in
    let y = value f (rest f a b (add f a b)) in
    let c = t.0.near.best B (2 ^ n) (value_rep f b hb) (near_b (2 ^ n) A B (A +ℤ B) (sum_is_lem A B) la) in
    left_within (2 ^ n) x y (x +ℤ y) (A +ℤ B) (sum_is_lem x y) t.2 c
  where
    near_b : (c : ℕ) (a b s : ℤ) → Sum a b s → Within c a → Near c s b
    near_b c a b s e w = omega arith
