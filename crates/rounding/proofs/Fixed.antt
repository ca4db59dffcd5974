-- Rounding leaves a whole number of units that has p binary digits unchanged: what is rounded is nearest, and a number of
-- p digits is nearest to itself alone.
use Rattle.std.proofs.Common.{◌≡◌, ℕ, suc, ◌-◌, ◌*◌, ◌^◌, ℤ, pos, negsuc, neg_ℤ, sym, ap, ◌∙◌, subst, one-mul, div-one}
use lib.Ieee.{size}
use lib.Ieee.Nearest.{closest}
use Rattle.rounding.proofs.Model.{rounded, rounding}
use Rattle.rounding.proofs.BinaryNearest.{Nearest, Rep, exact}
use Rattle.rounding.proofs.ModelNearest.{round_nearest, nearest_neg}

rounded_one : (p n : ℕ) → closest n (2 ^ (size n - p)) * 2 ^ (size n - p) ≡ rounded p n 1
unfolding rounded
rounded_one p n = sym (ap (λ (z : ℕ). closest n (1 * 2 ^ (size z - p)) * 2 ^ (size z - p)) (div-one n) ∙ ap (λ (z : ℕ). closest n z * 2 ^ (size n - p)) (one-mul (2 ^ (size n - p))))

pub rounding_nearest : (q : ℕ) (v : ℤ) → Nearest (suc q) v (rounding (suc q) v 1)
unfolding rounding
rounding_nearest q (pos n) = subst (λ (z : ℕ). Nearest (suc q) (pos n) (pos z)) (rounded_one (suc q) n) (round_nearest q n)
rounding_nearest q (negsuc n) = subst (λ (z : ℕ). Nearest (suc q) (negsuc n) (neg_ℤ (pos z))) (rounded_one (suc q) (suc n)) (nearest_neg (suc q) (pos (suc n)) (pos (closest (suc n) (2 ^ (size (suc n) - suc q)) * 2 ^ (size (suc n) - suc q))) (round_nearest q (suc n)))

pub fixed : (q : ℕ) (v : ℤ) → Rep (suc q) v → rounding (suc q) v 1 ≡ v
fixed q v f = exact (suc q) v (rounding (suc q) v 1) f (rounding_nearest q v)
