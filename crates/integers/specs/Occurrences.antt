-- How often a whole number stands in a list.
use Rattle.std.specs.Prelude.{ℕ, ◌+◌, List, [], ◌∷◌, ℤ}
use Rattle.std.proofs.Math.IntN.{ℤ_discrete}

abbrev pub one_if : {P : Type 0} → Dec P → ℕ
one_if (yes p) = 1
one_if (no p) = 0

-- 1 for each element that equals z
abbrev pub how_often : ℤ → List ℤ → ℕ
how_often z [] = 0
how_often z (y ∷ ys) = one_if (ℤ_discrete z y) + how_often z ys
