-- Which words tell a vector: the name of its operation, and its operands.
use Rattle.std.specs.Prelude.{◌≡◌, ℕ, List, [], ◌∷◌, Option, Some, Ok, MatchOption, codes}
use Rattle.patterns.specs.Patterns.{Reads}
use Rattle.comparison.specs.Words.{Counts}
use Rattle.vectors.specs.declared.vector.Vector.{Vector}
use Rattle.vectors.specs.declared.vector.Vector.TheVariants.{Sum, Product, Lift, Admit, AtMost}

-- a name with one operand
abbrev pub TellsOne : List ℕ → List ℕ → Vector → Type 0
TellsOne name x (Admit a) = (name ≡ codes "admit") × Reads x (Ok a)
TellsOne name x (Sum a b) = ⊥
TellsOne name x (Product a b) = ⊥
TellsOne name x (Lift a k) = ⊥
TellsOne name x (AtMost a b) = ⊥

-- a name with two
abbrev pub TellsTwo : List ℕ → List ℕ → List ℕ → Vector → Type 0
TellsTwo name x y (Sum a b) = (name ≡ codes "sum") × Reads x (Ok a) × Reads y (Ok b)
TellsTwo name x y (Product a b) = (name ≡ codes "product") × Reads x (Ok a) × Reads y (Ok b)
TellsTwo name x y (Lift a k) = (name ≡ codes "lift") × Reads x (Ok a) × Counts y (Some k)
TellsTwo name x y (AtMost a b) = (name ≡ codes "at-most") × Reads x (Ok a) × Reads y (Ok b)
TellsTwo name x y (Admit a) = ⊥

-- so many words
abbrev pub Tells : List (List ℕ) → Vector → Type 0
Tells [] v = ⊥
Tells (name ∷ []) v = ⊥
Tells (name ∷ x ∷ []) v = TellsOne name x v
Tells (name ∷ x ∷ y ∷ []) v = TellsTwo name x y v
Tells (name ∷ x ∷ y ∷ z ∷ more) v = ⊥

-- the vector that words tell; none where they tell none
abbrev pub IsVectorOf : List (List ℕ) → Option Vector → Type 0
IsVectorOf ws r = MatchOption r ((v : Vector) → ¬ (Tells ws v)) (λ v. Tells ws v)
