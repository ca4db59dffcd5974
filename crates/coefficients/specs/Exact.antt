-- The exact coefficients of the monic polynomial with given zeros.
use Rattle.std.specs.Prelude.{ℕ, zero, suc, List, [], ◌∷◌, ◌++◌, map, ℤ, pos, ◌+ℤ◌, ◌*ℤ◌, neg_ℤ}

-- all choices of k different positions, each as the list of the zeros that stand there
abbrev pub choices : ℕ → List ℤ → List (List ℤ)
choices zero zs = [] ∷ []
choices (suc k) [] = []
choices (suc k) (z ∷ zs) = map (λ c. z ∷ c) (choices k zs) ++ choices (suc k) zs

abbrev pub total : List ℤ → ℤ
total [] = pos 0
total (z ∷ zs) = z +ℤ total zs

abbrev pub product_of : List ℤ → ℤ
product_of [] = pos 1
product_of (z ∷ zs) = z *ℤ product_of zs

-- S of order k: the sum, over all choices of k different positions, of the product of the zeros chosen.
-- Where the zeros are multiples of 1/Q it is a multiple of 1/Q^k.
unfoldable pub symmetric : ℕ → List ℤ → ℤ
symmetric k zs = total (map product_of (choices k zs))

-- (−1)^k times v
abbrev pub signed : ℕ → ℤ → ℤ
signed zero v = v
signed (suc k) v = neg_ℤ (signed k v)

-- the coefficient of order k, which belongs to the power n − k of the polynomial with n zeros
abbrev pub coefficient : ℕ → List ℤ → ℤ
coefficient k zs = signed k (symmetric k zs)
