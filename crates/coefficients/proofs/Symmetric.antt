-- The elementary symmetric sums: their recurrences, one zero more at the end, and that their order does not matter.
use Rattle.std.proofs.Common.{◌≡◌, ℕ, zero, suc, ◌+◌, ◌*◌, ◌^◌, ◌<◌, List, [], ◌∷◌, ◌++◌, map, length, ℤ, pos, ◌+ℤ◌, ◌*ℤ◌, sym, refl, ap, ◌∙◌, subst, arith}
use native.Mathlib.Nat.{pow-succ', pow-zero}
use lib.IntN.{ℤ_discrete}
use Rattle.std.proofs.lemmas.Int.{ints}
use Rattle.integers.specs.Occurrences.{how_often, one_if}
use Rattle.integers.proofs.Ring.{ring, at, num, ◌⊕◌, ◌⊗◌}
use Rattle.coefficients.specs.Exact.{choices, total, product_of, symmetric}

total_append : (a b : List ℤ) → total (a ++ b) ≡ total a +ℤ total b
total_append [] b = omega (arith, ints)
total_append (z ∷ a) b = ap (λ t. z +ℤ t) (total_append a b) ∙ omega (arith, ints)

map_append : (a b : List (List ℤ)) → map product_of (a ++ b) ≡ map product_of a ++ map product_of b
map_append [] b = refl
map_append (c ∷ a) b = ap (λ t. product_of c ∷ t) (map_append a b)

total_times : (z : ℤ) (cs : List (List ℤ)) → total (map product_of (map (λ c. z ∷ c) cs)) ≡ z *ℤ total (map product_of cs)
total_times z [] = omega (arith, ints)
total_times z (c ∷ cs) = ap (λ t. z *ℤ product_of c +ℤ t) (total_times z cs) ∙ ring (at z ⊗ at (product_of c) ⊕ at z ⊗ at (total (map product_of cs))) (at z ⊗ (at (product_of c) ⊕ at (total (map product_of cs)))) (omega arith)

pub sym_zero : (zs : List ℤ) → symmetric 0 zs ≡ pos 1
unfolding symmetric
sym_zero zs = refl

pub sym_none : (k : ℕ) → symmetric (suc k) [] ≡ pos 0
unfolding symmetric
sym_none k = refl

pub sym_cons : (k : ℕ) (z : ℤ) (zs : List ℤ) → symmetric (suc k) (z ∷ zs) ≡ z *ℤ symmetric k zs +ℤ symmetric (suc k) zs
unfolding symmetric
sym_cons k z zs = ap total (map_append (map (λ c. z ∷ c) (choices k zs)) (choices (suc k) zs))
    ∙ total_append (map product_of (map (λ c. z ∷ c) (choices k zs))) (map product_of (choices (suc k) zs))
    ∙ ap (λ t. t +ℤ total (map product_of (choices (suc k) zs))) (total_times z (choices k zs))

-- one zero more
pub sym_push : (k : ℕ) (x : ℤ) (zs : List ℤ) → symmetric (suc k) (zs ++ x ∷ []) ≡ symmetric (suc k) zs +ℤ x *ℤ symmetric k zs
sym_push k x [] = rw (sym_cons k x [], sym_none k) (omega (arith, ints))
sym_push zero x (z ∷ zs) = rw (sym_cons 0 z (zs ++ x ∷ []), sym_push 0 x zs, sym_cons 0 z zs, sym_zero, sym_zero, sym_zero)
    (ring (at z ⊗ num 1 ⊕ (at (symmetric 1 zs) ⊕ at x ⊗ num 1)) (at z ⊗ num 1 ⊕ at (symmetric 1 zs) ⊕ at x ⊗ num 1) (omega arith))
sym_push (suc k) x (z ∷ zs) = rw (sym_cons (suc k) z (zs ++ x ∷ []), sym_push (suc k) x zs, sym_push k x zs, sym_cons (suc k) z zs, sym_cons k z zs)
    (ring (at z ⊗ (at A ⊕ at x ⊗ at B) ⊕ (at S ⊕ at x ⊗ at A)) (at z ⊗ at A ⊕ at S ⊕ at x ⊗ (at z ⊗ at B ⊕ at A)) (omega arith))
  where
    S : ℤ
    S = symmetric (suc (suc k)) zs

    A : ℤ
    A = symmetric (suc k) zs

    B : ℤ
    B = symmetric k zs

-- more positions than zeros
pub sym_beyond : (k : ℕ) (zs : List ℤ) → length zs < k → symmetric k zs ≡ pos 0
sym_beyond zero zs h = absurd (omega arith)
sym_beyond (suc k) [] h = sym_none k
sym_beyond (suc k) (z ∷ zs) h = rw (sym_cons k z zs, sym_beyond k zs (omega arith), sym_beyond (suc k) zs (omega arith)) (omega (arith, ints))

-- a common factor
pub sym_times : (k q : ℕ) (zs : List ℤ) → symmetric k (map (λ z. z *ℤ pos q) zs) ≡ symmetric k zs *ℤ pos (q ^ k)
sym_times zero q zs = rw (sym_zero, sym_zero, pow-zero q)
sym_times (suc k) q [] = rw (sym_none k) (omega (arith, ints))
sym_times (suc k) q (z ∷ zs) = rw (sym_cons k (z *ℤ pos q) (map (λ y. y *ℤ pos q) zs), sym_times k q zs, sym_times (suc k) q zs, sym_cons k z zs, pow-succ' q k)
    (ring ((at z ⊗ num q) ⊗ (at (symmetric k zs) ⊗ num (q ^ k)) ⊕ at (symmetric (suc k) zs) ⊗ num (q * q ^ k)) ((at z ⊗ at (symmetric k zs) ⊕ at (symmetric (suc k) zs)) ⊗ num (q * q ^ k)) (omega arith))

-- ---- the order of the zeros
abbrev Alike : List ℤ → List ℤ → Type 0
Alike ys zs = (k : ℕ) → symmetric k ys ≡ symmetric k zs

alike_cons : (y : ℤ) (ys zs : List ℤ) → Alike ys zs → Alike (y ∷ ys) (y ∷ zs)
alike_cons y ys zs h zero = sym_zero (y ∷ ys) ∙ sym (sym_zero (y ∷ zs))
alike_cons y ys zs h (suc k) = rw (sym_cons k y ys, sym_cons k y zs, h k, h (suc k))

alike_swap : (y z : ℤ) (zs : List ℤ) → Alike (y ∷ z ∷ zs) (z ∷ y ∷ zs)
alike_swap y z zs zero = sym_zero (y ∷ z ∷ zs) ∙ sym (sym_zero (z ∷ y ∷ zs))
alike_swap y z zs (suc zero) = rw (sym_cons 0 y (z ∷ zs), sym_cons 0 z zs, sym_cons 0 z (y ∷ zs), sym_cons 0 y zs, sym_zero, sym_zero, sym_zero) (omega (arith, ints))
alike_swap y z zs (suc (suc k)) = rw (sym_cons (suc k) y (z ∷ zs), sym_cons (suc k) z zs, sym_cons k z zs, sym_cons (suc k) z (y ∷ zs), sym_cons (suc k) y zs, sym_cons k y zs)
    (ring (at y ⊗ (at z ⊗ at B ⊕ at A) ⊕ (at z ⊗ at A ⊕ at S)) (at z ⊗ (at y ⊗ at B ⊕ at A) ⊕ (at y ⊗ at A ⊕ at S)) (omega arith))
  where
    S : ℤ
    S = symmetric (suc (suc k)) zs

    A : ℤ
    A = symmetric (suc k) zs

    B : ℤ
    B = symmetric k zs

abbrev Equally : List ℤ → List ℤ → Type 0
Equally ys zs = (z : ℤ) → how_often z ys ≡ how_often z zs

record Pulled (z : ℤ) (ys : List ℤ) : Type 0 where
  rest : List ℤ
  alike : Alike ys (z ∷ rest)
  equally : Equally ys (z ∷ rest)

pull_head : (z y : ℤ) (ys : List ℤ) → z ≡ y → Pulled z (y ∷ ys)
pull_head z y ys e = subst (λ x. Pulled x (y ∷ ys)) (sym e) (record { rest = ys; alike = λ k. refl; equally = λ w. refl })

pull_tail : (z y : ℤ) (ys : List ℤ) → Pulled z ys → Pulled z (y ∷ ys)
pull_tail z y ys p = record { rest = y ∷ p.rest; alike = λ k. alike_cons y ys (z ∷ p.rest) p.alike k ∙ alike_swap y z p.rest k; equally = λ w. omega (arith, p.equally w) }

pull_by : (z y : ℤ) (ys : List ℤ) → (0 < how_often z ys → Pulled z ys) → (d : Dec (z ≡ y)) → 0 < one_if d + how_often z ys → Pulled z (y ∷ ys)
pull_by z y ys f (yes e) h = pull_head z y ys e
pull_by z y ys f (no n) h = pull_tail z y ys (f (omega arith))

pull : (z : ℤ) (ys : List ℤ) → 0 < how_often z ys → Pulled z ys
pull z [] h = absurd (omega arith)
pull z (y ∷ ys) h = pull_by z y ys (pull z ys) (ℤ_discrete z y) h

one_self : (z : ℤ) (d : Dec (z ≡ z)) → one_if d ≡ 1
one_self z (yes e) = refl
one_self z (no n) = absurd (n refl)

pub sym_equally : (ys zs : List ℤ) → ((z : ℤ) → how_often z ys ≡ how_often z zs) → (k : ℕ) → symmetric k ys ≡ symmetric k zs
sym_equally [] [] h k = refl
sym_equally [] (z ∷ zs) h k = absurd (omega (arith, h z, one_self z (ℤ_discrete z z)))
sym_equally (y ∷ ys) zs h k = alike_cons y ys p.rest (sym_equally ys p.rest (λ z. omega (arith, h z, p.equally z))) k ∙ sym (p.alike k)
  where
    p : Pulled y zs
    p = pull y zs (omega (arith, h y, one_self y (ℤ_discrete y y)))
