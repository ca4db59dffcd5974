-- A list by what stands at its places.
use Rattle.std.proofs.Common.{◌≡◌, ℕ, List, [], ◌∷◌, Option, Some, None, refl, sym, ap, arith, slice_get}
use Rattle.std.specs.Option.{unwrap_or}

pub not_there : {X : Type 0} {x : X} → Some x ≡ None → ⊥
not_there {X} {x} e = let z : ◌≡◌ {A = ℕ} 1 0 = ap (λ (o : Option X). elim o [ Some y ↦ 1 | None ↦ 0 ]) e in absurd (omega arith)

same : {X : Type 0} {x y : X} → Some x ≡ Some y → x ≡ y
same {X} {x} {y} e = ap (λ (o : Option X). unwrap_or o x) e

put : {X : Type 0} {x y : X} {xs ys : List X} → x ≡ y → ys ≡ xs → y ∷ ys ≡ x ∷ xs
put e f = rw (e, f) refl

nothing : {X : Type 0} (xs : List X) → None ≡ slice_get xs 0 → xs ≡ []
nothing [] e = refl
nothing (x ∷ xs) e = absurd (not_there (sym e))

pub two_words : {X : Type 0} (ws : List X) (a b : X) → Some a ≡ slice_get ws 0 → Some b ≡ slice_get ws 1 → None ≡ slice_get ws 2 → ws ≡ a ∷ b ∷ []
two_words [] a b e f g = absurd (not_there e)
two_words (x ∷ []) a b e f g = absurd (not_there f)
two_words (x ∷ y ∷ ws) a b e f g = put (same e) (put (same f) (nothing ws g))

pub three_words : {X : Type 0} (ws : List X) (a b c : X) → Some a ≡ slice_get ws 0 → Some b ≡ slice_get ws 1 → Some c ≡ slice_get ws 2 → None ≡ slice_get ws 3 → ws ≡ a ∷ b ∷ c ∷ []
three_words [] a b c e f g h = absurd (not_there e)
three_words (x ∷ ws) a b c e f g h = put (same e) (two_words ws b c f g h)

pub four_words : {X : Type 0} (ws : List X) (a b c d : X) → Some a ≡ slice_get ws 0 → Some b ≡ slice_get ws 1 → Some c ≡ slice_get ws 2 → Some d ≡ slice_get ws 3 → None ≡ slice_get ws 4 → ws ≡ a ∷ b ∷ c ∷ d ∷ []
four_words [] a b c d e f g h i = absurd (not_there e)
four_words (x ∷ ws) a b c d e f g h i = put (same e) (three_words ws b c d f g h i)

-- ---- nothing is told by no word, nor by one alone
module _ {X C : Type 0} (Tells : List X → C → Type 0) (none : (c : C) → ¬ (Tells [] c)) where
  pub no_first : (ws : List X) → None ≡ slice_get ws 0 → (c : C) → ¬ (Tells ws c)
  no_first [] e c = none c
  no_first (w ∷ ws) e c = λ h. absurd (not_there (sym e))

  pub no_second : ((w : X) (c : C) → ¬ (Tells (w ∷ []) c)) → (ws : List X) → None ≡ slice_get ws 1 → (c : C) → ¬ (Tells ws c)
  no_second alone [] e c = none c
  no_second alone (w ∷ []) e c = alone w c
  no_second alone (w ∷ v ∷ ws) e c = λ h. absurd (not_there (sym e))
