-- Why words tell a vector, or none.
use Rattle.std.proofs.Common.{◌≡◌, ℕ, ◌≢◌, List, [], ◌∷◌, Option, Some, None, Ok, codes, slice_get, slice_index, subst, sym, ap, ◌∙◌, arith}
use Rattle.patterns.specs.Patterns.{Reads}
use Rattle.patterns.specs.declared.Pattern.{Pattern}
use Rattle.comparison.specs.Words.{Counts}
use Rattle.comparison.proofs.Places.{not_there, two_words, three_words, no_first, no_second}
use Rattle.vectors.specs.declared.vector.Vector.{Vector}
use Rattle.vectors.specs.declared.vector.Vector.TheVariants.{Sum, Product, Lift, Admit, AtMost}
use Rattle.vectors.specs.Questions.{TellsOne, TellsTwo, Tells, IsVectorOf}

-- a word is one of two whose first letters differ
differ : (name one other : List ℕ) → name ≡ one → name ≡ other → slice_index one 0 ≡ slice_index other 0
differ name one other e f = ap (λ w. slice_index w 0) (sym e ∙ f)

-- ---- one operand
pub admit_unread : (name x : List ℕ) → ((p : Pattern) → ¬ (Reads x (Ok p))) → (v : Vector) → ¬ (TellsOne name x v)
admit_unread name x u (Admit a) h = u a h.1
admit_unread name x u (Sum a b) h = h
admit_unread name x u (Product a b) h = h
admit_unread name x u (Lift a k) h = h
admit_unread name x u (AtMost a b) h = h

pub other_one : (name x : List ℕ) → name ≢ codes "admit" → (v : Vector) → ¬ (TellsOne name x v)
other_one name x n (Admit a) h = n h.0
other_one name x n (Sum a b) h = h
other_one name x n (Product a b) h = h
other_one name x n (Lift a k) h = h
other_one name x n (AtMost a b) h = h

-- ---- two operands
pub first_unread : (name x y : List ℕ) → ((p : Pattern) → ¬ (Reads x (Ok p))) → (v : Vector) → ¬ (TellsTwo name x y v)
first_unread name x y u (Sum a b) h = u a h.1
first_unread name x y u (Product a b) h = u a h.1
first_unread name x y u (Lift a k) h = u a h.1
first_unread name x y u (AtMost a b) h = u a h.1
first_unread name x y u (Admit a) h = h

pub other_two : (name x y : List ℕ) → name ≢ codes "sum" → name ≢ codes "product" → name ≢ codes "lift" → name ≢ codes "at-most" → (v : Vector) → ¬ (TellsTwo name x y v)
other_two name x y s p l m (Sum a b) h = s h.0
other_two name x y s p l m (Product a b) h = p h.0
other_two name x y s p l m (Lift a k) h = l h.0
other_two name x y s p l m (AtMost a b) h = m h.0
other_two name x y s p l m (Admit a) h = h

pub sum_unread : (name x y : List ℕ) → name ≡ codes "sum" → ((p : Pattern) → ¬ (Reads y (Ok p))) → (v : Vector) → ¬ (TellsTwo name x y v)
sum_unread name x y e u (Sum a b) h = u b h.2
sum_unread name x y e u (Product a b) h = let z : ◌≡◌ {A = ℕ} 115 112 = differ name (codes "sum") (codes "product") e h.0 in absurd (omega arith)
sum_unread name x y e u (Lift a k) h = let z : ◌≡◌ {A = ℕ} 115 108 = differ name (codes "sum") (codes "lift") e h.0 in absurd (omega arith)
sum_unread name x y e u (AtMost a b) h = let z : ◌≡◌ {A = ℕ} 115 97 = differ name (codes "sum") (codes "at-most") e h.0 in absurd (omega arith)
sum_unread name x y e u (Admit a) h = h

pub product_unread : (name x y : List ℕ) → name ≡ codes "product" → ((p : Pattern) → ¬ (Reads y (Ok p))) → (v : Vector) → ¬ (TellsTwo name x y v)
product_unread name x y e u (Sum a b) h = let z : ◌≡◌ {A = ℕ} 112 115 = differ name (codes "product") (codes "sum") e h.0 in absurd (omega arith)
product_unread name x y e u (Product a b) h = u b h.2
product_unread name x y e u (Lift a k) h = let z : ◌≡◌ {A = ℕ} 112 108 = differ name (codes "product") (codes "lift") e h.0 in absurd (omega arith)
product_unread name x y e u (AtMost a b) h = let z : ◌≡◌ {A = ℕ} 112 97 = differ name (codes "product") (codes "at-most") e h.0 in absurd (omega arith)
product_unread name x y e u (Admit a) h = h

pub lift_unread : (name x y : List ℕ) → name ≡ codes "lift" → ((k : ℕ) → ¬ (Counts y (Some k))) → (v : Vector) → ¬ (TellsTwo name x y v)
lift_unread name x y e u (Sum a b) h = let z : ◌≡◌ {A = ℕ} 108 115 = differ name (codes "lift") (codes "sum") e h.0 in absurd (omega arith)
lift_unread name x y e u (Product a b) h = let z : ◌≡◌ {A = ℕ} 108 112 = differ name (codes "lift") (codes "product") e h.0 in absurd (omega arith)
lift_unread name x y e u (Lift a k) h = u k h.2
lift_unread name x y e u (AtMost a b) h = let z : ◌≡◌ {A = ℕ} 108 97 = differ name (codes "lift") (codes "at-most") e h.0 in absurd (omega arith)
lift_unread name x y e u (Admit a) h = h

pub at_most_unread : (name x y : List ℕ) → name ≡ codes "at-most" → ((p : Pattern) → ¬ (Reads y (Ok p))) → (v : Vector) → ¬ (TellsTwo name x y v)
at_most_unread name x y e u (Sum a b) h = let z : ◌≡◌ {A = ℕ} 97 115 = differ name (codes "at-most") (codes "sum") e h.0 in absurd (omega arith)
at_most_unread name x y e u (Product a b) h = let z : ◌≡◌ {A = ℕ} 97 112 = differ name (codes "at-most") (codes "product") e h.0 in absurd (omega arith)
at_most_unread name x y e u (Lift a k) h = let z : ◌≡◌ {A = ℕ} 97 108 = differ name (codes "at-most") (codes "lift") e h.0 in absurd (omega arith)
at_most_unread name x y e u (AtMost a b) h = u b h.2
at_most_unread name x y e u (Admit a) h = h

-- ---- by the count of words
pub no_name : (ws : List (List ℕ)) → None ≡ slice_get ws 0 → (v : Vector) → ¬ (Tells ws v)
no_name = no_first Tells (λ v h. h)

pub no_operand : (ws : List (List ℕ)) → None ≡ slice_get ws 1 → (v : Vector) → ¬ (Tells ws v)
no_operand = no_second Tells (λ v h. h) (λ name v h. h)

pub too_many : (ws : List (List ℕ)) (z : List ℕ) → Some z ≡ slice_get ws 3 → (v : Vector) → ¬ (Tells ws v)
too_many [] z e v h = h
too_many (name ∷ []) z e v h = h
too_many (name ∷ x ∷ []) z e v h = absurd (not_there e)
too_many (name ∷ x ∷ y ∷ []) z e v h = absurd (not_there e)
too_many (name ∷ x ∷ y ∷ w ∷ more) z e v h = h

pub one_operand : (ws : List (List ℕ)) (r : Option Vector) (name x : List ℕ) → Some name ≡ slice_get ws 0 → Some x ≡ slice_get ws 1 → None ≡ slice_get ws 2 → IsVectorOf (name ∷ x ∷ []) r → IsVectorOf ws r
one_operand ws r name x e f g h = subst (λ l. IsVectorOf l r) (sym (two_words ws name x e f g)) h

pub two_operands : (ws : List (List ℕ)) (r : Option Vector) (name x y : List ℕ) → Some name ≡ slice_get ws 0 → Some x ≡ slice_get ws 1 → Some y ≡ slice_get ws 2 → None ≡ slice_get ws 3 → IsVectorOf (name ∷ x ∷ y ∷ []) r → IsVectorOf ws r
two_operands ws r name x y e f g k h = subst (λ l. IsVectorOf l r) (sym (three_words ws name x y e f g k)) h
