-- Why words tell a call, or none.
use Rattle.std.proofs.Common.{◌≡◌, ℕ, ◌≢◌, List, [], ◌∷◌, Option, Some, None, Ok, codes, slice_get, slice_index, subst, sym, ap, ◌∙◌, arith}
use Rattle.patterns.specs.Patterns.{Reads}
use Rattle.patterns.specs.declared.Pattern.{Pattern}
use Rattle.comparison.specs.Words.{Counts}
use Rattle.comparison.proofs.Places.{not_there, two_words, four_words, no_first, no_second}
use Rattle.calls.specs.declared.call.Call.{Call}
use Rattle.calls.specs.declared.call.Call.TheVariants.{Add, Ask, Examine, Clear}
use Rattle.cards.specs.Questions.{TellsOne, TellsThree, Tells, IsCallOf}

-- ---- one operand. The second letters of the two names differ.
pub two_names : (name : List ℕ) → name ≡ codes "add" → name ≡ codes "ask" → ⊥
two_names name e f = let z : ◌≡◌ {A = ℕ} 100 115 = ap (λ w. slice_index w 1) (sym e ∙ f) in absurd (omega arith)

pub add_unread : (name x : List ℕ) → name ≡ codes "add" → ((p : Pattern) → ¬ (Reads x (Ok p))) → (c : Call) → ¬ (TellsOne name x c)
add_unread name x e u (Add zero) h = u zero h.1.0
add_unread name x e u (Ask order) h = two_names name e h.0
add_unread name x e u (Examine order claim tolerance) h = h
add_unread name x e u Clear h = h

pub ask_unread : (name x : List ℕ) → name ≡ codes "ask" → ((k : ℕ) → ¬ (Counts x (Some k))) → (c : Call) → ¬ (TellsOne name x c)
ask_unread name x e u (Add zero) h = two_names name h.0 e
ask_unread name x e u (Ask order) h = u order h.1
ask_unread name x e u (Examine order claim tolerance) h = h
ask_unread name x e u Clear h = h

pub other_one : (name x : List ℕ) → name ≢ codes "add" → name ≢ codes "ask" → (c : Call) → ¬ (TellsOne name x c)
other_one name x a k (Add zero) h = a h.0
other_one name x a k (Ask order) h = k h.0
other_one name x a k (Examine order claim tolerance) h = h
other_one name x a k Clear h = h

-- ---- three operands
module _ (name x y z : List ℕ) where
  unread : ((order : ℕ) (claim tolerance : Pattern) → ¬ (TellsThree name x y z (Examine order claim tolerance))) → (c : Call) → ¬ (TellsThree name x y z c)
  unread u (Add zero) h = h
  unread u (Ask order) h = h
  unread u (Examine order claim tolerance) h = u order claim tolerance h
  unread u Clear h = h

  pub order_unread : ((k : ℕ) → ¬ (Counts x (Some k))) → (c : Call) → ¬ (TellsThree name x y z c)
  order_unread u = unread (λ k p q h. u k h.1)

  pub claim_unread : ((p : Pattern) → ¬ (Reads y (Ok p))) → (c : Call) → ¬ (TellsThree name x y z c)
  claim_unread u = unread (λ k p q h. u p h.2.0)

  pub tolerance_unread : ((p : Pattern) → ¬ (Reads z (Ok p))) → (c : Call) → ¬ (TellsThree name x y z c)
  tolerance_unread u = unread (λ k p q h. u q h.3.0)

  pub other_three : name ≢ codes "mark" → (c : Call) → ¬ (TellsThree name x y z c)
  other_three n = unread (λ k p q h. n h.0)

-- ---- by the count of words
pub no_name : (ws : List (List ℕ)) → None ≡ slice_get ws 0 → (c : Call) → ¬ (Tells ws c)
no_name = no_first Tells (λ c h. h)

pub no_operand : (ws : List (List ℕ)) → None ≡ slice_get ws 1 → (c : Call) → ¬ (Tells ws c)
no_operand = no_second Tells (λ c h. h) (λ name c h. h)

pub no_third : (ws : List (List ℕ)) (y : List ℕ) → Some y ≡ slice_get ws 2 → None ≡ slice_get ws 3 → (c : Call) → ¬ (Tells ws c)
no_third [] y e f c h = h
no_third (name ∷ []) y e f c h = h
no_third (name ∷ x ∷ []) y e f c h = absurd (not_there e)
no_third (name ∷ x ∷ w ∷ []) y e f c h = h
no_third (name ∷ x ∷ w ∷ z ∷ more) y e f c h = absurd (not_there (sym f))

pub too_many : (ws : List (List ℕ)) (w : List ℕ) → Some w ≡ slice_get ws 4 → (c : Call) → ¬ (Tells ws c)
too_many [] w e c h = h
too_many (name ∷ []) w e c h = h
too_many (name ∷ x ∷ []) w e c h = absurd (not_there e)
too_many (name ∷ x ∷ y ∷ []) w e c h = h
too_many (name ∷ x ∷ y ∷ z ∷ []) w e c h = absurd (not_there e)
too_many (name ∷ x ∷ y ∷ z ∷ v ∷ more) w e c h = h

pub one_operand : (ws : List (List ℕ)) (r : Option Call) (name x : List ℕ) → Some name ≡ slice_get ws 0 → Some x ≡ slice_get ws 1 → None ≡ slice_get ws 2 → IsCallOf (name ∷ x ∷ []) r → IsCallOf ws r
one_operand ws r name x e f g h = subst (λ l. IsCallOf l r) (sym (two_words ws name x e f g)) h

pub three_operands : (ws : List (List ℕ)) (r : Option Call) (name x y z : List ℕ) → Some name ≡ slice_get ws 0 → Some x ≡ slice_get ws 1 → Some y ≡ slice_get ws 2 → Some z ≡ slice_get ws 3 → None ≡ slice_get ws 4 → IsCallOf (name ∷ x ∷ y ∷ z ∷ []) r → IsCallOf ws r
three_operands ws r name x y z e f g k l h = subst (λ l. IsCallOf l r) (sym (four_words ws name x y z e f g k l)) h
