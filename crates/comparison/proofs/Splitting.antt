-- The parts that an iterator gives, one by one.
use Rattle.std.proofs.Common.{◌≡◌, ℕ, suc, List, [], ◌∷◌, Option, Some, None, Bor, refl, sym, ap, ◌∙◌, subst, slice_get}
use Rattle.std.specs.Option.{option_map}
use Rattle.std.proofs.lemmas.Iterator.{YieldsList}
use Rattle.comparison.specs.Words.{words, IsWordAt}

-- a list without its first element
abbrev rest : {X : Type 0} → List X → List X
rest [] = []
rest (x ∷ xs) = xs

rest_get : {X : Type 0} (xs : List X) (k : ℕ) → slice_get (rest xs) k ≡ slice_get xs (suc k)
rest_get [] k = refl
rest_get (x ∷ xs) k = refl

-- S is an iterator's state, which stays where nothing more comes
module _ {S : Type 0} (steps : S → Option (Bor (List ℕ)) → S → Type 0) (stays : (s t : S) → steps s None t → t ≡ s) where
  -- the parts that come from a state
  abbrev Gives : S → List (List ℕ) → Type 0
  Gives s ws = YieldsList steps (λ w. w.now) s ws

  next_part : (s t : S) (r : Option (Bor (List ℕ))) (ws : List (List ℕ)) → Gives s ws → steps s r t → (option_map (λ w. w.now) r ≡ slice_get ws 0) × Gives t (rest ws)
  next_part s t None [] g h = (refl, subst (λ u. Gives u []) (sym (stays s t h)) g)
  next_part s t (Some x) [] g h = absurd (g.runs x t h)
  next_part s t None (w ∷ ws) g h = absurd (g.runs.0 t h)
  next_part s t (Some x) (w ∷ ws) g h = (ap Some (g.runs.1 x t h).0, record { runs = (g.runs.1 x t h).1 })

  pub five_parts : (line : List ℕ) {s0 s1 s2 s3 s4 s5 : S} {r0 r1 r2 r3 r4 : Option (Bor (List ℕ))} → Gives s0 (words line) → steps s0 r0 s1 → steps s1 r1 s2 → steps s2 r2 s3 → steps s3 r3 s4 → steps s4 r4 s5
      → IsWordAt line 0 r0 × IsWordAt line 1 r1 × IsWordAt line 2 r2 × IsWordAt line 3 r3 × IsWordAt line 4 r4
  five_parts line {s0} {s1} {s2} {s3} {s4} {s5} {r0} {r1} {r2} {r3} {r4} g h0 h1 h2 h3 h4 =
      let ws : List (List ℕ) = words line in
      let p0 : (option_map (λ w. w.now) r0 ≡ slice_get ws 0) × Gives s1 (rest ws) = next_part s0 s1 r0 ws g h0 in
      let p1 : (option_map (λ w. w.now) r1 ≡ slice_get (rest ws) 0) × Gives s2 (rest (rest ws)) = next_part s1 s2 r1 (rest ws) p0.1 h1 in
      let p2 : (option_map (λ w. w.now) r2 ≡ slice_get (rest (rest ws)) 0) × Gives s3 (rest (rest (rest ws))) = next_part s2 s3 r2 (rest (rest ws)) p1.1 h2 in
      let p3 : (option_map (λ w. w.now) r3 ≡ slice_get (rest (rest (rest ws))) 0) × Gives s4 (rest (rest (rest (rest ws)))) = next_part s3 s4 r3 (rest (rest (rest ws))) p2.1 h3 in
      let p4 = next_part s4 s5 r4 (rest (rest (rest (rest ws)))) p3.1 h4 in (
        p0.0,
        p1.0 ∙ rest_get ws 0,
        p2.0 ∙ rest_get (rest ws) 0 ∙ rest_get ws 1,
        p3.0 ∙ rest_get (rest (rest ws)) 0 ∙ rest_get (rest ws) 1 ∙ rest_get ws 2,
        p4.0 ∙ rest_get (rest (rest (rest ws))) 0 ∙ rest_get (rest (rest ws)) 1 ∙ rest_get (rest ws) 2 ∙ rest_get ws 3,
      )
