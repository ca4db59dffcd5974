-- Texts put one after the other. A beginning of the first text is one of both, and so is the first with a beginning of the second.
use Rattle.std.proofs.Common.{◌≡◌, ℕ, List, ◌++◌, length, take, drop, sym, ap, ◌∙◌}
use Rattle.std.proofs.Math.Seq.{take-append_seam}
use Rattle.std.proofs.lemmas.List.{append_assoc, take-append-drop}
use Rattle.std.specs.Io.{StartsWith}
use Rattle.report.specs.Puts.{TakesSome}

begins_with : (text taken rest : List ℕ) → taken ++ rest ≡ text → StartsWith text taken
begins_with text taken rest e = ap (λ t. take (length taken) t) (sym e) ∙ take-append_seam taken rest

-- what follows a beginning
after : (text taken : List ℕ) → StartsWith text taken → taken ++ drop (length taken) text ≡ text
after text taken h = ap (λ t. t ++ drop (length taken) text) (sym h) ∙ take-append-drop (length taken) text

module _ {S : Type 0} (takes : S → S → List ℕ → Type 0) where
  -- of the first text
  pub some_of_first : (s s' : S) (first second : List ℕ) → TakesSome takes s s' first → TakesSome takes s s' (first ++ second)
  some_of_first s s' first second p =
      (p.0, begins_with (first ++ second) p.0 (drop (length p.0) first ++ second) (sym (append_assoc p.0 (drop (length p.0) first) second) ∙ ap (λ t. t ++ second) (after first p.0 p.1)), p.2)

  -- the first text, and of the second
  pub some_after_first : ((r s t : S) (xs ys : List ℕ) → takes r s xs → takes s t ys → takes r t (xs ++ ys)) → (r s t : S) (first second : List ℕ) →
      takes r s first → TakesSome takes s t second → TakesSome takes r t (first ++ second)
  some_after_first in_turn r s t first second p q =
      (first ++ q.0, begins_with (first ++ second) (first ++ q.0) (drop (length q.0) second) (append_assoc first q.0 (drop (length q.0) second) ∙ ap (λ u. first ++ u) (after second q.0 q.1)), in_turn r s t first q.0 p q.2)
