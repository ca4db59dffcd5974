-- A word is read as a pattern, or it is not.
use Rattle.std.proofs.Common.{◌≡◌, ℕ, inl, inr, List, Option, Some, None, Ok, Err, sym, ap, ◌∙◌, arith}
use Rattle.patterns.specs.Patterns.{Reads}
use Rattle.patterns.specs.declared.Pattern.{Pattern}
use Rattle.patterns.specs.declared.NotAPattern.{NotAPattern}

pub not_both : (word : List ℕ) (e : NotAPattern) (p : Pattern) → Reads word (Err e) → Reads word (Ok p) → ⊥
not_both word e p (inl n) r = n r.0
not_both word e p (inr h) r = let z : ◌≡◌ {A = ℕ} 1 0 = ap (λ (o : Option ℕ). elim o [ Some x ↦ 1 | None ↦ 0 ]) (sym (r.1 h.0 h.1) ∙ h.2) in absurd (omega arith)
