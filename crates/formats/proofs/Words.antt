-- A word that is none of the six names no format: the word of decimal ends with the one digit that tells its count, from 4 to 8.
use Rattle.std.proofs.Common.{ℕ, ◌+◌, List, [], ◌∷◌, ◌++◌, sym, subst, arith}
use Rattle.std.specs.Prelude.{◌≢◌, codes}
use Rattle.std.proofs.lemmas.Fmt.{decimal_digit}
use Rattle.scientific.proofs.Precisions.{each_precision}
use Rattle.formats.specs.Words.{format_name}
use Rattle.formats.specs.declared.Format.{Format}
use Rattle.formats.specs.declared.Format.TheVariants.{Binary64, Decimal}

pub another : (word : List ℕ) → word ≢ codes "binary64" → word ≢ codes "decimal4" → word ≢ codes "decimal5" → word ≢ codes "decimal6" → word ≢ codes "decimal7" → word ≢ codes "decimal8" → (f : Format) → word ≢ format_name f
another word h a b c d e Binary64 = h
another word h a b c d e (Decimal p) =
    subst (λ t. word ≢ (codes "decimal" ++ t)) (sym (decimal_digit p.digits (omega arith)))
    (each_precision (λ n. word ≢ (codes "decimal" ++ ((48 + n) ∷ []))) a b c d e p.digits p.least p.most)
