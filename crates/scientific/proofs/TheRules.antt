-- The rules of decimal: those of d digits in radix 10, with what its patterns are admitted as.
use Rattle.std.proofs.Common.{◌≡◌, ℕ, ◌^◌, pos, refl, arith}
use Rattle.arithmetic.specs.Rules.{Rules}
use Rattle.arithmetic.proofs.RadixRules.{radix_rules}
use Rattle.scientific.specs.Forms.{lowest, highest}
use Rattle.scientific.specs.Patterns.{meaning, admitted, pattern}
use Rattle.scientific.specs.declared.precision.Precision.{Precision}
use Rattle.scientific.proofs.Lawfulness.{lawful}
use Rattle.scientific.proofs.BytePatterns.{admitted_number, pattern_admitted, pattern_eight, pattern_bytes}

pub rules : (p : Precision) → Rules (meaning p.digits)
unfolding meaning
rules p = let d = p.digits in radix_rules 10 d 70 lowest highest (admitted d) (pattern d) (lawful d p.least p.most) (λ bytes a e. admitted_number d bytes a (omega arith) p.most e) (λ a n. pattern_admitted d a (omega arith) p.most n) (pattern_eight d) (pattern_bytes d)

pub one_is : (d : ℕ) → pos (10 ^ 70) ≡ pos (meaning d).Q
unfolding meaning
one_is d = refl
