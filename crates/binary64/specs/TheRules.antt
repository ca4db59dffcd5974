-- The rules of binary64: those of 53 digits in radix 2, with what its patterns are admitted as.
use Rattle.std.specs.Prelude.{◌≡◌, ℕ, ◌/◌, ◌^◌, List, [], ◌∷◌, ℤ, refl}
use Rattle.arithmetic.specs.Rules.{Rules}
use Rattle.arithmetic.proofs.RadixRules.{radix_rules}
use Rattle.arithmetic.proofs.Formats.{lawful_binary64}
use Rattle.arithmetic.proofs.Bytes.{are_bytes}
use Rattle.binary64.specs.Limits.{least, reach}
use Rattle.binary64.specs.Patterns.{meaning, admission, admitted, pattern, joined, bytes, written}
use Rattle.binary64.specs.Fields.{admission_number}
use Rattle.binary64.specs.Written.{written_admitted}

pub rules : Rules meaning
unfolding meaning admitted pattern least reach
rules = radix_rules 2 53 1074 (2 ^ 174) (2 ^ 1974) admitted pattern lawful_binary64 (λ bytes a e. admission_number (joined bytes) a e) (λ a h. written_admitted a h) (λ a. refl)
    (λ a. let b = written a in are_bytes ((b / 2 ^ 56) ∷ (b / 2 ^ 48) ∷ (b / 2 ^ 40) ∷ (b / 2 ^ 32) ∷ (b / 2 ^ 24) ∷ (b / 2 ^ 16) ∷ (b / 256) ∷ b ∷ []))

pub admit_is : (bs : List ℕ) → meaning.admit bs ≡ admission (joined bs)
unfolding meaning admitted
admit_is bs = refl

pub pattern_is : (z : ℤ) → meaning.pattern z ≡ bytes (written z)
unfolding meaning pattern
pattern_is z = refl
