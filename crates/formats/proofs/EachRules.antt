-- Each format that a number names has an arithmetic that shows the rules, by the tests that find its number: decimal has from four to eight
-- digits there.
use Rattle.std.proofs.Common.{ℕ, ◌≤◌, Bool, true, false, cond, ◌&&◌, T, eqb, leb, None, Some, arith, leb→le}
use Rattle.std.specs.Prelude.{IfSome}
use Rattle.integers.proofs.Tests.{both}
use Rattle.arithmetic.specs.Rules.{Rules}
use Rattle.binary64.specs.TheRules.{rules as binary64_rules}
use Rattle.scientific.proofs.TheRules.{rules as decimal_rules}
use Rattle.formats.specs.Formats.{binary64, decimal, format_of, meaning_of}

pub format_rules : (n : ℕ) → IfSome (format_of n) (λ format. Rules (meaning_of format))
format_rules n = by (eqb n 1) (eqb n 2) (leb 4 n && leb n 7) (λ t. t)
  where
    by : (is_1 is_2 is_digits : Bool) → (T is_digits → T (leb 4 n && leb n 7)) → IfSome (cond is_1 (Some binary64) (cond is_2 (Some (decimal 8)) (cond is_digits (Some (decimal n)) None))) (λ format. Rules (meaning_of format))
    by true b c h = binary64_rules
    by false true c h = decimal_rules (record { digits = 8; least = omega arith; most = omega arith })
    by false false true h =
        let t = both (leb 4 n) (leb n 7) (h tt) in
        let most : n ≤ 7 = leb→le n 7 t.1 in
        decimal_rules (record { digits = n; least = leb→le 4 n t.0; most = omega arith })
    by false false false h = tt
