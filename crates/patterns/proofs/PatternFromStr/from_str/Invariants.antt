-- The bytes below i are those of the word.
use Rattle.std.proofs.Common.{◌≡◌, ℕ, ◌<◌, get_or, Some}
use Rattle.patterns.specs.Patterns.{byte_at}
use Rattle.patterns.proofs.PatternFromStr.from_str.Given as goal

abbrev pub invariant-loop-i : goal.invariant-loop-i
invariant-loop-i l = (k : ℕ) → k < l.i → byte_at l.digits k ≡ Some (get_or l.byte-items k 0)
