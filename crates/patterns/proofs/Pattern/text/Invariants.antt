-- The bytes below the index are shown, two digits each.
use Rattle.std.proofs.Common.{◌≡◌, ◌*◌, length, take}
use Rattle.std.specs.Prelude.{flat_map}
use Rattle.patterns.specs.Patterns.{byte_text}
use Rattle.patterns.proofs.Pattern.text.Given as goal

abbrev pub invariant-loop-i : goal.invariant-loop-i
invariant-loop-i l = (l.text.bytes ≡ flat_map byte_text (take l.i l.self.bytes)) × (length l.text.bytes ≡ 2 * l.i)
