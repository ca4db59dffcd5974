-- The counts of digits that a decimal arithmetic may have: from four to eight.
use Rattle.std.specs.Prelude.{ℕ, Bool, cond, ◌&&◌, Option, None, Some, nat_le}

abbrev pub is_precision : ℕ → Bool
is_precision d = nat_le 4 d && nat_le d 8

-- d as such a count; none where it is no such count
abbrev pub precision : ℕ → Option ℕ
precision d = cond (is_precision d) (Some d) None
