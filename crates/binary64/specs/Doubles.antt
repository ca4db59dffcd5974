-- The number that a double stands for, in units of 2^-1074.
use Rattle.std.specs.Prelude.{ℤ}
use Rattle.std.specs.Float.{binary64}
use Rattle.rounding.specs.Value.{value}
use Rattle.binary64.specs.declared.double.Double.{Double}

abbrev pub units : Double → ℤ
units n = value binary64 n.x
