-- The formats whose rules follow by closed comparisons alone.
use Rattle.std.proofs.Common.{◌^◌, refl, lit≤}
use Rattle.arithmetic.proofs.RadixRules.{Lawful}

pub lawful_binary64 : Lawful 2 53 1074 (2 ^ 174) (2 ^ 1974)
lawful_binary64 = record { half = 1; even = refl; base = lit≤ tt; digits = lit≤ tt; fine = lit≤ tt; grains = lit≤ tt; room = lit≤ tt; low_above = lit≤ tt; low_one = lit≤ tt; high_one = lit≤ tt }
