-- The number of each cause for which eight bytes are no number.
use Rattle.std.specs.Prelude.{ℕ}
use Rattle.arithmetic.specs.declared.cause.Cause.{Cause}
use Rattle.arithmetic.specs.declared.cause.Cause.TheVariants.{NotFinite, TooLarge, NotInOneForm}

abbrev pub cause_number : Cause → ℕ
cause_number NotFinite = 1
cause_number TooLarge = 2
cause_number NotInOneForm = 3
