-- The laws of rounding, put together.
use Rattle.std.proofs.Common.{subst}
use Rattle.rounding.specs.Digits.{Number}
use Rattle.rounding.specs.Laws.{RoundingLaws}
use Rattle.rounding.proofs.Signs as signs
use Rattle.rounding.proofs.Errors as errors

pub laws : RoundingLaws
laws β p Q base digits scale = record {
  nearest_even = signs.nearest_even β p Q base digits scale;
  only_one = signs.only_one β p Q base digits scale;
  number_stays = signs.number_stays β p Q base digits scale;
  what_stays = λ a e. subst (Number β p) e (signs.gives_number β p Q base digits scale a Q scale);
  alike = signs.alike β p Q base digits scale;
  monotone = signs.monotone β p Q base digits scale;
  twice = signs.twice_once β p Q base digits scale;
  odd = signs.odd β p Q base digits scale;
  whole_close = errors.whole_close β p Q base digits scale;
  fraction_close = errors.fraction_close β p Q base digits scale;
  sum_part = errors.sum_part β p Q base digits scale;
  product_part = errors.product_part β p Q base digits scale;
}
