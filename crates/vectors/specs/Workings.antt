-- What a vector is worked to: each answer with the operation that it is an answer of.
use Rattle.std.specs.Prelude.{Some, None}
use Rattle.arithmetic.specs.Meaning.{Meaning}
use Rattle.vectors.specs.declared.vector.Vector.{Vector}
use Rattle.vectors.specs.declared.vector.Vector.TheVariants.{Sum, Product, Lift, Admit, AtMost}
use Rattle.vectors.specs.declared.tally.Operation.TheVariants.{Sum as RoundedSum, SplitSum, Product as RoundedProduct, SplitProduct, Lift as Lifting, Admission, Comparison}
use Rattle.vectors.specs.declared.work.Worked.{Worked}
use Rattle.operations.specs.Answers.{sum_answer, split_sum_answer, product_answer, split_product_answer, lift_answer, admission_answer, comparison_answer}

-- sums and products have two answers, of the rounded operation and of the split
abbrev pub worked : Meaning → Vector → Worked
worked m (Sum a b) = record { rounded = Some (RoundedSum, sum_answer m a b); whole = (SplitSum, split_sum_answer m a b) }
worked m (Product a b) = record { rounded = Some (RoundedProduct, product_answer m a b); whole = (SplitProduct, split_product_answer m a b) }
worked m (Lift a k) = record { rounded = None; whole = (Lifting, lift_answer m a k) }
worked m (Admit a) = record { rounded = None; whole = (Admission, admission_answer m a) }
worked m (AtMost a b) = record { rounded = None; whole = (Comparison, comparison_answer m a b) }
