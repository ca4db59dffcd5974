-- The step of an addition, by its questions: first whether the bytes are a number, then questions 2, 3 and 4, then the work on the row.
use Rattle.std.proofs.Common.{◌≡◌, ℕ, suc, ◌<◌, ◌≤◌, min, true, false, eqb, List, [], ◌∷◌, ℤ, refl, ◌∙◌}
use Rattle.integers.proofs.Tests.{ltb_yes, ltb_no, taken, passed}
use Rattle.arithmetic.specs.Meaning.{Admission, number, not_admitted}
use Rattle.arithmetic.specs.Operations.{in_limits}
use Rattle.coefficients.specs.Row.{row_after}
use Rattle.coefficients.specs.Calls.{Making, State, Step, step, refuse, add_updated, add_number, add_admitted, add}

-- the step once x is admitted
pub with_number : Making → State → ℤ → Step
with_number b s x = add_number b s x

abbrev pub by_admission : Making → State → Admission → Step
by_admission b s (number x) = with_number b s x
by_admission b s (not_admitted c) = refuse s 17 (c ∷ [])

pub admitted_first : (b : Making) (s : State) (bytes : List ℕ) → step b s (add bytes) ≡ by_admission b s (b.meaning.admit bytes)
unfolding step with_number
admitted_first b s bytes = by (b.meaning.admit bytes)
  where
    by : (a : Admission) → add_admitted b s a ≡ by_admission b s a
    by (number x) = refl
    by (not_admitted c) = refl

module _ (b : Making) (s : State) (x : ℤ) where
  pub refused_2 : eqb s.out 0 ≡ false → with_number b s x ≡ refuse s 2 []
  unfolding with_number
  refused_2 h = passed _ _ _ h

  pub refused_3 : eqb s.out 0 ≡ true → 64 ≤ s.held → with_number b s x ≡ refuse s 3 []
  unfolding with_number
  refused_3 h l = taken _ _ _ h ∙ passed _ _ _ (ltb_no s.held 64 l)

  pub refused_4 : eqb s.out 0 ≡ true → s.held < 64 → in_limits b.meaning x ≡ false → with_number b s x ≡ refuse s 4 []
  unfolding with_number
  refused_4 h l f = taken _ _ _ h ∙ taken _ _ _ (ltb_yes s.held 64 l) ∙ passed _ _ _ f

  pub worked : eqb s.out 0 ≡ true → s.held < 64 → in_limits b.meaning x ≡ true → with_number b s x ≡ add_updated s (row_after b.meaning x s.row (min (suc s.held) b.K))
  unfolding with_number
  worked h l f = taken _ _ _ h ∙ taken _ _ _ (ltb_yes s.held 64 l) ∙ taken _ _ _ f

pub ruleset adding = (admitted_first, refused_2, refused_3, refused_4, worked)
