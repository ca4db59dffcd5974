-- Which words tell a call, its name and its operands; and which call a line tells, with what is expected of it.
use Rattle.std.specs.Prelude.{◌≡◌, ℕ, List, [], ◌∷◌, length, Option, Some, Ok, MatchOption, codes}
use Rattle.std.specs.Borrow.{Bor}
use Rattle.std.specs.Str.Pattern.{FindsText, SplitsAroundMatch}
use Rattle.patterns.specs.Patterns.{Reads}
use Rattle.patterns.specs.declared.Pattern.{Pattern}
use Rattle.comparison.specs.Words.{words, Counts}
use Rattle.calls.specs.declared.call.Call.{Call}
use Rattle.calls.specs.declared.call.Call.TheVariants.{Add, Ask, Examine, Clear}

-- the pattern that a word is read as; it has eight bytes
abbrev pub TellsPattern : List ℕ → Pattern → Type 0
TellsPattern x p = Reads x (Ok p) × (length p.bytes ≡ 8)

-- a name with one operand
abbrev pub TellsOne : List ℕ → List ℕ → Call → Type 0
TellsOne name x (Add zero) = (name ≡ codes "add") × TellsPattern x zero
TellsOne name x (Ask order) = (name ≡ codes "ask") × Counts x (Some order)
TellsOne name x (Examine order claim tolerance) = ⊥
TellsOne name x Clear = ⊥

-- a name with three
abbrev pub TellsThree : List ℕ → List ℕ → List ℕ → List ℕ → Call → Type 0
TellsThree name x y z (Examine order claim tolerance) = (name ≡ codes "mark") × Counts x (Some order) × TellsPattern y claim × TellsPattern z tolerance
TellsThree name x y z (Add zero) = ⊥
TellsThree name x y z (Ask order) = ⊥
TellsThree name x y z Clear = ⊥

-- so many words; a clearing is told by none
abbrev pub Tells : List (List ℕ) → Call → Type 0
Tells [] c = ⊥
Tells (name ∷ []) c = ⊥
Tells (name ∷ x ∷ []) c = TellsOne name x c
Tells (name ∷ x ∷ y ∷ []) c = ⊥
Tells (name ∷ x ∷ y ∷ z ∷ []) c = TellsThree name x y z c
Tells (name ∷ x ∷ y ∷ z ∷ w ∷ more) c = ⊥

-- the call that words tell; none where they tell none
abbrev pub IsCallOf : List (List ℕ) → Option Call → Type 0
IsCallOf ws r = MatchOption r ((c : Call) → ¬ (Tells ws c)) (λ c. Tells ws c)

-- a line is parted at its first ` = `: the words before it tell the call, and what follows it is expected
pub record LineTells (line : List ℕ) (c : Call) (expected : List ℕ) : Type 0 where
  pub question : List ℕ
  pub parts : SplitsAroundMatch (FindsText (codes " = ")) line question expected
  pub tells : Tells (words question) c

-- the call that a line tells, and what is expected of it; none where it tells none
abbrev pub IsToldBy : List ℕ → Option (Call × Bor (List ℕ)) → Type 0
IsToldBy line r = MatchOption r ((c : Call) (expected : List ℕ) → ¬ (LineTells line c expected)) (λ p. LineTells line p.0 p.1.now)
