-- A line tells at most one call, with at most one expected text: a text has one first match of another, words are read as at most one
-- pattern and as at most one count, and the names differ.
use Rattle.std.proofs.Common.{◌≡◌, ℕ, ◌<◌, List, [], ◌∷◌, drop, take, Some, None, Option, codes, ap, sym, ◌∙◌, subst, ⊎_elim, arith}
use Rattle.std.specs.Option.{unwrap_or}
use Rattle.std.specs.Str.Pattern.{FindsText, SplitsAroundMatch}
use Rattle.std.proofs.lemmas.Bool.{cases_lt}
use Rattle.std.proofs.lemmas.List.{ext_get_or}
use Rattle.patterns.specs.declared.Pattern.{Pattern}
use Rattle.comparison.specs.Words.{words, Counts}
use Rattle.calls.specs.declared.call.Call.{Call}
use Rattle.calls.specs.declared.call.Call.TheVariants.{Add, Ask, Examine, Clear}
use Rattle.cards.proofs.Reading.{two_names}
use Rattle.cards.specs.Questions.{TellsPattern, TellsOne, TellsThree, Tells, LineTells}

-- ---- the first match of a text
not_before : (p line : List ℕ) (i j k l : ℕ) → FindsText p line (Some (i, j)) → FindsText p line (Some (k, l)) → ¬ (i < k)
not_before p line i j k l f g h = g.0 i h (drop j line) f.1.split

one_place : (p line : List ℕ) (i j k l : ℕ) → FindsText p line (Some (i, j)) → FindsText p line (Some (k, l)) → i ≡ k
one_place p line i j k l f g = ⊎_elim (λ h. absurd (not_before p line i j k l f g h)) (λ h. ⊎_elim (λ m. absurd (not_before p line k l i j g f m)) (λ m. omega arith) (cases_lt k i)) (cases_lt i k)

pub one_front : (p line front back front' back' : List ℕ) → SplitsAroundMatch (FindsText p) line front back → SplitsAroundMatch (FindsText p) line front' back' → front ≡ front'
one_front p line front back front' back' f g = f.3 ∙ ap (λ n. take n line) (one_place p line f.0 f.1 g.0 g.1 f.2 g.2) ∙ sym g.3

pub one_back : (p line front back front' back' : List ℕ) → SplitsAroundMatch (FindsText p) line front back → SplitsAroundMatch (FindsText p) line front' back' → back ≡ back'
one_back p line front back front' back' f g =
    let place : f.0 ≡ g.0 = one_place p line f.0 f.1 g.0 g.1 f.2 g.2 in
    let end : f.1 ≡ g.1 = omega (arith, place, f.2.1.ends, g.2.1.ends) in
    f.4 ∙ ap (λ n. drop n line) end ∙ sym g.4

-- ---- the operands
one_count : (x : List ℕ) (j k : ℕ) → Counts x (Some j) → Counts x (Some k) → j ≡ k
one_count x j k f g = f.1 ∙ sym g.1

one_pattern : (x : List ℕ) (p q : Pattern) → TellsPattern x p → TellsPattern x q → p ≡ q
one_pattern x p q f g =
    let bytes : p.bytes ≡ q.bytes = ext_get_or 0 p.bytes q.bytes (f.1 ∙ sym g.1) (λ k h. let low : k < 8 = omega (arith, f.1) in ap (λ (o : Option ℕ). unwrap_or o 0) (sym (f.0.1 k low) ∙ g.0.1 k low)) in
    ap (λ (b : List ℕ). let r : Pattern = record { bytes = b } in r) bytes

-- ---- the call
one_of_one : (name x : List ℕ) (c d : Call) → TellsOne name x c → TellsOne name x d → c ≡ d
one_of_one name x (Add p) (Add q) f g = ap Add (one_pattern x p q f.1 g.1)
one_of_one name x (Add p) (Ask k) f g = absurd (two_names name f.0 g.0)
one_of_one name x (Add p) (Examine k q r) f g = absurd g
one_of_one name x (Add p) Clear f g = absurd g
one_of_one name x (Ask j) (Add q) f g = absurd (two_names name g.0 f.0)
one_of_one name x (Ask j) (Ask k) f g = ap Ask (one_count x j k f.1 g.1)
one_of_one name x (Ask j) (Examine k q r) f g = absurd g
one_of_one name x (Ask j) Clear f g = absurd g
one_of_one name x (Examine j p s) d f g = absurd f
one_of_one name x Clear d f g = absurd f

one_of_three : (name x y z : List ℕ) (c d : Call) → TellsThree name x y z c → TellsThree name x y z d → c ≡ d
one_of_three name x y z (Examine j p s) (Examine k q t) f g = λ i. Examine (one_count x j k f.1 g.1 i) (one_pattern y p q f.2 g.2 i) (one_pattern z s t f.3 g.3 i)
one_of_three name x y z (Examine j p s) (Add q) f g = absurd g
one_of_three name x y z (Examine j p s) (Ask k) f g = absurd g
one_of_three name x y z (Examine j p s) Clear f g = absurd g
one_of_three name x y z (Add p) d f g = absurd f
one_of_three name x y z (Ask j) d f g = absurd f
one_of_three name x y z Clear d f g = absurd f

one_call : (ws : List (List ℕ)) (c d : Call) → Tells ws c → Tells ws d → c ≡ d
one_call [] c d f g = absurd f
one_call (name ∷ []) c d f g = absurd f
one_call (name ∷ x ∷ []) c d f g = one_of_one name x c d f g
one_call (name ∷ x ∷ y ∷ []) c d f g = absurd f
one_call (name ∷ x ∷ y ∷ z ∷ []) c d f g = one_of_three name x y z c d f g
one_call (name ∷ x ∷ y ∷ z ∷ w ∷ more) c d f g = absurd f

-- ---- the line
module _ (line : List ℕ) (c d : Call) (expected expected' : List ℕ) (f : LineTells line c expected) (g : LineTells line d expected') where
  pub one_told : c ≡ d
  one_told = one_call (words f.question) c d f.tells (subst (λ q. Tells (words q) d) (one_front (codes " = ") line g.question expected' f.question expected g.parts f.parts) g.tells)

  pub one_expected : expected ≡ expected'
  one_expected = one_back (codes " = ") line f.question expected g.question expected' f.parts g.parts

-- ---- a line that tells no call
pub no_parts : (line : List ℕ) → FindsText (codes " = ") line None → (c : Call) (expected : List ℕ) → ¬ (LineTells line c expected)
no_parts line none c expected told = none told.parts.0 (omega (arith, told.parts.5, told.parts.7)) (drop told.parts.1 line) told.parts.2.1.split

pub no_call : (line question expected : List ℕ) → SplitsAroundMatch (FindsText (codes " = ")) line question expected → ((c : Call) → ¬ (Tells (words question) c)) → (c : Call) (other : List ℕ) → ¬ (LineTells line c other)
no_call line question expected parts none c other told = none c (subst (λ q. Tells (words q) c) (one_front (codes " = ") line told.question other question expected told.parts parts) told.tells)
