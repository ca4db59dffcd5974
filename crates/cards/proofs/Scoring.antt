-- Lines are counted as they come from an iterator: what is scored of those that are left, from the state and the score that have been come to,
-- is scored of all of them, from the first state and score.
use Rattle.std.proofs.Common.{◌≡◌, ◌↔◌, ℕ, ◌+◌, ◌-◌, arith, Bool, true, false, not, cond, Option, Some, None, List, [], ◌∷◌, Bor, refl, ap, sym, subst, ◌∙◌}
use Rattle.std.specs.Prelude.{IsTrue}
use Rattle.std.proofs.lemmas.Iterator.{YieldsList}
use Rattle.arithmetic.specs.Meaning.{Meaning}
use Rattle.arithmetic.specs.Setting.{Setting, Stays}
use Rattle.coefficients.specs.Calls.{Making, State, new_bench}
use Rattle.bench.specs.Benches.{making_of, state_of, Keeps}
use Rattle.bench.specs.declared.bench.Bench.{Bench}
use Rattle.comparison.specs.Scores.{counted}
use Rattle.comparison.specs.declared.score.Score.{Score}
use Rattle.cards.specs.Checks.{Agrees, LeadsTo}
use Rattle.cards.specs.Cards.{is_comment, without_comments, Scored, card_making}

-- some lines are left to the iterator, and the score of them leads to that of all
pub record Remains {I : Type 0} (steps : I → Option (Bor (List ℕ)) → I → Type 0) (b : Making) (first : State) (before : Score) (all : List (List ℕ)) (i : I) (s : State) (score : Score) : Type 0 where
  pub rest : List (List ℕ)
  pub yields : YieldsList steps (λ line. line.now) i rest
  pub scored : (after : Score) → Scored b s score (without_comments rest) after → Scored b first before (without_comments all) after

module _ {I : Type 0} (steps : I → Option (Bor (List ℕ)) → I → Type 0) (b : Making) (first : State) (before : Score) (all : List (List ℕ)) where
  -- before the first line
  pub remain_all : (i : I) (s : State) (score : Score) → YieldsList steps (λ line. line.now) i all → s ≡ first → score ≡ before → Remains steps b first before all i s score
  remain_all i s score yields start none = record { rest = all; yields = yields; scored = λ after h. subst (λ x. Scored b first x (without_comments all) after) none (subst (λ t. Scored b t score (without_comments all) after) start h) }

  -- the first of the lines that are left, and those after it
  taken : (i j : I) (line : Bor (List ℕ)) (rest : List (List ℕ)) → YieldsList steps (λ line. line.now) i rest → steps i (Some line) j → (more : List (List ℕ)) × (rest ≡ line.now ∷ more) × YieldsList steps (λ line. line.now) j more
  taken i j line [] yields step = absurd (yields.runs line j step)
  taken i j line (x ∷ more) yields step = let k = yields.runs.1 line j step in (more, ap (λ w. w ∷ more) (sym k.0), record { runs = k.1 })

  split_off : (line : List ℕ) (more : List (List ℕ)) (c : Bool) → is_comment line ≡ c → without_comments (line ∷ more) ≡ cond (not c) (line ∷ without_comments more) (without_comments more)
  split_off line more c e = ap (λ d. cond (not d) (line ∷ without_comments more) (without_comments more)) e

  module _ (i j : I) (s : State) (score : Score) (r : Remains steps b first before all i s score) where
    -- after the last line
    ended : (rest : List (List ℕ)) → YieldsList steps (λ line. line.now) i rest → steps i None j → rest ≡ []
    ended [] yields step = refl
    ended (line ∷ more) yields step = absurd (yields.runs.0 j step)

    pub remain_none : steps i None j → Scored b first before (without_comments all) score
    remain_none step = r.scored score (subst (λ l. Scored b s score (without_comments l) score) (sym (ended r.rest r.yields step)) refl)

    -- after a comment
    pub remain_past_comment : (line : Bor (List ℕ)) → steps i (Some line) j → is_comment line.now ≡ true → Remains steps b first before all j s score
    remain_past_comment line step comment =
        let k = taken i j line r.rest r.yields step in
        record {
          rest = k.0;
          yields = k.2;
          scored = λ after h. r.scored after (subst (λ l. Scored b s score l after) (sym (ap without_comments k.1 ∙ split_off line.now k.0 true comment)) h);
        }

    -- after a line that is none and was counted
    pub remain_past_counted : (line : Bor (List ℕ)) (agrees : Bool) (t : State) → steps i (Some line) j → is_comment line.now ≡ false → IsTrue agrees ↔ Agrees b s line.now → LeadsTo b s line.now t → Remains steps b first before all j t (counted score agrees)
    remain_past_counted line agrees t step none agreed leads =
        let k = taken i j line r.rest r.yields step in
        record {
          rest = k.0;
          yields = k.2;
          scored = λ after h. r.scored after (subst (λ l. Scored b s score l after) (sym (ap without_comments k.1 ∙ split_off line.now k.0 false none)) (agrees, t, agreed, leads, h));
        }

  -- after a line that the code has told to be a comment
  pub remain_past_told : (i j : I) (s : State) (score : Score) → Remains steps b first before all i s score → (line : Bor (List ℕ)) → steps i (Some line) j → (told : Bool) → told ≡ is_comment line.now → told ≡ true → Remains steps b first before all j s score
  remain_past_told i j s score r line step told is value = remain_past_comment i j s score r line step (sym is ∙ value)

  -- after a line that was checked on a bench and counted: the state is that of the bench, by an arithmetic that is set as before
  module _ {A N P : Type 0} {g : _} (st st' : Setting P) (same : st' ≡ st) (bench bench' : Bench A N P g) (i j : I) (score score' : Score) (line : Bor (List ℕ)) (agrees : Bool) where
    pub remain_past_checked : Remains steps b first before all i (state_of st bench) score → making_of st bench ≡ b → steps i (Some line) j → (told : Bool) → told ≡ is_comment line.now → told ≡ false
        → IsTrue agrees ↔ Agrees (making_of st' bench) (state_of st' bench) line.now → LeadsTo (making_of st' bench) (state_of st' bench) line.now (state_of st' bench') → score' ≡ counted score agrees
        → Remains steps b first before all j (state_of st bench') score'
    remain_past_checked r making step told is value agreed leads counts =
        let agreed_here = subst (λ m. IsTrue agrees ↔ Agrees m (state_of st bench) line.now) making (subst (λ u. IsTrue agrees ↔ Agrees (making_of u bench) (state_of u bench) line.now) same agreed) in
        let leads_here = subst (λ m. LeadsTo m (state_of st bench) line.now (state_of st bench')) making (subst (λ u. LeadsTo (making_of u bench) (state_of u bench) line.now (state_of u bench')) same leads) in
        subst (λ x. Remains steps b first before all j (state_of st bench') x) (sym counts) (remain_past_counted i j (state_of st bench) score r line agrees (state_of st bench') step (sym is ∙ value) agreed_here leads_here)

-- ---- what stays of the arithmetic and of the bench
pub stays_on : {S P : Type 0} (setting : S → Setting P) (lawful : S → Type 0) (x y z : S) → Stays setting lawful x y → Stays setting lawful y z → Stays setting lawful x z
stays_on setting lawful x y z f g = record { same = g.same ∙ f.same; law = g.law }

pub keeps_making : {A N P : Type 0} {g : _} (st st' : Setting P) (bench bench' : Bench A N P g) (b : Making) → st' ≡ st → Keeps st' bench bench' → making_of st bench ≡ b → making_of st bench' ≡ b
keeps_making st st' bench bench' b same keeps making = subst (λ u. making_of u bench' ≡ making_of u bench) same keeps.making ∙ making

-- ---- the bench of a card of k + 1 cells
pub made_for_card : (m : Meaning) (made : Making) (cells k : ℕ) → made ≡ record { meaning = m; bench_number = 1; K = cells - 1 } → cells ≡ k + 1 → made ≡ card_making m k
made_for_card m made cells k is long = let highest : cells - 1 ≡ k = omega (arith, long) in is ∙ ap (card_making m) highest

pub new_for_card : (made card : Making) (s : State) → s ≡ new_bench made → made ≡ card → s ≡ new_bench card
new_for_card made card s new is = new ∙ ap new_bench is
