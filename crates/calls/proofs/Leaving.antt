-- Which plain cells a call leaves, read off its entries: an addition is answered with the next number or refused, a clearing is accepted or
-- refused, and the other calls write none.
use Rattle.std.proofs.Common.{◌≡◌, ℕ, zero, suc, ◌-◌, ◌<◌, ◌≤◌, min, ◌⊎◌, inl, inr, Bool, true, false, cond, ◌&&◌, ◌||◌, leb, ltb, eqb, List, [], ◌∷◌, length, get_or, take, drop, sym, refl, ap, ◌∙◌, subst, arith, get_or-take, get_or-drop}
use Rattle.std.proofs.lemmas.Bool.{cases_lt}
use Rattle.integers.proofs.Tests.{leb_yes}
use Rattle.arithmetic.specs.Meaning.{Admission, number, not_admitted}
use Rattle.arithmetic.specs.Operations.{in_limits}
use Rattle.arithmetic.specs.Setting.{Setting}
use Rattle.coefficients.specs.Row.{Update, written, refused_at, row_after, new_row}
use Rattle.coefficients.specs.Calls.{Making, State, Answer, added, cleared, refused, step, refuse, add_updated, add_admitted, add, clear}
use Rattle.coefficients.specs.Book.{Entry, accepted}
use Rattle.row.specs.declared.cell.Cell.{Cell}
use Rattle.bench.specs.Benches.{making_of, state_of, AnswersCall, Keeps, AdditionLeaves, ClearingLeaves}
use Rattle.bench.specs.declared.bench.Bench.{Bench}
use Rattle.calls.specs.Entries.{alone}
use Rattle.calls.specs.Cells.{Leaves}
use Rattle.calls.specs.Works.{GoesOn}

pub same_left : {P : Type 0} (K : ℕ) (es : List Entry) (old new : List (Cell P)) → new ≡ old → Leaves K es old new
same_left K es old new e = record { all = λ h. e; others = λ j d l h. ap (λ r. get_or r j d) e }

-- ---- an addition
abbrev AsNext : State → Answer → Type 0
AsNext s a = (a ≡ added (suc s.held)) ⊎ ((r : ℕ) × (ds : List ℕ) × (a ≡ refused r ds))

by_questions : (s : State) (t u v : Bool) (w : Update) → AsNext s (cond t (cond u (cond v (add_updated s w) (refuse s 4 [])) (refuse s 3 [])) (refuse s 2 [])).answer
by_questions s true true true (written row) = inl refl
by_questions s true true true (refused_at j o) = inr (5, j ∷ o ∷ [], refl)
by_questions s true true false w = inr (4, [], refl)
by_questions s true false v w = inr (3, [], refl)
by_questions s false u v w = inr (2, [], refl)

answered_next : (b : Making) (s : State) (bytes : List ℕ) → AsNext s (step b s (add bytes)).answer
unfolding step
answered_next b s bytes = by (b.meaning.admit bytes)
  where
    by : (x : Admission) → AsNext s (add_admitted b s x).answer
    by (number x) = by_questions s (eqb s.out 0) (ltb s.held 64) (in_limits b.meaning x) (row_after b.meaning x s.row (min (suc s.held) b.K))
    by (not_admitted c) = inr (17, c ∷ [], refl)

module _ {P : Type 0} (K n : ℕ) (old new : List (Cell P)) (below : n ≤ K) where
  -- the cells of the orders from 1 to n alone are written
  outside : take 1 new ≡ take 1 old → drop (suc n) new ≡ drop (suc n) old → (j : ℕ) (d : Cell P) → (leb 1 j && leb j n) ≡ false → get_or new j d ≡ get_or old j d
  outside f e zero d h = sym (get_or-take 1 new 0 d (omega arith)) ∙ ap (λ r. get_or r 0 d) f ∙ get_or-take 1 old 0 d (omega arith)
  outside f e (suc j) d h = by (cases_lt j n)
    where
      after : n ≤ j → (row : List (Cell P)) → get_or row (suc j) d ≡ get_or (drop (suc n) row) (j - n) d
      after l row = sym (get_or-drop (suc n) row (j - n) d ∙ ap (λ i. get_or row i d) (omega (arith, l)))

      by : (j < n) ⊎ (n ≤ j) → get_or new (suc j) d ≡ get_or old (suc j) d
      by (inl l) = let is : true ≡ false = sym (ap (λ t. t && leb (suc j) n) (leb_yes 1 (suc j) (omega arith)) ∙ leb_yes (suc j) n l) ∙ h in absurd (cc is)
      by (inr l) = after l new ∙ ap (λ r. get_or r (j - n) d) e ∙ sym (after l old)

addition_left : {P : Type 0} (st : Setting P) (b : Making) (s : State) (bytes : List ℕ) (a : Answer) (n : ℕ) (t : Bool) (old new : List (Cell P)) →
    a ≡ (step b s (add bytes)).answer → AdditionLeaves st n t old new → accepted a ≡ t → n ≡ min (suc s.held) b.K → Leaves b.K (alone (add bytes) b s) old new
addition_left {P} st b s bytes a n t old new e l f i = by (step b s (add bytes)).answer e (answered_next b s bytes)
  where
    by : (a' : Answer) → a ≡ a' → AsNext s a' → Leaves b.K (record { call = add bytes; answer = a' } ∷ []) old new
    by a' e (inl p) = subst (λ x. Leaves b.K (record { call = add bytes; answer = x } ∷ []) old new) (sym p) (record {
      all = λ h. absurd (cc h);
      others = λ j d _ h. outside b.K n old new (omega (arith, i)) l.first l.beyond j d (ap (λ n. leb 1 j && leb j n) i ∙ or_none _ h);
    })
      where
        or_none : (t : Bool) → (t || false) ≡ false → t ≡ false
        or_none true h = h
        or_none false h = refl
    by a' e (inr (r, ds, p)) = same_left b.K _ old new (l.refused (sym f ∙ ap accepted (e ∙ p)))

pub addition_goes_on : {A N P : Type 0} {g : _} (st : Setting P) (b b' : Bench A N P g) (bytes : List ℕ) (a : Answer) (n : ℕ) (t : Bool) →
    AnswersCall st b b' (add bytes) a → AdditionLeaves st n t b.row.now b'.row.now → Keeps st b b' → accepted a ≡ t → n ≡ min (suc b.held) (length b.row.now - 1) → GoesOn st b b' (alone (add bytes))
addition_goes_on st b b' bytes a n t c l k f i =
    record { then = c.then; keeps = k; cells = addition_left st (making_of st b) (state_of st b) bytes a n t b.row.now b'.row.now c.answered l f i }

-- ---- a clearing
abbrev AsCleared : Answer → Type 0
AsCleared a = (a ≡ cleared) ⊎ (a ≡ refused 2 [])

answered_clear : (b : Making) (s : State) → AsCleared (step b s clear).answer
unfolding step
answered_clear b s = by (eqb s.out 0)
  where
    by : (t : Bool) → AsCleared (cond t (record { answer = cleared; then = record { row = new_row b.meaning b.K; held = 0; out = s.out } }) (refuse s 2 [])).answer
    by true = inl refl
    by false = inr refl

pub clearing_left : {P : Type 0} (st : Setting P) (b : Making) (s : State) (a : Answer) (t : Bool) (old new : List (Cell P)) →
    a ≡ (step b s clear).answer → ClearingLeaves st t old new → accepted a ≡ t → Leaves b.K (alone clear b s) old new
clearing_left {P} st b s a t old new e l f = by (step b s clear).answer e (answered_clear b s)
  where
    by : (a' : Answer) → a ≡ a' → AsCleared a' → Leaves b.K (record { call = clear; answer = a' } ∷ []) old new
    by a' e (inl p) = subst (λ x. Leaves b.K (record { call = clear; answer = x } ∷ []) old new) (sym p) (record { all = λ h. absurd (cc h); others = λ j d _ h. absurd (cc h) })
    by a' e (inr p) = same_left b.K _ old new (l.refused (sym f ∙ ap accepted (e ∙ p)))
