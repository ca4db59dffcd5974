-- Entries in turn: their answers, their lines, the state after them and the cells that they leave are those of the first and then those of the
-- others.
use Rattle.std.proofs.Common.{◌≡◌, ℕ, Bool, true, false, ◌||◌, List, [], ◌∷◌, ◌++◌, length, flat_map, sym, refl, ap, subst, ◌∙◌, arith}
use Rattle.std.proofs.lemmas.List.{append_assoc}
use Rattle.std.proofs.lemmas.Grind.{flat_map-append}
use Rattle.arithmetic.specs.Meaning.{Meaning}
use Rattle.arithmetic.specs.Setting.{Setting}
use Rattle.coefficients.specs.Calls.{Making, State, step}
use Rattle.coefficients.specs.Book.{Entry, state_after}
use Rattle.row.specs.declared.cell.Cell.{Cell}
use Rattle.bench.specs.Benches.{making_of, state_of, Keeps}
use Rattle.bench.specs.declared.bench.Bench.{Bench}
use Rattle.calls.specs.Cells.{writes, changes, any_writes, any_changes, Leaves}
use Rattle.calls.specs.Lines.{line, lines}
use Rattle.calls.specs.Told.{told_by, order_of, answers}
use Rattle.calls.specs.Works.{GoesOn}
use Rattle.slips.specs.Book.{in_turn}

pub answers_append : (m : Meaning) (es fs : List Entry) → answers m (es ++ fs) ≡ answers m es ++ answers m fs
answers_append m [] fs = refl
answers_append m (e ∷ es) fs = ap (λ t. told_by m (order_of e.call) e.answer ++ t) (answers_append m es fs) ∙ sym (append_assoc (told_by m (order_of e.call) e.answer) (answers m es) (answers m fs))

pub lines_append : (m : Meaning) (es fs : List Entry) → lines m (es ++ fs) ≡ lines m es ++ lines m fs
lines_append m es fs = ap (flat_map line) (answers_append m es fs) ∙ flat_map-append line (answers m es) (answers m fs)

pub state_append : (b : Making) (s : State) (es fs : List Entry) → state_after b s (es ++ fs) ≡ state_after b (state_after b s es) fs
state_append b s [] fs = refl
state_append b s (e ∷ es) fs = state_append b (step b s e.call).then es fs

-- ---- the cells
either : (t u : Bool) → (t || u) ≡ false → (t ≡ false) × (u ≡ false)
either true u h = absurd (cc h)
either false u h = (refl, h)

changes_append : (es fs : List Entry) → any_changes (es ++ fs) ≡ false → (any_changes es ≡ false) × (any_changes fs ≡ false)
changes_append [] fs h = (refl, h)
changes_append (e ∷ es) fs h =
    let p = either (changes e.answer) (any_changes (es ++ fs)) h in
    let q = changes_append es fs p.1 in
    (ap (λ t. t || any_changes es) p.0 ∙ q.0, q.1)

writes_append : (K j : ℕ) (es fs : List Entry) → any_writes K j (es ++ fs) ≡ false → (any_writes K j es ≡ false) × (any_writes K j fs ≡ false)
writes_append K j [] fs h = (refl, h)
writes_append K j (e ∷ es) fs h =
    let p = either (writes K j e.answer) (any_writes K j (es ++ fs)) h in
    let q = writes_append K j es fs p.1 in
    (ap (λ t. t || any_writes K j es) p.0 ∙ q.0, q.1)

leaves_on : {P : Type 0} (K : ℕ) (es fs : List Entry) (old now new : List (Cell P)) → length now ≡ length old → Leaves K es old now → Leaves K fs now new → Leaves K (es ++ fs) old new
leaves_on K es fs old now new long l m =
    record {
      all = λ h. let p = changes_append es fs h in m.all p.1 ∙ l.all p.0;
      others = λ j d within h. let p = writes_append K j es fs h in m.others j d (omega (arith, long, within)) p.1 ∙ l.others j d within p.0;
    }

keeps_on : {A N P : Type 0} {g : _} (st : Setting P) (b b' b'' : Bench A N P g) → Keeps st b b' → Keeps st b' b'' → Keeps st b b''
keeps_on st b b' b'' k l =
    record { making = l.making ∙ k.making; number = l.number ∙ k.number; long = l.long ∙ k.long; lender = l.lender ∙ k.lender; plain = λ p. l.plain (k.plain p) }

pub goes_on_in_turn : {A N P : Type 0} {g : _} (st : Setting P) (b b' b'' : Bench A N P g) (first second : Making → State → List Entry) →
    GoesOn st b b' first → GoesOn st b' b'' second → GoesOn st b b'' (in_turn first second)
goes_on_in_turn st b b' b'' first second p q =
    record {
      then = q.then ∙ ap (λ c. state_after c (state_of st b') (second c (state_of st b'))) p.keeps.making ∙ ap (λ s. state_after B s (second B s)) p.then ∙ sym (state_append B S (first B S) (second B S'));
      keeps = keeps_on st b b' b'' p.keeps q.keeps;
      cells = leaves_on B.K (first B S) (second B S') b.row.now b'.row.now b''.row.now p.keeps.long p.cells moved;
    }
  where
    B : Making
    B = making_of st b

    S : State
    S = state_of st b

    S' : State
    S' = state_after B S (first B S)

    moved : Leaves B.K (second B S') b'.row.now b''.row.now
    moved = subst (λ s. Leaves B.K (second B s) b'.row.now b''.row.now) p.then (subst (λ c. Leaves c.K (second c (state_of st b')) b'.row.now b''.row.now) p.keeps.making q.cells)
