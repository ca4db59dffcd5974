-- The law of the answers, over every kept book of every bench and every arithmetic that shows the rules. It compares exact
-- values as whole numbers, with the denominators cleared: a/Q against coefficient/Q^k, both times Q^(k+1).
use Rattle.std.specs.Prelude.{◌≡◌, ℕ, ◌^◌, List, [], ◌∷◌, ◌++◌, map, ℤ, pos, ◌+ℤ◌, ◌-ℤ◌, ◌*ℤ◌, ◌≤ℤ◌, ◌<ℤ◌, unsigned_abs}
use Rattle.integers.specs.Occurrences.{how_often}
use Rattle.arithmetic.specs.Meaning.{Meaning, number}
use Rattle.arithmetic.specs.Rules.{Rules}
use Rattle.coefficients.specs.Exact.{coefficient}
use Rattle.coefficients.specs.Closing.{Verdict, right, wrong}
use Rattle.coefficients.specs.Calls.{Making, State, Call, Answer, step, ask, mark, asked, marked}
use Rattle.coefficients.specs.Book.{Entry, Stands, Place, zeros_held}

-- how far a lies from the exact coefficient of order k of the zeros zs
abbrev pub distance : Meaning → ℕ → List ℤ → ℤ → ℤ
distance m k zs a = pos (unsigned_abs (a *ℤ pos (m.Q ^ k) -ℤ coefficient k zs *ℤ pos m.Q))

-- a bound or a tolerance in the same unit
abbrev pub scaled : Meaning → ℕ → ℤ → ℤ
scaled m k a = a *ℤ pos (m.Q ^ k)

-- the same exact zeros, equally often, in whatever order: y/Q and z/Q' as multiples of 1/(Q Q')
abbrev pub SameZeros : Meaning → List ℤ → Meaning → List ℤ → Type 0
SameZeros m ys m' zs = (z : ℤ) → how_often z (map (λ y. y *ℤ pos m'.Q) ys) ≡ how_often z (map (λ y. y *ℤ pos m.Q) zs)

-- (a) each answered value differs from the exact coefficient of its order, for the zeros then held, by at most its bound
abbrev pub ValuesEnclosed : Type 0
ValuesEnclosed = (b : Making) → Rules b.meaning → (before : List Entry) (k : ℕ) (v e : ℤ) → Place b before (ask k) (asked v e) →
    distance b.meaning k (zeros_held b.meaning before) v ≤ℤ scaled b.meaning k e

-- (b) a claim marked right differs from the exact coefficient by at most its tolerance T, one marked wrong by more
pub record VerdictHolds (m : Meaning) (k : ℕ) (zs : List ℤ) (claim T : ℤ) (v : Verdict) : Type 0 where
  pub if_right : v ≡ right → distance m k zs claim ≤ℤ scaled m k T
  pub if_wrong : v ≡ wrong → scaled m k T <ℤ distance m k zs claim

abbrev pub VerdictsHold : Type 0
VerdictsHold = (b : Making) → Rules b.meaning → (before : List Entry) (question k : ℕ) (claim_bytes tolerance_bytes : List ℕ) (v : Verdict) →
    Place b before (mark question k claim_bytes tolerance_bytes) (marked v) →
    (claim T : ℤ) → b.meaning.admit claim_bytes ≡ number claim → b.meaning.admit tolerance_bytes ≡ number T →
    VerdictHolds b.meaning k (zeros_held b.meaning before) claim T v

-- (c) two values of one order, in one book or two, of one arithmetic or two, differ by at most both bounds together where the
-- same exact zeros are held: v/Q and v'/Q' as multiples of 1/(Q Q')
abbrev pub WithinBoth : Meaning → ℤ → ℤ → Meaning → ℤ → ℤ → Type 0
WithinBoth m v e m' v' e' = pos (unsigned_abs (v *ℤ pos m'.Q -ℤ v' *ℤ pos m.Q)) ≤ℤ (e *ℤ pos m'.Q +ℤ e' *ℤ pos m.Q)

abbrev pub ValuesAgree : Type 0
ValuesAgree = (b b' : Making) → Rules b.meaning → Rules b'.meaning → (before before' : List Entry) (k : ℕ) (v e v' e' : ℤ) →
    Place b before (ask k) (asked v e) → Place b' before' (ask k) (asked v' e') →
    SameZeros b.meaning (zeros_held b.meaning before) b'.meaning (zeros_held b'.meaning before') →
    WithinBoth b.meaning v e b'.meaning v' e'

-- the law, whole
pub record BookLaw : Type 0 where
  pub enclosed : ValuesEnclosed
  pub judged : VerdictsHold
  pub agree : ValuesAgree

-- the law at one call of a bench in state s: for every book at whose end the bench stands, the book goes on by this entry, and
-- what the law says of such an answer holds
pub record CallLaw (b : Making) (s : State) (call : Call) (answer : Answer) : Type 0 where
  pub goes_on : (book : List Entry) → Stands b book s → Stands b (book ++ (record { call = call; answer = answer } ∷ [])) (step b s call).then
  pub encloses : (book : List Entry) (k : ℕ) (v e : ℤ) → Stands b book s → call ≡ ask k → answer ≡ asked v e →
      distance b.meaning k (zeros_held b.meaning book) v ≤ℤ scaled b.meaning k e
  pub judges : (book : List Entry) (question k : ℕ) (claim_bytes tolerance_bytes : List ℕ) (v : Verdict) (claim T : ℤ) → Stands b book s →
      call ≡ mark question k claim_bytes tolerance_bytes → answer ≡ marked v → b.meaning.admit claim_bytes ≡ number claim → b.meaning.admit tolerance_bytes ≡ number T →
      VerdictHolds b.meaning k (zeros_held b.meaning book) claim T v
  pub agrees : (book : List Entry) (k : ℕ) (v e : ℤ) → Stands b book s → call ≡ ask k → answer ≡ asked v e →
      (b' : Making) → Rules b'.meaning → (before' : List Entry) (v' e' : ℤ) → Place b' before' (ask k) (asked v' e') →
      SameZeros b.meaning (zeros_held b.meaning book) b'.meaning (zeros_held b'.meaning before') →
      WithinBoth b.meaning v e b'.meaning v' e'
