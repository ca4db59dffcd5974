-- The book of a bench: its calls with their arguments and answers, from the making on. What it says of the zeros held is read
-- off the entries alone.
use Rattle.std.specs.Prelude.{◌≡◌, Bool, true, false, cond, List, [], ◌∷◌, ◌++◌, ℤ}
use Rattle.arithmetic.specs.Meaning.{Meaning, Admission, number, not_admitted}
use Rattle.coefficients.specs.Calls.{Making, State, Call, Answer, step, new_bench, add, clear, ask, issue, mark, withdraw, added, cleared, asked, issued, marked, withdrawn, refused}

pub record Entry : Type 0 where
  pub call : Call
  pub answer : Answer

-- ---- a book is kept when each answer is the one defined for its call after the calls before it
abbrev pub KeptFrom : Making → State → List Entry → Type 0
KeptFrom b s [] = Unit {0}
KeptFrom b s (e ∷ es) = (e.answer ≡ (step b s e.call).answer) × KeptFrom b (step b s e.call).then es

abbrev pub Kept : Making → List Entry → Type 0
Kept b book = KeptFrom b (new_bench b) book

-- the state that the calls of a book lead to
abbrev pub state_after : Making → State → List Entry → State
state_after b s [] = s
state_after b s (e ∷ es) = state_after b (step b s e.call).then es

-- the bench stands at the end of this kept book
pub record Stands (b : Making) (book : List Entry) (s : State) : Type 0 where
  pub kept : Kept b book
  pub state_is : state_after b (new_bench b) book ≡ s

-- a place in a kept book: the entries before it, and its own call and answer
pub record Place (b : Making) (before : List Entry) (call : Call) (answer : Answer) : Type 0 where
  pub rest : List Entry
  pub kept : Kept b (before ++ (record { call = call; answer = answer } ∷ rest))

-- ---- the zeros held
abbrev pub accepted : Answer → Bool
accepted (added i) = true
accepted cleared = true
accepted (asked v e) = true
accepted (issued b k) = true
accepted (marked v) = true
accepted withdrawn = true
accepted (refused r d) = false

abbrev pub admitted : Admission → List ℤ
admitted (number x) = x ∷ []
admitted (not_admitted c) = []

-- an accepted addition puts the number admitted at the end, an accepted clearing empties the list, every other call leaves it
abbrev pub held_after : Meaning → List ℤ → Call → Answer → List ℤ
held_after m zs (add bytes) a = cond (accepted a) (zs ++ admitted (m.admit bytes)) zs
held_after m zs clear a = cond (accepted a) [] zs
held_after m zs (ask k) a = zs
held_after m zs (issue k) a = zs
held_after m zs (mark n k claim tolerance) a = zs
held_after m zs (withdraw n k) a = zs

abbrev pub held_from : Meaning → List ℤ → List Entry → List ℤ
held_from m zs [] = zs
held_from m zs (e ∷ es) = held_from m (held_after m zs e.call e.answer) es

abbrev pub zeros_held : Meaning → List Entry → List ℤ
zeros_held m book = held_from m [] book
