-- What putting a text into a sink does to it. The first argument tells when a sink has taken just these bytes, from one state to another.
use Rattle.std.specs.Prelude.{List, ℕ, Result, MatchResult}
use Rattle.std.specs.Io.{StartsWith}

-- a beginning of a text was taken
abbrev pub TakesSome : {S : Type 0} → (S → S → List ℕ → Type 0) → S → S → List ℕ → Type 0
TakesSome takes s s' text = (taken : List ℕ) × StartsWith text taken × takes s s' taken

-- either all bytes of the text were taken; or the sink has refused, and a beginning of them was
abbrev pub Puts : {S X E : Type 0} → (S → S → List ℕ → Type 0) → S → S → List ℕ → Result X E → Type 0
Puts takes s s' text r = MatchResult r (λ x. takes s s' text) (λ e. TakesSome takes s s' text)
