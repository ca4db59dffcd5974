-- The line of an answer is that of the entries that it is told by.
use Rattle.std.proofs.Common.{◌≡◌, List, ◌++◌, flat_map, sym, ap, ◌∙◌}
use Rattle.std.proofs.lemmas.List.{append-nil}
use Rattle.arithmetic.specs.Setting.{Setting}
use Rattle.coefficients.specs.Calls.{Making, State}
use Rattle.coefficients.specs.Book.{Entry}
use Rattle.bench.specs.declared.bench.Bench.{Bench}
use Rattle.calls.specs.Lines.{answer_text, newline, line, lines}
use Rattle.calls.specs.Works.{entries_from, Answers}
use Rattle.calls.specs.declared.answer.Answer.{Answer}

pub shown : {A N P : Type 0} {g : _} (st : Setting P) (b : Bench A N P g) (entries : Making → State → List Entry) (answer : Answer) →
    Answers st b entries answer → answer_text answer ++ newline ≡ lines st.meaning (entries_from st b entries)
shown st b entries answer h = sym (append-nil (answer_text answer ++ newline)) ∙ ap (flat_map line) h
