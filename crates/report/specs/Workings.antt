-- The lines of what the calls of a slip answered.
use Rattle.std.specs.Prelude.{ℕ, List, ◌++◌, flat_map}
use Rattle.calls.specs.Lines.{line}
use Rattle.slips.specs.Workings.{Working}

abbrev pub working_text : Working → List ℕ
working_text w = flat_map line (w.zero ++ w.task)
