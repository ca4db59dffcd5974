-- A report handed to a caller in a buffer of the caller's.
use Rattle.std.specs.Prelude.{ℕ, List, ◌++◌, length, take, drop}

-- a buffer with as much of a text at its start as there is room for; what is left of the buffer after the text is as it was
abbrev pub filled : List ℕ → List ℕ → List ℕ
filled text buffer = take (length buffer) text ++ drop (length text) buffer
