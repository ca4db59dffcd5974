-- What a score counts. The counts stop at the largest of their type.
use Rattle.std.specs.Prelude.{◌+◌, ◌-◌, ◌^◌, min, Bool, if◌then◌else◌}
use Rattle.comparison.specs.declared.score.Score.{Score}

-- before any answer
abbrev pub no_answers : Score
no_answers = record { agree = 0; compared = 0 }

-- after one answer more, which agrees or not
abbrev pub counted : Score → Bool → Score
counted s agrees = record { agree = if agrees then min (s.agree + 1) (2 ^ 32 - 1) else s.agree; compared = min (s.compared + 1) (2 ^ 32 - 1) }

-- after all that another score has counted
abbrev pub gathered : Score → Score → Score
gathered s other = record { agree = min (s.agree + other.agree) (2 ^ 32 - 1); compared = min (s.compared + other.compared) (2 ^ 32 - 1) }
