-- Each call of the closure gives the value, and changes nothing.
use Rattle.std.proofs.Common.{replicate, ap, ◌∙◌, rules}
use Rattle.row.proofs.Renewal.{filled}
use Rattle.row.proofs.fill.Goals as goal

pub returns : goal.returns
returns g c = filled _ _ c.args.value (λ y q e. (search rules, search rules)) _ _ c.fill_with.ensures.ran.1 ∙ ap (λ n. replicate n c.args.value) c.fill_with.ensures.len
