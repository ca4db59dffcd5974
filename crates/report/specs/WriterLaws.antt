-- The laws of known bytes that grow, which the sink over a writer has to cite.
use Rattle.std.specs.Prelude.{List, [], ◌++◌, Option, None, Some, ℕ}
use Rattle.std.proofs.Common.{sym, ap, ◌∙◌}
use Rattle.std.specs.Io.KnownBytes.{Appends}
use Rattle.std.proofs.lemmas.List.{append_assoc, append-nil}

pub appends_nothing : (old : Option (List ℕ)) → Appends old old []
appends_nothing None = tt
appends_nothing (Some x) = sym (append-nil x)

pub appends_on : (old now new : Option (List ℕ)) (t u : List ℕ) → Appends old now t → Appends now new u → Appends old new (t ++ u)
appends_on None now new t u p q = tt
appends_on (Some x) None new t u p q = elim p [ ]
appends_on (Some x) (Some y) None t u p q = elim q [ ]
appends_on (Some x) (Some y) (Some z) t u p q = q ∙ ap (λ v. v ++ u) p ∙ append_assoc x t u
