-- Bytes written in turn, by what is known of a writer: those before a place, then some of the rest, or none.
use Rattle.std.proofs.Common.{◌≡◌, ℕ, ◌+◌, ◌-◌, ◌≤◌, List, length, take, drop, Option, None, Some, sym, subst, ap, ◌∙◌, arith}
use Rattle.std.specs.Io.{StartsWith}
use Rattle.std.specs.Io.KnownBytes.{Appends, Keeps}
use Rattle.std.proofs.Math.Seq.{take-add}
use Rattle.std.proofs.lemmas.List.{take_all, length-take-le, length-drop}
use Rattle.report.specs.WriterLaws.{appends_on}

-- the rest from a place on, as it is lent
rest : (bytes : List ℕ) (at : ℕ) → take (length bytes - at) (drop at bytes) ≡ drop at bytes
rest bytes at = take_all (length bytes - at) (drop at bytes) (omega (arith, length-drop at bytes))

pub moved_within : (bytes : List ℕ) (at n : ℕ) → at ≤ length bytes → n ≤ length (take (length bytes - at) (drop at bytes)) → at + n ≤ length bytes
moved_within bytes at n h m = let e = ap length (rest bytes at) in let l = length-drop at bytes in omega (arith, h, m)

pub appends_more : (old now new : Option (List ℕ)) (bytes : List ℕ) (at n : ℕ) →
    Appends old now (take at bytes) → Appends now new (take n (take (length bytes - at) (drop at bytes))) → Appends old new (take (at + n) bytes)
appends_more old now new bytes at n p q =
    subst (λ t. Appends old new t) (sym (take-add at n bytes)) (
    appends_on old now new (take at bytes) (take n (drop at bytes)) p (subst (λ t. Appends now new (take n t)) (rest bytes at) q))

pub appends_kept : (old now new : Option (List ℕ)) (t : List ℕ) → Appends old now t → Keeps now new → Appends old new t
appends_kept None now new t p q = tt
appends_kept (Some x) None new t p q = elim p [ ]
appends_kept (Some x) (Some y) None t p q = elim q [ ]
appends_kept (Some x) (Some y) (Some z) t p q = q ∙ p

pub appends_all : (old now : Option (List ℕ)) (bytes : List ℕ) (at : ℕ) → at ≡ length bytes → Appends old now (take at bytes) → Appends old now bytes
appends_all old now bytes at e p = subst (λ t. Appends old now t) (take_all at bytes (omega arith)) p

pub beginning : (bytes : List ℕ) (at : ℕ) → at ≤ length bytes → StartsWith bytes (take at bytes)
beginning bytes at h = ap (λ n. take n bytes) (length-take-le at bytes h)
