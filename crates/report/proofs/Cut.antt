-- A sheet that is too long has the same report if it is cut after the first byte too many: both are refused for their length.
use Rattle.std.proofs.Common.{◌≡◌, ℕ, ◌≤◌, ◌&&◌, Bool, true, false, cond, T, leb, List, [], ◌++◌, length, take, ap, subst, sym, refl, ◌∙◌, arith, le→leb, leb→le}
use Rattle.std.proofs.Math.Nat.{lt_of_not-le}
use Rattle.std.specs.Prelude.{slice_index, Option, None, Some, IfSome, option_map}
use Rattle.std.specs.Io.Take.{take_limit, take_inner, take_remaining}
use Rattle.std.specs.declared.io.traits.Take.{Take}
use Rattle.std.proofs.lemmas.List.{take_all, length-take-le}
use Rattle.integers.proofs.Tests.{leb_yes, leb_no}
use Rattle.formats.specs.Formats.{format_of}
use Rattle.sheet.specs.Layout.{refused, header_fault, with_format}
use Rattle.report.specs.Text.{fault_line}
use Rattle.report.specs.Report.{by_header, report}

too_long : (s : List ℕ) → 32769 ≤ length s → report s ≡ fault_line (header_fault 13 0)
too_long s h =
    let accepted = with_format (format_of (slice_index s 0)) (slice_index s 1) in
    let short = refused (header_fault 13 0) in
    ap (λ t. by_header s (cond (t && leb (length s) 32768) accepted short)) (leb_yes 2 (length s) (omega (arith, h)))
    ∙ ap (λ t. by_header s (cond t accepted short)) (leb_no (length s) 32768 (λ l. omega (arith, h, l)))

pub report_cut : (s : List ℕ) → report (take 32769 s) ≡ report s
report_cut s = go (leb (length s) 32768) refl
  where
    go : (t : Bool) → leb (length s) 32768 ≡ t → report (take 32769 s) ≡ report s
    go true e = let l : length s ≤ 32768 = leb→le (length s) 32768 (subst T (sym e) tt) in ap report (take_all 32769 s (omega (arith, l)))
    go false e =
        let l : 32769 ≤ length s = lt_of_not-le (λ n. subst T e (le→leb (length s) 32768 n)) in
        too_long (take 32769 s) (let m : length (take 32769 s) ≡ 32769 = length-take-le 32769 s l in omega (arith, m)) ∙ sym (too_long s l)

-- what is read through a limit of an input that is known, up to its end, is its beginning, and has the report of all that the input holds
module _ {R : Type 0} (remaining : R → Option (List ℕ)) (input : R) (limited : Take R) (before after : List ℕ) (i : take_inner limited ≡ input) (l : take_limit limited ≡ 32769) (n : before ≡ [])
    (h : IfSome (take_remaining remaining limited) (λ xs. after ≡ before ++ xs)) where
  pub bytes_read : IfSome (remaining input) (λ held. after ≡ take 32769 held)
  bytes_read = go (remaining input) (subst (λ o. IfSome o (λ xs. after ≡ before ++ xs)) (ap (λ k. option_map (take k) (remaining (take_inner limited))) l ∙ ap (λ z. option_map (take 32769) (remaining z)) i) h)
    where
      go : (known : Option (List ℕ)) → IfSome (option_map (take 32769) known) (λ xs. after ≡ before ++ xs) → IfSome known (λ held. after ≡ take 32769 held)
      go None h = tt
      go (Some s) h = h ∙ ap (λ b. b ++ take 32769 s) n

  pub report_of_read : IfSome (remaining input) (λ held. report after ≡ report held)
  report_of_read = go (remaining input) bytes_read
    where
      go : (known : Option (List ℕ)) → IfSome known (λ held. after ≡ take 32769 held) → IfSome known (λ held. report after ≡ report held)
      go None e = tt
      go (Some s) e = ap report e ∙ report_cut s
