-- The book of a sheet is kept, entry by entry: each entry has the answer that is defined for its call in the state that the entries before
-- lead to. So the law over books holds at each of its places, in every arithmetic that shows the rules, and so in each that a sheet may name.
use Rattle.std.proofs.Common.{◌≡◌, ℕ, Bool, true, false, cond, ◌&&◌, leb, List, [], ◌∷◌, ◌++◌, length, Option, None, Some, refl, subst}
use Rattle.std.specs.Prelude.{slice_index, IfSome}
use Rattle.arithmetic.specs.Meaning.{Meaning}
use Rattle.arithmetic.specs.Rules.{Rules}
use Rattle.coefficients.specs.Calls.{Making, State, Step, Call, Answer, step, new_bench, issue, mark, withdraw}
use Rattle.coefficients.specs.Book.{Entry, KeptFrom, Kept, Place, state_after, accepted}
use Rattle.coefficients.proofs.Books.{values_enclosed, verdicts_hold, values_agree}
use Rattle.calls.specs.Entries.{alone, settling}
use Rattle.formats.specs.Formats.{Format, format_of, meaning_of}
use Rattle.formats.proofs.EachRules.{format_rules}
use Rattle.sheet.specs.Layout.{Fault, header_fault, with_format, opened, refused, Field, Task, asks, examines, Slip}
use Rattle.sheet.specs.Contents.{contents}
use Rattle.sheet.proofs.Readings.{is_whole}
use Rattle.slips.specs.Book.{order_in, task_entries, entries_by, slip_entries, book_of}
use Rattle.report.specs.Law.{LinesHold, SheetHolds, law_by_header, ReportLaw}
use Rattle.report.specs.Text.{making}

module _ (b : Making) where
  kept_append : (s : State) (es fs : List Entry) → KeptFrom b s es → KeptFrom b (state_after b s es) fs → KeptFrom b s (es ++ fs)
  kept_append s [] fs k l = l
  kept_append s (e ∷ es) fs k l = (k.0, kept_append (step b s e.call).then es fs k.1 l)

  kept_withdrawal : (k : ℕ) (marking : Step) (t : Bool) → KeptFrom b marking.then (cond t [] (alone (withdraw b.bench_number k) b marking.then))
  kept_withdrawal k marking true = tt
  kept_withdrawal k marking false = (refl, tt)

  kept_settling : (k : ℕ) (claim tolerance : List ℕ) (s : State) → KeptFrom b s (settling k claim tolerance b s)
  kept_settling k claim tolerance s =
      let marking = step b s (mark b.bench_number k claim tolerance) in (refl, kept_withdrawal k marking (accepted marking.answer))

  kept_if_issued : (k : ℕ) (claim tolerance : List ℕ) (issuing : Step) (t : Bool) → KeptFrom b issuing.then (cond t (settling k claim tolerance b issuing.then) [])
  kept_if_issued k claim tolerance issuing true = kept_settling k claim tolerance issuing.then
  kept_if_issued k claim tolerance issuing false = tt

  kept_task : (task : Task) (s : State) → KeptFrom b s (task_entries task b s)
  kept_task (asks order) s = (refl, tt)
  kept_task (examines order claim tolerance) s =
      let issuing = step b s (issue (order_in order)) in (refl, kept_if_issued (order_in order) claim.bytes tolerance.bytes issuing (accepted issuing.answer))

  kept_by : (zero : Option Field) (task : Option Task) (s : State) → KeptFrom b s (entries_by zero task b s)
  kept_by None None s = (refl, tt)
  kept_by None (Some task) s = kept_task task s
  kept_by (Some zero) None s = (refl, tt)
  kept_by (Some zero) (Some task) s = (refl, kept_task task _)

  kept_book : (slips : List Slip) (s : State) → KeptFrom b s (book_of slips b s)
  kept_book [] s = tt
  kept_book (p ∷ ps) s = kept_append s (slip_entries p b s) (book_of ps b (state_after b s (slip_entries p b s))) (kept_by p.zero p.task s) (kept_book ps _)

  -- a place in a book that is kept
  place : (book before rest : List Entry) (c : Call) (a : Answer) → Kept b book → book ≡ before ++ (record { call = c; answer = a } ∷ rest) → Place b before c a
  place book before rest c a k e = record { rest = rest; kept = subst (Kept b) e k }

  pub lines_hold : Rules b.meaning → (slips : List Slip) → LinesHold b (book_of slips b (new_bench b))
  lines_hold R slips =
      record {
        kept = kept;
        encloses = λ before rest k v e is. values_enclosed b R before k v e (place _ before rest _ _ kept is);
        judges = λ before rest question k cs ts v is claim T. verdicts_hold b R before question k cs ts v (place _ before rest _ _ kept is) claim T;
        agrees = λ before rest k v e is b' R' before' v' e' other. values_agree b b' R R' before before' k v e v' e' (place _ before rest _ _ kept is) other;
      }
    where
      kept : Kept b (book_of slips b (new_bench b))
      kept = kept_book slips (new_bench b)

pub sheet_holds : (m : Meaning) (K : ℕ) (s : List ℕ) → Rules m → SheetHolds m K s
sheet_holds m K s R = record { read = is_whole m s; lines = lines_hold (making m K) R (contents m s).slips }

-- by the tests of the header: the length of the sheet, its format, its highest order
module _ (s : List ℕ) (K : ℕ) where
  by_order : (format : Format) (t : Bool) (fault : Fault) → Rules (meaning_of format) → law_by_header s (cond t (opened format K) (refused fault))
  by_order format true fault R = sheet_holds (meaning_of format) K s R
  by_order format false fault R = tt

  by_format : (format : Option Format) → IfSome format (λ f. Rules (meaning_of f)) → law_by_header s (with_format format K)
  by_format (Some format) R = by_order format (leb 1 K && leb K 64) _ R
  by_format None R = tt

pub report_law : (s : List ℕ) → ReportLaw s
report_law s = by_length (leb 2 (length s) && leb (length s) 32768)
  where
    by_length : (t : Bool) → law_by_header s (cond t (with_format (format_of (slice_index s 0)) (slice_index s 1)) (refused (header_fault 13 0)))
    by_length true = by_format s (slice_index s 1) (format_of (slice_index s 0)) (format_rules (slice_index s 0))
    by_length false = tt
