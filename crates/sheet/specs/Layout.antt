-- The layout of a sheet: a byte for the arithmetic, a byte for the highest order K, then slips to its end. A slip is a map of one byte, then
-- the fields whose bit stands in the map, the lowest bit first: 1 a zero (8 bytes), 2 an order (1), 4 a claim (8), 8 a tolerance (8).
-- Bytes are counted from 0, slips from 1.
use Rattle.std.specs.Prelude.{ℕ, suc, ◌+◌, ◌/◌, ◌%◌, Bool, cond, ◌&&◌, ◌||◌, List, [], ◌∷◌, ◌++◌, length, take, drop, Option, None, Some, ◌==◌, nat_le, nat_lt, slice_index}
use Rattle.arithmetic.specs.Meaning.{Meaning, Admission, number, not_admitted}
use Rattle.formats.specs.Formats.{Format, format_of}
use Rattle.sheet.specs.declared.place.Place.{Place}

-- ---- faults
-- why a sheet is not read on: the number of the fault, its place, and the cause for which a pattern is no number
pub record Fault : Type 0 where
  pub number : ℕ
  pub place : Place
  pub cause : Option ℕ

-- a fault of the header, which is slip 0
abbrev pub header_fault : ℕ → ℕ → Fault
header_fault n byte = record { number = n; place = record { slip = 0; byte = byte }; cause = None }

-- a fault of a slip, at its map
abbrev pub map_fault : ℕ → Place → Fault
map_fault n place = record { number = n; place = place; cause = None }

-- ---- the header
pub data Opening : Type 0 where
  -- the format of the numbers, and the highest order K
  opened : Format → ℕ → Opening
  refused : Fault → Opening

-- 15: is K from 1 to 64?
abbrev pub with_order : Format → ℕ → Opening
with_order format K = cond (nat_le 1 K && nat_le K 64) (opened format K) (refused (header_fault 15 1))

-- 14: does the first byte name a format?
abbrev pub with_format : Option Format → ℕ → Opening
with_format (Some format) K = with_order format K
with_format None K = refused (header_fault 14 0)

-- 13: has the sheet 2 to 32,768 bytes?
abbrev pub opening : List ℕ → Opening
opening s =
    cond (nat_le 2 (length s) && nat_le (length s) 32768)
    (with_format (format_of (slice_index s 0)) (slice_index s 1))
    (refused (header_fault 13 0))

-- ---- the fields of a slip
-- a field: its place, and its own bytes
pub record Field : Type 0 where
  pub place : Place
  pub bytes : List ℕ

-- the n bytes of a sheet from a place on
abbrev pub field : List ℕ → ℕ → ℕ → ℕ → Field
field s slip byte n = record { place = record { slip = slip; byte = byte }; bytes = take n (drop byte s) }

-- what is asked of an order: its coefficient, or the verdict on a claim with a tolerance
pub data Task : Type 0 where
  asks : Field → Task
  examines : Field → Field → Field → Task

-- a slip: a zero that it adds, and what it asks then; one that has neither clears
pub record Slip : Type 0 where
  pub zero : Option Field
  pub task : Option Task

-- the bits of a map
abbrev pub has_zero : ℕ → Bool
has_zero map = map % 2 == 1

abbrev pub has_order : ℕ → Bool
has_order map = (map / 2) % 2 == 1

abbrev pub has_claim : ℕ → Bool
has_claim map = (map / 4) % 2 == 1

abbrev pub has_tolerance : ℕ → Bool
has_tolerance map = (map / 8) % 2 == 1

-- the maps that a slip may have: 0, 1, 2, 3, 14 and 15; a claim and a tolerance stand together, and with an order
abbrev pub is_map : ℕ → Bool
is_map map = nat_le map 3 || (map == 14 || map == 15)

-- where the fields stand of a slip whose map is the given byte, each after those before it, and where the slip ends
abbrev pub order_at : ℕ → ℕ → ℕ
order_at map byte = cond (has_zero map) (byte + 9) (byte + 1)

abbrev pub claim_at : ℕ → ℕ → ℕ
claim_at map byte = cond (has_order map) (order_at map byte + 1) (order_at map byte)

abbrev pub tolerance_at : ℕ → ℕ → ℕ
tolerance_at map byte = cond (has_claim map) (claim_at map byte + 8) (claim_at map byte)

abbrev pub end_at : ℕ → ℕ → ℕ
end_at map byte = cond (has_tolerance map) (tolerance_at map byte + 8) (tolerance_at map byte)

-- its zero, and its task
abbrev pub zero_of : List ℕ → ℕ → ℕ → ℕ → Option Field
zero_of s slip map byte = cond (has_zero map) (Some (field s slip (byte + 1) 8)) None

abbrev pub task_of : List ℕ → ℕ → ℕ → ℕ → Option Task
task_of s slip map byte =
    cond (has_claim map && has_tolerance map)
    (Some (examines (field s slip (order_at map byte) 1) (field s slip (claim_at map byte) 8) (field s slip (tolerance_at map byte) 8)))
    (cond (has_order map) (Some (asks (field s slip (order_at map byte) 1))) None)

abbrev pub slip_at : List ℕ → ℕ → ℕ → ℕ → Slip
slip_at s slip map byte = record { zero = zero_of s slip map byte; task = task_of s slip map byte }

-- ---- the patterns of a slip: zero, claim, tolerance
-- 17, at the field and with the cause, where its pattern is no number
abbrev pub admission_faults : Place → Admission → List Fault
admission_faults place (number x) = []
admission_faults place (not_admitted c) = record { number = 17; place = place; cause = Some c } ∷ []

abbrev pub pattern_faults : Meaning → Field → List Fault
pattern_faults m f = admission_faults f.place (m.admit f.bytes)

abbrev pub zero_faults : Meaning → Option Field → List Fault
zero_faults m None = []
zero_faults m (Some f) = pattern_faults m f

abbrev pub task_faults : Meaning → Option Task → List Fault
task_faults m None = []
task_faults m (Some (asks order)) = []
task_faults m (Some (examines order claim tolerance)) = pattern_faults m claim ++ pattern_faults m tolerance

-- ---- reading on
pub data Reading : Type 0 where
  -- the sheet ends here
  ended : Reading
  -- a slip, and the place after it
  reads : Slip → ℕ → Reading
  faulty : Fault → Reading

-- a slip whose bytes are all there, by the faults of its patterns: the first of them counts
abbrev pub unless_faulty : List Fault → Slip → ℕ → Reading
unless_faulty [] p end = reads p end
unless_faulty (f ∷ fs) p end = faulty f

abbrev pub with_patterns : Meaning → Slip → ℕ → Reading
with_patterns m p end = unless_faulty (zero_faults m p.zero ++ task_faults m p.task) p end

-- 16: is the map one of a slip? 19: are all its bytes there? 17: is each pattern admitted?
abbrev pub slip_with_map : Meaning → List ℕ → ℕ → ℕ → ℕ → Reading
slip_with_map m s slip map byte =
    cond (is_map map) (
    cond (nat_le (end_at map byte) (length s))
    (with_patterns m (slip_at s slip map byte) (end_at map byte))
    (faulty (map_fault 19 (record { slip = slip; byte = byte })))) (faulty (map_fault 16 (record { slip = slip; byte = byte })))

-- what a sheet reads as from a byte on, where so many slips come before it
abbrev pub reading : Meaning → List ℕ → ℕ → ℕ → Reading
reading m s byte slips = cond (nat_lt byte (length s)) (slip_with_map m s (suc slips) (slice_index s byte) byte) ended
