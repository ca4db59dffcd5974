-- All slips of a sheet, and how its reading ends.
use Rattle.std.specs.Prelude.{◌≡◌, ℕ, zero, suc, List, [], ◌∷◌, length}
use Rattle.arithmetic.specs.Meaning.{Meaning}
use Rattle.sheet.specs.Layout.{Slip, Fault, Reading, ended, reads, faulty, reading}

pub data Ending : Type 0 where
  -- at the sheet's end, after so many slips
  whole : ℕ → Ending
  -- at a fault
  broken : Fault → Ending

pub record Contents : Type 0 where
  pub slips : List Slip
  pub ending : Ending

-- a slip, and what follows it
abbrev pub followed_by : Slip → Contents → Contents
followed_by p c = record { slips = p ∷ c.slips; ending = c.ending }

-- by the next reading, where so many slips come before it; the first argument reads on from a byte after so many slips
abbrev pub by_reading : (ℕ → ℕ → Contents) → ℕ → Reading → Contents
by_reading on slips ended = record { slips = []; ending = whole slips }
by_reading on slips (reads p end) = followed_by p (on end (suc slips))
by_reading on slips (faulty f) = record { slips = []; ending = broken f }

-- what is read from a byte on, in at most n readings
abbrev pub contents_from : ℕ → Meaning → List ℕ → ℕ → ℕ → Contents
contents_from zero m s byte slips = record { slips = []; ending = whole slips }
contents_from (suc n) m s byte slips = by_reading (contents_from n m s) slips (reading m s byte slips)

-- the slips begin after the two bytes of the header; each has at least one byte, so there are fewer than the sheet has bytes
abbrev pub contents : Meaning → List ℕ → Contents
contents m s = contents_from (length s) m s 2 0

-- whether a sheet, from a byte on and after so many slips, reads as these slips, one after the other, and then ends so
abbrev pub ReadsAs : Meaning → List ℕ → ℕ → ℕ → List Slip → Ending → Type 0
ReadsAs m s byte slips [] (whole n) = (reading m s byte slips ≡ ended) × (n ≡ slips)
ReadsAs m s byte slips [] (broken f) = reading m s byte slips ≡ faulty f
ReadsAs m s byte slips (p ∷ ps) e = (end : ℕ) × (reading m s byte slips ≡ reads p end) × ReadsAs m s end (suc slips) ps e

-- the contents are all that the sheet reads as: no slip is left out, and reading stops at the sheet's end or at a fault alone
abbrev pub IsWhole : Meaning → List ℕ → Type 0
IsWhole m s = ReadsAs m s 2 0 (contents m s).slips (contents m s).ending
