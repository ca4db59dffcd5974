-- A lent buffer as a sink: as much of what is put is written as there is room for, and the rest is dropped.
use Rattle.std.specs.Prelude.{◌≡◌, ℕ, List, ◌++◌, length, take, drop}
use Rattle.report.specs.declared.region.Region.{Region}

-- what was written, and the rest of the buffer
abbrev pub written_of : Region → List ℕ
written_of r = take r.at r.bytes.now

abbrev pub room_of : Region → List ℕ
room_of r = drop r.at r.bytes.now

-- the same buffer, in which the text has been written into as much of the rest as it has bytes; what stands after it is as it was
pub record Fills (r r' : Region) (text : List ℕ) : Type 0 where
  pub written : written_of r' ≡ written_of r ++ take (length (room_of r)) text
  pub rest : room_of r' ≡ drop (length text) (room_of r)
  pub lender : r'.bytes.ghost_name ≡ r.bytes.ghost_name
