-- A slip ends after the byte where it begins. So with each reading one byte more is behind, and as many readings as bytes are enough to come
-- to the sheet's end or to a fault.
use Rattle.std.proofs.Common.{◌≡◌, ℕ, zero, suc, ◌+◌, ◌≤◌, ◌<◌, Bool, true, false, cond, ltb, List, [], ◌∷◌, length, refl, ap, subst, arith}
use Rattle.std.specs.Prelude.{slice_index, nat_le}
use Rattle.integers.proofs.Tests.{ltb_no}
use Rattle.arithmetic.specs.Meaning.{Meaning}
use Rattle.sheet.specs.Layout.{Fault, Slip, Reading, ended, reads, faulty, has_zero, has_order, has_claim, has_tolerance, is_map, order_at, claim_at, tolerance_at, end_at, slip_at, unless_faulty, with_patterns, slip_with_map, reading}
use Rattle.sheet.specs.Contents.{Contents, by_reading, contents_from, ReadsAs, IsWhole}

-- ---- a slip ends after its map
further : (t : Bool) (k byte at : ℕ) → byte < at → byte < cond t (at + k) at
further true k byte at h = omega arith
further false k byte at h = h

after_zero : (t : Bool) (byte : ℕ) → byte < cond t (byte + 9) (byte + 1)
after_zero true byte = omega arith
after_zero false byte = omega arith

end_after : (map byte : ℕ) → byte < end_at map byte
end_after map byte =
    further (has_tolerance map) 8 byte (tolerance_at map byte)
    (further (has_claim map) 8 byte (claim_at map byte)
    (further (has_order map) 1 byte (order_at map byte)
    (after_zero (has_zero map) byte)))

module _ (m : Meaning) (s : List ℕ) where
  by_faults : (fs : List Fault) (byte at end : ℕ) (p q : Slip) → byte < at → unless_faulty fs p at ≡ reads q end → byte < end
  by_faults [] byte at end p q h e = subst (λ x. byte < x) (let i : at ≡ end = cc in i) h
  by_faults (f ∷ fs) byte at end p q h e = let z : ◌≡◌ {A = ℕ} 0 1 = cc in absurd (omega arith)

  by_length : (t : Bool) (byte at end : ℕ) (p q : Slip) (f : Fault) → byte < at → cond t (with_patterns m p at) (faulty f) ≡ reads q end → byte < end
  by_length true byte at end p q f h e = by_faults _ byte at end p q h e
  by_length false byte at end p q f h e = let z : ◌≡◌ {A = ℕ} 0 1 = cc in absurd (omega arith)

  by_map : (t : Bool) (byte end : ℕ) (r : Reading) (q : Slip) (f : Fault) → (r ≡ reads q end → byte < end) → cond t r (faulty f) ≡ reads q end → byte < end
  by_map true byte end r q f g e = g e
  by_map false byte end r q f g e = let z : ◌≡◌ {A = ℕ} 0 1 = cc in absurd (omega arith)

  by_bytes : (t : Bool) (byte end : ℕ) (r : Reading) (q : Slip) → (r ≡ reads q end → byte < end) → cond t r ended ≡ reads q end → byte < end
  by_bytes true byte end r q g e = g e
  by_bytes false byte end r q g e = let z : ◌≡◌ {A = ℕ} 0 1 = cc in absurd (omega arith)

  reads_after : (byte slips end : ℕ) (q : Slip) → reading m s byte slips ≡ reads q end → byte < end
  reads_after byte slips end q e =
      let map = slice_index s byte in
      by_bytes (ltb byte (length s)) byte end _ q
      (λ e. by_map (is_map map) byte end _ q _
      (λ e. by_length (nat_le (end_at map byte) (length s)) byte (end_at map byte) end (slip_at s (suc slips) map byte) q _ (end_after map byte) e) e) e

  at_end : (byte slips : ℕ) → length s ≤ byte → reading m s byte slips ≡ ended
  at_end byte slips h = ap (λ t. cond t (slip_with_map m s (suc slips) (slice_index s byte) byte) ended) (ltb_no byte (length s) h)

  -- ---- what is read in enough readings is all that there is to read
  by_next : (on : ℕ → ℕ → Contents) (byte slips : ℕ) (r : Reading) → reading m s byte slips ≡ r →
      ((p : Slip) (end : ℕ) → r ≡ reads p end → let c = on end (suc slips) in ReadsAs m s end (suc slips) c.slips c.ending) →
      let c = by_reading on slips r in ReadsAs m s byte slips c.slips c.ending
  by_next on byte slips ended e g = (e, refl)
  by_next on byte slips (faulty f) e g = e
  by_next on byte slips (reads p end) e g = (end, e, g p end refl)

  all_read : (n byte slips : ℕ) → length s ≤ byte + n → let c = contents_from n m s byte slips in ReadsAs m s byte slips c.slips c.ending
  all_read zero byte slips h = (at_end byte slips (omega (arith, h)), refl)
  all_read (suc n) byte slips h =
      by_next (contents_from n m s) byte slips (reading m s byte slips) refl
      (λ p end e. let a = reads_after byte slips end p e in all_read n end (suc slips) (omega (arith, a, h)))

  pub is_whole : IsWhole m s
  is_whole = all_read (length s) 2 0 (omega arith)
