-- A text put into the rest of a lent buffer: what is copied is what fits of the text, and what is left of the rest is what the text leaves.
use Rattle.std.proofs.Common.{◌≡◌, ℕ, ◌+◌, ◌-◌, ◌<◌, ◌≤◌, min, ◌⊎◌, inl, inr, List, ◌++◌, length, take, drop, sym, ap, ◌∙◌, arith}
use Rattle.std.proofs.Math.Nat.{min-le_left, min-le_right, le-min}
use Rattle.std.proofs.lemmas.Bool.{cases_lt}
use Rattle.std.proofs.lemmas.List.{take_all, drop_all, take_at, drop_at, length-take-le, length-drop, append-nil}
use Rattle.std.proofs.Math.Seq.{take-append-add, drop-append-add}
use borrow.Rule.Slice.PartMut.{put_mid}

-- the whole text fits, or the rest is filled
case : (text room : List ℕ) → (n : ℕ) → n ≡ min (length text) (length room) → ((n ≡ length text) × (length text ≤ length room)) ⊎ ((n ≡ length room) × (length room ≤ length text))
case text room n e = go (cases_lt (length text) (length room))
  where
    go : (length text < length room) ⊎ (length room ≤ length text) → ((n ≡ length text) × (length text ≤ length room)) ⊎ ((n ≡ length room) × (length room ≤ length text))
    go (inl h) =
        let below = min-le_left (length text) (length room) in
        let above : length text ≤ min (length text) (length room) = le-min (omega arith) (omega (arith, h)) in
        inl (omega (arith, e, below, above), omega (arith, h))
    go (inr h) =
        let below = min-le_right (length text) (length room) in
        let above : length room ≤ min (length text) (length room) = le-min h (omega arith) in
        inr (omega (arith, e, below, above), h)

module _ (text room : List ℕ) (n : ℕ) (e : n ≡ min (length text) (length room)) where
  copied : take n text ≡ take (length room) text
  copied = go (case text room n e)
    where
      go : ((n ≡ length text) × (length text ≤ length room)) ⊎ ((n ≡ length room) × (length room ≤ length text)) → take n text ≡ take (length room) text
      go (inl h) = take_all n text (omega (arith, h.0)) ∙ sym (take_all (length room) text h.1)
      go (inr h) = ap (λ k. take k text) h.0

  left : drop n room ≡ drop (length text) room
  left = go (case text room n e)
    where
      go : ((n ≡ length text) × (length text ≤ length room)) ⊎ ((n ≡ length room) × (length room ≤ length text)) → drop n room ≡ drop (length text) room
      go (inl h) = ap (λ k. drop k room) h.0
      go (inr h) = drop_all n room (omega (arith, h.0)) ∙ sym (drop_all (length text) room h.1)

-- the buffer after the rest from a place on was lent, and came back as `new`
module _ (bytes text new : List ℕ) (at n : ℕ) (h : at ≤ length bytes) (count : n ≡ min (length text) (length (take (length bytes - at) (drop at bytes)))) (copy : new ≡ take n text ++ drop n (take (length bytes - at) (drop at bytes))) where
  rest : take (length bytes - at) (drop at bytes) ≡ drop at bytes
  rest = take_all (length bytes - at) (drop at bytes) (omega (arith, length-drop at bytes))

  counted : n ≡ min (length text) (length (drop at bytes))
  counted = count ∙ ap (λ r. min (length text) (length r)) rest

  as_lent : put_mid at (length bytes - at) bytes new ≡ take at bytes ++ (take n text ++ drop n (drop at bytes))
  as_lent =
      ap (λ r. take at bytes ++ (new ++ r)) (drop_all (length bytes - at) (drop at bytes) (omega (arith, length-drop at bytes)))
      ∙ ap (λ r. take at bytes ++ r) (append-nil new ∙ copy ∙ ap (λ r. take n text ++ drop n r) rest)

  long : length (take n text) ≡ n
  long = length-take-le n text (let m = min-le_left (length text) (length (drop at bytes)) in omega (arith, counted, m))

  front : length (take at bytes) ≡ at
  front = length-take-le at bytes h

  pub fill_written : take (at + n) (put_mid at (length bytes - at) bytes new) ≡ take at bytes ++ take (length (drop at bytes)) text
  fill_written =
      ap (λ b. take (at + n) b) as_lent
      ∙ ap (λ k. take (k + n) (take at bytes ++ (take n text ++ drop n (drop at bytes)))) (sym front)
      ∙ take-append-add (take at bytes) (take n text ++ drop n (drop at bytes)) n
      ∙ ap (λ t. take at bytes ++ t) (take_at (take n text) (drop n (drop at bytes)) n long ∙ copied text (drop at bytes) n counted)

  pub fill_rest : drop (at + n) (put_mid at (length bytes - at) bytes new) ≡ drop (length text) (drop at bytes)
  fill_rest =
      ap (λ b. drop (at + n) b) as_lent
      ∙ ap (λ k. drop (k + n) (take at bytes ++ (take n text ++ drop n (drop at bytes)))) (sym front)
      ∙ drop-append-add (take at bytes) (take n text ++ drop n (drop at bytes)) n
      ∙ drop_at (take n text) (drop n (drop at bytes)) n long
      ∙ left text (drop at bytes) n counted
