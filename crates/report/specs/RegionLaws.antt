-- The laws of a lent buffer that is filled, which it has to cite as a sink.
use Rattle.std.specs.Prelude.{◌≡◌, ℕ, List, [], ◌∷◌, ◌++◌, length, take, drop}
use Rattle.std.proofs.Common.{refl, sym, ap, ◌∙◌}
use Rattle.std.proofs.lemmas.List.{append_assoc, append-nil, length-append, drop-drop}
use Rattle.std.proofs.Math.Seq.{take-nil, drop-nil}
use Rattle.report.specs.declared.region.Region.{Region}
use Rattle.report.specs.Regions.{written_of, room_of, Fills}

-- what fits of two texts is what fits of the first, and what fits of the second into the rest
fits : (room xs ys : List ℕ) → take (length room) (xs ++ ys) ≡ take (length room) xs ++ take (length (drop (length xs) room)) ys
fits [] xs ys = ap (λ r. take (length r) ys) (sym (drop-nil (length xs)))
fits (r ∷ rs) [] ys = refl
fits (r ∷ rs) (x ∷ xs) ys = ap (λ t. x ∷ t) (fits rs xs ys)

pub fills_nothing : (r : Region) → Fills r r []
fills_nothing r = record { written = sym (ap (λ t. written_of r ++ t) (take-nil (length (room_of r))) ∙ append-nil (written_of r)); rest = refl; lender = refl }

pub fills_on : (r s t : Region) (xs ys : List ℕ) → Fills r s xs → Fills s t ys → Fills r t (xs ++ ys)
fills_on r s t xs ys p q =
    record {
      written =
          q.written ∙ ap (λ w. w ++ take (length (room_of s)) ys) p.written ∙ ap (λ room. written_of r ++ take (length (room_of r)) xs ++ take (length room) ys) p.rest
          ∙ append_assoc (written_of r) (take (length (room_of r)) xs) (take (length (drop (length xs) (room_of r))) ys)
          ∙ ap (λ w. written_of r ++ w) (sym (fits (room_of r) xs ys));
      rest = q.rest ∙ ap (λ room. drop (length ys) room) p.rest ∙ drop-drop (length ys) (length xs) (room_of r) ∙ ap (λ n. drop n (room_of r)) (sym (length-append xs ys));
      lender = q.lender ∙ p.lender;
    }
