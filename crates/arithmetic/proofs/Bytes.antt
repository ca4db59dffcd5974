-- What is left of numbers by 256 are bytes; so are the entries of a pattern that is written so. (A 0 is what is left of 0.)
use Rattle.std.proofs.Common.{ℕ, ◌%◌, ◌<◌, List, map, arith}
use Rattle.std.specs.List.{All}
use Rattle.std.proofs.lemmas.List.Elements.{All-map}

pub are_bytes : (ns : List ℕ) → All (λ x. x < 256) (map (λ n. n % 256) ns)
are_bytes ns = All-map (λ x. x < 256) (λ n. n % 256) ns (λ k d h. byte _)
  where
    byte : (n : ℕ) → n % 256 < 256
    byte n = omega arith
