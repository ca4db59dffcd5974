-- The digits of the first bytes and those of the next are the digits of one byte more.
use Rattle.std.proofs.Common.{◌≡◌, ℕ, ◌+◌, ◌/◌, ◌%◌, ◌<◌, ◌++◌, true, List, [], ◌∷◌, length, get_or, take, ap, sym, ◌∙◌}
use Rattle.std.specs.Prelude.{flat_map}
use Rattle.std.specs.Fmt.{digit_glyph}
use Rattle.std.proofs.lemmas.List.{take_more, flat_map_more}
use Rattle.patterns.specs.Patterns.{byte_text}

pub byte_shown : (bytes : List ℕ) (i : ℕ) → i < length bytes →
    flat_map byte_text (take i bytes) ++ byte_text (get_or bytes i 0) ≡ flat_map byte_text (take (i + 1) bytes)
byte_shown bytes i h =
    flat_map_more byte_text [] (take i bytes) (get_or bytes i 0) ∙ ap (flat_map byte_text) (sym (take_more bytes i 0 h))
