-- Texts that are made of bytes and numbers.
use Rattle.std.specs.Prelude.{ℕ, List, decimal, flat_map}
use Rattle.roster_text.specs.declared.pieces.Piece.{Piece}
use Rattle.roster_text.specs.declared.pieces.Piece.TheVariants.{Bytes, Count, Number}

-- the bytes themselves, or a number in decimal
abbrev pub piece_text : Piece → List ℕ
piece_text (Bytes bytes) = bytes.now
piece_text (Number n) = decimal n
piece_text (Count n) = decimal n

-- one piece after the other
abbrev pub pieces_text : List Piece → List ℕ
pieces_text pieces = flat_map piece_text pieces
