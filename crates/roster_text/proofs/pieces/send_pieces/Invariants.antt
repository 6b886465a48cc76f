-- The pieces before this one are sent.
use Rattle.std.proofs.Common.{take}
use Rattle.roster_text.specs.Io.{Sends}
use Rattle.roster_text.specs.Pieces.{pieces_text}
use Rattle.roster_text.proofs.pieces.send_pieces.Given as goal

abbrev pub invariant-loop-piece : goal.invariant-loop-piece
invariant-loop-piece g l =
    Sends g.W.Write.contents l.initial.out l.out l.initial.sent l.sent (pieces_text (take l.piece-index l.pieces))
