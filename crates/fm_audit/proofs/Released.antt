-- What is released at the end of a run is the piece.
use Rattle.std.proofs.Common.{◌≡◌, List, [], ◌∷◌, ◌++◌, length, sym, ◌∙◌, ap, arith, append-nil, length-append}
use Rattle.fm_msg.specs.Event.{TimedMessage}
use Rattle.fm_line.specs.Piece.{IsPrefix, piece}
use Rattle.fm_line.proofs.Pieces.{length-piece}
use Rattle.fm_core.specs.State.{Setting, State}
use Rattle.fm_progress.specs.Progress.{Finished}

-- a beginning of a list that is as long is the list
no_more : (xs rest ys : List TimedMessage) → xs ++ rest ≡ ys → length xs ≡ length ys → xs ≡ ys
no_more xs [] ys same long = sym (append-nil xs) ∙ same
no_more xs (x ∷ rest) ys same long = absurd (omega (arith, ap length same, length-append xs (x ∷ rest), long))

-- a beginning of the piece that is all that is released at the end
pub released_all : (g : Setting) (h : State) (xs : List TimedMessage) → xs ≡ h.released → IsPrefix xs (piece g.lines)
    → Finished g h → xs ≡ piece g.lines
released_all g h xs is prefix done =
    no_more xs prefix.0 (piece g.lines) prefix.1 (ap length is ∙ done.released ∙ sym (length-piece g.lines))
