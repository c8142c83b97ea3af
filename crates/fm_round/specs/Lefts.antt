-- What is left of each process: lists of events, one for each process.
use Rattle.std.specs.Prelude.{◌≡◌, ℕ, suc, List, [], ◌∷◌, ◌++◌}
use Rattle.fm_msg.specs.Event.{TimedMessage}
use Rattle.fm_line.specs.Piece.{In, Rises}

-- lists one after the other
abbrev pub joined : List (List TimedMessage) → List TimedMessage
joined [] = []
joined (xs ∷ xss) = xs ++ joined xss

-- the events are of the process k, and rise
pub record IsOwn (k : ℕ) (xs : List TimedMessage) : Type 0 where
  pub rises : Rises xs
  pub process : (e : TimedMessage) → In e xs → e.process ≡ k

-- so are those of each list, of the process with its number from k on
abbrev pub OwnFrom : ℕ → List (List TimedMessage) → Type 0
OwnFrom k [] = Unit {0}
OwnFrom k (xs ∷ xss) = IsOwn k xs × OwnFrom (suc k) xss
