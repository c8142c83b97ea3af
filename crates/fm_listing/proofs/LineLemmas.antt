-- The bytes of an event and the lines of entries on their way to a gatherer.
use Rattle.std.proofs.Common.{◌≡◌, ℕ, ◌+◌, ◌<◌, List, ◌∷◌, ◌++◌, length, drop, get_or, Option, add-one, ap}
use Rattle.std.proofs.Math.Seq.{drop-cons}
use Rattle.fm_edge.specs.Seen.{SinkSeen}
use Rattle.fm_edge.specs.Runs.{Breaks}
use Rattle.fm_edge.specs.Gathered.{Passes}
use Rattle.fm_edge.proofs.Coming.{Comes, come_more, come_breaks}
use Rattle.fm_listing.specs.Listing.{byte_text, bytes_text}

-- a byte in front of those behind it
byte_first : (bytes : List ℕ) (k d : ℕ) → k < length bytes →
    bytes_text (drop k bytes) ≡ byte_text (get_or bytes k d) ++ bytes_text (drop (k + 1) bytes)
byte_first bytes k d less = let more : drop k bytes ≡ get_or bytes k d ∷ drop (k + 1) bytes
    = rw add-one (drop-cons bytes k d less) in ap bytes_text more

module _ {K : Type 0} (seen : SinkSeen K) where
  -- the next byte came in
  pub byte_more : (a b c : K) (x y z bytes all : List ℕ) (k d : ℕ) → k < length bytes →
      Passes seen b c y z (byte_text (get_or bytes k d)) →
      Comes seen a b x y (bytes_text (drop k bytes)) all →
      Comes seen a c x z (bytes_text (drop (k + 1) bytes)) all
  byte_more a b c x y z bytes all k d less pass had =
      come_more seen a b c x y z _ _ all pass (rw (byte_first bytes k d less) at had)

  -- it failed
  pub byte_breaks : (a b c : K) (x y bytes all : List ℕ) (k d : ℕ) → k < length bytes →
      Breaks seen b c (y ++ byte_text (get_or bytes k d)) →
      Comes seen a b x y (bytes_text (drop k bytes)) all → Breaks seen a c (x ++ all)
  byte_breaks a b c x y bytes all k d less broke had =
      come_breaks seen a b c x y _ _ all broke (rw (byte_first bytes k d less) at had)
