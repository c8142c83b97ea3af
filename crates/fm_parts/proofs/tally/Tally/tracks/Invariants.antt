use Rattle.std.proofs.Common.{◌≡◌, ◌≤◌, ℕ, List, length}
use Rattle.fm_msg.specs.declared.msg.Msg.{Msg}
use Rattle.fm_parts.specs.Format1.{channel_tracks}
use Rattle.fm_parts.specs.Tally.{IsTally}
use Rattle.fm_parts.proofs.tally.Tally.tracks.Given as goal

abbrev pub invariant-loop-channel : goal.invariant-loop-channel
invariant-loop-channel l =
    (l.count ≤ l.channel)
    × ((list : List (ℕ × Msg)) (end : ℕ) → IsTally l.self list end → l.count ≡ length (channel_tracks l.channel list end))
