use Rattle.std.proofs.Common.{ap, arith, length, length-append}
use Rattle.fm_parts.specs.Format1.{on_channel, track_of, channel_tracks}
use Rattle.fm_parts.proofs.Channels.{tracks_none, tracks_more}
use Rattle.fm_parts.proofs.tally.Tally.tracks.Goals as goal

pub loop-channel-init : goal.loop-channel-init
loop-channel-init c = (omega arith, λ list end is. omega (arith, ap length (tracks_none list end)))

pub loop-channel-preserved : goal.loop-channel-preserved
loop-channel-preserved c = (
  omega (arith, c.loop-channel.invariant.0, c.tracks_of-count.ensures.few),
  λ list end is.
      omega (
        arith,
        c.loop-channel.invariant.1 list end is,
        c.tracks_of-count.ensures.value list end is,
        ap length (tracks_more c.loop-channel.channel list end),
        length-append (channel_tracks c.loop-channel.channel list end) (track_of (on_channel c.loop-channel.channel list) end),
      ),
)
