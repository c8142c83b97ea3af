-- The limits of a setting.
use Rattle.std.specs.Prelude.{◌≤◌}
use Rattle.fm_core.specs.State.{Setting}
use Rattle.fm_core.specs.Invariant.{ValidSetting}
use Rattle.fm_buffer.specs.declared.outbox.TheConstants.{MAX_ROOM}
use Rattle.fm_core.specs.declared.limits.TheConstants.{MAX_LEAD}

-- valid lines, and a room and a lead within their limits
pub record IsSetting (g : Setting) : Type 0 where
  pub valid : ValidSetting g
  pub room : g.room ≤ MAX_ROOM
  pub lead : g.lead ≤ MAX_LEAD
