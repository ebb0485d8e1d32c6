-- What a call comes to, and what a machine becomes by it.
use Rattle.std.specs.Prelude.{Option, Some, None, true}
use Rattle.chv_defs_base.specs.declared.rule.Rule.{Rule}
use Rattle.chv_defs_api.specs.declared.control.ControlReply.TheVariants as reply
use Rattle.chv_defs_control.specs.declared.machine.Machine.{Machine}
use Rattle.chv_defs_control.specs.declared.machine.Life.TheVariants as life
use Rattle.chv_ctl_api.specs.declared.decided.Change.{Change}
use Rattle.chv_ctl_api.specs.declared.decided.Change.TheVariants as change
use Rattle.chv_ctl_api.specs.declared.decided.Decided.{Decided}

-- the machine behind a change
abbrev pub changed : Machine → Change → Machine
changed m change.Stays = m
changed m (change.Created checked) = record m { life = life.Created; config = Some checked }
changed m (change.Reconfigured checked) = record m { config = Some checked }
changed m change.Booted = record m { life = life.Running }
changed m change.ShutDown = record m { life = life.Shutdown }
changed m change.Deleted = record m { life = life.None; config = None }
changed m (change.Ended ended) = record m { ended = ended }
changed m change.Stopped = record m { stopped = true }

-- the rule that is broken is answered, and nothing is changed; or else Done is answered, and this is changed
abbrev pub done_unless : Option Rule → Change → Decided
done_unless (Some rule) made = record { reply = reply.Ruled rule; change = change.Stays }
done_unless None made = record { reply = reply.Done; change = made }
