-- What `vm.info` shows of a control state. Its shape is this project's own; the configuration in it is the `VmConfig` of
-- the Cloud Hypervisor REST API v1.
use Rattle.std.specs.Prelude.{ℕ, List, [], map, sum_by, unwrap_or}
use Rattle.std.specs.List.{range_with_len}
use Rattle.chv_defs_api.specs.declared.config.ZoneConfig.{ZoneConfig}
use Rattle.chv_defs_api.specs.declared.config.Checked.{Checked}
use Rattle.chv_defs_control.specs.declared.machine.Machine.{Machine}
use Rattle.chv_defs_control.specs.declared.machine.Life.{Life}
use Rattle.chv_defs_control.specs.declared.machine.Life.TheVariants as life
use Rattle.chv_defs_api.specs.declared.info.Info.{Info}
use Rattle.chv_defs_api.specs.declared.info.ZoneInfo.{ZoneInfo}
use Rattle.chv_defs_api.specs.declared.info.ShownState.{ShownState}
use Rattle.chv_defs_api.specs.declared.info.ShownState.TheVariants as state
use Rattle.chv_defs_api.specs.ConfigRules.{checked_of}
use Rattle.chv_defs_api.specs.DefaultConfig.{default_config}

-- The state that is shown. A machine that waits for a pause, a shutdown or a delete is shown as running.
abbrev pub shown_state : Life → ShownState
shown_state life.None = state.Created
shown_state life.Created = state.Created
shown_state life.Running = state.Running
shown_state (life.Hold holder goal) = state.Running
shown_state life.Paused = state.Paused
shown_state life.Shutdown = state.Shutdown

-- Nothing of a zone is plugged so far, and what is asked for is its `hotplugged_size`.
abbrev pub shown_zone : ZoneConfig → ZoneInfo
shown_zone zone = record { id = zone.id; plugged_size = 0; requested_size = zone.hotplugged }

-- The numbers of the vCPUs that are present in a shown state, where so many are present at boot: those below this number where
-- it is Running or Paused, and else none. (A machine that waits is shown as Running.)
abbrev pub present : ShownState → ℕ → List ℕ
present state.Running boot = range_with_len 0 boot
present state.Paused boot = range_with_len 0 boot
present _ boot = []

-- What is shown of a configuration in a state. The actual size is that of the zones in effect.
abbrev pub shown_as : ShownState → Checked → Info
shown_as how checked = record {
  config = checked.config;
  devices = [];
  actual_size = sum_by (λ (zone : ZoneConfig). zone.size) checked.zones;
  state = how;
  vcpus = present how checked.config.cpus.boot;
  zones = map shown_zone checked.zones;
}

-- What is shown of a control state that has a configuration. (It is asked of no other.) No device is placed in any so far.
abbrev pub shown : Machine → Info
shown m = shown_as (shown_state m.life) (unwrap_or m.config (checked_of default_config))
