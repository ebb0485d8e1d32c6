-- The control state before anything happened, and what holds of every control state.
use Rattle.std.specs.Prelude.{◌≡◌, ◌≤◌, ◌<◌, ◌↔◌, ℕ, List, [], ◌∷◌, Option, None, Some, false}
use Rattle.chv_defs_api.specs.declared.config.Checked.{Checked}
use Rattle.chv_defs_control.specs.declared.machine.Machine.{Machine}
use Rattle.chv_defs_control.specs.declared.machine.Life.{Life}
use Rattle.chv_defs_control.specs.declared.machine.Life.TheVariants as life
use Rattle.chv_defs_api.specs.ConfigRules.{IsChecked}
use Rattle.chv_defs_control.specs.ApiStep.{device_count}

-- The empty state: there is no machine, and no session has ended.
abbrev pub empty_machine : Machine
empty_machine = record { life = life.None; config = None; ended = []; stopped = false }

-- These are numbers of sessions above one, ascending.
abbrev pub AreSessionsAbove : ℕ → List ℕ → Type 0
AreSessionsAbove low [] = Unit {0}
AreSessionsAbove low (caller ∷ callers) = (low < caller) × (caller ≤ 16) × AreSessionsAbove caller callers

-- There is no machine, or it was created, runs, or was shut down. A pause is not built yet, so that none is paused; and no
-- context is ever out, so that none waits for a pause, a shutdown or a delete.
abbrev pub IsUnpaused : Life → Type 0
IsUnpaused life.None = Unit {0}
IsUnpaused life.Created = Unit {0}
IsUnpaused life.Running = Unit {0}
IsUnpaused life.Shutdown = Unit {0}
IsUnpaused _ = ⊥

-- A machine that runs has no device: no zone in effect grows, and there is no disk. Placing devices at a boot is not built yet.
abbrev pub RunsBare : Life → Option Checked → Type 0
RunsBare life.Running (Some checked) = device_count checked ≡ 0
RunsBare _ _ = Unit {0}

-- The configuration, where there is one, is a checked one.
abbrev pub HasChecked : Option Checked → Type 0
HasChecked None = Unit {0}
HasChecked (Some checked) = IsChecked checked

-- A control state is well formed where it has a configuration exactly where there is a machine, the machine is not paused and
-- waits for no pause, shutdown or delete, it has no device where it runs, its configuration is a checked one, and the ended
-- ones are sessions, ascending.
pub record IsWellFormed (m : Machine) : Type 0 where
  pub life_and_config : (m.life ≡ life.None) ↔ (m.config ≡ None)
  pub unpaused : IsUnpaused m.life
  pub bare : RunsBare m.life m.config
  pub checked : HasChecked m.config
  pub sessions : AreSessionsAbove 0 m.ended
