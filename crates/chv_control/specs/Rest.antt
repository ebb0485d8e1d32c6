-- What holds of the banks between control turns, and what the type of the control value keeps of them. While no machine can be
-- paused, what is said of one that is has nothing to speak of: no bank is frozen, and so no place of a Thaw is kept.
use Rattle.std.specs.Prelude.{◌≡◌, ◌&&◌, ℕ, true, false, nat_lt, List, [], is_some, slice_get, Option, None, Some}
use Rattle.chv_defs_base.specs.Sizes.{blocks_in}
use Rattle.chv_defs_api.specs.declared.config.ZoneConfig.{ZoneConfig}
use Rattle.chv_defs_api.specs.declared.control.ControlEntry.{ControlEntry}
use Rattle.chv_defs_control.specs.declared.machine.Machine.{Machine}
use Rattle.chv_defs_control.specs.ApiStep.{is_booted, is_paused}
use Rattle.chv_defs_control.specs.OwnerCalls.{zones_of, IsLinked}
use Rattle.chv_defs_memory.specs.BankState.{belongs, is_frozen, is_open, is_sealed}
use Rattle.chv_defs_memory.specs.MadeCalls.{at_rest, IsAtRest}
use Rattle.chv_defs_memory.specs.Zones.{IsBank, Known}

-- how many blocks a boot opens in a zone, where there is such a zone, and else none
abbrev pub boot_blocks_of : Option ZoneConfig → ℕ
boot_blocks_of None = 0
boot_blocks_of (Some config) = blocks_in config.size

-- how many blocks a boot opens in a zone of this number: those of its size where it is in effect, and else none
abbrev pub boot_blocks : Machine → ℕ → ℕ
boot_blocks m zone = boot_blocks_of (slice_get (zones_of m) zone)

-- A bank between control turns, by the machine's state: nothing is reserved there but the place of a Thaw where the bank is
-- frozen; it is frozen exactly where the machine is paused and the zone in effect; of its blocks exactly the boot blocks of a
-- booted zone are open; and none is sealed.
pub record IsQuiet (m : Machine) (zone bank : ℕ) (known : Known) : Type 0 where
  pub rest : IsAtRest known
  pub frozen : is_frozen known.history ≡ (is_paused m.life && is_some (slice_get (zones_of m) zone))
  pub opened : (block : ℕ) → belongs bank block ≡ true → is_open bank known.history block ≡ (is_booted m.life && nat_lt block (boot_blocks m zone))
  pub unsealed : (block : ℕ) → is_sealed bank known.history block ≡ false

-- each bank of each zone is as it is between control turns
abbrev pub AreQuiet : Machine → (ℕ → ℕ → Known) → Type 0
AreQuiet m known = (zone bank : ℕ) → IsBank zone bank → IsQuiet m zone bank (known zone bank)

-- nothing happened yet in any bank, and nothing is reserved there
abbrev pub AreUntouched : (ℕ → ℕ → Known) → Type 0
AreUntouched known = (zone bank : ℕ) → IsBank zone bank → known zone bank ≡ at_rest []

-- What the type keeps of the banks, by the contexts that are lent and what is known of each bank: the calls of the owner are
-- those that the control history asks for, no context is lent, and each bank is as it is between control turns.
pub record AreKept (m : Machine) (history : List ControlEntry) (lent : List ℕ) (known : ℕ → ℕ → Known) : Type 0 where
  pub linked : IsLinked history (λ zone bank. (known zone bank).history)
  pub home : lent ≡ []
  pub quiet : AreQuiet m known
