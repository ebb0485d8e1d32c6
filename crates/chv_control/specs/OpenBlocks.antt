-- The law of the blocks that are open, over whole histories of the control book and of the banks.
use Rattle.std.specs.Prelude.{◌≡◌, ◌&&◌, ℕ, true, nat_lt, List}
use Rattle.chv_defs_api.specs.declared.shelf.OnShelf.{OnShelf}
use Rattle.chv_defs_api.specs.declared.control.ControlEntry.{ControlEntry}
use Rattle.chv_defs_control.specs.declared.machine.Machine.{Machine}
use Rattle.chv_defs_control.specs.ApiStep.{is_booted}
use Rattle.chv_defs_control.specs.LegalControl.{IsLegal}
use Rattle.chv_defs_control.specs.OwnerCalls.{IsLinked}
use Rattle.chv_defs_memory.specs.declared.bank.BankEntry.{BankEntry}
use Rattle.chv_defs_memory.specs.BankState.{belongs, is_open}
use Rattle.chv_defs_memory.specs.LegalBank as bank_law
use Rattle.chv_defs_memory.specs.Zones.{IsBank}
use Rattle.chv_control.specs.Rest.{boot_blocks}

-- The law of the blocks that are open: where a control history is legal and leads to this machine, the banks are linked to it, and
-- a bank's history is legal, a block of the bank is open exactly where the machine is booted and the block is a boot block of the
-- bank's zone, which is in effect. Whatever other callers did in the bank does not matter.
abbrev pub OpenAreTheBootBlocks : Type 0
OpenAreTheBootBlocks =
    (shelf : List OnShelf) (history : List ControlEntry) (machine : Machine) (banks : ℕ → ℕ → List BankEntry) (zone bank block : ℕ)
    → IsLegal shelf history machine → IsLinked history banks
    → IsBank zone bank → bank_law.IsLegal bank (banks zone bank) → belongs bank block ≡ true
    → is_open bank (banks zone bank) block ≡ (is_booted machine.life && nat_lt block (boot_blocks machine zone))
