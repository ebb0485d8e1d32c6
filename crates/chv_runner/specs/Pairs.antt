-- A reach and a desk beside each other, as one value.
use Rattle.std.specs.Prelude.{◌≡◌, ℕ}
use Rattle.chv_defs_api.specs.declared.control.ControlCall.{ControlCall}
use Rattle.chv_defs_memory.specs.declared.bank.BankCall.{BankCall}
use Rattle.chv_defs_memory.specs.Lending.{Access}

-- An access at the two is one at the reach, and leaves the desk.
abbrev pub reach_accesses : {X T : Type 0} → (X → ℕ → ℕ → BankCall → Access → X → Type 0) → X × T → ℕ → ℕ → BankCall → Access → X × T → Type 0
reach_accesses accesses before zone bank call answer after = accesses before.0 zone bank call answer after.0 × (after.1 ≡ before.1)

-- A call at the control machine is one at the desk, and leaves the reach.
abbrev pub desk_asks : {X T : Type 0} → (T → ControlCall → T → Type 0) → X × T → ControlCall → X × T → Type 0
desk_asks asks before call after = asks before.1 call after.1 × (after.0 ≡ before.0)
