-- What a plan asks of the banks of the zones in effect, and what it leaves there.
use Rattle.std.specs.Prelude.{ℕ, if◌then◌else◌, [], map, slice_get, Option, None, Some, Result, Ok, Err}
use Rattle.std.specs.List.{range_with_len}
use Rattle.chv_defs_memory.specs.declared.bank.Refusal.{Refusal}
use Rattle.chv_defs_control.specs.declared.machine.Machine.{Machine}
use Rattle.chv_defs_control.specs.declared.machine.Life.{Life}
use Rattle.chv_defs_control.specs.ApiStep.{is_paused}
use Rattle.chv_defs_api.specs.declared.control.Goal.TheVariants.{Shutdown, Delete}
use Rattle.chv_defs_api.specs.declared.control.ControlCall.{ControlCall}
use Rattle.chv_defs_api.specs.declared.control.ControlCall.TheVariants as call
use Rattle.chv_defs_api.specs.declared.control.ControlReply.{ControlReply}
use Rattle.chv_defs_api.specs.declared.control.ControlReply.TheVariants as reply
use Rattle.chv_defs_control.specs.OwnerCalls.{zones_of, IsLeft}
use Rattle.chv_defs_memory.specs.MadeCalls.{wanted_refusal}
use Rattle.chv_defs_memory.specs.Zones.{first_due, most_zones, IsBank, Known}
use Rattle.chv_defs_memory.specs.declared.bank.Refusal.TheVariants as refusal
use Rattle.chv_defs_base.specs.declared.book.Full.{Full}
use Rattle.chv_ctl_mem.specs.declared.plan.Plan.{Plan}
use Rattle.chv_ctl_mem.specs.declared.plan.Plan.TheVariants as plan
use Rattle.chv_ctl_mem.specs.BankChanges.{plan_where}

-- the plan of a wipe: where the machine is paused the banks are frozen
abbrev pub wipe_for : Life → Plan
wipe_for life = if is_paused life then plan.ThawAndWipe else plan.Wipe

-- the plan of a control call that is answered so, in a machine of this life, where it stands for calls of the owner
abbrev pub plan_for : Life → ControlCall → ControlReply → Option Plan
plan_for life call.Boot reply.Done = Some plan.Shape
plan_for life (call.Begin Shutdown) reply.Done = Some (wipe_for life)
plan_for life (call.Begin Delete) reply.Done = Some (wipe_for life)
plan_for life _ _ = None

-- the refusal of the room that a plan wants, where one is due
abbrev pub plan_refusal : Machine → Plan → (ℕ → ℕ → Known) → Option Refusal
plan_refusal m p known =
    first_due (map (λ zone. wanted_refusal zone (known zone) (λ bank. plan_where (slice_get (zones_of m) zone) p)) (range_with_len 0 most_zones))

-- in each bank the calls of the plan were made, and no others, and it is at rest
abbrev pub HaveThePlan : Machine → Plan → (ℕ → ℕ → Known) → (ℕ → ℕ → Known) → Type 0
HaveThePlan m p before after =
    (zone bank : ℕ) → IsBank zone bank
    → IsLeft (slice_get (zones_of m) zone) [] bank (before zone bank) (plan_where (slice_get (zones_of m) zone) p) (after zone bank)

-- a refusal, where there is one, is that of a bank that is full
abbrev pub IsOnlyFull : Result (Unit {0}) Refusal → Type 0
IsOnlyFull (Err (refusal.Full full)) = Unit {0}
IsOnlyFull (Err _) = ⊥
IsOnlyFull (Ok done) = Unit {0}

-- two answers are of one kind: both done, both refused, or both want of memory
abbrev pub IsSame : {E : Type 0} → Result (Result (Unit {0}) Refusal) E → Result (Result (Unit {0}) Full) E → Type 0
IsSame (Ok (Ok done)) (Ok (Ok also)) = Unit {0}
IsSame (Ok (Err why)) (Ok (Err full)) = Unit {0}
IsSame (Err error) (Err other) = Unit {0}
IsSame _ _ = ⊥
