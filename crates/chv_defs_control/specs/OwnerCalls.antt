-- The owner's calls that a control entry stands for: what it makes the owner of the memory, which is the control value, do in
-- each bank; and the link between the control history and the banks that this makes. So far these are the calls of a boot, and
-- of a shutdown and a delete that reach their goal at once. No machine can be paused so far, so that what a pause, a resume and
-- a snapshot that are done call for is not written yet: the catch-all line of `calls_in` says nothing true of them.
use Rattle.std.specs.Prelude.{◌≡◌, ℕ, false, nat_lt, if◌then◌else◌, List, [], ◌∷◌, ◌++◌, map, slice_get, Option, None, Some}
use Rattle.std.specs.List.{range_with_len}
use Rattle.chv_defs_control.specs.declared.machine.Machine.{Machine}
use Rattle.chv_defs_control.specs.declared.machine.Life.{Life}
use Rattle.chv_defs_api.specs.declared.config.Checked.{Checked}
use Rattle.chv_defs_api.specs.declared.config.ZoneConfig.{ZoneConfig}
use Rattle.chv_defs_memory.specs.declared.bank.BankCall.{BankCall}
use Rattle.chv_defs_memory.specs.declared.bank.BankCall.TheVariants as bank_call
use Rattle.chv_defs_memory.specs.declared.bank.BankEntry.{BankEntry}
use Rattle.chv_defs_memory.specs.declared.bank.Refusal.{Refusal}
use Rattle.chv_defs_api.specs.declared.control.Goal.{Goal}
use Rattle.chv_defs_api.specs.declared.control.Goal.TheVariants.{Shutdown, Delete}
use Rattle.chv_defs_api.specs.declared.control.ControlCall.{ControlCall}
use Rattle.chv_defs_api.specs.declared.control.ControlCall.TheVariants as call
use Rattle.chv_defs_api.specs.declared.control.ControlReply.{ControlReply}
use Rattle.chv_defs_api.specs.declared.control.ControlReply.TheVariants as reply
use Rattle.chv_defs_api.specs.declared.control.ControlEntry.{ControlEntry}
use Rattle.chv_defs_control.specs.Machine.{empty_machine}
use Rattle.chv_defs_control.specs.ApiStep.{after, is_paused}
use Rattle.chv_defs_base.specs.Sizes.{blocks_in}
use Rattle.chv_defs_memory.specs.BankState.{is_open}
use Rattle.chv_defs_memory.specs.MadeCalls.{at_rest, owned, wanted_refusal, AreMade}
use Rattle.chv_defs_memory.specs.Zones.{first_due, most_zones, IsBank, Known, OnlySeesMore}

-- ---- the calls of one entry

-- the zones in effect of a configuration that may be there
abbrev pub zones_in : Option Checked → List ZoneConfig
zones_in None = []
zones_in (Some checked) = checked.zones

-- the zones in effect; without a configuration there are none
abbrev pub zones_of : Machine → List ZoneConfig
zones_of m = zones_in m.config

-- The zones in effect at an entry, by the machine before it, its call and its answer: they are those of the machine before it.
-- (At a restore that is done they will be those of its image, as the machine before it has none.)
abbrev pub zones_at : Machine → ControlCall → ControlReply → List ZoneConfig
zones_at m c r = zones_of m

-- The banks are wiped. They are frozen exactly where the machine is paused (a pause freezes the banks of the zones in effect,
-- and a resume thaws them), and are thawed before then.
abbrev pub wiping : Life → List BankCall
wiping life = if is_paused life then bank_call.Thaw ∷ bank_call.Wipe ∷ [] else bank_call.Wipe ∷ []

-- The owner's calls in a bank of a zone that is in effect at an entry, by the machine before the entry, the zone's configuration
-- and number, the bank's number, and the entry's call and answer: a boot that is done opens the zone's boot blocks, and a shutdown
-- or a delete that is done wipes the bank. A call that is refused asks for none, and so does any other that can be done so far.
-- (So far they are the same in each bank of a zone.)
abbrev pub calls_in : Machine → ZoneConfig → ℕ → ℕ → ControlCall → ControlReply → List BankCall
calls_in m config zone bank call.Boot reply.Done = bank_call.Shape (blocks_in config.size) ∷ []
calls_in m config zone bank (call.Begin Shutdown) reply.Done = wiping m.life
calls_in m config zone bank (call.Begin Delete) reply.Done = wiping m.life
calls_in m config zone bank _ _ = []

-- the same where there is such a zone; in a zone that is not in effect there are none
abbrev pub calls_where : Option ZoneConfig → Machine → ℕ → ℕ → ControlCall → ControlReply → List BankCall
calls_where None m zone bank c r = []
calls_where (Some config) m zone bank c r = calls_in m config zone bank c r

-- The owner's calls in a bank, by the zone's and the bank's number, for a control call that this machine answers so.
abbrev pub owner_calls : Machine → ControlCall → ControlReply → ℕ → ℕ → List BankCall
owner_calls m c r zone bank = calls_where (slice_get (zones_at m c r) zone) m zone bank c r

-- The owner's calls in a bank for which room is made before the entry is entered: those that the call, answered so, stands for.
-- (For an unplug and for a snapshot room will be made whatever they are then answered, so that these are not always the same.)
abbrev pub room_calls : Machine → ControlCall → ControlReply → ℕ → ℕ → List BankCall
room_calls m c r zone bank = owner_calls m c r zone bank

-- ---- the link

-- the owner's calls in a bank for a whole history of control entries, the first of which this machine answers
abbrev pub calls_for : Machine → List ControlEntry → ℕ → ℕ → List BankCall
calls_for m [] zone bank = []
calls_for m (e ∷ history) zone bank =
    owner_calls m e.call e.reply zone bank ++ calls_for (after m e.caller e.call e.reply) history zone bank

-- The owner link: in each bank of each of the zones that there can be, in effect or not, the calls of the owner are, in order,
-- exactly those that the control history asks for. (It compares the calls alone. What they are answered is for the bank's own
-- history to say, which is legal: `IsLegal` of `LegalBank`.)
abbrev pub IsLinked : List ControlEntry → (ℕ → ℕ → List BankEntry) → Type 0
IsLinked history banks = (zone bank : ℕ) → IsBank zone bank → owned (banks zone bank) ≡ calls_for empty_machine history zone bank

-- ---- what an entry leaves in the banks

-- In a bank of a zone in effect the owner's calls were made, and it is at rest; of any other the owner may see more.
abbrev pub IsLeft : Option ZoneConfig → List ℕ → ℕ → Known → List BankCall → Known → Type 0
IsLeft None lent bank before calls after = OnlySeesMore lent before after
IsLeft (Some config) lent bank before calls after =
    AreMade lent bank before.history calls after.history × (after ≡ at_rest after.history)

-- In each bank exactly the owner's calls were made that this control call, answered so, stands for; no place is left reserved
-- in the zones in effect but that of the Thaw of a bank that is frozen.
abbrev pub HaveTheCalls : List ℕ → Machine → ControlCall → ControlReply → (ℕ → ℕ → Known) → (ℕ → ℕ → Known) → Type 0
HaveTheCalls lent m c r before after =
    (zone bank : ℕ) → IsBank zone bank
    → IsLeft (slice_get (zones_at m c r) zone) lent bank (before zone bank) (owner_calls m c r zone bank) (after zone bank)

-- The refusal with which room in the banks is refused to a control call that is answered so, where it is: the zones are asked in
-- ascending order for the room that the calls want there (`room_calls`), and the first that refuses it names its lowest bank
-- which lacks it.
abbrev pub room_refusal_for : Machine → ControlCall → ControlReply → (ℕ → ℕ → Known) → Option Refusal
room_refusal_for m c r known =
    first_due (map (λ zone. wanted_refusal zone (known zone) (room_calls m c r zone)) (range_with_len 0 most_zones))

-- ---- laws

-- The law of a boot: behind its calls exactly the boot blocks of each zone in effect are open, of the blocks of each bank.
abbrev pub BootOpensTheBootBlocks : Type 0
BootOpensTheBootBlocks =
    (lent : List ℕ) (m : Machine) (config : ZoneConfig) (zone bank block : ℕ) (before after : List BankEntry)
    → slice_get (zones_of m) zone ≡ Some config
    → AreMade lent bank before (owner_calls m call.Boot reply.Done zone bank) after
    → is_open bank after block ≡ nat_lt block (blocks_in config.size)

-- Behind the calls of a request with this goal that is done no block of a bank of a zone in effect is open.
abbrev pub ClosesAll : Goal → Type 0
ClosesAll goal =
    (lent : List ℕ) (m : Machine) (config : ZoneConfig) (zone bank block : ℕ) (before after : List BankEntry)
    → slice_get (zones_of m) zone ≡ Some config
    → AreMade lent bank before (owner_calls m (call.Begin goal) reply.Done zone bank) after
    → is_open bank after block ≡ false

-- The law of a wipe: a shutdown closes all, and so does a delete.
abbrev pub WipeClosesAll : Type 0
WipeClosesAll = ClosesAll Shutdown × ClosesAll Delete
