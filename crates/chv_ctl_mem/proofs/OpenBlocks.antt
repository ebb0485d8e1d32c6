-- What is open behind calls of the owner, whatever contexts do in between.
use Rattle.std.proofs.Common.{◌≡◌, ℕ, Bool, true, false, List, [], ◌∷◌, ◌++◌, Some, refl, ◌∙◌, ap, subst}
use Rattle.std.specs.Prelude.{if◌then◌else◌, nat_lt, unwrap_or}
use Rattle.chv_defs_api.specs.declared.control.ControlCall.TheVariants as control
use Rattle.chv_defs_api.specs.declared.control.ControlReply.TheVariants as reply
use Rattle.chv_defs_api.specs.declared.control.Goal.TheVariants as goal
use Rattle.chv_defs_base.specs.Sizes.{blocks_in}
use Rattle.chv_defs_control.specs.ApiStep.{is_paused}
use Rattle.chv_defs_control.specs.OwnerCalls.{calls_where, BootOpensTheBootBlocks, ClosesAll, WipeClosesAll}
use Rattle.chv_defs_memory.specs.declared.bank.BankCall.{BankCall}
use Rattle.chv_defs_memory.specs.declared.bank.BankCall.TheVariants as call
use Rattle.chv_defs_memory.specs.declared.bank.BankReply.{BankReply}
use Rattle.chv_defs_memory.specs.declared.bank.BankReply.TheVariants as bank_reply
use Rattle.chv_defs_memory.specs.declared.bank.BankEntry.{BankEntry}
use Rattle.chv_defs_memory.specs.BankBook.{with_entry}
use Rattle.chv_defs_memory.specs.BankState.{is_open, later, latest, says_open}
use Rattle.chv_defs_memory.specs.MadeCalls.{AreMade}
use Rattle.chv_defs_memory.specs.Zones.{GoesOn}
use Rattle.chv_defs_memory.proofs.GoingOn.{open-entry, open-goes}

-- what is open stays so while contexts make accesses
open-still : (lent : List ℕ) (bank block : ℕ) (before after : List BankEntry) → GoesOn lent before after → is_open bank after block ≡ is_open bank before block
open-still lent bank block before after (others, of, is) = ap (λ (h : List BankEntry). is_open bank h block) is ∙ open-goes lent bank before others of block

-- behind a call that decides it is as that says
decided : (bank block : ℕ) (history : List BankEntry) (c : BankCall) (r : BankReply) (so : Bool) → says_open bank block c r ≡ Some so
    → is_open bank (with_entry history 0 c r) block ≡ so
decided bank block history c r so says =
    open-entry bank block history c r
    ∙ ap (λ o. unwrap_or (later (latest (λ e. says_open bank block e.call e.reply) history) o) false) says

wiped : (paused : Bool) (lent : List ℕ) (bank block : ℕ) (before after : List BankEntry)
    → AreMade lent bank before (if paused then call.Thaw ∷ call.Wipe ∷ [] else call.Wipe ∷ []) after → is_open bank after block ≡ false
wiped true lent bank block before after (first, of_first, (others, of, goes)) =
    let thawed = with_entry (before ++ first) 0 call.Thaw bank_reply.Done in
    open-still lent bank block (with_entry (thawed ++ others) 0 call.Wipe bank_reply.Done) after goes
    ∙ decided bank block (thawed ++ others) call.Wipe bank_reply.Done false refl
wiped false lent bank block before after (others, of, goes) =
    open-still lent bank block (with_entry (before ++ others) 0 call.Wipe bank_reply.Done) after goes
    ∙ decided bank block (before ++ others) call.Wipe bank_reply.Done false refl

pub boot-opens : BootOpensTheBootBlocks
boot-opens lent m config zone bank block before after here made =
    let calls : AreMade lent bank before (call.Shape (blocks_in config.size) ∷ []) after =
    subst (λ o. AreMade lent bank before (calls_where o m zone bank control.Boot reply.Done) after) here made in
    open-still lent bank block (with_entry (before ++ calls.0) 0 (call.Shape (blocks_in config.size)) bank_reply.Done) after calls.2
    ∙ decided bank block (before ++ calls.0) (call.Shape (blocks_in config.size)) bank_reply.Done (nat_lt block (blocks_in config.size)) refl

shutdown-closes : ClosesAll goal.Shutdown
shutdown-closes lent m config zone bank block before after here made =
    wiped (is_paused m.life) lent bank block before after
    (subst (λ o. AreMade lent bank before (calls_where o m zone bank (control.Begin goal.Shutdown) reply.Done) after) here made)

delete-closes : ClosesAll goal.Delete
delete-closes lent m config zone bank block before after here made =
    wiped (is_paused m.life) lent bank block before after
    (subst (λ o. AreMade lent bank before (calls_where o m zone bank (control.Begin goal.Delete) reply.Done) after) here made)

pub wipe-closes : WipeClosesAll
wipe-closes = (shutdown-closes, delete-closes)
