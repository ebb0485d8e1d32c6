-- What was not written since its block was opened reads as 0.
use Rattle.std.proofs.Common.{◌≡◌, ℕ, ◌+◌, ◌≤◌, Bool, true, false, List, None, refl, ◌∙◌, ap, arith, length, take, add-one}
use Rattle.std.specs.Prelude.{unwrap_or}
use Rattle.chv_defs_memory.specs.declared.bank.BankCall.{BankCall}
use Rattle.chv_defs_memory.specs.declared.bank.BankCall.TheVariants as call
use Rattle.chv_defs_memory.specs.declared.bank.BankReply.{BankReply}
use Rattle.chv_defs_memory.specs.declared.bank.BankReply.TheVariants as reply
use Rattle.chv_defs_memory.specs.declared.bank.BankEntry.{BankEntry}
use Rattle.chv_defs_memory.specs.BankState.{names, if_named}
use Rattle.chv_defs_memory.specs.LastByte.{last_byte, says_byte}
use Rattle.chv_bank.specs.Laws.{puts, IsUnwritten, UnwrittenBytesAreZero}
use Rattle.chv_bank.proofs.ByteLaws.{opened_zero, read_gives}
use Rattle.chv_bank.proofs.Latest.{last_byte-push}
use Rattle.chv_bank.proofs.Walks.{walk}

zero_or_kept : (n : Bool) (old : ℕ) → old ≡ 0 → unwrap_or (if_named n 0) old ≡ 0
zero_or_kept true old e = refl
zero_or_kept false old e = e

stays_zero : (bank block at old : ℕ) (c : BankCall) (r : BankReply) → puts block at c r ≡ None → old ≡ 0 → unwrap_or (says_byte bank block at c r) old ≡ 0
stays_zero bank block at old (call.Write b offset bytes) reply.Done h e = ap (λ o. unwrap_or o old) h ∙ e
stays_zero bank block at old (call.Fill b page bytes) reply.Done h e = ap (λ o. unwrap_or o old) h ∙ e
stays_zero bank block at old (call.Open span) r h e = zero_or_kept (names bank span block) old e
stays_zero bank block at old (call.Close span) reply.Closed h e = zero_or_kept (names bank span block) old e
stays_zero bank block at old (call.Shape n) r h e = refl
stays_zero bank block at old call.Wipe r h e = refl
stays_zero bank block at old c r h e = e

zero_at : (bank : ℕ) (history : List BankEntry) (block at from to : ℕ) → to ≤ length history → IsUnwritten bank history block at from to → last_byte bank (take to history) block at ≡ 0
zero_at bank history block at from to inside is =
    walk history (λ h. last_byte bank h block at ≡ 0) from to
    (rw (← add-one) (opened_zero bank history from block at is.opening is.stands is.opened))
    is.later inside
    (λ m x low high there was. last_byte-push bank (take m history) x block at ∙ stays_zero bank block at (last_byte bank (take m history) block at) x.call x.reply (is.kept m x low high there) was)

pub unwritten_zero : UnwrittenBytesAreZero
unwritten_zero bank history block offset len k from to caller bytes legal is there small =
    let given = read_gives bank history block offset len k to caller bytes legal there small in
    given.1 ∙ zero_at bank history block (offset + k) from to (omega (arith, given.0)) is
