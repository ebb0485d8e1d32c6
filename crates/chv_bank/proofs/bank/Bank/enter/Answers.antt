use Rattle.std.proofs.Common.{◌≡◌, ◌+◌, ◌≤◌, sym, ap, subst, arith, refl, None, length, vec_len}
use Rattle.std.specs.Vec.{vec_capacity}
use Rattle.std.proofs.lemmas.Grind.{common_steps}
use Rattle.chv_defs_memory.specs.LegalBank.{access_reply}
use Rattle.chv_defs_memory.specs.BankBook.{BankBook, with_entry, refusal_of, HasItsNumber}
use Rattle.chv_bank.specs.CallerPins.{total}
use Rattle.chv_bank.specs.declared.bank.Bank.TheInside.{Inside}
use Rattle.chv_bank.proofs.KeptSteps.{access-kept, IsKept-roomier, seen}
use Rattle.chv_bank.proofs.bank.Bank.enter.Goals as goal

pub invariant_of-self : goal.invariant_of-self
invariant_of-self c =
    IsKept-roomier c.self.inside (record { alloc = c.self.inside.alloc; zone = c.self.inside.zone; bank = c.self.inside.bank; state = c.self.inside.state; history = c.reserve.new.self; payload = c.self.inside.payload; reserved = c.self.inside.reserved; sheets = c.self.inside.sheets })
    c.self.invariant refl c.reserve.ensures.items refl refl refl refl c.reserve.ensures.capacity

pub invariant_of-self-in_err-answer : goal.invariant_of-self-in_err-answer
invariant_of-self-in_err-answer c =
    IsKept-roomier c.self.inside (record { alloc = c.self.inside.alloc; zone = c.self.inside.zone; bank = c.self.inside.bank; state = c.self.inside.state; history = c.reserve.new.self; payload = c.self.inside.payload; reserved = c.self.inside.reserved; sheets = c.self.inside.sheets })
    c.self.invariant refl c.reserve.ensures.items refl refl refl refl c.reserve.ensures.capacity

pub invariant_of-self-in_err-copy_call : goal.invariant_of-self-in_err-copy_call
invariant_of-self-in_err-copy_call c =
    IsKept-roomier c.self.inside (record { alloc = c.self.inside.alloc; zone = c.self.inside.zone; bank = c.self.inside.bank; state = c.self.inside.state; history = c.reserve.new.self; payload = c.self.inside.payload; reserved = c.self.inside.reserved; sheets = c.self.inside.sheets })
    c.self.invariant refl c.reserve.ensures.items refl refl refl refl c.reserve.ensures.capacity

pub invariant_of-self-in_err-copy_reply : goal.invariant_of-self-in_err-copy_reply
invariant_of-self-in_err-copy_reply c =
    IsKept-roomier c.self.inside (record { alloc = c.self.inside.alloc; zone = c.self.inside.zone; bank = c.self.inside.bank; state = c.self.inside.state; history = c.reserve.new.self; payload = c.self.inside.payload; reserved = c.self.inside.reserved; sheets = c.self.inside.sheets })
    c.self.invariant refl c.reserve.ensures.items refl refl refl refl c.reserve.ensures.capacity

pub invariant_of-self-in_err-leave : goal.invariant_of-self-in_err-leave
invariant_of-self-in_err-leave c =
    IsKept-roomier c.self.inside (record { alloc = c.self.inside.alloc; zone = c.self.inside.zone; bank = c.self.inside.bank; state = c.leave.new.state; history = c.reserve.new.self; payload = c.self.inside.payload; reserved = c.self.inside.reserved; sheets = c.self.inside.sheets })
    c.self.invariant refl c.reserve.ensures.items c.in_err-leave.ensures.err refl refl refl c.reserve.ensures.capacity

pub invariant_of-self-2 : goal.invariant_of-self-2
invariant_of-self-2 c =
    let old : Inside = c.self.inside in
    let due : refusal_of (seen old) c.args.call.now ≡ None = subst (λ (b : BankBook). refusal_of b c.args.call.now ≡ None) (sym c.self.view_is) c.requires.due in
    let number : HasItsNumber old.history.items c.args.caller c.args.call.now = subst (λ (b : BankBook). HasItsNumber b.history c.args.caller c.args.call.now) (sym c.self.view_is) c.requires.number in
    let answer : c.in_ok-answer.answer ≡ access_reply old.bank old.history.items c.args.call.now = c.in_ok-answer.ensures old.history.items c.self.invariant.state in
    let grown : c.push.new.self.items ≡ with_entry old.history.items c.args.caller c.args.call.now c.in_ok-answer.answer = grind (arith, common_steps, c.in_ok-copy_call.ensures, c.in_ok-copy_reply.ensures, c.reserve.ensures.items) in
    let more : vec_len c.reserve.new.self + (old.reserved + c.len.result + 2) ≤ vec_capacity c.reserve.new.self = c.in_ok-reserve.ensures.ok in
    let room : length old.history.items + old.reserved + total old.state.pins + 2 ≤ vec_capacity c.push.new.self = omega (arith, more, c.len.ensures, c.reserve.new.self.ok.0, ap length c.reserve.ensures.items, c.push.ensures.capacity) in
    access-kept old (record { alloc = old.alloc; zone = old.zone; bank = old.bank; state = c.leave.new.state; history = c.push.new.self; payload = old.payload + c.payload_of.result; reserved = old.reserved; sheets = old.sheets })
    c.args.caller c.args.call.now c.in_ok-answer.answer c.self.invariant c.requires.caller c.requires.access c.requires.no_unpin number due answer c.in_ok-leave.ensures.ok refl grown
    (ap (λ n. old.payload + n) c.payload_of.ensures) refl c.leave.ensures.reserved refl room
