use Rattle.std.proofs.Common.{◌≡◌, sym, subst, arith, refl, true}
use Rattle.std.proofs.lemmas.Grind.{common_steps}
use Rattle.chv_defs_memory.specs.declared.bank.BankCall.TheVariants as call
use Rattle.chv_defs_memory.specs.declared.bank.BankReply.TheVariants as reply
use Rattle.chv_defs_memory.specs.BankState.{pins_of, has_pin}
use Rattle.chv_defs_memory.specs.BankBook.{BankBook, with_entry}
use Rattle.chv_bank.specs.declared.bank.Bank.TheInside.{Inside}
use Rattle.chv_bank.proofs.KeptSteps.{unpin-kept}
use Rattle.chv_bank.proofs.bank.Bank.unpin.Goals as goal

pub invariant_of-self : goal.invariant_of-self
invariant_of-self c =
    let old : Inside = c.self.inside in
    let there : has_pin (pins_of old.history.items) c.args.caller c.args.number ≡ true = subst (λ (b : BankBook). has_pin (pins_of b.history) c.args.caller c.args.number ≡ true) (sym c.self.view_is) c.requires.number in
    let grown : c.push.new.self.items ≡ with_entry old.history.items c.args.caller (call.Unpin c.args.number) reply.Done = grind (arith, common_steps) in
    unpin-kept old (record { alloc = old.alloc; zone = old.zone; bank = old.bank; state = c.unpin.new.state; history = c.push.new.self; payload = old.payload; reserved = old.reserved; sheets = old.sheets })
    c.args.caller c.args.number c.self.invariant c.requires.caller there c.unpin.ensures.steps refl grown refl refl c.unpin.ensures.reserved refl c.push.ensures.capacity
