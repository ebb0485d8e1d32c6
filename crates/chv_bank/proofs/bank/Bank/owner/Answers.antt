use Rattle.std.proofs.Common.{◌≡◌, ◌+◌, ◌-◌, ◌<◌, sym, ap, subst, arith, refl}
use Rattle.std.proofs.lemmas.Grind.{common_steps}
use Rattle.chv_defs_memory.specs.LegalBank.{IsLegal, OwnerMay}
use Rattle.chv_defs_memory.specs.BankBook.{BankBook, with_entry, owner_reply}
use Rattle.chv_bank.specs.declared.bank.Bank.TheInside.{Inside}
use Rattle.chv_bank.proofs.KeptSteps.{owner-kept, owner-legal}
use Rattle.chv_bank.proofs.bank.Bank.owner.Goals as goal

pub invariant_of-self : goal.invariant_of-self
invariant_of-self c =
    let old : Inside = c.self.inside in
    let may : OwnerMay old.bank old.history.items c.args.call.now = subst (λ (b : BankBook). OwnerMay b.bank b.history c.args.call.now) (sym c.self.view_is) c.requires.condition in
    let some : 0 < old.reserved = omega (arith, ap (λ (b : BankBook). b.entries) c.self.view_is, c.requires.entry) in
    let answer : c.serve_owner-answer.result ≡ owner_reply old.bank old.history.items c.args.call.now = c.serve_owner-answer.ensures.answer old.history.items c.self.invariant.state in
    let grown : c.push.new.self.items ≡ with_entry old.history.items 0 c.args.call.now c.serve_owner-answer.result = grind (arith, common_steps, c.copy_owner_call.ensures.copied, c.copy_owner_reply.ensures) in
    owner-kept old (record { alloc = old.alloc; zone = old.zone; bank = old.bank; state = c.serve_owner-answer.new.state; history = c.push.new.self; payload = old.payload + c.payload_of.result; reserved = old.reserved - 1; sheets = c.copy_owner_call.new.sheets })
    c.args.call.now c.serve_owner-answer.result c.self.invariant c.requires.owner may answer c.serve_owner-answer.ensures.steps refl grown
    (ap (λ n. old.payload + n) c.payload_of.ensures) c.copy_owner_call.ensures.used c.serve_owner-answer.ensures.reserved (omega (arith, some)) c.push.ensures.capacity

pub returns-clause-legal : goal.returns-clause-legal
returns-clause-legal c =
    let old : Inside = c.self.inside in
    let may : OwnerMay old.bank old.history.items c.args.call.now = subst (λ (b : BankBook). OwnerMay b.bank b.history c.args.call.now) (sym c.self.view_is) c.requires.condition in
    let answer : c.serve_owner-answer.result ≡ owner_reply old.bank old.history.items c.args.call.now = c.serve_owner-answer.ensures.answer old.history.items c.self.invariant.state in
    let grown : c.push.new.self.items ≡ with_entry old.history.items 0 c.args.call.now c.serve_owner-answer.result = grind (arith, common_steps, c.copy_owner_call.ensures.copied, c.copy_owner_reply.ensures) in
    subst (λ (b : BankBook). IsLegal b.bank c.push.new.self.items) c.self.view_is
    (owner-legal old.bank old.history.items c.push.new.self.items c.args.call.now c.serve_owner-answer.result c.self.invariant.legal c.requires.owner may answer grown)
