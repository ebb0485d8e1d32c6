use Rattle.chv_defs_memory.proofs.OwnPins.{own-number}
use Rattle.chv_guest.specs.LentBanks.{bank_at, known_at}
use Rattle.chv_guest.proofs.Reached.{accesses}
use Rattle.chv_guest.proofs.ZoneBanks.{legal-known}
use Rattle.chv_guest.proofs.lent_caller.LentCallerReachUnit.access.Goals as goal

pub access-requires-clause-number : goal.access-requires-clause-number
access-requires-clause-number c =
    own-number c.args.self.now.caller (bank_at c.args.self.now.banks.now.books c.args.zone c.args.bank).history c.args.call.now c.requires.number

pub returns-clause-answer : goal.returns-clause-answer
returns-clause-answer c =
    let books = c.args.self.now.banks.now.books in
    accesses c.args.self.now.caller c.args.zone c.args.bank c.args.call.now c.access.result (known_at books c.args.zone c.args.bank) (known_at c.access.new.self.books c.args.zone c.args.bank)
    (legal-known books c.args.zone c.args.bank c.recall.ensures.all c.requires.zone.0 c.requires.zone.1)
    c.access.ensures.thawed c.access.ensures.limits c.access.ensures.answer c.access.ensures.entry
