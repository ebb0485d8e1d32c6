-- What an access that was refused at a sealed block tells.
use Rattle.std.proofs.Common.{[], ◌∷◌, refl}
use Rattle.chv_defs_memory.specs.BankBook.{BankBook}
use Rattle.chv_defs_memory.specs.LegalBank.{access_reply}
use Rattle.chv_defs_memory.proofs.AccessLaws.{sealed-at}
use Rattle.chv_defs_guest.specs.Course.{Accessed, Asked}
use Rattle.chv_defs_guest.specs.SliceLaws.{SealedTells}

pub sealed_tells : SealedTells
sealed_tells caller before after [] fs zone bank c block seen h =
    let took = h.1.turn in
    let b : BankBook = record { zone = zone; bank = bank; history = took.at; entries = took.entries; pages = took.pages } in
    let so = sealed-at b c block seen (access_reply bank took.at c) took.thawed took.answered in
    record { between = before; led = refl; at = took.at; legal = took.legal; goes_on = took.seen; place = so.0; sealed = so.1 }
sealed_tells caller before after (Accessed z k d answer ∷ es) fs zone bank c block seen h =
    let rest = sealed_tells caller h.0 after es fs zone bank c block seen h.2 in
    record { between = rest.between; led = (h.0, h.1, rest.led); at = rest.at; legal = rest.legal; goes_on = rest.goes_on; place = rest.place; sealed = rest.sealed }
sealed_tells caller before after (Asked d answer ∷ es) fs zone bank c block seen h =
    let rest = sealed_tells caller h.0 after es fs zone bank c block seen h.2 in
    record { between = rest.between; led = (h.0, h.1, rest.led); at = rest.at; legal = rest.legal; goes_on = rest.goes_on; place = rest.place; sealed = rest.sealed }
