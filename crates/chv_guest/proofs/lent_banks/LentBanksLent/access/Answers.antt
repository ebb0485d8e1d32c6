use Rattle.std.proofs.Common.{◌≡◌, ℕ, true, false, List, IfOk, OnErr, set, sym, ap, subst, ◌∙◌}
use Rattle.chv_defs_memory.specs.BankBook.{refusal_of, refused_or, BankBook, HasItsNumber}
use Rattle.chv_defs_memory.specs.BankState.{is_frozen, IsCall}
use Rattle.chv_defs_memory.specs.LegalBank.{access_reply, IsLegal}
use Rattle.chv_defs_memory.specs.LentHistory.{IsLentTo}
use Rattle.chv_defs_memory.specs.Lending.{is_in, left_by, IsWithinLimits}
use Rattle.chv_defs_memory.specs.Zones.{book_of, Known}
use Rattle.chv_defs_memory.proofs.LentLaws.{lent-thawed}
use Rattle.chv_guest.specs.Accesses.{left_at}
use Rattle.chv_guest.specs.LentBanks.{bank_at, known_at, Lent}
use Rattle.chv_guest.proofs.KnownBanks.{book-known}
use Rattle.chv_guest.proofs.LentZones.{above-owner, left-bank, left-entry, left-err, left-known, left-lent, left-zone, lent-at}
use Rattle.chv_guest.proofs.ZoneBanks.{bank-known, bank-read, bank-set, AreAllBanks-put, AreLentTo-put}
use Rattle.chv_guest.proofs.lent_banks.LentBanksLent.access.Goals as goal

pub access_at-requires-clause-caller : goal.access_at-requires-clause-caller
access_at-requires-clause-caller c =
    above-owner c.self.inside.lent c.self.inside.banks.items c.args.caller c.self.invariant.1 (subst (λ (zones : Lent). is_in c.args.caller zones.lent ≡ true) (sym c.self.view_is) c.requires.lent)

pub access_at-requires-clause-call : goal.access_at-requires-clause-call
access_at-requires-clause-call c =
    let old : List BankBook = c.self.inside.banks.items in
    let here : c.index_mut.result.now ≡ bank_at old c.args.zone c.args.bank =
    bank-read old c.args.zone c.args.bank c.place_of.result c.index_mut.result.now c.self.invariant.0 c.requires.zone.0 c.requires.zone.1 c.place_of.ensures c.index_mut.ensures.value in
    let known : c.index_mut.result.now.bank ≡ c.args.bank =
    ap (λ (b : BankBook). b.bank) here ∙ bank-known old c.args.zone c.args.bank c.self.invariant.0 c.requires.zone.0 c.requires.zone.1 in
    subst (λ (n : ℕ). IsCall n c.args.call.now) (sym known) c.requires.call

pub access_at-requires-clause-number : goal.access_at-requires-clause-number
access_at-requires-clause-number c =
    let old : List BankBook = c.self.inside.banks.items in
    let here : c.index_mut.result.now ≡ bank_at old c.args.zone c.args.bank =
    bank-read old c.args.zone c.args.bank c.place_of.result c.index_mut.result.now c.self.invariant.0 c.requires.zone.0 c.requires.zone.1 c.place_of.ensures c.index_mut.ensures.value in
    subst (λ (b : BankBook). HasItsNumber b.history c.args.caller c.args.call.now) (sym here)
    (subst (λ (zones : Lent). HasItsNumber (bank_at zones.books c.args.zone c.args.bank).history c.args.caller c.args.call.now) (sym c.self.view_is) c.requires.number)

pub returns-clause-answer : goal.returns-clause-answer
returns-clause-answer c =
    let old : List BankBook = c.self.inside.banks.items in
    let here : c.index_mut.result.now ≡ book_of c.args.zone c.args.bank (known_at old c.args.zone c.args.bank) =
    bank-read old c.args.zone c.args.bank c.place_of.result c.index_mut.result.now c.self.invariant.0 c.requires.zone.0 c.requires.zone.1 c.place_of.ensures c.index_mut.ensures.value
    ∙ sym (book-known old c.args.zone c.args.bank c.self.invariant.0 c.requires.zone.0 c.requires.zone.1) in
    subst (λ (zones : Lent). IfOk c.access_at.result (λ answer. answer
    ≡ refused_or (refusal_of (book_of c.args.zone c.args.bank (known_at zones.books c.args.zone c.args.bank)) c.args.call.now)
    (access_reply c.args.bank (known_at zones.books c.args.zone c.args.bank).history c.args.call.now))) c.self.view_is
    (subst (λ (b : BankBook). IfOk c.access_at.result (λ answer. answer ≡ refused_or (refusal_of b c.args.call.now) (access_reply b.bank b.history c.args.call.now))) here c.access_at.ensures.answer)

pub returns-clause-limits : goal.returns-clause-limits
returns-clause-limits c =
    let old : List BankBook = c.self.inside.banks.items in
    let here : c.index_mut.result.now ≡ book_of c.args.zone c.args.bank (known_at old c.args.zone c.args.bank) =
    bank-read old c.args.zone c.args.bank c.place_of.result c.index_mut.result.now c.self.invariant.0 c.requires.zone.0 c.requires.zone.1 c.place_of.ensures c.index_mut.ensures.value
    ∙ sym (book-known old c.args.zone c.args.bank c.self.invariant.0 c.requires.zone.0 c.requires.zone.1) in
    subst (λ (zones : Lent). IsWithinLimits (book_of c.args.zone c.args.bank (known_at zones.books c.args.zone c.args.bank))) c.self.view_is
    (subst IsWithinLimits here c.access_at.ensures.limits)

pub returns-clause-entry : goal.returns-clause-entry
returns-clause-entry c =
    let old : List BankBook = c.self.inside.banks.items in
    let here : c.index_mut.result.now ≡ bank_at old c.args.zone c.args.bank =
    bank-read old c.args.zone c.args.bank c.place_of.result c.index_mut.result.now c.self.invariant.0 c.requires.zone.0 c.requires.zone.1 c.place_of.ensures c.index_mut.ensures.value in
    let left : c.access_at.new.bank ≡ left_at (bank_at old c.args.zone c.args.bank) c.args.caller c.args.call.now c.access_at.result =
    c.access_at.ensures.left ∙ ap (λ (b : BankBook). left_at b c.args.caller c.args.call.now c.access_at.result) here in
    let after : Known = known_at (set old c.place_of.result c.access_at.new.bank) c.args.zone c.args.bank in
    subst (λ (zones : Lent). IfOk c.access_at.result (λ answer. after
    ≡ record (known_at zones.books c.args.zone c.args.bank) { history = left_by (known_at zones.books c.args.zone c.args.bank).history c.args.caller c.args.call.now answer })) c.self.view_is
    (left-entry (bank_at old c.args.zone c.args.bank) c.args.caller c.args.call.now c.access_at.result after
    (left-known old c.args.zone c.args.bank c.place_of.result c.access_at.new.bank c.args.caller c.args.call.now c.access_at.result c.self.invariant.0 c.requires.zone.0 c.requires.zone.1 c.place_of.ensures left))

pub returns-clause-err : goal.returns-clause-err
returns-clause-err c =
    let old : List BankBook = c.self.inside.banks.items in
    let here : c.index_mut.result.now ≡ bank_at old c.args.zone c.args.bank =
    bank-read old c.args.zone c.args.bank c.place_of.result c.index_mut.result.now c.self.invariant.0 c.requires.zone.0 c.requires.zone.1 c.place_of.ensures c.index_mut.ensures.value in
    let left : c.access_at.new.bank ≡ left_at (bank_at old c.args.zone c.args.bank) c.args.caller c.args.call.now c.access_at.result =
    c.access_at.ensures.left ∙ ap (λ (b : BankBook). left_at b c.args.caller c.args.call.now c.access_at.result) here in
    let after : Known = known_at (set old c.place_of.result c.access_at.new.bank) c.args.zone c.args.bank in
    subst (λ (zones : Lent). OnErr c.access_at.result (after ≡ known_at zones.books c.args.zone c.args.bank)) c.self.view_is
    (left-err (bank_at old c.args.zone c.args.bank) c.args.caller c.args.call.now c.access_at.result after
    (left-known old c.args.zone c.args.bank c.place_of.result c.access_at.new.bank c.args.caller c.args.call.now c.access_at.result c.self.invariant.0 c.requires.zone.0 c.requires.zone.1 c.place_of.ensures left))

pub returns-clause-thawed : goal.returns-clause-thawed
returns-clause-thawed c =
    let old : List BankBook = c.self.inside.banks.items in
    let lent : List ℕ = c.self.inside.lent in
    let out : is_in c.args.caller lent ≡ true = subst (λ (zones : Lent). is_in c.args.caller zones.lent ≡ true) (sym c.self.view_is) c.requires.lent in
    subst (λ (zones : Lent). is_frozen (known_at zones.books c.args.zone c.args.bank).history ≡ false) c.self.view_is
    (lent-thawed lent c.args.caller (bank_at old c.args.zone c.args.bank).history out (lent-at lent old c.args.zone c.args.bank c.self.invariant.0 c.self.invariant.1 c.requires.zone.0 c.requires.zone.1))

pub returns-clause-legal : goal.returns-clause-legal
returns-clause-legal c =
    let old : List BankBook = c.self.inside.banks.items in
    let here : c.index_mut.result.now ≡ bank_at old c.args.zone c.args.bank =
    bank-read old c.args.zone c.args.bank c.place_of.result c.index_mut.result.now c.self.invariant.0 c.requires.zone.0 c.requires.zone.1 c.place_of.ensures c.index_mut.ensures.value in
    let left : c.access_at.new.bank ≡ left_at (bank_at old c.args.zone c.args.bank) c.args.caller c.args.call.now c.access_at.result =
    c.access_at.ensures.left ∙ ap (λ (b : BankBook). left_at b c.args.caller c.args.call.now c.access_at.result) here in
    let known : c.access_at.new.bank.bank ≡ c.args.bank =
    ap (λ (b : BankBook). b.bank) left ∙ left-bank (bank_at old c.args.zone c.args.bank) c.args.caller c.args.call.now c.access_at.result ∙ bank-known old c.args.zone c.args.bank c.self.invariant.0 c.requires.zone.0 c.requires.zone.1 in
    subst (λ (b : BankBook). IsLegal c.args.bank b.history)
    (sym (bank-set old c.args.zone c.args.bank c.place_of.result c.access_at.new.bank c.self.invariant.0 c.requires.zone.0 c.requires.zone.1 c.place_of.ensures))
    (subst (λ (n : ℕ). IsLegal n c.access_at.new.bank.history) known c.access_at.ensures.legal)

pub invariant_of-self : goal.invariant_of-self
invariant_of-self c =
    let old : List BankBook = c.self.inside.banks.items in
    let lent : List ℕ = c.self.inside.lent in
    let at : BankBook = bank_at old c.args.zone c.args.bank in
    let here : c.index_mut.result.now ≡ at =
    bank-read old c.args.zone c.args.bank c.place_of.result c.index_mut.result.now c.self.invariant.0 c.requires.zone.0 c.requires.zone.1 c.place_of.ensures c.index_mut.ensures.value in
    let left : c.access_at.new.bank ≡ left_at at c.args.caller c.args.call.now c.access_at.result =
    c.access_at.ensures.left ∙ ap (λ (b : BankBook). left_at b c.args.caller c.args.call.now c.access_at.result) here in
    let out : is_in c.args.caller lent ≡ true = subst (λ (zones : Lent). is_in c.args.caller zones.lent ≡ true) (sym c.self.view_is) c.requires.lent in (
      AreAllBanks-put old c.args.zone c.args.bank c.place_of.result c.access_at.new.bank c.self.invariant.0 c.requires.zone.0 c.requires.zone.1 c.place_of.ensures
          (ap (λ (b : BankBook). b.zone) left ∙ left-zone at c.args.caller c.args.call.now c.access_at.result)
          (ap (λ (b : BankBook). b.bank) left ∙ left-bank at c.args.caller c.args.call.now c.access_at.result)
          c.access_at.ensures.legal,
      AreLentTo-put lent old c.args.zone c.args.bank c.place_of.result c.access_at.new.bank c.self.invariant.0 c.requires.zone.0 c.requires.zone.1 c.place_of.ensures
          (subst (λ (b : BankBook). IsLentTo lent b.history) (sym left)
          (left-lent lent at c.args.caller c.args.call.now c.access_at.result c.requires.access out (lent-at lent old c.args.zone c.args.bank c.self.invariant.0 c.self.invariant.1 c.requires.zone.0 c.requires.zone.1))) c.self.invariant.1,
    )
