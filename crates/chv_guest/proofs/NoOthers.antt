-- What the owner's calls leave while no context is lent.
use Rattle.std.proofs.Common.{◌≡◌, ℕ, ◌+◌, ◌<◌, true, List, [], Result, Ok, Err, subst, arith}
use Rattle.std.specs.Result.{is_ok}
use Rattle.chv_defs_memory.specs.declared.bank.BankCall.{BankCall}
use Rattle.chv_defs_memory.specs.declared.bank.BankReply.{BankReply}
use Rattle.chv_defs_memory.specs.declared.bank.Refusal.{Refusal}
use Rattle.chv_defs_memory.specs.BankState.{banks}
use Rattle.chv_defs_memory.specs.Zones.{Enters, Known, MakesRoom}
use Rattle.chv_defs_memory.proofs.ZoneLaws.{entered_by, enters-none, makes-room-none}

-- room that was made in the lowest bank
pub room_made : (lent : List ℕ) (before after : ℕ → Known) (zone entries pages : ℕ) (answer : Result (Unit {0}) Refusal) → lent ≡ [] → MakesRoom lent before after zone entries pages tt answer → is_ok answer ≡ true
    → after 0 ≡ record (before 0) { entries = (before 0).entries + entries; pages = pages }
room_made lent before after zone entries pages (Ok done) home made ok =
    let lowest : 0 < banks = omega arith in
    let P : List ℕ → Type 0 = λ l. MakesRoom l before after zone entries pages tt (Ok done) in
    (makes-room-none before after zone entries pages tt (Ok done) (subst P home made)).1 0 lowest
room_made lent before after zone entries pages (Err why) home made ok = cc

-- a call that was made in a bank
pub call_made : (lent : List ℕ) (bank : ℕ) (before after : Known) (c : BankCall) (r : BankReply) → lent ≡ [] → Enters lent bank before after c r → after ≡ entered_by bank c before
call_made lent bank before after c r home entered =
    let P : List ℕ → Type 0 = λ l. Enters l bank before after c r in
    (enters-none bank before after c r (subst P home entered)).1
