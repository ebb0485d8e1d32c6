-- What calls of the owner that were made while no context is lent leave of a bank's history.
use Rattle.std.proofs.Common.{◌≡◌, ℕ, Bool, List, [], ◌∷◌, ◌++◌, sym, ap, ◌∙◌, append_assoc}
use Rattle.std.specs.Prelude.{◌==◌, map, filter}
use Rattle.std.proofs.lemmas.List.{append-nil, map-append}
use Rattle.std.proofs.lemmas.List.Elements.{filter-append}
use Rattle.chv_defs_memory.specs.declared.bank.BankCall.{BankCall}
use Rattle.chv_defs_memory.specs.declared.bank.BankReply.{BankReply}
use Rattle.chv_defs_memory.specs.declared.bank.BankEntry.{BankEntry}
use Rattle.chv_defs_memory.specs.BankBook.{owner_reply, with_entry}
use Rattle.chv_defs_memory.specs.MadeCalls.{owned, with_calls, AreMade}
use Rattle.chv_defs_memory.proofs.ZoneLaws.{goes-on-none, others-none}

owned-append : (h g : List BankEntry) → owned (h ++ g) ≡ owned h ++ owned g
owned-append h g =
    let own : BankEntry → Bool = λ e. e.caller == 0 in
    let called : BankEntry → BankCall = λ e. e.call in
    ap (map called) (filter-append own h g) ∙ map-append called (filter own h) (filter own g)

owned-push : (h : List BankEntry) (c : BankCall) (r : BankReply) → owned (with_entry h 0 c r) ≡ owned h ++ c ∷ []
owned-push h c r = owned-append h (record { caller = 0; call = c; reply = r } ∷ [])

-- behind further calls of the owner these stand behind its others
pub owned-with_calls : (bank : ℕ) (before : List BankEntry) (calls : List BankCall) → owned (with_calls bank before calls) ≡ owned before ++ calls
owned-with_calls bank before [] = sym (append-nil (owned before))
owned-with_calls bank before (c ∷ calls) =
    let r : BankReply = owner_reply bank before c in
    owned-with_calls bank (with_entry before 0 c r) calls
    ∙ ap (λ (cs : List BankCall). cs ++ calls) (owned-push before c r)
    ∙ append_assoc (owned before) (c ∷ []) calls

-- calls that were made while no context is lent are all that happened
pub made-none : (bank : ℕ) (before : List BankEntry) (calls : List BankCall) (after : List BankEntry) → AreMade [] bank before calls after → after ≡ with_calls bank before calls
made-none bank before [] after made = goes-on-none before after made
made-none bank before (c ∷ calls) after made =
    let seen : before ++ made.0 ≡ before = ap (λ others. before ++ others) (others-none made.0 made.1) ∙ append-nil before in
    let next : List BankEntry → List BankEntry = λ h. with_entry h 0 c (owner_reply bank h c) in
    made-none bank (next (before ++ made.0)) calls after made.2 ∙ ap (λ (h : List BankEntry). with_calls bank (next h) calls) seen
