use Rattle.std.proofs.Common.{◌≡◌, ℕ, ◌-◌, List, [], ◌∷◌, ap, arith, ◌∙◌, refl}
use Rattle.chv_defs_memory.specs.declared.bank.BankCall.TheVariants as call
use Rattle.chv_defs_memory.specs.declared.bank.BankEntry.{BankEntry}
use Rattle.chv_defs_memory.specs.declared.bank.BankReply.TheVariants as reply
use Rattle.chv_defs_memory.specs.Zones.{Known}
use Rattle.chv_defs_memory.proofs.ZoneLaws.{entered_by}
use Rattle.chv_guest.specs.LentBanks.{known_at}
use Rattle.chv_guest.proofs.NoOthers.{call_made}
use Rattle.chv_tests_memory.proofs.guest.shape.Goals as goal

pub returns-clause-shaped : goal.returns-clause-shaped
returns-clause-shaped c =
    let before : Known = known_at c.args.zones.now.books c.args.zone 0 in
    let made : List BankEntry → ℕ → Known = λ history entries. entered_by 0 (call.Shape 256) (record before { history = history; entries = entries }) in
    let left : ℕ → Known = λ pages. record {
      history = record { caller = 0; call = call.Shape 256; reply = reply.Done } ∷ [];
      entries = 1;
      pages = pages;
    } in
    let none_used : before.pages - 0 ≡ before.pages = omega arith in
    call_made [] 0 before (known_at c.owner.new.self.books c.args.zone 0) (call.Shape 256) c.owner.result refl c.owner.ensures.entered
    ∙ ap (λ (history : List BankEntry). made history before.entries) c.requires.history
    ∙ ap (λ (entries : ℕ). made [] entries) c.requires.entries
    ∙ ap left none_used
