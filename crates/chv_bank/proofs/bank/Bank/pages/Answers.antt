use Rattle.std.proofs.Common.{◌≡◌, ◌∙◌, sym, subst, List}
use Rattle.std.specs.Prelude.{IfOk}
use Rattle.chv_defs_memory.specs.declared.bank.PageAt.{PageAt}
use Rattle.chv_defs_memory.specs.PageContents.{byte_at, pages_of}
use Rattle.chv_defs_memory.specs.BankBook.{BankBook, pages_shown}
use Rattle.chv_bank.proofs.ShownPages.{history-shown}
use Rattle.chv_bank.proofs.bank.Bank.pages.Goals as goal

pub returns : goal.returns
returns c =
    let b = c.self.inside in
    let same : pages_of b.state.memory.blocks (byte_at b.state.memory) ≡ pages_shown b.bank b.history.items =
    sym c.list.ensures.exact ∙ history-shown b.state.memory b.bank b.history.items c.list.ensures.exact c.self.invariant.state.formed.memory c.self.invariant.state.bytes in
    subst (λ (v : BankBook). IfOk c.list.result (λ pages. pages ≡ pages_shown v.bank v.history)) c.self.view_is
    (subst (λ (shown : List PageAt). IfOk c.list.result (λ pages. pages ≡ shown)) same c.list.ensures.pages)
