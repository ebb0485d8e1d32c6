use Rattle.std.proofs.Common.{◌≡◌, ap, ◌∙◌, sym}
use Rattle.chv_defs_memory.specs.PageContents.{Contents}
use Rattle.chv_pages.specs.HeldPages.{visible}
use Rattle.chv_pages.proofs.Views.{shown-are}
use Rattle.chv_pages.proofs.pages.Pages.count.Goals as goal

pub returns-clause-exact : goal.returns-clause-exact
returns-clause-exact c =
    let same : c.args.self.now.blocks ≡ c.self.inside.blocks = sym (ap (λ (m : Contents). m.blocks) c.self.view_is) in
    let pages : visible c.self.inside.held.items ≡ c.args.self.now.pages = ap (λ (m : Contents). m.pages) c.self.view_is in
    sym pages ∙ shown-are c.self.inside.blocks c.self.inside.held.items c.args.self.now c.self.invariant.0 same pages
