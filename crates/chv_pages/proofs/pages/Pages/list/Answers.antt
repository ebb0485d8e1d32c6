use Rattle.std.proofs.Common.{◌≡◌, ap, ◌∙◌, sym, subst, ◌*◌, List}
use Rattle.std.specs.Prelude.{IfOk}
use Rattle.chv_defs_memory.specs.declared.bank.PageAt.{PageAt}
use Rattle.chv_defs_memory.specs.PageContents.{Contents}
use Rattle.chv_pages.specs.declared.held.Held.{Held}
use Rattle.chv_pages.specs.HeldPages.{visible, AreHeld}
use Rattle.chv_pages.proofs.Views.{shown-are}
use Rattle.chv_pages.proofs.pages.Pages.list.Goals as goal

pub shown_pages-requires : goal.shown_pages-requires
shown_pages-requires c =
    let P : List Held → Type 0 = λ held. AreHeld 0 (c.self.inside.blocks * 512) held in
    subst P (sym c.as_slice.ensures.value) c.self.invariant.0

pub returns-clause-pages : goal.returns-clause-pages
returns-clause-pages c =
    let same : c.args.self.now.blocks ≡ c.self.inside.blocks = sym (ap (λ (m : Contents). m.blocks) c.self.view_is) in
    let pages : visible c.self.inside.held.items ≡ c.args.self.now.pages = ap (λ (m : Contents). m.pages) c.self.view_is in
    let P : List PageAt → Type 0 = λ shown. IfOk c.shown_pages.result (λ pages. pages ≡ shown) in
    subst P (ap visible c.as_slice.ensures.value ∙ shown-are c.self.inside.blocks c.self.inside.held.items c.args.self.now c.self.invariant.0 same pages) c.shown_pages.ensures

pub returns-clause-exact : goal.returns-clause-exact
returns-clause-exact c =
    let same : c.args.self.now.blocks ≡ c.self.inside.blocks = sym (ap (λ (m : Contents). m.blocks) c.self.view_is) in
    let pages : visible c.self.inside.held.items ≡ c.args.self.now.pages = ap (λ (m : Contents). m.pages) c.self.view_is in
    sym pages ∙ shown-are c.self.inside.blocks c.self.inside.held.items c.args.self.now c.self.invariant.0 same pages
