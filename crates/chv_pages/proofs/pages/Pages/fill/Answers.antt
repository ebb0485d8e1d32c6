use Rattle.std.proofs.Common.{arith, ◌≡◌, ap, ◌∙◌, sym, subst, ◌*◌, ◌+◌, ◌<◌, List, vec_len, refl}
use Rattle.chv_defs_memory.specs.PageContents.{Contents, Fills}
use Rattle.chv_pages.specs.declared.held.Held.{Held}
use Rattle.chv_pages.specs.HeldPages.{visible, AreHeld, put}
use Rattle.chv_pages.proofs.Puts.{put-keeps}
use Rattle.chv_pages.proofs.Views.{fills-are, whole-page}
use Rattle.chv_pages.proofs.Search.{in-order}
use Rattle.chv_pages.proofs.pages.Pages.fill.Goals as goal

pub put_page-requires-clause-order : goal.put_page-requires-clause-order
put_page-requires-clause-order c = in-order 0 (c.self.inside.blocks * 512) c.self.inside.held.items c.self.invariant.0

pub invariant_of-self : goal.invariant_of-self
invariant_of-self c =
    let same : c.self.inside.blocks ≡ c.args.self.now.blocks = ap (λ (m : Contents). m.blocks) c.self.view_is in
    let low : c.number_of-number.result < c.self.inside.blocks * 512 = omega (arith, same, c.requires.block, c.requires.page, c.number_of-number.ensures) in
    let P : List Held → Type 0 = λ held. AreHeld 0 (c.self.inside.blocks * 512) held in
    (subst P (sym c.put_page.ensures.items) (put-keeps 0 (c.self.inside.blocks * 512) c.self.inside.held.items c.number_of-number.result c.write.new.self (omega arith) low c.write.ensures.full c.self.invariant.0), omega (arith, c.self.invariant.1, c.put_page.ensures.len, c.put_page.ensures.room, c.in-Some.ensures.cases))

pub returns : goal.returns
returns c =
    let same : c.self.inside.blocks ≡ c.args.self.now.blocks = ap (λ (m : Contents). m.blocks) c.self.view_is in
    let low : c.number_of-number.result < c.self.inside.blocks * 512 = omega (arith, same, c.requires.block, c.requires.page, c.number_of-number.ensures) in
    let number : c.number_of-number.result ≡ c.args.block * 512 + c.args.page = omega (arith, c.number_of-number.ensures) in
    let bytes : c.write.new.self ≡ c.args.bytes.now = whole-page c.in-Some.made c.write.new.self c.args.bytes.now c.write.ensures.full c.requires.whole c.write.ensures.copied in
    let held : c.put_page.new.held.items ≡ put c.self.inside.held.items c.number_of-number.result c.args.bytes.now = c.put_page.ensures.items ∙ ap (put c.self.inside.held.items c.number_of-number.result) bytes in
    let one : vec_len c.pop.new.self + 1 ≡ vec_len c.self.inside.spare = c.in-Some.ensures.cases in
    rw (← c.self.view_is)
    (let P : List Held → Type 0 = λ new. Fills (record { blocks = c.self.inside.blocks; pages = visible c.self.inside.held.items; reserved = vec_len c.self.inside.spare }) (record { blocks = c.self.inside.blocks; pages = visible new; reserved = vec_len c.pop.new.self }) c.args.block c.args.page c.args.bytes.now in
    subst P (sym held)
    (fills-are (record { blocks = c.self.inside.blocks; pages = visible c.self.inside.held.items; reserved = vec_len c.self.inside.spare }) (c.self.inside.blocks * 512) c.self.inside.held.items c.number_of-number.result c.args.block c.args.page c.args.bytes.now (vec_len c.pop.new.self) refl one c.self.invariant.0 number low c.requires.page c.requires.whole))
