use Rattle.std.proofs.Common.{arith, ◌≡◌, ap, ◌∙◌, sym, subst, ◌*◌, ◌+◌, ◌≤◌, List, vec_len, refl, length}
use Rattle.std.specs.Vec.{with_items}
use Rattle.std.proofs.lemmas.List.{with_items_is, length-map}
use Rattle.chv_defs_memory.specs.PageContents.{Contents, Writes}
use Rattle.chv_pages.specs.declared.held.Held.{Held}
use Rattle.chv_pages.specs.HeldPages.{visible, AreHeld, WritesHeld}
use Rattle.chv_pages.proofs.Views.{writes-are}
use Rattle.chv_pages.proofs.Search.{in-order}
use Rattle.chv_pages.proofs.pages.Pages.write.Goals as goal

pub hold_range-requires-clause-order : goal.hold_range-requires-clause-order
hold_range-requires-clause-order c = in-order 0 (c.self.inside.blocks * 512) c.self.inside.held.items c.self.invariant.0

pub returns-clause-ok : goal.returns-clause-ok
returns-clause-ok c =
    let same : c.self.inside.blocks ≡ c.args.self.now.blocks = ap (λ (m : Contents). m.blocks) c.self.view_is in
    let low : c.args.block * 512 + 512 ≤ c.self.inside.blocks * 512 = omega (arith, same, c.requires.block) in
    let kept : AreHeld 0 (c.self.inside.blocks * 512) c.hold_range.new.held.items = c.hold_range.ensures.keeps (c.self.inside.blocks * 512) low c.self.invariant.0 in
    let P : List Held → Type 0 = λ held. WritesHeld held c.write_held.new.held c.args.block c.args.offset c.args.from.now in
    let written : WritesHeld c.hold_range.new.held.items c.write_held.new.held c.args.block c.args.offset c.args.from.now = subst P c.deref_mut.ensures.value c.write_held.ensures in
    let count : length c.write_held.new.held ≡ vec_len c.hold_range.new.held =
    sym (length-map c.write_held.new.held (λ (h : Held). h.number)) ∙ ap length c.write_held.ensures.numbers ∙ length-map c.deref_mut.result.now (λ (h : Held). h.number) ∙ c.deref_mut.ensures.len in
    let items : (with_items c.hold_range.new.held c.write_held.new.held).items ≡ c.write_held.new.held = with_items_is c.hold_range.new.held c.write_held.new.held count in
    let Q : List Held → Type 0 = λ new. Writes (record { blocks = c.self.inside.blocks; pages = visible c.self.inside.held.items; reserved = vec_len c.self.inside.spare }) (record { blocks = c.self.inside.blocks; pages = visible new; reserved = vec_len c.self.inside.spare }) c.args.block c.args.offset c.args.from.now in
    rw (← c.self.view_is)
    (subst Q (sym items)
    (writes-are (record { blocks = c.self.inside.blocks; pages = visible c.self.inside.held.items; reserved = vec_len c.self.inside.spare }) (c.self.inside.blocks * 512) c.self.inside.held.items c.hold_range.new.held.items c.write_held.new.held c.args.block c.args.offset c.args.from.now (vec_len c.self.inside.spare) refl refl kept c.hold_range.ensures.same written))
