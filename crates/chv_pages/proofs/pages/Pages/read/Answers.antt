use Rattle.std.proofs.Common.{◌≡◌, ap, ◌∙◌, sym, subst, ◌+◌, ◌*◌, length}
use Rattle.chv_defs_memory.specs.PageContents.{Contents}
use Rattle.chv_pages.specs.HeldPages.{held_at, visible}
use Rattle.chv_pages.proofs.Views.{bytes-are}
use Rattle.chv_pages.specs.Order.{AreInOrder}
use Rattle.chv_pages.proofs.Search.{in-order}
use Rattle.chv_pages.proofs.pages.Pages.read.Goals as goal

pub read_held-requires-clause-order : goal.read_held-requires-clause-order
read_held-requires-clause-order c = subst AreInOrder (sym c.as_slice.ensures.value) (in-order 0 (c.self.inside.blocks * 512) c.self.inside.held.items c.self.invariant.0)

pub returns : goal.returns
returns c =
    let pages : visible c.self.inside.held.items ≡ c.args.self.now.pages = ap (λ (m : Contents). m.pages) c.self.view_is in
    let len : length c.read_held.new.into ≡ length c.args.into.now = c.read_held.ensures.len in
    bytes-are c.args.self.now (c.self.inside.blocks * 512) c.self.inside.held.items c.args.block c.args.offset c.read_held.new.into (length c.args.into.now) c.self.invariant.0 pages len
    (λ k small. c.read_held.ensures.read k small ∙ ap (λ held. held_at held c.args.block (c.args.offset + k)) c.as_slice.ensures.value)
