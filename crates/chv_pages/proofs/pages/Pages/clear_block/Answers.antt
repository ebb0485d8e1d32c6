use Rattle.std.proofs.Common.{arith, sym, subst, ◌*◌, List, vec_len, refl}
use Rattle.chv_pages.specs.declared.held.Held.{Held}
use Rattle.chv_pages.specs.HeldPages.{visible, AreHeld}
use Rattle.chv_pages.proofs.Views.{clears-are, filter-keeps}
use Rattle.chv_pages.proofs.pages.Pages.clear_block.Goals as goal

pub invariant_of-self : goal.invariant_of-self
invariant_of-self c =
    let P : List Held → Type 0 = λ held. AreHeld 0 (c.self.inside.blocks * 512) held in
    (subst P (sym c.drop_block.ensures.items) (filter-keeps 0 (c.self.inside.blocks * 512) c.args.block c.self.inside.held.items c.self.invariant.0), omega (arith, c.self.invariant.1, c.drop_block.ensures.len, c.drop_block.ensures.room))

pub returns : goal.returns
returns c =
    rw (← c.self.view_is) (clears-are (record { blocks = c.self.inside.blocks; pages = visible c.self.inside.held.items; reserved = vec_len c.self.inside.spare }) (c.self.inside.blocks * 512) c.self.inside.held.items c.drop_block.new.held.items c.args.block (vec_len c.self.inside.spare) refl refl c.self.invariant.0 c.drop_block.ensures.items)
