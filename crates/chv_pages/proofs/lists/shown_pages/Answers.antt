use Rattle.std.proofs.Common.{arith, ◌<◌, ◌*◌, get_or, ap}
use Rattle.chv_pages.specs.declared.held.Held.{Held}
use Rattle.chv_pages.proofs.Views.{below-end}
use Rattle.chv_pages.proofs.lists.shown_pages.Goals as goal

pub shown-requires : goal.shown-requires
shown-requires c =
    let small : (get_or c.args.held.now c.loop-h.h-index c.h-item.result).number < c.args.blocks * 512 = below-end 0 (c.args.blocks * 512) c.args.held.now c.loop-h.h-index c.h-item.result c.requires c.loop-h-test.true in
    omega (arith, small, ap (λ (h : Held). h.number) c.h-item.is)
