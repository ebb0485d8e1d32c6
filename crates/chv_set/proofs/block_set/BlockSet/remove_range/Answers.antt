use Rattle.std.proofs.Common.{◌≡◌}
use Rattle.chv_defs_memory.specs.BlockSets.{without_span}
use Rattle.chv_set.proofs.SetLists.{without_span-is}
use Rattle.chv_set.proofs.block_set.BlockSet.remove_range.Goals as goal

pub returns : goal.returns
returns c =
    let new : c.put_all.new.blocks.items ≡ without_span c.self.inside.blocks.items c.args.span =
    without_span-is c.self.inside.blocks.items c.put_all.new.blocks.items c.args.span (record { len = c.put_all.ensures.len; inside = c.put_all.ensures.inside; below = c.put_all.ensures.below; above = c.put_all.ensures.above }) in
    rw c.self.view_is at new
