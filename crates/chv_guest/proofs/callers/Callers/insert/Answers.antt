use Rattle.std.proofs.Common.{ℕ, List, true, set, subst, arith}
use Rattle.chv_defs_memory.specs.BlockSets.{members}
use Rattle.chv_defs_memory.specs.Lending.{OneMore}
use Rattle.chv_guest.proofs.CallerFlags.{one-more-flag}
use Rattle.chv_guest.proofs.callers.Callers.insert.Goals as goal

pub returns : goal.returns
returns c =
    subst (λ (before : List ℕ). OneMore c.args.caller before (members (set c.self.inside.flags c.args.caller true))) c.self.view_is
    (one-more-flag c.self.inside.flags c.args.caller (omega arith))
