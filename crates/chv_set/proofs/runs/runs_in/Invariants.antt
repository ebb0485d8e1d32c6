use Rattle.std.proofs.Common.{◌≡◌, take}
use Rattle.chv_defs_memory.specs.BlockSets.{runs_of, members}
use Rattle.chv_set.proofs.runs.runs_in.Given as goal

abbrev pub invariant-loop-block : goal.invariant-loop-block
invariant-loop-block l = l.runs.items ≡ runs_of (members (take l.block l.blocks))
