use Rattle.chv_defs_memory.proofs.AccessLaws.{never-frozen}
use Rattle.chv_guest.proofs.laws.none_finds_it_frozen.Goals as goal

pub returns : goal.returns
returns c = never-frozen
