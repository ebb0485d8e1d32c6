use Rattle.chv_defs_memory.proofs.AccessLaws.{unpin-done}
use Rattle.chv_guest.proofs.laws.unpins_are_done.Goals as goal

pub returns : goal.returns
returns c = unpin-done
