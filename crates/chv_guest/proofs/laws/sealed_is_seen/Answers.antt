use Rattle.chv_defs_memory.proofs.AccessLaws.{sealed-told}
use Rattle.chv_guest.proofs.laws.sealed_is_seen.Goals as goal

pub returns : goal.returns
returns c = sealed-told
