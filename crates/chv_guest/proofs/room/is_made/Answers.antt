use Rattle.std.proofs.Common.{rules}
use Rattle.chv_guest.proofs.room.is_made.Goals as goal

pub returns-in-Ok : goal.returns-in-Ok
returns-in-Ok c = search rules
