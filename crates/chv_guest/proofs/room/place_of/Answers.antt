use Rattle.std.proofs.Common.{rules}
use Rattle.chv_guest.proofs.room.place_of.Goals as goal

pub returns : goal.returns
returns c = search rules
