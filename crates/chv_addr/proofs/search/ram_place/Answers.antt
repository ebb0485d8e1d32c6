use Rattle.std.proofs.Common.{rules}
use Rattle.chv_addr.proofs.search.ram_place.Goals as goal

pub returns-then-len-room : goal.returns-then-len-room
returns-then-len-room c = search rules
