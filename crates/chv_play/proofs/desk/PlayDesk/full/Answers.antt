use Rattle.std.proofs.Common.{rules}
use Rattle.chv_play.proofs.desk.PlayDesk.full.Goals as goal

pub returns-in-Some : goal.returns-in-Some
returns-in-Some g c = search rules
