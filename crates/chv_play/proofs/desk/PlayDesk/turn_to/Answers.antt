use Rattle.std.proofs.Common.{rules}
use Rattle.chv_play.proofs.desk.PlayDesk.turn_to.Goals as goal

pub returns-clause-turn : goal.returns-clause-turn
returns-clause-turn g c = search rules
