use Rattle.std.proofs.Common.{◌≡◌, false}
use Rattle.chv_defs_api.specs.Desks.{IsSession}
use Rattle.chv_defs_api.specs.Desks.{is_held}
use Rattle.chv_tests_outside.proofs.session.run.Given as goal

abbrev pub invariant-loop : goal.invariant-loop
invariant-loop g l = record {
  session : IsSession (g.T.Desk.caller l.desk);
  settled : is_held (g.T.Desk.answers l.desk) ≡ false;
}
