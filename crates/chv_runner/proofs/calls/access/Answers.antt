use Rattle.std.proofs.Common.{refl}
use Rattle.chv_runner.proofs.CallLemmas.{access_makes}
use Rattle.chv_runner.proofs.calls.access.Goals as goal

pub returns-clause-makes : goal.returns-clause-makes
returns-clause-makes g c =
    let said = c.access-came.ensures in
    let kept = c.requires.keeps c.args.world.now c.access-came.new.self c.args.zone c.args.bank c.args.call.now c.access-came.result said.accessed in
    access_makes _ _ c.args.zone c.args.bank c.args.call.now c.access-came.result c.requires.bank c.requires.access said.answer said.own said.err said.others said.bank_caller kept.2 kept.3
    c.note.ensures refl refl
