use Rattle.chv_defs_memory.specs.Zones.{acting}
use Rattle.chv_defs_memory.proofs.ZoneLaws.{nobody-acts}
use Rattle.chv_ctl_mem.proofs.ZoneSteps.{call-made, may-ask}
use Rattle.chv_ctl_mem.proofs.each.call_bank.Goals as goal

pub owner-requires-clause-condition : goal.owner-requires-clause-condition
owner-requires-clause-condition g c =
    may-ask (g.Z.Banked.lent c.args.zones.now) c.args.bank c.args.call.now (g.Z.Banked.known c.args.zones.now c.args.zone c.args.bank) c.requires.home c.requires.may

pub returns-clause-called : goal.returns-clause-called
returns-clause-called g c =
    call-made (acting g.Z.Banked.is_shared (g.Z.Banked.lent c.args.zones.now)) c.args.zone c.args.bank (g.Z.Banked.known c.args.zones.now) (g.Z.Banked.known c.owner.new.self)
    c.args.call.now c.owner.result (nobody-acts g.Z.Banked.is_shared (g.Z.Banked.lent c.args.zones.now) c.requires.home) c.owner.ensures.entered c.owner.ensures.others
