use Rattle.chv_defs_memory.specs.Zones.{acting}
use Rattle.chv_defs_memory.proofs.ZoneLaws.{nobody-acts}
use Rattle.chv_ctl_mem.proofs.ZoneSteps.{asked-of, failed-of}
use Rattle.chv_ctl_mem.proofs.room.ask_room.Goals as goal

pub returns-clause-room : goal.returns-clause-room
returns-clause-room g c =
    asked-of (acting g.Z.Banked.is_shared (g.Z.Banked.lent c.args.zones.now)) c.args.zone c.args.entries c.args.pages (g.Z.Banked.known c.args.zones.now) (g.Z.Banked.known c.room.new.self) c.room.result (nobody-acts g.Z.Banked.is_shared (g.Z.Banked.lent c.args.zones.now) c.requires.home) c.room.ensures.room c.room.ensures.others

pub returns-clause-err : goal.returns-clause-err
returns-clause-err g c =
    failed-of (acting g.Z.Banked.is_shared (g.Z.Banked.lent c.args.zones.now)) c.args.zone (g.Z.Banked.known c.args.zones.now) (g.Z.Banked.known c.room.new.self) c.room.result (nobody-acts g.Z.Banked.is_shared (g.Z.Banked.lent c.args.zones.now) c.requires.home) c.room.ensures.err c.room.ensures.others
