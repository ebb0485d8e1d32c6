use Rattle.std.proofs.Common.{◌≡◌, ◌∙◌, ℕ, sym, ap, subst, Ok}
use Rattle.chv_defs_control.specs.OwnerCalls.{IsLinked}
use Rattle.chv_defs.specs.Schedule.{schedule}
use Rattle.chv_control.specs.Shelf.{shelf_of, sectors_of}
use Rattle.chv_guest.specs.LentBanks.{AreAllBanks, Lent}
use Rattle.chv_play.specs.Banks.{PlayedControl}
use Rattle.chv_play.specs.Played.{Gives}
use Rattle.chv_play.proofs.TraceLemmas.{comes_legal}
use Rattle.chv_play.proofs.player.play_on.Goals as goal

pub returns-in-Ok-Ok-clause-comes : goal.returns-in-Ok-Ok-clause-comes
returns-in-Ok-Ok-clause-comes g c =
    let count = sectors_of g.D.Disk.sector_count in
    let sessions = c.args.sessions.now in
    let start = c.args.control in
    let last = c.into_control-control.result in
    let began : c.new-desk.result.control ≡ start = c.new-desk.ensures in
    let ended : last ≡ c.run-outcome.new.desk.control = c.into_control-control.ensures in
    let given : Gives (schedule (shelf_of count c.new-desk.result.control.disks) sessions) c.run-outcome.new.desk.control (Ok c.in-Ok-Ok.logs) =
    rw c.in-Ok-Ok.field-0-is at c.in-Ok-Ok.ensures.gives in
    let gives : Gives (schedule (shelf_of count start.disks) sessions) last (Ok c.in-Ok-Ok.logs) =
    subst (λ (x : PlayedControl g.row.D.Denot). Gives (schedule (shelf_of count start.disks) sessions) x (Ok c.in-Ok-Ok.logs)) (sym ended)
    (subst (λ (x : PlayedControl g.row.D.Denot). Gives (schedule (shelf_of count x.disks) sessions) c.run-outcome.new.desk.control (Ok c.in-Ok-Ok.logs)) began given) in
    let disks : last.disks ≡ start.disks =
    ap (λ (x : PlayedControl g.row.D.Denot). x.disks) ended ∙ c.in-Ok-Ok.ensures.disks ∙ ap (λ (x : PlayedControl g.row.D.Denot). x.disks) began in
    comes_legal count sessions start last c.in-Ok-Ok.logs c.trace_of.result.trace c.trace_of.result.cause gives disks c.history.ensures.legal c.history.ensures.linked
    (subst (λ (z : Lent). AreAllBanks z.books) c.zones.ensures c.recall.ensures.all) c.requires.few c.trace_of.ensures.traced
