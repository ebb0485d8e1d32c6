use Rattle.std.proofs.Common.{◌≡◌, ◌∙◌, List, ap, refl, subst}
use Rattle.chv_scene.specs.Played.{Sessions}
use Rattle.chv_defs.specs.Schedule.{schedule}
use Rattle.chv_defs_api.specs.declared.shelf.OnShelf.{OnShelf}
use Rattle.chv_control.specs.Shelf as control
use Rattle.chv_top.specs.Given.{handed_in}
use Rattle.chv_top.specs.Says.{Reports}
use Rattle.chv_top.proofs.Saying.{comes_plain, handed_given, none_is_part, shelf_given}
use Rattle.chv_top.proofs.program.play_scene.Goals as goal

pub returns-in-Err-clause-reports : goal.returns-in-Err-clause-reports
returns-in-Err-clause-reports g c = none_is_part _ _ _ refl

pub report-requires : goal.report-requires
report-requires g c = record { plain = comes_plain _ _ _ _ c.play_sessions-played.ensures.comes }

pub returns-clause-reports : goal.returns-clause-reports
returns-clause-reports g c =
    let start = control.shelf_of (control.sectors_of g.D.Disk.sector_count) c.in-Ok.both.0.items in
    let shelf : start ≡ control.shelf_of g.D.Disk.sector_count c.args.disks.items =
    ap (λ disks. control.shelf_of (control.sectors_of g.D.Disk.sector_count) disks) c.in-Ok.ensures.ok.0 ∙ shelf_given g.D.Disk.sector_count c.args.disks.items in
    let reported = c.report.ensures.reports start (schedule start c.as_slice.result.now) c.play_sessions-played.ensures.comes in
    let of_sessions = subst (λ (sessions : Sessions). Reports start (schedule start sessions) (g.K.Sink.written c.args.out.now) (g.K.Sink.written c.report.new.out) (g.K.Sink.write_faults c.args.out.now) (g.K.Sink.write_faults c.report.new.out) c.report.result) c.as_slice.ensures reported in
    subst (λ (x : List OnShelf). Reports x (schedule x c.args.scene.now.sessions) (g.K.Sink.written c.args.out.now) (g.K.Sink.written c.report.new.out) (g.K.Sink.write_faults c.args.out.now) (g.K.Sink.write_faults c.report.new.out) c.report.result) shelf of_sessions

pub returns-clause-disks : goal.returns-clause-disks
returns-clause-disks g c =
    c.handed_back.ensures ∙ ap handed_in c.play_sessions-played.ensures.disks ∙ ap handed_in c.in-Ok.ensures.ok.0 ∙ handed_given c.args.disks.items
