use Rattle.std.proofs.Common.{◌≡◌, ℕ, List, length, map}
use Rattle.chv_control.specs.Shelf.{shelf_of, sectors_of}
use Rattle.chv_defs.specs.Schedule.{numbered, rounds_of}
use Rattle.chv_play.specs.Playing.{visit_ahead}
use Rattle.chv_play.specs.Round.{Stands}
use Rattle.chv_play.proofs.round.rounds.Given as goal

abbrev pub invariant-loop-desk : goal.invariant-loop-desk
invariant-loop-desk g l =
    let shelf = shelf_of (sectors_of g.D.Disk.sector_count) l.fn.desk.control.disks in
    record {
      goes_on : (streams : List (List ℕ)) → Stands shelf streams l.fn.desk.control 0 l.fn.seats → Stands shelf streams l.desk.control 0 l.seats;
      number : length l.seats ≡ length l.fn.seats;
      disks : l.desk.control.disks ≡ l.fn.desk.control.disks;
      sessions : l.desk.control.sessions ≡ l.fn.desk.control.sessions;
    }

abbrev pub decreases-loop-desk : goal.decreases-loop-desk
decreases-loop-desk g l = rounds_of (numbered (map visit_ahead l.seats))
