use Rattle.std.proofs.Common.{◌≡◌, ℕ, List, length}
use Rattle.chv_control.specs.Shelf.{shelf_of, sectors_of}
use Rattle.chv_play.specs.Playing.{behind_round}
use Rattle.chv_play.specs.Round.{Stands}
use Rattle.chv_play.proofs.round.round.Given as goal

abbrev pub invariant-loop-i : goal.invariant-loop-i
invariant-loop-i g l =
    let shelf = shelf_of (sectors_of g.D.Disk.sector_count) l.fn.desk.control.disks in
    record {
      goes_on : (streams : List (List ℕ)) → Stands shelf streams l.fn.desk.control 0 l.fn.seats → Stands shelf streams l.desk.control l.i l.seats;
      visits : behind_round l.i l.seats ≡ behind_round 0 l.fn.seats;
      number : length l.seats ≡ length l.fn.seats;
      disks : l.desk.control.disks ≡ l.fn.desk.control.disks;
      sessions : l.desk.control.sessions ≡ l.fn.desk.control.sessions;
    }
