use Rattle.std.proofs.Common.{◌≡◌, ◌++◌, map, take, drop}
use Rattle.chv_guest.specs.Room.{keep_places}
use Rattle.chv_guest.proofs.room.keep_room_in.Given as goal

abbrev pub invariant-loop-bank : goal.invariant-loop-bank
invariant-loop-bank l =
    l.banks ≡ map (keep_places l.keep) (take l.bank-index l.initial.banks) ++ drop l.bank-index l.initial.banks
