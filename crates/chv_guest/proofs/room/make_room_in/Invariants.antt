use Rattle.std.proofs.Common.{◌≡◌, ◌++◌, map, take, drop}
use Rattle.chv_guest.specs.Room.{refusal_in, with_places}
use Rattle.chv_guest.proofs.room.make_room_in.Given as goal

-- The banks so far have room, those from here on are as they were, and which refusal is due they decide.
abbrev pub invariant-loop-place : goal.invariant-loop-place
invariant-loop-place l = record {
  made : l.banks ≡ map (with_places l.entries l.pages) (take l.place l.initial.banks) ++ drop l.place l.initial.banks;
  due : refusal_in (drop l.place l.initial.banks) l.entries l.pages ≡ refusal_in l.initial.banks l.entries l.pages;
}
