use Rattle.std.proofs.Common.{◌≡◌, []}
use Rattle.chv_ctl_mem.proofs.RoomSteps.{HasRoomBelow}
use Rattle.chv_ctl_mem.proofs.room.make_room.Given as goal

abbrev pub invariant-loop-zone : goal.invariant-loop-zone
invariant-loop-zone g l = record {
  room : HasRoomBelow l.entries l.pages l.zone (g.Z.Banked.known l.initial.zones) (g.Z.Banked.known l.zones);
  home : g.Z.Banked.lent l.zones ≡ [];
  books : g.Z.Banked.books l.zones ≡ g.Z.Banked.books l.initial.zones;
}
