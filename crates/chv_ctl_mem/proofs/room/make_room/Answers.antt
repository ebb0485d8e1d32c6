use Rattle.std.proofs.Common.{◌≡◌, ◌∙◌, ℕ, subst, arith, rules}
use Rattle.chv_ctl_mem.proofs.RoomSteps.{HasRoomBelow, all-given-back, room-all, room-more, room-none, room-refused}
use Rattle.chv_ctl_mem.proofs.room.make_room.Goals as goal

pub loop-zone-init : goal.loop-zone-init
loop-zone-init g c = record {
  room = room-none c.args.entries c.args.pages (g.Z.Banked.known c.args.zones.now);
  home = search rules;
  books = search rules;
}

pub loop-zone-preserved : goal.loop-zone-preserved
loop-zone-preserved g c =
    let more = rw c.in-Ok-Ok.field-0-is at c.in-Ok-Ok.ensures.room in
    record {
      room = room-more c.args.entries c.args.pages c.loop-zone.zone (g.Z.Banked.known c.args.zones.now) (g.Z.Banked.known c.loop-zone.zones) (g.Z.Banked.known c.ask_room.new.zones) c.in-Ok-Ok.field-0-0 (omega arith) c.loop-zone.invariant.room more;
      home = c.ask_room.ensures.home;
      books = c.ask_room.ensures.books ∙ c.loop-zone.invariant.books;
    }

pub returns-in-Ok-Err-clause-room : goal.returns-in-Ok-Err-clause-room
returns-in-Ok-Err-clause-room g c =
    let refused = rw c.in-Ok-Err.field-0-is at c.in-Ok-Err.ensures.room in
    room-refused c.args.entries c.args.pages c.loop-zone.zone c.args.count (g.Z.Banked.known c.args.zones.now) (g.Z.Banked.known c.loop-zone.zones) (g.Z.Banked.known c.ask_room.new.zones) (g.Z.Banked.known c.give_back_below.new.zones)
    c.in-Ok-Err.why c.loop-zone-test.true c.requires.count c.loop-zone.invariant.room refused
    (all-given-back c.args.entries c.args.pages c.loop-zone.zone c.args.kept (g.Z.Banked.known c.args.zones.now) (g.Z.Banked.known c.loop-zone.zones) (g.Z.Banked.known c.ask_room.new.zones) (g.Z.Banked.known c.give_back_below.new.zones)
    (λ z b below bank. c.requires.rest z b (omega arith) bank) c.loop-zone.invariant.room.room refused.left c.give_back_below.ensures.back)

pub returns-in-Err-clause-err : goal.returns-in-Err-clause-err
returns-in-Err-clause-err g c =
    all-given-back c.args.entries c.args.pages c.loop-zone.zone c.args.kept (g.Z.Banked.known c.args.zones.now) (g.Z.Banked.known c.loop-zone.zones) (g.Z.Banked.known c.ask_room.new.zones) (g.Z.Banked.known c.give_back_below-in-Err.new.zones)
    (λ z b below bank. c.requires.rest z b (omega arith) bank) c.loop-zone.invariant.room.room c.in-Err.ensures.err c.give_back_below-in-Err.ensures.back

pub returns-clause-room : goal.returns-clause-room
returns-clause-room g c =
    let all : c.loop-zone.zone ≡ c.args.count = omega arith in
    let P : ℕ → Type 0 = λ count. HasRoomBelow c.args.entries c.args.pages count (g.Z.Banked.known c.args.zones.now) (g.Z.Banked.known c.loop-zone.zones) in
    room-all c.args.entries c.args.pages c.args.count (g.Z.Banked.known c.args.zones.now) (g.Z.Banked.known c.loop-zone.zones) (subst P all c.loop-zone.invariant.room)
