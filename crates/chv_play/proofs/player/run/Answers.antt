use Rattle.std.proofs.Common.{◌≡◌, ◌∙◌, sym, ap, subst, arith, map, length, List, Ok}
use Rattle.chv_defs.specs.Schedule.{schedule, stream_of}
use Rattle.chv_control.specs.Shelf.{shelf_of, sectors_of}
use Rattle.chv_play.specs.declared.seat.Seat.{Seat}
use Rattle.chv_play.specs.Round.{Stands, GoesOn}
use Rattle.chv_play.specs.Played.{Gives, logs_at}
use Rattle.chv_play.proofs.PlayedLemmas.{fresh_stage, written_back, number_of_seats, new_stands, run_gives, run_full}
use Rattle.chv_play.proofs.player.run.Goals as goal

pub rounds-requires : goal.rounds-requires
rounds-requires g c =
    let number = number_of_seats c.args.sessions.now c.in_ok-seats.seats.items c.in_ok-seats.ensures in
    let same = ap length c.as_mut_slice.ensures.value in
    omega (arith, number, same, c.requires.few)

pub logs_of-requires : goal.logs_of-requires
logs_of-requires g c =
    let number = number_of_seats c.args.sessions.now c.in_ok-seats.seats.items c.in_ok-seats.ensures in
    let same : length c.as_mut_slice.result.now ≡ length c.in_ok-seats.seats.items = ap length c.as_mut_slice.ensures.value in
    let back = ap length (written_back c.in_ok-seats.seats.len c.rounds.new.seats c.in_ok-seats.seats.items (c.rounds.ensures.number ∙ same) (sym c.as_mut_slice.ensures.len ∙ same)) in
    omega (arith, back, number, same, c.rounds.ensures.number, c.requires.few)

pub returns-in-Some-clause-gives : goal.returns-in-Some-clause-gives
returns-in-Some-clause-gives g c =
    let shelf = shelf_of (sectors_of g.D.Disk.sector_count) c.args.desk.now.control.disks in
    let starts : Stands shelf (map stream_of c.args.sessions.now) c.args.desk.now.control 0 c.as_mut_slice.result.now =
    subst (λ (seats : List Seat). Stands shelf (map stream_of c.args.sessions.now) c.args.desk.now.control 0 seats) (sym c.as_mut_slice.ensures.value)
    (new_stands shelf (map stream_of c.args.sessions.now) c.args.desk.now.control c.in_ok-seats.seats.items
    (fresh_stage c.args.desk.now.control c.requires.machine c.requires.history c.requires.zones) c.in_ok-seats.ensures) in
    run_full shelf c.args.sessions.now c.in-Some.full
    (subst (λ full. GoesOn shelf (map stream_of c.args.sessions.now) c.rounds.new.desk.control 0 c.rounds.new.seats full) c.in-Some.is
    (c.in_ok-full.ensures.goes_on (map stream_of c.args.sessions.now) starts))

pub returns-in_ok-logs_of-in-None-clause-gives : goal.returns-in_ok-logs_of-in-None-clause-gives
returns-in_ok-logs_of-in-None-clause-gives g c =
    let shelf = shelf_of (sectors_of g.D.Disk.sector_count) c.args.desk.now.control.disks in
    let same : length c.as_mut_slice.result.now ≡ length c.in_ok-seats.seats.items = ap length c.as_mut_slice.ensures.value in
    let back = written_back c.in_ok-seats.seats.len c.rounds.new.seats c.in_ok-seats.seats.items (c.rounds.ensures.number ∙ same) (sym c.as_mut_slice.ensures.len ∙ same) in
    let starts : Stands shelf (map stream_of c.args.sessions.now) c.args.desk.now.control 0 c.as_mut_slice.result.now =
    subst (λ (seats : List Seat). Stands shelf (map stream_of c.args.sessions.now) c.args.desk.now.control 0 seats) (sym c.as_mut_slice.ensures.value)
    (new_stands shelf (map stream_of c.args.sessions.now) c.args.desk.now.control c.in_ok-seats.seats.items
    (fresh_stage c.args.desk.now.control c.requires.machine c.requires.history c.requires.zones) c.in_ok-seats.ensures) in
    subst (λ logs. Gives (schedule shelf c.args.sessions.now) c.rounds.new.desk.control (Ok logs))
    (sym (c.in_ok-logs_of-in-None.ensures ∙ ap (logs_at 1) back))
    (run_gives shelf c.args.sessions.now c.rounds.new.desk.control c.rounds.new.seats (c.in_ok-full.ensures.over c.in-None.is)
    (subst (λ full. GoesOn shelf (map stream_of c.args.sessions.now) c.rounds.new.desk.control 0 c.rounds.new.seats full) c.in-None.is
    (c.in_ok-full.ensures.goes_on (map stream_of c.args.sessions.now) starts)))
