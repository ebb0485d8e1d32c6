use Rattle.std.proofs.Common.{◌∙◌, sym, ap}
use Rattle.chv_defs_guest.specs.Routing.{piece_of}
use Rattle.chv_defs_guest.specs.Routing.Piece.{Known}
use Rattle.chv_defs_guest.specs.declared.want.Got.TheVariants as got
use Rattle.chv_defs_guest.specs.Moments.{moment}
use Rattle.chv_runner.proofs.SliceLemmas.{known_does}
use Rattle.chv_runner.proofs.instruction.get.Goals as goal

pub returns-in-Ones-clause-does : goal.returns-in-Ones-clause-does
returns-in-Ones-clause-does g c on =
    known_does g.W.Reach.accesses g.W.Desk.asks on c.args.cpu.now c.known.new.cpu c.args.want _ _ c.known.result c.args.world.now (λ why. moment (g.W.Reach.bank_caller c.args.world.now) (g.W.Reach.own c.args.world.now) (g.W.Told.seen c.args.world.now) (g.W.Desk.answers c.args.world.now) (g.W.Desk.refused c.args.world.now) c.args.order.now.items why)
    (ap (piece_of c.args.want) (sym c.route.ensures ∙ c.in-Ones.is) ∙ ap (λ n. Known (got.Value n)) (sym c.all_ones.ensures)) c.known.ensures.state c.known.ensures.on

pub returns-in-Drop-clause-does : goal.returns-in-Drop-clause-does
returns-in-Drop-clause-does g c on =
    known_does g.W.Reach.accesses g.W.Desk.asks on c.args.cpu.now c.known-in-Drop.new.cpu c.args.want _ got.Done c.known-in-Drop.result c.args.world.now (λ why. moment (g.W.Reach.bank_caller c.args.world.now) (g.W.Reach.own c.args.world.now) (g.W.Told.seen c.args.world.now) (g.W.Desk.answers c.args.world.now) (g.W.Desk.refused c.args.world.now) c.args.order.now.items why)
    (ap (piece_of c.args.want) (sym c.route.ensures ∙ c.in-Drop.is)) c.known-in-Drop.ensures.state c.known-in-Drop.ensures.on

pub returns-in-Bad-clause-does : goal.returns-in-Bad-clause-does
returns-in-Bad-clause-does g c on =
    known_does g.W.Reach.accesses g.W.Desk.asks on c.args.cpu.now c.known-in-Bad.new.cpu c.args.want _ got.Fault c.known-in-Bad.result c.args.world.now (λ why. moment (g.W.Reach.bank_caller c.args.world.now) (g.W.Reach.own c.args.world.now) (g.W.Told.seen c.args.world.now) (g.W.Desk.answers c.args.world.now) (g.W.Desk.refused c.args.world.now) c.args.order.now.items why)
    (ap (piece_of c.args.want) (sym c.route.ensures ∙ c.in-Bad.is)) c.known-in-Bad.ensures.state c.known-in-Bad.ensures.on
