use Rattle.std.proofs.Common.{sym, subst, arith}
use Rattle.chv_bank.specs.CallerPins.{AreRows}
use Rattle.chv_bank.proofs.RowLaws.{rows-without}
use Rattle.chv_bank.proofs.pins.Pins.remove.Goals as goal

pub invariant_of-self : goal.invariant_of-self
invariant_of-self c =
    (subst (AreRows 0) (sym c.take_pin.ensures.rows) (rows-without 0 c.self.inside.rows.items c.args.caller c.args.number c.self.invariant.0), omega (arith, c.take_pin.ensures.fewer, c.self.invariant.1))
