use Rattle.std.proofs.Common.{◌≡◌, sym, ap, subst, arith}
use Rattle.chv_defs_memory.specs.BankState.{PinOut}
use Rattle.chv_bank.specs.CallerPins.{total, with_pin, AreRows}
use Rattle.chv_bank.proofs.RowLaws.{rows-with, total-with}
use Rattle.chv_bank.proofs.pins.Pins.push.Goals as goal

pub invariant_of-self-2 : goal.invariant_of-self-2
invariant_of-self-2 c =
    let pin : PinOut = record { caller = c.args.caller; number = c.args.number; span = c.args.span } in
    let made : c.add_pin.new.rows.items ≡ with_pin c.self.inside.rows.items pin = c.in_ok-add_pin.ensures.ok in
    (subst (AreRows 0) (sym made) (rows-with 0 c.self.inside.rows.items pin c.self.invariant.0 (omega arith)), omega (arith, ap total made, total-with c.self.inside.rows.items pin, c.self.invariant.1))
