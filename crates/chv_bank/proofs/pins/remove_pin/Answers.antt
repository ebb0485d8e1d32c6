use Rattle.std.proofs.Common.{rules}
use Rattle.std.proofs.lemmas.Fn.{filter_same}
use Rattle.chv_bank.specs.CallerPins.{is_other}
use Rattle.chv_bank.proofs.pins.remove_pin.Goals as goal

pub returns-clause-items : goal.returns-clause-items
returns-clause-items c = filter_same _ (is_other c.args.caller c.args.number) _ (λ x b g r. search rules) c.args.pins.now.items c.retain.new.self.items c.retain.ensures.filtered
