use Rattle.std.proofs.Common.{List, refl, sym, subst}
use Rattle.std.specs.Prelude.{filter}
use Rattle.chv_bank.specs.CallerPins.{CallerPins, HoldPins, is_other}
use Rattle.chv_bank.proofs.RowLaws.{holds-without}
use Rattle.chv_bank.proofs.steps.unpin.Goals as goal

pub returns-clause-steps : goal.returns-clause-steps
returns-clause-steps c = record {
  formed = record { opened = c.requires.formed.opened; sealed = c.requires.formed.sealed; memory = c.requires.formed.memory };
  opened = λ k small. refl;
  sealed = λ k small. refl;
  frozen = refl;
  pins = λ pins h. subst (λ (rows : List CallerPins). HoldPins rows (filter (is_other c.args.caller c.args.number) pins)) (sym c.remove.ensures) (holds-without c.args.state.now.pins pins c.args.caller c.args.number h);
  bytes = λ k at small. refl;
}
