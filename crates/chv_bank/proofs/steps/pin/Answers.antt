use Rattle.std.proofs.Common.{◌++◌, ◌∷◌, [], List, refl, sym, subst}
use Rattle.std.proofs.lemmas.Result.{IfOk-weaker}
use Rattle.chv_defs_memory.specs.BankState.{PinOut}
use Rattle.chv_bank.specs.CallerPins.{CallerPins, HoldPins}
use Rattle.chv_bank.proofs.RowLaws.{holds-with}
use Rattle.chv_bank.proofs.steps.pin.Goals as goal

pub returns-clause-ok : goal.returns-clause-ok
returns-clause-ok c =
    let made : PinOut = record { caller = c.args.caller; number = c.args.number; span = c.args.span } in
    IfOk-weaker c.push.result _ _ (λ _ e. record {
      formed = record { opened = c.requires.formed.opened; sealed = c.requires.formed.sealed; memory = c.requires.formed.memory };
      opened = λ k small. refl;
      sealed = λ k small. refl;
      frozen = refl;
      pins = λ pins h. subst (λ (rows : List CallerPins). HoldPins rows (pins ++ made ∷ [])) (sym e) (holds-with c.args.state.now.pins pins made h);
      bytes = λ k at small. refl;
    }) c.push.ensures.ok
