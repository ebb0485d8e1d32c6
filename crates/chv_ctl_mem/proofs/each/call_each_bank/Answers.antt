use Rattle.std.proofs.Common.{◌≡◌, [], ◌∷◌, subst, sym, arith, ℕ, rules}
use Rattle.chv_defs_memory.specs.BankState.{banks}
use Rattle.chv_defs_memory.specs.Zones.{Known}
use Rattle.chv_ctl_mem.specs.BankChanges.{calls_made, is_bank_below, AreChanged, MayMake}
use Rattle.chv_ctl_mem.proofs.ChangeLaws.{all-banks, bank-not-reached, next-bank, no-bank-below}
use Rattle.chv_ctl_mem.proofs.each.call_each_bank.Goals as goal

pub loop-bank-init : goal.loop-bank-init
loop-bank-init g c = record {
  called = no-bank-below c.args.zone (calls_made (c.args.call.now ∷ [])) (g.Z.Banked.known c.args.zones.now);
  home = search rules;
  books = search rules;
}

pub call_bank-requires-clause-may : goal.call_bank-requires-clause-may
call_bank-requires-clause-may g c =
    let as_before = bank-not-reached c.args.zone c.loop-bank.bank (calls_made (c.args.call.now ∷ [])) (g.Z.Banked.known c.args.zones.now) (g.Z.Banked.known c.loop-bank.zones) (c.requires.zone, c.loop-bank-test.true) c.loop-bank.invariant.called in
    let P : Known → Type 0 = MayMake c.loop-bank.bank c.args.call.now in
    subst P (sym as_before) (c.requires.may c.loop-bank.bank c.loop-bank-test.true)

pub loop-bank-preserved : goal.loop-bank-preserved
loop-bank-preserved g c = record {
  called = next-bank c.args.zone c.loop-bank.bank (calls_made (c.args.call.now ∷ [])) (g.Z.Banked.known c.args.zones.now) (g.Z.Banked.known c.loop-bank.zones) (g.Z.Banked.known c.call_bank.new.zones) c.loop-bank.invariant.called c.call_bank.ensures.called;
  home = search rules;
  books = search rules;
}

pub returns-clause-called : goal.returns-clause-called
returns-clause-called g c =
    let all : c.loop-bank.bank ≡ banks = omega arith in
    let P : ℕ → Type 0 = λ count. AreChanged (is_bank_below c.args.zone count) (calls_made (c.args.call.now ∷ [])) (g.Z.Banked.known c.args.zones.now) (g.Z.Banked.known c.loop-bank.zones) in
    all-banks c.args.zone (calls_made (c.args.call.now ∷ [])) (g.Z.Banked.known c.args.zones.now) (g.Z.Banked.known c.loop-bank.zones) (subst P all c.loop-bank.invariant.called)
