use Rattle.std.proofs.Common.{◌∙◌, take, subst, sym, arith, rules}
use Rattle.std.proofs.lemmas.Bool.Decides.{nat_tests}
use Rattle.chv_defs_memory.specs.Zones.{Known}
use Rattle.chv_ctl_mem.specs.BankChanges.{calls_made, is_in_zone, MayMake}
use Rattle.chv_ctl_mem.proofs.CallSteps.{may-at, zone-begins, zone-goes-on}
use Rattle.chv_ctl_mem.proofs.ChangeLaws.{there}
use Rattle.chv_ctl_mem.proofs.each.make_calls.Goals as goal

pub loop-call-init : goal.loop-call-init
loop-call-init g c = record {
  called = zone-begins c.args.zone c.args.calls.now (g.Z.Banked.known c.args.zones.now);
  home = search rules;
  books = search rules;
}

pub call_each_bank-requires-clause-may : goal.call_each_bank-requires-clause-may
call_each_bank-requires-clause-may g c b bank =
    let calls = c.args.calls.now in
    let now = there (is_in_zone c.args.zone) (calls_made (take c.loop-call.call-index calls)) (g.Z.Banked.known c.args.zones.now) (g.Z.Banked.known c.loop-call.zones)
    c.args.zone b c.loop-call.invariant.called (c.requires.zone, bank) (grind (arith, nat_tests)) in
    subst (λ (k : Known). MayMake b c.call-item.result k) (sym now)
    (may-at c.args.zone b c.loop-call.call-index calls c.call-item.result (g.Z.Banked.known c.args.zones.now c.args.zone b) (c.requires.may b bank) (omega arith) c.call-item.is)

pub loop-call-preserved : goal.loop-call-preserved
loop-call-preserved g c = record {
  called = zone-goes-on c.args.zone c.loop-call.call-index c.args.calls.now c.call-item.result (g.Z.Banked.known c.args.zones.now) (g.Z.Banked.known c.loop-call.zones)
      (g.Z.Banked.known c.call_each_bank.new.zones) (omega arith) c.call-item.is c.loop-call.invariant.called c.call_each_bank.ensures.called;
  home = c.call_each_bank.ensures.home;
  books = c.call_each_bank.ensures.books ∙ c.loop-call.invariant.books;
}
