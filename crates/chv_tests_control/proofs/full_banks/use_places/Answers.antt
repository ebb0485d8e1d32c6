use Rattle.std.proofs.Common.{◌≡◌, ◌+◌, ◌-◌, ℕ, ◌∙◌, arith, subst, [], refl}
use Rattle.chv_guest.specs.LentBanks.{known_at}
use Rattle.chv_tests_control.proofs.FullBanks.{one-used, others-behind, HasLeft}
use Rattle.chv_tests_control.proofs.full_banks.use_places.Goals as goal

pub loop-done-preserved : goal.loop-done-preserved
loop-done-preserved c =
    let places : c.args.count - c.loop-done.done ≡ (c.args.count - (c.loop-done.done + 1)) + 1 = omega (arith, c.loop-done-test.true) in
    let P : ℕ → Type 0 = λ n. HasLeft n (known_at c.loop-done.zones.books c.args.zone 0) in
    record {
      left = one-used [] (c.args.count - (c.loop-done.done + 1)) (known_at c.loop-done.zones.books c.args.zone 0) (known_at c.owner.new.self.books c.args.zone 0)
          (record { first = 0; count = 0 }) c.owner.result refl (subst P places c.loop-done.invariant.left) c.owner.ensures.entered;
      home = c.owner.ensures.lent ∙ c.loop-done.invariant.home;
      others = others-behind (known_at c.args.zones.now.books) (known_at c.loop-done.zones.books) (known_at c.owner.new.self.books) c.args.zone c.loop-done.invariant.others c.owner.ensures.others;
    }
