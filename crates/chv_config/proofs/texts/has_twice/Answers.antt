use Rattle.std.proofs.Common.{◌≡◌, ◌++◌, ◌∷◌, true, false, ◌∙◌, sym, ap}
use Rattle.std.specs.Vec.Iter.{into_iter_items}
use Rattle.chv_defs_api.specs.ConfigRules.{has_text, has_twice}
use Rattle.chv_config.proofs.Twice.{has_twice-none, has_twice-seen, seen-step, was_there, was_absent, items-step}
use Rattle.chv_config.proofs.texts.has_twice.Goals as goal

pub returns-then-not-branch : goal.returns-then-not-branch
returns-then-not-branch c =
    let there : has_text c.loop-text.seen.keys c.in-Some.text ≡ true = was_there c.in_ok-insert.field-0 _ c.in_ok-insert.ensures.added c.if-not-branch.true in
    let seen : has_text c.loop-text.yielded c.in-Some.text ≡ true = sym (c.loop-text.invariant.1 c.in-Some.text) ∙ there in
    let all : c.loop-text.yielded ++ c.in-Some.text ∷ into_iter_items c.next.new.self ≡ c.args.texts.items = ap (λ r. c.loop-text.yielded ++ r) (sym c.in-Some.ensures.steps.0) ∙ c.loop-text.invariant.2 in
    sym (ap has_twice (sym all) ∙ has_twice-seen c.loop-text.yielded c.in-Some.text (into_iter_items c.next.new.self) seen)

pub loop-text-preserved : goal.loop-text-preserved
loop-text-preserved c =
    let absent : has_text c.loop-text.seen.keys c.in-Some.text ≡ false = was_absent c.in_ok-insert.field-0 _ c.in_ok-insert.ensures.added c.if-not-branch.false in
    let unseen : has_text c.loop-text.yielded c.in-Some.text ≡ false = sym (c.loop-text.invariant.1 c.in-Some.text) ∙ absent in (
      has_twice-none c.loop-text.yielded c.in-Some.text c.loop-text.invariant.0 unseen,
      seen-step c.loop-text.seen.keys c.insert.new.self.keys c.loop-text.yielded c.in-Some.text c.in_ok-insert.ensures.updates.0 c.loop-text.invariant.1,
      items-step c.loop-text.yielded c.in-Some.text (into_iter_items c.next.new.self) _ c.args.texts.items c.in-Some.ensures.steps.0 c.loop-text.invariant.2,
    )
