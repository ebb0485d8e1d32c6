use Rattle.std.proofs.Common.{sym, ap, ◌∙◌, true, ◌≡◌, ℕ, arith, subst, length}
use Rattle.std.specs.Prelude.{IfOk}
use Rattle.chv_defs_api.specs.ConfigRules.{default_id, is_free, lowest_free}
use Rattle.chv_config.proofs.DefaultIds.{lowest_free-at, lowest_free-none, is_free-absent}
use Rattle.chv_config.proofs.ids.free_id.Goals as goal

pub returns-then-not-has_text : goal.returns-then-not-has_text
returns-then-not-has_text c =
    let free : is_free c.args.ids.now c.loop-k.k ≡ true = is_free-absent c.args.ids.now c.in_ok-id.id c.loop-k.k c.in_ok-id.ensures c.if-not-has_text.ensures in
    c.in_ok-id.ensures ∙ ap default_id (sym (lowest_free-at c.args.ids.now c.loop-k.k c.loop-k-test.true c.loop-k.invariant free))

pub returns : goal.returns
returns c =
    let P : ℕ → Type 0 = λ n. IfOk c.default_id-2.result (λ id. id ≡ default_id n) in
    let all : lowest_free c.args.ids.now ≡ length c.args.ids.now = lowest_free-none c.args.ids.now (λ j small. c.loop-k.invariant j (omega arith)) in
    subst P (sym all) c.default_id-2.ensures
