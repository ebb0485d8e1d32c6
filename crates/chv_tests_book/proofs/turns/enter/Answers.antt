use Rattle.std.proofs.Common.{rules, ◌≡◌, ℕ, ◌++◌, ◌∷◌, [], List, refl, ap, ◌∙◌}
use Rattle.chv_defs_book.specs.Histories.{entries_by}
use Rattle.chv_defs_book.proofs.Histories.{begins_own, entries_by-push}
use Rattle.chv_tests_book.specs.Entered.{caller_of}
use Rattle.chv_tests_book.specs.declared.tally.Entered.{Entered}
use Rattle.chv_tests_book.proofs.turns.enter.Goals as goal

pub returns-then-done-clause-entered : goal.returns-then-done-clause-entered
returns-then-done-clause-entered g c _ =
    let n : ℕ = c.args.pass.now.caller in
    let found : List Entered = c.value.result.now.entries.items in
    let seen : c.finish.new.pass.seen ≡ c.enter.new.self.entries.items = ap (λ p. p.seen) c.finish.ensures in
    let pushed : c.enter.new.self.entries.items ≡ found ++ (record { caller = c.caller-caller.result; number = c.args.number }) ∷ [] = search rules in
    let by : c.caller-caller.result ≡ n = c.caller-caller.ensures in
    let mine : Entered = record { caller = n; number = c.args.number } in
    ap (entries_by caller_of n) (seen ∙ pushed ∙ ap (λ (m : ℕ). found ++ (record { caller = m; number = c.args.number }) ∷ []) by)
    ∙ entries_by-push caller_of n found mine refl
    ∙ ap (λ (z : List Entered). z ++ mine ∷ []) (ap (λ v. entries_by caller_of n v.entries.items) c.value.ensures.value ∙ begins_own caller_of _ _ _ _ c.begin-turn.ensures.value)

pub returns-else-done-clause-left : goal.returns-else-done-clause-left
returns-else-done-clause-left g c _ =
    let n : ℕ = c.args.pass.now.caller in
    let seen : c.leave.new.pass.seen ≡ c.enter.new.self.entries.items = ap (λ p. p.seen) c.leave.ensures in
    let same : c.enter.new.self.entries.items ≡ c.value.result.now.entries.items = search rules in
    ap (entries_by caller_of n) (seen ∙ same) ∙ ap (λ v. entries_by caller_of n v.entries.items) c.value.ensures.value ∙ begins_own caller_of _ _ _ _ c.begin-turn.ensures.value
