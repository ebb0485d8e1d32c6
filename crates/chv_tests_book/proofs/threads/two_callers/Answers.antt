use Rattle.std.proofs.Common.{◌≡◌, ℕ, [], ◌∷◌, take, ap, ◌∙◌, subst}
use Rattle.chv_defs_book.specs.Histories.{entries_by, is_out, without}
use Rattle.chv_defs_book.proofs.Histories.{joined_home, joined_own}
use Rattle.chv_tests_book.specs.Entered.{caller_of, entered}
use Rattle.chv_tests_book.proofs.threads.two_callers.Goals as goal

pub returns-clause-one : goal.returns-clause-one
returns-clause-one g c =
    let h = c.enter_beside-one.ensures.one in
    let n : c.split-one.result.caller ≡ 1 = ap (λ p. p.caller) c.split-one.ensures.pass in
    let e : c.enter_beside-one.result.0.0.caller ≡ 1 = h.1 ∙ n in
    let firsts : c.split-other.new.first.out ≡ 2 ∷ 1 ∷ [] = ap (λ p. p.out) c.split-other.ensures.first ∙ ap (λ p. 2 ∷ p.out) c.split-one.ensures.first ∙ ap (λ p. 2 ∷ 1 ∷ p.out) c.in-Ok.ensures.pass in
    let outs : c.end.new.into.out ≡ 2 ∷ [] = ap (λ p. p.out) c.end.ensures.pass ∙ (λ i. without (e i) (firsts i)) in
    ap (entries_by caller_of 1) c.close.ensures.history
    ∙ joined_home caller_of _ _ _ _ _ 1 c.end-2.ensures.seen (ap (is_out 1) outs)
    ∙ subst (λ (m : ℕ). entries_by caller_of m c.end.new.into.seen ≡ entries_by caller_of m c.enter_beside-one.result.0.0.seen) e (joined_own caller_of _ _ _ _ _ c.end.ensures.seen)
    ∙ subst (λ (m : ℕ). entries_by caller_of m c.enter_beside-one.result.0.0.seen ≡ entered m (take c.enter_beside-one.result.0.1 c.args.a.now)) n h.3

pub returns-clause-other : goal.returns-clause-other
returns-clause-other g c =
    let h = c.enter_beside-one.ensures.other in
    let n : c.split-other.result.caller ≡ 2 = ap (λ p. p.caller) c.split-other.ensures.pass in
    let e : c.enter_beside-one.result.1.0.caller ≡ 2 = h.1 ∙ n in
    ap (entries_by caller_of 2) c.close.ensures.history
    ∙ subst (λ (m : ℕ). entries_by caller_of m c.end-2.new.into.seen ≡ entries_by caller_of m c.enter_beside-one.result.1.0.seen) e (joined_own caller_of _ _ _ _ _ c.end-2.ensures.seen)
    ∙ subst (λ (m : ℕ). entries_by caller_of m c.enter_beside-one.result.1.0.seen ≡ entered m (take c.enter_beside-one.result.1.1 c.args.b.now)) n h.3
