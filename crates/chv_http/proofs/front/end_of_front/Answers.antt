use Rattle.std.proofs.Common.{arith}
use Rattle.chv_http.proofs.FrontLemmas.{front_here, none_yet}
use Rattle.chv_http.proofs.front.end_of_front.Goals as goal

pub returns-then-closes-clause-found : goal.returns-then-closes-clause-found
returns-then-closes-clause-found c =
    (front_here _ _ c.loop-at.invariant (c.closes.ensures.0 c.if-closes.true), omega arith)

pub loop-at-preserved : goal.loop-at-preserved
loop-at-preserved c = none_yet _ _ c.loop-at.invariant (λ closes. cc (c.closes.ensures.1 closes))

pub returns-clause-none : goal.returns-clause-none
returns-clause-none c = λ n within. c.loop-at.invariant n (omega arith)
