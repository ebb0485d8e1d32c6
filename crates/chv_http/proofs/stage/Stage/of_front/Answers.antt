use Rattle.std.proofs.Common.{inl, refl, arith, rules}
use Rattle.chv_http.proofs.FrontLemmas.{closes_within}
use Rattle.chv_http.proofs.stage.Stage.of_front.Goals as goal

pub returns-in-None-clause-holds : goal.returns-in-None-clause-holds
returns-in-None-clause-holds c =
    (inl (refl, inl (λ n small. c.in-None.ensures.none n (omega arith), omega arith)), refl)

pub returns-in-None-2-clause-settled : goal.returns-in-None-2-clause-settled
returns-in-None-2-clause-settled c =
    (λ n small closes. c.in-None-2.ensures.none n (omega (arith, closes_within c.args.bytes.now n closes)) closes, omega arith)

pub end_of_front-requires-clause-text : goal.end_of_front-requires-clause-text
end_of_front-requires-clause-text c = search rules
