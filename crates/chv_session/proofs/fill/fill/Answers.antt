use Rattle.std.proofs.Common.{arith, ◌∙◌}
use Rattle.chv_session.proofs.FoundLemmas.{found_bad, found_limit, found_end, found_fault, left_short, fed_more, takes_more}
use Rattle.chv_session.proofs.CountsLemmas.{counts_join}
use Rattle.chv_session.proofs.LeavesLemmas.{read_leaves_join}
use Rattle.chv_session.proofs.fill.fill.Goals as goal

pub returns-in-Bad-clause-found : goal.returns-in-Bad-clause-found
returns-in-Bad-clause-found g c =
    found_bad _ _ _ _ _ c.loop-request.invariant.fed c.in_ok-request.ensures.took c.in-Bad.is

pub returns-then-len-ge-LIMIT-clause-found : goal.returns-then-len-ge-LIMIT-clause-found
returns-then-len-ge-LIMIT-clause-found g c =
    found_limit _ _ _ _ _ c.loop-request.invariant.fed c.in_ok-request.ensures.took c.in-NotYet.is
    (omega (arith, c.loop-request.invariant.within))

pub take_piece-requires-clause-short : goal.take_piece-requires-clause-short
take_piece-requires-clause-short g c = left_short _ _ _ c.in_ok-request.ensures.took c.in-NotYet.is

pub returns-in_err-take_piece-clause-taken : goal.returns-in_err-take_piece-clause-taken
returns-in_err-take_piece-clause-taken g c =
    takes_more _ c.loop-request.invariant.taken c.loop-request.invariant.fed c.in_ok-request.ensures.took c.in-NotYet.is
    c.loop-request.invariant.most c.take_piece.ensures.takes.pieces

pub returns-in-Ok-eq0-clause-taken : goal.returns-in-Ok-eq0-clause-taken
returns-in-Ok-eq0-clause-taken g c =
    takes_more _ c.loop-request.invariant.taken c.loop-request.invariant.fed c.in_ok-request.ensures.took c.in-NotYet.is
    c.loop-request.invariant.most c.take_piece.ensures.takes.pieces

pub returns-in-Ok-eq0-clause-found : goal.returns-in-Ok-eq0-clause-found
returns-in-Ok-eq0-clause-found g c =
    found_end _ _ _ c.loop-request.invariant.fed c.in_ok-request.ensures.took c.in-NotYet.is
    ((rw c.in-Ok-eq0.is at c.in_ok-take_piece.ensures.takes.empty) c.in-Ok-eq0.field-0-test) (omega arith)

pub loop-request-preserved : goal.loop-request-preserved
loop-request-preserved g c = record {
  taken = takes_more _ c.loop-request.invariant.taken c.loop-request.invariant.fed c.in_ok-request.ensures.took c.in-NotYet.is
      c.loop-request.invariant.most c.take_piece.ensures.takes.pieces;
  fed = fed_more _ _ _ _ _ _ _ c.loop-request.invariant.fed c.in_ok-request.ensures.took c.in-NotYet.is
      c.in_ok-take_piece.ensures.takes.fed;
  within = c.take_piece.ensures.within;
  leaves = read_leaves_join c.loop-request.invariant.leaves c.take_piece.ensures.leaves;
  most = c.take_piece.ensures.takes.most_stays ∙ c.loop-request.invariant.most;
  later = omega (arith, c.loop-request.invariant.later, c.take_piece.ensures.takes.later);
  counts = counts_join c.loop-request.invariant.counts (rw c.in-Ok.is at c.in_ok-take_piece.ensures.counts);
}

pub returns-in-Err-clause-taken : goal.returns-in-Err-clause-taken
returns-in-Err-clause-taken g c =
    takes_more _ c.loop-request.invariant.taken c.loop-request.invariant.fed c.in_ok-request.ensures.took c.in-NotYet.is
    c.loop-request.invariant.most c.take_piece.ensures.takes.pieces

pub returns-in-Err-clause-found : goal.returns-in-Err-clause-found
returns-in-Err-clause-found g c =
    found_fault _ _ _ c.loop-request.invariant.fed c.in_ok-request.ensures.took c.in-NotYet.is
    (rw c.in-Err.is at c.in_ok-take_piece.ensures.takes.failed) (omega arith)
