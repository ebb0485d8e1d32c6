use Rattle.std.proofs.Common.{◌≡◌, ◌+◌, sym, ap, subst, ◌∙◌, arith, slice_index_or, None}
use Rattle.std.proofs.lemmas.List.{length-set}
use Rattle.chv_control.specs.Shelf.{shelf_of, sectors_of}
use Rattle.chv_play.specs.Round.{IsServed}
use Rattle.chv_play.proofs.RoundLoopLemmas.{is_none_served, next_stands, next_visits, full_goes_on, stands_round, round_visits}
use Rattle.chv_play.proofs.round.round.Goals as goal

pub returns-then-is_some-clause-goes_on : goal.returns-then-is_some-clause-goes_on
returns-then-is_some-clause-goes_on g c streams stands =
    let seat = slice_index_or c.loop-i.seats c.loop-i.i c.index-seats-i.result in
    full_goes_on _ streams c.loop-i.desk.control c.serve.new.desk.control c.loop-i.i c.loop-i.seats _ seat c.serve.new.self c.in_ok-full.full (omega arith)
    (ap (λ s. slice_index_or c.loop-i.seats c.loop-i.i s) (sym c.index-seats-i.is)) (sym c.is_some.ensures ∙ c.if-is_some.true)
    (subst (λ disks. IsServed (shelf_of (sectors_of g.D.Disk.sector_count) disks) (c.loop-i.i + 1) c.loop-i.desk.control c.serve.new.desk.control
    seat c.serve.new.self c.in_ok-full.full) c.loop-i.invariant.disks c.in_ok-full.ensures.served)
    (c.loop-i.invariant.goes_on streams stands)

pub loop-i-preserved : goal.loop-i-preserved
loop-i-preserved g c =
    let seat = slice_index_or c.loop-i.seats c.loop-i.i c.index-seats-i.result in
    let is : slice_index_or c.loop-i.seats c.loop-i.i seat ≡ seat =
    ap (λ s. slice_index_or c.loop-i.seats c.loop-i.i s) (sym c.index-seats-i.is) in
    let served = is_none_served _ _ _ _ seat c.serve.new.self c.in_ok-full.full (sym c.is_some.ensures ∙ c.if-is_some.false) c.in_ok-full.ensures.served in
    record {
      goes_on = λ streams stands.
          next_stands _ streams c.loop-i.desk.control c.serve.new.desk.control c.loop-i.i c.loop-i.seats seat c.serve.new.self (omega arith) is
          (subst (λ disks. IsServed (shelf_of (sectors_of g.D.Disk.sector_count) disks) (c.loop-i.i + 1) c.loop-i.desk.control c.serve.new.desk.control
          seat c.serve.new.self None) c.loop-i.invariant.disks served)
          (c.loop-i.invariant.goes_on streams stands);
      visits = next_visits _ _ _ _ c.loop-i.i c.loop-i.seats seat c.serve.new.self (omega arith) is served ∙ c.loop-i.invariant.visits;
      number = length-set c.loop-i.seats c.loop-i.i c.serve.new.self ∙ c.loop-i.invariant.number;
      disks = c.serve.ensures.disks ∙ c.loop-i.invariant.disks;
      sessions = c.serve.ensures.sessions ∙ c.loop-i.invariant.sessions;
    }

pub returns-clause-goes_on : goal.returns-clause-goes_on
returns-clause-goes_on g c streams stands =
    stands_round _ streams c.loop-i.desk.control c.loop-i.i c.loop-i.seats (omega arith) (c.loop-i.invariant.goes_on streams stands)

pub returns-clause-visits : goal.returns-clause-visits
returns-clause-visits g c none = round_visits c.loop-i.i c.loop-i.seats _ (omega arith) c.loop-i.invariant.visits
