use Rattle.std.proofs.Common.{◌≡◌, ◌≤◌, ◌-◌, vec_len}
use Rattle.chv_io.specs.Links.{ReadLeaves}
use Rattle.chv_defs_api.specs.SessionBytes.{session_limit}
use Rattle.chv_session.specs.Counts.{CountsStay}
use Rattle.chv_session.specs.Moment.{faults}
use Rattle.chv_session.specs.Taking.{intake, TakesPieces, HasFed}
use Rattle.chv_session.proofs.fill.fill.Given as goal

abbrev pub invariant-loop-request : goal.invariant-loop-request
invariant-loop-request g l = record {
  taken : TakesPieces
      (intake l.fn.asked.items l.fn.parser (g.K.Source.left l.fn.link) (g.K.Link.gave l.fn.link) (g.K.Link.most l.fn.link)
      (g.K.Source.read_faults l.fn.link))
      (intake l.asked.items l.parser (g.K.Source.left l.link) (g.K.Link.gave l.link) (g.K.Link.most l.link)
      (g.K.Source.read_faults l.link));
  fed : HasFed l.fn.asked.items l.asked.items l.fn.parser l.parser;
  within : vec_len l.asked ≤ session_limit;
  leaves : ReadLeaves (g.K.Sink.written l.fn.link) (g.K.Sink.written l.link) (g.K.Link.closed l.fn.link)
      (g.K.Link.closed l.link) (g.K.Sink.write_faults l.fn.link) (g.K.Sink.write_faults l.link);
  most : g.K.Link.most l.link ≡ g.K.Link.most l.fn.link;
  later : g.K.Source.read_faults l.fn.link ≤ g.K.Source.read_faults l.link;
  counts : CountsStay (faults (g.K.Source.read_faults l.fn.link) (g.K.Source.read_faults l.link)
      (g.K.Sink.write_faults l.fn.link) (g.K.Sink.write_faults l.link));
}

abbrev pub decreases-loop-request : goal.decreases-loop-request
decreases-loop-request g l = session_limit - vec_len l.asked
