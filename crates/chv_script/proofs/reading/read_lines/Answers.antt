use Rattle.std.proofs.Common.{◌∙◌, ap, arith}
use Rattle.chv_script.specs.Reads.{answer_of}
use Rattle.chv_script.proofs.LabelLemmas.{same_take}
use Rattle.chv_script.proofs.StepLemmas.{next_line, it_fails, it_goes, none_is, ended}
use Rattle.chv_script.proofs.reading.read_lines.Goals as goal

pub returns-in-Some : goal.returns-in-Some
returns-in-Some c =
    ap answer_of (it_fails c.take.new.self.lines c.args.lines.now c.loop-i.i c.in_ok-reason.field-0 c.in-Some.reason c.in-Some.is
    (next_line c.loop-i.reading.lines c.take.new.self.lines c.loop-i.reading.labels.keys c.args.all.now.keys c.args.lines.now c.loop-i.i c.as_slice.result.now c.index-lines-i.result c.in_ok-reason.field-0
    c.loop-i-test.true (c.as_slice.ensures ∙ c.index-lines-i.is) c.in_ok-reason.ensures.reads c.loop-i.invariant.labels c.requires.labels c.loop-i.invariant.read))

pub loop-i-preserved : goal.loop-i-preserved
loop-i-preserved c = record {
  read = it_goes c.take.new.self.lines c.args.lines.now c.loop-i.i c.in_ok-reason.field-0 c.in_default.is
      (next_line c.loop-i.reading.lines c.take.new.self.lines c.loop-i.reading.labels.keys c.args.all.now.keys c.args.lines.now c.loop-i.i c.as_slice.result.now c.index-lines-i.result c.in_ok-reason.field-0
      c.loop-i-test.true (c.as_slice.ensures ∙ c.index-lines-i.is) c.in_ok-reason.ensures.reads c.loop-i.invariant.labels c.requires.labels c.loop-i.invariant.read);
  labels = same_take c.loop-i.reading.labels.keys c.take.new.self.labels.keys c.args.lines.now c.loop-i.i c.as_slice.result.now c.index-lines-i.result
      c.loop-i-test.true (c.as_slice.ensures ∙ c.index-lines-i.is) c.loop-i.invariant.labels (c.in_ok-reason.ensures.labels (none_is c.in_ok-reason.field-0 c.in_default.is));
}

pub returns : goal.returns
returns c = ap answer_of (ended c.loop-i.reading.lines c.args.lines.now c.loop-i.i (omega arith) c.loop-i.invariant.read)
