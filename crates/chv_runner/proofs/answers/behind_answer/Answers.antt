use Rattle.chv_runner.proofs.answers.behind_answer.Goals as goal

pub returns-in-Err-clause-course : goal.returns-in-Err-clause-course
returns-in-Err-clause-course c on =
    rw c.in-Err.is (c.refused.ensures.course on c.args.cpu.now c.args.want.now)
