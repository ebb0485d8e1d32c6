use Rattle.std.proofs.Common.{refl}
use Rattle.chv_top.proofs.FaultLemmas.{read_well}
use Rattle.chv_top.proofs.OtherWords.{otherwise, which, no_other, line_written, part_written}
use Rattle.chv_top.proofs.top.run_program.Goals as goal

-- ---- the words are the program's

pub returns-then-are_play-clause-done : goal.returns-then-are_play-clause-done
returns-then-are_play-clause-done g c is = (c.are_play.ensures.0 c.if-are_play.true, c.play_program.ensures.done is)

pub returns-then-are_play-clause-usage : goal.returns-then-are_play-clause-usage
returns-then-are_play-clause-usage g c is = absurd (c.play_program.ensures.usage is)

pub returns-then-are_play-clause-other_words : goal.returns-then-are_play-clause-other_words
returns-then-are_play-clause-other_words g c other = absurd (other (c.are_play.ensures.0 c.if-are_play.true))

pub returns-then-are_play-clause-scene : goal.returns-then-are_play-clause-scene
returns-then-are_play-clause-scene g c line reason is =
    (c.are_play.ensures.0 c.if-are_play.true, c.play_program.ensures.scene line reason is)

pub returns-then-are_play-clause-full : goal.returns-then-are_play-clause-full
returns-then-are_play-clause-full g c book entries bytes is =
    (c.are_play.ensures.0 c.if-are_play.true, c.play_program.ensures.full book entries bytes is)

pub returns-then-are_play-clause-too_long : goal.returns-then-are_play-clause-too_long
returns-then-are_play-clause-too_long g c bytes is = (c.are_play.ensures.0 c.if-are_play.true, c.play_program.ensures.too_long bytes is)

pub returns-then-are_play-clause-read_fault : goal.returns-then-are_play-clause-read_fault
returns-then-are_play-clause-read_fault g c is = (c.are_play.ensures.0 c.if-are_play.true, c.play_program.ensures.read_fault is)

pub returns-then-are_play-clause-write_fault : goal.returns-then-are_play-clause-write_fault
returns-then-are_play-clause-write_fault g c is = (c.play_program.ensures.write_fault is).0

pub returns-then-are_play-clause-part_of_line : goal.returns-then-are_play-clause-part_of_line
returns-then-are_play-clause-part_of_line g c is other = absurd (other (c.are_play.ensures.0 c.if-are_play.true))

pub returns-then-are_play-clause-part_of_owed : goal.returns-then-are_play-clause-part_of_owed
returns-then-are_play-clause-part_of_owed g c is are = (c.play_program.ensures.write_fault is).1

pub returns-then-are_play-clause-memory : goal.returns-then-are_play-clause-memory
returns-then-are_play-clause-memory g c is = (c.are_play.ensures.0 c.if-are_play.true, c.play_program.ensures.memory is)

pub returns-then-are_play-clause-complete : goal.returns-then-are_play-clause-complete
returns-then-are_play-clause-complete g c are = c.play_program.ensures.complete

pub returns-then-are_play-clause-done_faultless : goal.returns-then-are_play-clause-done_faultless
returns-then-are_play-clause-done_faultless g c is = c.play_program.ensures.done_faultless is

pub returns-then-are_play-clause-memory_faultless : goal.returns-then-are_play-clause-memory_faultless
returns-then-are_play-clause-memory_faultless g c is = c.play_program.ensures.memory_faultless is

pub returns-then-are_play-clause-faults : goal.returns-then-are_play-clause-faults
returns-then-are_play-clause-faults g c = c.play_program.ensures.faults

-- ---- they are not: the line of the words is written, or a first part of it

pub returns-else-are_play-clause-done : goal.returns-else-are_play-clause-done
returns-else-are_play-clause-done g c is = absurd (no_other _ _ _ _ _ _ _ c.write.ensures.wrote is refl)

pub returns-else-are_play-clause-scene : goal.returns-else-are_play-clause-scene
returns-else-are_play-clause-scene g c line reason is = absurd (no_other _ _ _ _ _ _ _ c.write.ensures.wrote is refl)

pub returns-else-are_play-clause-full : goal.returns-else-are_play-clause-full
returns-else-are_play-clause-full g c book entries bytes is = absurd (no_other _ _ _ _ _ _ _ c.write.ensures.wrote is refl)

pub returns-else-are_play-clause-too_long : goal.returns-else-are_play-clause-too_long
returns-else-are_play-clause-too_long g c bytes is = absurd (no_other _ _ _ _ _ _ _ c.write.ensures.wrote is refl)

pub returns-else-are_play-clause-read_fault : goal.returns-else-are_play-clause-read_fault
returns-else-are_play-clause-read_fault g c is = absurd (no_other _ _ _ _ _ _ _ c.write.ensures.wrote is refl)

pub returns-else-are_play-clause-memory : goal.returns-else-are_play-clause-memory
returns-else-are_play-clause-memory g c is = absurd (no_other _ _ _ _ _ _ _ c.write.ensures.wrote is refl)

pub returns-else-are_play-clause-usage : goal.returns-else-are_play-clause-usage
returns-else-are_play-clause-usage g c is =
    (λ are. otherwise _ (c.are_play.ensures.1 are) c.if-are_play.false, line_written _ _ _ _ _ _ _ c.write.ensures.wrote c.usage.ensures is)

pub returns-else-are_play-clause-other_words : goal.returns-else-are_play-clause-other_words
returns-else-are_play-clause-other_words g c other = (refl, which _ _ _ _ _ _ c.write.ensures.wrote)

pub returns-else-are_play-clause-write_fault : goal.returns-else-are_play-clause-write_fault
returns-else-are_play-clause-write_fault g c is = (part_written _ _ _ _ _ _ _ c.write.ensures.wrote refl is).0

pub returns-else-are_play-clause-part_of_line : goal.returns-else-are_play-clause-part_of_line
returns-else-are_play-clause-part_of_line g c is other = (part_written _ _ _ _ _ _ _ c.write.ensures.wrote c.usage.ensures is).1

pub returns-else-are_play-clause-part_of_owed : goal.returns-else-are_play-clause-part_of_owed
returns-else-are_play-clause-part_of_owed g c is are = absurd (otherwise _ (c.are_play.ensures.1 are) c.if-are_play.false)

pub returns-else-are_play-clause-complete : goal.returns-else-are_play-clause-complete
returns-else-are_play-clause-complete g c are = absurd (otherwise _ (c.are_play.ensures.1 are) c.if-are_play.false)

pub returns-else-are_play-clause-done_faultless : goal.returns-else-are_play-clause-done_faultless
returns-else-are_play-clause-done_faultless g c is = absurd (no_other _ _ _ _ _ _ _ c.write.ensures.wrote is refl)

pub returns-else-are_play-clause-memory_faultless : goal.returns-else-are_play-clause-memory_faultless
returns-else-are_play-clause-memory_faultless g c is = absurd (no_other _ _ _ _ _ _ _ c.write.ensures.wrote is refl)

pub returns-else-are_play-clause-faults : goal.returns-else-are_play-clause-faults
returns-else-are_play-clause-faults g c = read_well _ refl c.write.ensures.kept
