use Rattle.chv_defs_base.specs.Numbers.{is_decimal_digit}
use Rattle.chv_num.proofs.Bases.{decimal_base}
use Rattle.chv_num.proofs.Spelling.{one_spelling, read_back}
use Rattle.chv_num.proofs.laws.dec_has_one_spelling.Goals as goal

pub returns-clause-read_back : goal.returns-clause-read_back
returns-clause-read_back c = read_back 10 is_decimal_digit decimal_base c.args.n c.ranges.n.fits

pub returns-clause-one : goal.returns-clause-one
returns-clause-one c = one_spelling 10 is_decimal_digit decimal_base _ _
