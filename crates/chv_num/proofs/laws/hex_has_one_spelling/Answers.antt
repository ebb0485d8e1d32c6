use Rattle.chv_num.proofs.HexSpelling.{hex_read_back, hex_one_spelling}
use Rattle.chv_num.proofs.laws.hex_has_one_spelling.Goals as goal

pub returns-clause-read_back : goal.returns-clause-read_back
returns-clause-read_back c = hex_read_back c.args.n c.ranges.n.fits

pub returns-clause-one : goal.returns-clause-one
returns-clause-one c = hex_one_spelling _ _
