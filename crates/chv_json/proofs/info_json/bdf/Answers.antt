use Rattle.std.proofs.Common.{rules, false}
use Rattle.std.proofs.lemmas.Fmt.{hex_byte}
use Rattle.chv_json.proofs.info_json.bdf.Goals as goal

pub returns : goal.returns
returns c = let padded = hex_byte false c.args.slot c.ranges.slot.fits in search (rules, padded)
