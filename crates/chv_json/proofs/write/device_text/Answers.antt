use Rattle.std.proofs.Common.{rules}
use Rattle.chv_defs_api.specs.JsonTexts.{device_text}
use Rattle.chv_json.proofs.write.device_text.Goals as goal

pub returns : goal.returns
unfolding device_text
returns c = search rules
