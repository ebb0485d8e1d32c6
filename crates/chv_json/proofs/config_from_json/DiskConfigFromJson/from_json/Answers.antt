use Rattle.std.proofs.Common.{rules}
use Rattle.chv_json.proofs.config_from_json.DiskConfigFromJson.from_json.Goals as goal

pub returns-in_err-path : goal.returns-in_err-path
returns-in_err-path c = search rules
