use Rattle.std.proofs.Common.{◌≡◌, drop}
use Rattle.serde_json.specs.View.{members_view}
use Rattle.serde_json.specs.Data.{no_members}
use Rattle.chv_defs_api.specs.JsonTexts.{with_counts}
use Rattle.chv_json.proofs.info_json.counters.Given as goal

abbrev pub invariant-loop-count : goal.invariant-loop-count
invariant-loop-count l = with_counts (members_view l.members.entries) (drop l.count-index l.counts) ≡ with_counts no_members l.counts
