use Rattle.std.proofs.Common.{◌≡◌, ◌++◌, filter, map}
use Rattle.std.specs.Vec.Iter.{into_iter_items}
use Rattle.chv_defs.specs.Schedule.{has_entries}
use Rattle.chv_play.specs.Banks.{as_trace}
use Rattle.chv_play.specs.Played.{AreLegalBanks}
use Rattle.chv_play.proofs.banks.bank_traces.Given as goal

abbrev pub invariant-loop-bank : goal.invariant-loop-bank
invariant-loop-bank l =
    goal.iterator-loop-bank.can_next l.bank-iterator
    × goal.iterator-loop-bank.is_finite l.bank-iterator
    × (l.traces ++ filter has_entries (map as_trace (into_iter_items l.bank-iterator)) ≡ filter has_entries (map as_trace l.fn.zones.books))
    × AreLegalBanks l.traces
