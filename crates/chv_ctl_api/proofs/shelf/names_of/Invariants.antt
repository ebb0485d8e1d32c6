use Rattle.std.proofs.Common.{◌≡◌, ◌++◌, drop}
use Rattle.chv_defs_control.specs.ApiStep.{names_of}
use Rattle.chv_ctl_api.proofs.shelf.names_of.Given as goal

abbrev pub invariant-loop-disk : goal.invariant-loop-disk
invariant-loop-disk l = l.names ++ names_of (drop l.disk-index l.shelf) ≡ names_of l.shelf
