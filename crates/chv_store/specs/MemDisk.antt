-- A disk in memory, and what its calls do to it.
use Rattle.std.specs.Prelude.{ℕ, List, replicate, slice_set, if◌then◌else◌}
use Rattle.chv_io.specs.FailingCalls.{Calls, no_calls, is_listed, after_call}

-- The sectors of a disk in memory, each the list of its bytes, and its calls.
pub record Platter : Type 0 where
  pub sectors : List (List ℕ)
  pub calls : Calls

-- A new disk of zeros.
abbrev pub blank_disk : ℕ → List ℕ → Platter
blank_disk count fail = record { sectors = replicate count (replicate 512 0); calls = no_calls fail }

-- A disk after a read or a flush, which change no sector.
abbrev pub after_look : Platter → Platter
after_look disk = record { sectors = disk.sectors; calls = after_call disk.calls (is_listed disk.calls) }

-- A disk after a write: a listed one fails and changes no sector, another replaces its own.
abbrev pub after_write : Platter → ℕ → List ℕ → Platter
after_write disk sector bytes = record {
  sectors = (if is_listed disk.calls then disk.sectors else slice_set disk.sectors sector bytes);
  calls = after_call disk.calls (is_listed disk.calls);
}
