-- The search in runs that ascend.
use Rattle.std.specs.Prelude.{ℕ, ◌+◌, nat_le, List, Option, slice_get}
use Rattle.std.specs.List.{prefix_len}
use Rattle.chv_addr.specs.declared.run.Run.{Run}
use Rattle.chv_addr.specs.AddressMap.{run_bytes}

-- the first run that ends above an address
abbrev pub next_run : List Run → ℕ → Option Run
next_run runs addr = slice_get runs (prefix_len (λ run. nat_le (run.addr + run_bytes run) addr) runs)
