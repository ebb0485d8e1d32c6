use Rattle.std.proofs.Common.{◌+◌, ◌≤◌, ◌^◌, sym, ◌∙◌, subst}
use Rattle.std.specs.Prelude.{All, List}
use Rattle.chv_addr.specs.declared.run.Run.{Run}
use Rattle.chv_defs_api.specs.Registers.{window_bytes, window_start}
use Rattle.chv_addr.specs.AddressMap.{holds, run_bytes, slots}
use Rattle.chv_addr.proofs.RunSearch.{find-in, find-passes}
use Rattle.chv_addr.proofs.map.AddrMap.find.Goals as goal

pub ram_place-requires-clause-held : goal.ram_place-requires-clause-held
ram_place-requires-clause-held c =
    find-passes (λ (run : Run). holds run.addr (run_bytes run) c.args.addr) c.as_slice-runs.result.now c.in-Some.run' (sym c.run_at.ensures ∙ c.in-Some.is)

pub ram_place-requires-clause-small : goal.ram_place-requires-clause-small
ram_place-requires-clause-small c =
    let P : List Run → Type 0 = λ runs. All (λ run. run.first + run.count ≤ 2 ^ 32) runs in
    let numbered : P c.as_slice-runs.result.now = subst P (sym c.as_slice-runs.ensures.value) c.self.invariant.numbered in
    find-in (λ (run : Run). run.first + run.count ≤ 2 ^ 32) (λ (run : Run). holds run.addr (run_bytes run) c.args.addr) c.as_slice-runs.result.now c.in-Some.run' numbered (sym c.run_at.ensures ∙ c.in-Some.is)

pub bar_place-requires : goal.bar_place-requires
bar_place-requires c =
    find-passes (λ slot. holds (window_start slot) window_bytes c.args.addr) slots c.in-Some-slot_at.slot (sym c.slot_at.ensures ∙ c.in-Some-slot_at.is)
