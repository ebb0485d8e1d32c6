-- crates/chv_addr/proofs/search/run_at/Answers.antt
use Rattle.std.proofs.Common.{◌∙◌, ◌+◌, sym, ap, List}
use Rattle.std.proofs.lemmas.Option.{slice_get-get_or}
use Rattle.chv_addr.specs.AddressMap.{run_bytes}
use Rattle.chv_addr.specs.declared.run.Run.{Run}
use Rattle.chv_addr.proofs.RunSearch.{runs-follow}
use Rattle.chv_lists.proofs.Located.{find-located, held_in}
use Rattle.chv_addr.proofs.search.run_at.Goals as goal

pub locate-requires : goal.locate-requires
locate-requires c = runs-follow 0 c.args.runs.now c.requires

pub returns-in-Ok : goal.returns-in-Ok
returns-in-Ok c =
    let runs : List Run = c.args.runs.now in
    let found = find-located (λ (run : Run). run.addr) (λ run. run.addr + run_bytes run) 0 runs c.args.addr (runs-follow 0 runs c.requires) in
    sym (found ∙ ap (held_in runs) (sym c.locate.ensures.place ∙ c.in-Ok.is) ∙ slice_get-get_or runs c.in-Ok.place (record { zone = 0; first = 0; count = 0; addr = 0 }) c.in-Ok.ensures.inside)

pub returns-in-Err : goal.returns-in-Err
returns-in-Err c =
    let runs : List Run = c.args.runs.now in
    let found = find-located (λ (run : Run). run.addr) (λ run. run.addr + run_bytes run) 0 runs c.args.addr (runs-follow 0 runs c.requires) in
    sym (found ∙ ap (held_in runs) (sym c.locate.ensures.place ∙ c.in-Err.is))
