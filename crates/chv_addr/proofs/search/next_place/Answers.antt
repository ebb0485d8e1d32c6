-- crates/chv_addr/proofs/search/next_place/Answers.antt
use Rattle.std.proofs.Common.{◌∙◌, ◌+◌, sym, ap}
use Rattle.chv_addr.specs.AddressMap.{run_bytes}
use Rattle.chv_addr.specs.declared.run.Run.{Run}
use Rattle.chv_addr.proofs.RunSearch.{runs-follow}
use Rattle.chv_lists.proofs.Located.{locate-place, place_in}
use Rattle.chv_addr.proofs.search.next_place.Goals as goal

pub locate-requires : goal.locate-requires
locate-requires c = runs-follow 0 c.args.runs.now c.requires

pub returns-in-Ok : goal.returns-in-Ok
returns-in-Ok c = ap place_in (sym c.in-Ok.is ∙ c.locate.ensures.place) ∙ locate-place (λ (run : Run). run.addr) (λ run. run.addr + run_bytes run) c.args.runs.now c.args.addr

pub returns-in-Err : goal.returns-in-Err
returns-in-Err c = ap place_in (sym c.in-Err.is ∙ c.locate.ensures.place) ∙ locate-place (λ (run : Run). run.addr) (λ run. run.addr + run_bytes run) c.args.runs.now c.args.addr
