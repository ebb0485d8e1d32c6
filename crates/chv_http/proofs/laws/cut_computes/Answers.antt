use Rattle.chv_defs_api.specs.StreamCut.{cut}
use Rattle.chv_http.proofs.CutFunctionLemmas.{cut_gives}
use Rattle.chv_http.proofs.CutLemmas.{cuts_is_one}
use Rattle.chv_http.proofs.laws.cut_computes.Goals as goal

pub returns-clause-given : goal.returns-clause-given
returns-clause-given c = cut_gives

pub returns-clause-all : goal.returns-clause-all
returns-clause-all c bytes what rest cuts =
    cuts_is_one bytes what (cut bytes).0 rest (cut bytes).1 cuts (cut_gives bytes)
