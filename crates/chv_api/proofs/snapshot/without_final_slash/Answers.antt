use Rattle.std.proofs.Common.{sym, ◌∙◌, ap, ◌≡◌, ◌++◌, [], ◌∷◌, Some, None, lit<}
use Rattle.std.proofs.lemmas.Str.Pattern.{strip_suffix_char}
use Rattle.chv_defs_api.specs.Routes.{without_final_slash}
use Rattle.chv_api.proofs.Slashes.{without_final_slash-front, without_final_slash-whole}
use Rattle.chv_api.proofs.snapshot.without_final_slash.Goals as goal

pub returns-in-Some : goal.returns-in-Some
returns-in-Some c =
    let ends : c.args.url.now ≡ c.in-Some.front.now ++ (47 ∷ []) = strip_suffix_char 47 c.args.url.now (Some c.in-Some.front) c.in-Some.ensures.cases (lit< tt) in
    sym (ap without_final_slash ends ∙ without_final_slash-front c.in-Some.front.now)

pub returns-in-None : goal.returns-in-None
returns-in-None c = sym (without_final_slash-whole c.args.url.now (strip_suffix_char 47 c.args.url.now None c.in-None.ensures.cases (lit< tt)))
