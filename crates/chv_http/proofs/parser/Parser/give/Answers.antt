use Rattle.std.proofs.Common.{◌≡◌, ◌+◌, ℕ, List, drop, sym, ap, subst, ◌∙◌, arith}
use Rattle.std.proofs.lemmas.List.{drop-drop}
use Rattle.chv_defs_api.specs.declared.request.Request.{Request}
use Rattle.chv_defs_api.specs.Requests.{BeginsWith}
use Rattle.chv_http.proofs.parser.Parser.give.Goals as goal

-- what equal bytes begin with
begins_same : (bytes bytes' rest rest' : List ℕ) (request : Request) → bytes ≡ bytes' → rest ≡ rest' → BeginsWith bytes request rest
    → BeginsWith bytes' request rest'
begins_same bytes bytes' rest rest' request same behind is =
    subst (λ (b : List ℕ). BeginsWith b request rest') same (subst (λ (r : List ℕ). BeginsWith bytes request r) behind is)

pub returns-clause-given : goal.returns-clause-given
returns-clause-given c =
    let start = c.self.inside.start in
    let items = c.self.inside.buffer.items in
    let size = c.args.head.len + c.args.head.body in
    let here : c.from.result.now ≡ drop start items = c.from.ensures ∙ ap (drop start) c.as_slice.ensures.value in
    let behind : drop size (drop start items) ≡ drop c.release-self-inside.result c.release-self-inside.new.buffer.items =
    drop-drop size start items ∙ ap (λ (k : ℕ). drop k items) (omega arith) ∙ sym c.release-self-inside.ensures.kept in
    begins_same c.from.result.now c.args.self.now _ _ _ (here ∙ c.self.view_is) (ap (drop size) here ∙ behind) c.in_ok-request.ensures
