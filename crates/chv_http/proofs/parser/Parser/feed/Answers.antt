use Rattle.std.proofs.Common.{◌≤◌, length, drop, sym, ap, subst, ◌∙◌, arith, length-append}
use Rattle.std.proofs.lemmas.List.{drop-append-le}
use Rattle.chv_http.specs.Stage.{Holds}
use Rattle.chv_http.proofs.StageLemmas.{holds_append}
use Rattle.chv_http.proofs.parser.Parser.feed.Goals as goal

pub invariant_of-self-2 : goal.invariant_of-self-2
invariant_of-self-2 c =
    let start = c.self.inside.start in
    let old = c.self.inside.buffer.items in
    let piece = c.args.piece.now in
    let items = c.in_ok-extend_from_slice.ensures.items in
    let within : start ≤ length old = omega (arith, c.self.invariant.within) in
    record {
      within = omega (arith, ap length items, length-append old piece, c.self.invariant.within);
      holds = subst (Holds c.self.inside.stage) (sym (ap (drop start) items ∙ drop-append-le start old piece within))
          (holds_append c.self.inside.stage (drop start old) piece c.self.invariant.holds);
    }
