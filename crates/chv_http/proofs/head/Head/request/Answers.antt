use Rattle.std.proofs.Common.{◌≡◌, ◌+◌, ◌-◌, subst, sym, ap, ◌∙◌, arith, IsUtf8, take, drop, refl}
use Rattle.chv_http.proofs.HeadLemmas.{slice_of_all, request_is}
use Rattle.chv_http.proofs.head.Head.request.Goals as goal

pub unreachable-requires : goal.unreachable-requires
unreachable-requires c =
    let is = c.requires.head.is in
    let target = c.of.ensures ∙ slice_of_all c.args.bytes.now c.args.self.len _ _ is.within.0 is.within.1 ∙ is.target in
    c.in_default.ensures.cases.0 (subst IsUtf8 (sym target) is.is_head.reads.0.target_text)

pub returns : goal.returns
returns c =
    let is = c.requires.head.is in
    let whole : (c.args.self.len + c.args.self.body) - c.args.self.len ≡ c.args.self.body = omega arith in
    record {
      n = c.args.self.len;
      head = c.requires.head.tree;
      len = c.args.self.body;
      announces = record {
        begins = record {
          front = c.requires.head.front;
          short = c.requires.head.short;
          reads = is.is_head.reads;
          room = is.is_head.room;
        };
        accepted = is.body;
      };
      whole = c.requires.whole;
      request_is = request_is c.requires.head.tree _ _ _ _ _ _ is.put is.get is.last
          (c.in_ok-of.ensures ∙ c.in-Ok.ensures.cases.0 ∙ c.of.ensures
          ∙ slice_of_all c.args.bytes.now c.args.self.len _ _ is.within.0 is.within.1 ∙ is.target)
          (c.in_ok-of-2.ensures ∙ ap (λ k. take k (drop c.args.self.len c.args.bytes.now)) whole);
      rest_is = refl;
    }
