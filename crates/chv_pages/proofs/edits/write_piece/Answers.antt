use Rattle.std.proofs.Common.{◌≡◌, ◌∙◌, ap, subst, ℕ, ◌+◌, ◌*◌, ◌/◌, true}
use Rattle.chv_pages.specs.HeldPages.{IsAt, has_number}
use Rattle.chv_pages.proofs.Pieces.{writes-piece, at-number}
use Rattle.chv_pages.proofs.edits.write_piece.Goals as goal

pub unreachable-requires : goal.unreachable-requires
unreachable-requires c =
    let there : has_number c.args.held.now c.number_of.result ≡ true = ap (has_number c.args.held.now) c.number_of.ensures ∙ c.requires.there in
    let absent = c.in-None.ensures in
    cc

pub returns : goal.returns
returns c =
    let P : ℕ → Type 0 = λ n. IsAt c.args.held.now c.in-Some.place n in
    let at : IsAt c.args.held.now c.in-Some.place (c.args.block * 512 + c.args.offset / 4096) = subst P c.number_of.ensures c.in-Some.ensures.1 in
    writes-piece c.args.held.now c.in-Some.place c.args.block c.args.offset c.write.new.self c.index-held-place.result c.args.from.now at c.requires.inside c.requires.page _ (at-number c.args.held.now c.in-Some.place (c.args.block * 512 + c.args.offset / 4096) c.index-held-place.result at) c.write.ensures.copied
