use Rattle.std.proofs.Common.{arith, ◌≡◌, ◌∙◌, ap, subst, ℕ, ◌+◌, ◌*◌, ◌/◌, false, sym, length}
use Rattle.chv_pages.specs.HeldPages.{IsAt, has_number}
use Rattle.chv_pages.proofs.Pieces.{reads-piece, reads-none}
use Rattle.chv_pages.proofs.reads.read_piece.Goals as goal

pub returns-in-Some-clause-read : goal.returns-in-Some-clause-read
returns-in-Some-clause-read c =
    let P : ℕ → Type 0 = λ n. IsAt c.args.held.now c.in-Some.place n in
    let at : IsAt c.args.held.now c.in-Some.place (c.args.block * 512 + (c.args.offset + c.args.done) / 4096) = subst P c.number_of.ensures c.in-Some.ensures.1 in
    let full : length c.as_slice-page.result.now ≡ 4096 = ap length c.as_slice-page.ensures.value ∙ c.as_slice-page.ensures.len in
    λ k low high. reads-piece c.args.held.now c.in-Some.place c.args.block c.args.offset c.args.done c.args.len k c.index-held-place.result c.as_slice-page.result.now c.args.into.now c.copy_at.new.into at c.as_slice-page.ensures.value full c.requires.page (omega arith) low high c.copy_at.ensures

pub returns-in-None-clause-read : goal.returns-in-None-clause-read
returns-in-None-clause-read c =
    let none : has_number c.args.held.now (c.args.block * 512 + (c.args.offset + c.args.done) / 4096) ≡ false = sym (ap (has_number c.args.held.now) c.number_of.ensures) ∙ c.in-None.ensures in
    λ k low high. c.clear_at.ensures.inside k low high ∙ sym (reads-none c.args.held.now c.args.block c.args.offset c.args.done c.args.len k none c.requires.page (omega arith) low high)
