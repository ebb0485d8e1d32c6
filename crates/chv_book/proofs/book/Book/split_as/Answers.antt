use Rattle.std.proofs.Common.{rules, ℕ, ◌<◌, ◌^◌, sym, ap, ◌∙◌, subst, arith}
use Rattle.chv_defs_book.specs.Histories.{entries_by, is_out}
use Rattle.chv_book.proofs.Seats.{splits}
use Rattle.chv_book.proofs.book.Book.split_as.Goals as goal

pub split_seat-new-requires : goal.split_seat-new-requires
split_seat-new-requires g c =
    let k = g.V.Kept in
    let t = c.take-seat.ensures in
    let r = c.requires in
    let n = r.number in
    let fits : c.args.caller < 4294967296 = omega (arith, c.ranges.caller.fits) in (
      search rules,
      search rules,
      splits g.V.Entry.HistoryEntry.made_by k.history k.side k.origin g.V.Entry.HistoryEntry.is_still _ c.take-seat.result.me.0 g.N.Number.number
          t.idle
          (t.caller ∙ r.may.is_first)
          (subst (λ (m : ℕ). 0 < m) n r.may.above)
          (subst (λ (m : ℕ). m < 2 ^ 32) n fits)
          (ap (λ w. is_out g.N.Number.number w.out) (sym t.pass) ∙ ap (λ (m : ℕ). is_out m c.args.first.now.out) (sym n) ∙ r.may.home)
          (ap (λ w. g.V.Entry.HistoryEntry.is_still (entries_by g.V.Entry.HistoryEntry.made_by 0 w.seen)) (sym t.pass) ∙ r.may.moving),
    )
