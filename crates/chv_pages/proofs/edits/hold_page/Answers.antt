use Rattle.std.proofs.Common.{arith, ◌≡◌, ◌∙◌, ap, sym, false}
use Rattle.chv_pages.specs.HeldPages.{has_number}
use Rattle.chv_pages.proofs.Puts.{put-has-it, put-keeps, makes-room}
use Rattle.chv_pages.proofs.Search.{put-order}
use Rattle.chv_pages.proofs.edits.hold_page.Goals as goal

pub returns-clause-order : goal.returns-clause-order
returns-clause-order c = rw (c.put_page.ensures.items, c.in_ok-reserve.ensures.items) (put-order c.args.held.now.items c.args.number c.in_ok-page.page c.requires.order)

pub returns-clause-same : goal.returns-clause-same
returns-clause-same c =
    let none : has_number c.args.held.now.items c.args.number ≡ false = sym (c.if-has_page.ensures ∙ ap (λ xs. has_number xs c.args.number) c.as_slice.ensures.value) in
    rw (c.put_page.ensures.items, c.in_ok-reserve.ensures.items) (makes-room c.args.held.now.items c.args.number c.in_ok-page.page c.in_ok-page.ensures.blank none)

pub returns-clause-keeps : goal.returns-clause-keeps
returns-clause-keeps c = λ high small held. rw (c.put_page.ensures.items, c.in_ok-reserve.ensures.items) (put-keeps 0 high c.args.held.now.items c.args.number c.in_ok-page.page (omega arith) small c.in_ok-page.ensures.len held)

pub returns-clause-ok : goal.returns-clause-ok
returns-clause-ok c = rw (c.put_page.ensures.items, c.in_ok-reserve.ensures.items) (put-has-it c.args.held.now.items c.args.number c.in_ok-page.page)
