use Rattle.std.proofs.Common.{◌≡◌, ◌<◌, true, false, None, length, get_or, set, map, sym, ap, ◌∙◌, arith, Bool}
use Rattle.std.specs.Prelude.{if◌then◌else◌}
use Rattle.std.proofs.lemmas.List.Edits.{map_over_more}
use Rattle.chv_defs_memory.specs.BankBook.{BankBook, room_refusal}
use Rattle.chv_guest.specs.Room.{is_made, with_places}
use Rattle.chv_guest.proofs.Refusals.{get_or-changed_front, grown_bank, kept_bank, none_due, refusal_in-none, undone}
use Rattle.chv_guest.proofs.room.make_room_in.Goals as goal

pub returns-then-not-is_made-clause-made : goal.returns-then-not-is_made-clause-made
returns-then-not-is_made-clause-made c =
    let d : BankBook = c.index-banks-place.result in
    let at : BankBook = get_or c.loop-place.banks c.loop-place.place d in
    let refused : is_made c.room-answer.result ≡ false = sym c.is_made.ensures ∙ c.if-not-is_made.true in
    let kept : c.room-answer.new.self ≡ at =
    kept_bank c.room-answer.result at c.room-answer.new.self (with_places c.args.entries c.args.pages at) refused c.room-answer.ensures.made c.room-answer.ensures.err in
    undone c.args.banks.now c.loop-place.banks c.loop-place.place c.args.entries c.args.pages c.room-answer.new.self d c.undo_room.new.banks c.requires (omega arith) c.loop-place.invariant.made kept c.undo_room.ensures
    ∙ sym (ap (λ (b : Bool). if b then map (with_places c.args.entries c.args.pages) c.args.banks.now else c.args.banks.now) refused)

pub loop-place-preserved : goal.loop-place-preserved
loop-place-preserved c =
    let d : BankBook = c.index-banks-place.result in
    let at : BankBook = get_or c.loop-place.banks c.loop-place.place d in
    let made : is_made c.room-answer.result ≡ true = sym c.is_made.ensures ∙ c.if-not-is_made.false in
    let inside : c.loop-place.place < length c.args.banks.now = omega arith in
    let grown : c.room-answer.new.self ≡ with_places c.args.entries c.args.pages at =
    grown_bank c.room-answer.result at c.room-answer.new.self (with_places c.args.entries c.args.pages at) made c.room-answer.ensures.made in
    let same : get_or c.args.banks.now c.loop-place.place d ≡ at =
    sym (get_or-changed_front (with_places c.args.entries c.args.pages) c.args.banks.now c.loop-place.banks c.loop-place.place d (omega arith) c.loop-place.invariant.made) in
    let due : room_refusal (get_or c.args.banks.now c.loop-place.place d) c.args.entries c.args.pages ≡ None =
    ap (λ (b : BankBook). room_refusal b c.args.entries c.args.pages) same ∙ none_due c.room-answer.result (room_refusal at c.args.entries c.args.pages) made c.room-answer.ensures.answer in
    record {
      made = ap (λ (b : BankBook). set c.loop-place.banks c.loop-place.place b) (grown ∙ ap (with_places c.args.entries c.args.pages) (sym c.index-banks-place.is))
          ∙ map_over_more (with_places c.args.entries c.args.pages) c.args.banks.now c.loop-place.banks c.loop-place.place d inside c.loop-place.invariant.made c.index-banks-place.is;
      due = sym (refusal_in-none c.args.banks.now c.loop-place.place c.args.entries c.args.pages d inside due) ∙ c.loop-place.invariant.due;
    }
