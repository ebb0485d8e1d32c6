use Rattle.std.proofs.Common.{◌≡◌, ℕ, List, [], ◌∷◌, ◌++◌, map, sym, ap, subst, ◌∙◌, arith}
use Rattle.std.specs.List.{range_with_len}
use Rattle.std.proofs.lemmas.List.FromFn.{map-range_with_len_more}
use Rattle.chv_defs_memory.specs.BankBook.{BankBook}
use Rattle.chv_guest.specs.LentBanks.{bank_count, fresh_at, AreAllBanks, AreLentTo}
use Rattle.chv_guest.proofs.ZoneBanks.{AreAllBanks-fresh, AreLentTo-fresh}
use Rattle.chv_guest.proofs.lent_banks.LentBanks.new.Goals as goal

pub loop-place-preserved : goal.loop-place-preserved
loop-place-preserved c =
    c.in_ok-push.ensures.items
    ∙ ap (λ (books : List BankBook). books ++ c.in_ok-bank.bank ∷ []) c.loop-place.invariant
    ∙ ap (λ (b : BankBook). map fresh_at (range_with_len 0 c.loop-place.place) ++ b ∷ []) c.in_ok-bank.ensures
    ∙ sym (map-range_with_len_more fresh_at 0 c.loop-place.place c.loop-place.place (omega arith))

pub invariant_of-result : goal.invariant_of-result
invariant_of-result c =
    let ended : bank_count ≡ c.loop-place.place = omega arith in
    let made : map fresh_at (range_with_len 0 bank_count) ≡ c.loop-place.banks.items = ap (λ (n : ℕ). map fresh_at (range_with_len 0 n)) ended ∙ sym c.loop-place.invariant in
    let lent : AreLentTo c.none.result c.loop-place.banks.items = subst (λ (lent : List ℕ). AreLentTo lent c.loop-place.banks.items) (sym c.none.ensures) (subst (λ (books : List BankBook). AreLentTo [] books) made AreLentTo-fresh) in
    (subst (λ (books : List BankBook). AreAllBanks books) made AreAllBanks-fresh, lent)
