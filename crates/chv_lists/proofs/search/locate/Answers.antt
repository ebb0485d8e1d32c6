-- crates/chv_lists/proofs/search/locate/Answers.antt
use Rattle.std.proofs.Common.{◌≡◌, ◌∙◌, refl, sym, ap, arith, true, false, length, Some, None}
use Rattle.std.specs.Prelude.{nat_le, nat_lt, slice_get, is_some}
use Rattle.std.proofs.lemmas.Bool.Decides.{nat_tests}
use Rattle.std.proofs.lemmas.List.Sums.{prefix_len-le-length}
use Rattle.std.proofs.lemmas.Option.{slice_get_read, slice_get_past}
use Rattle.chv_lists.proofs.Located.{locate-there, locate-none}
use Rattle.chv_lists.proofs.search.locate.Goals as goal

pub returns-in-Some-clause-place : goal.returns-in-Some-clause-place
returns-in-Some-clause-place g c =
    let items = c.args.items.now in
    let within : nat_lt c.count_ended-place.result (length items) ≡ true = sym c.in-Some.ensures.lookup.0 in
    let there : slice_get items c.count_ended-place.result ≡ Some c.in-Some.item.now = slice_get_read items (length items) c.count_ended-place.result c.in-Some.item.now refl (grind (arith, nat_tests)) c.in-Some.ensures.lookup.1 in
    let begun : nat_le (g.S.Stretch.start c.in-Some.item.now) c.args.at ≡ true = sym c.begins_by.ensures ∙ c.if-begins_by.true in
    sym (locate-there g.S.Stretch.start g.S.Stretch.end items c.args.at c.count_ended-place.result c.in-Some.item.now true c.count_ended-place.ensures there begun)

pub returns-in_default-clause-place : goal.returns-in_default-clause-place
returns-in_default-clause-place g c =
    let items = c.args.items.now in
    let within : nat_lt c.count_ended-place.result (length items) ≡ true = sym c.in-Some.ensures.lookup.0 in
    let there : slice_get items c.count_ended-place.result ≡ Some c.in-Some.item.now = slice_get_read items (length items) c.count_ended-place.result c.in-Some.item.now refl (grind (arith, nat_tests)) c.in-Some.ensures.lookup.1 in
    let begun : nat_le (g.S.Stretch.start c.in-Some.item.now) c.args.at ≡ false = sym c.begins_by.ensures ∙ c.if-begins_by.false in
    sym (locate-there g.S.Stretch.start g.S.Stretch.end items c.args.at c.count_ended-place.result c.in-Some.item.now false c.count_ended-place.ensures there begun)

pub returns-in_default-2-clause-place : goal.returns-in_default-2-clause-place
returns-in_default-2-clause-place g c =
    let items = c.args.items.now in
    let behind : nat_lt c.count_ended-place.result (length items) ≡ false = sym c.get.ensures.lookup.0 ∙ ap is_some c.in_default.is in
    let none : slice_get items c.count_ended-place.result ≡ None = slice_get_past items c.count_ended-place.result (grind (arith, nat_tests)) in
    sym (locate-none g.S.Stretch.start g.S.Stretch.end items c.args.at c.count_ended-place.result c.count_ended-place.ensures none)

pub returns-in_default-2-clause-inside : goal.returns-in_default-2-clause-inside
returns-in_default-2-clause-inside g c = omega (arith, c.count_ended-place.ensures, prefix_len-le-length (λ x. nat_le (g.S.Stretch.end x) c.args.at) c.args.items.now)
