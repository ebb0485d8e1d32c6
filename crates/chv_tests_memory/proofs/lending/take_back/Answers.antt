use Rattle.std.proofs.Common.{◌≡◌, sym, subst}
use Rattle.chv_defs_memory.specs.Lending.{HasNoPinBy}
use Rattle.chv_defs_memory.specs.Zones.{Known}
use Rattle.chv_defs_memory.proofs.ZoneLaws.{sees-none}
use Rattle.chv_guest.specs.LentBanks.{known_at}
use Rattle.chv_tests_memory.proofs.LentLemmas.{no-pin}
use Rattle.chv_tests_memory.proofs.lending.take_back.Goals as goal

pub back-requires-2-clause-unpinned : goal.back-requires-2-clause-unpinned
back-requires-2-clause-unpinned c = λ zone bank is.
    let same : known_at c.back.new.self.books zone bank ≡ known_at c.args.zones.now.books zone bank =
    sees-none (known_at c.args.zones.now.books zone bank) (known_at c.back.new.self.books zone bank) (c.back.ensures.known zone bank is) in
    subst (λ (k : Known). HasNoPinBy 5 k.history) (sym same) (no-pin 5 zone bank c.args.zones.now is c.requires.first c.requires.pins)
