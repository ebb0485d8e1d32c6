use Rattle.std.proofs.Common.{◌≡◌, ◌+◌, ◌*◌, ◌≤◌, ◌∙◌, sym, ap, subst, arith, refl, false, length, vec_len}
use Rattle.std.specs.Vec.{vec_capacity}
use Rattle.chv_defs_memory.specs.PageContents.{Contents}
use Rattle.chv_defs_memory.specs.BankState.{pins_of}
use Rattle.chv_defs_memory.specs.BankBook.{BankBook, passes_limit}
use Rattle.chv_bank.specs.Caches.{IsStateAfter}
use Rattle.chv_bank.specs.CallerPins.{total}
use Rattle.chv_bank.specs.declared.bank.Bank.TheInside.{Inside}
use Rattle.chv_bank.proofs.KeptSteps.{IsKept-roomier, IsKept-like, IsStateAfter-memory, below_limits, seen}
use Rattle.chv_bank.proofs.bank.Bank.room.Goals as goal

pub invariant_of-self : goal.invariant_of-self
invariant_of-self c =
    IsKept-roomier c.self.inside (record { alloc = c.self.inside.alloc; zone = c.self.inside.zone; bank = c.self.inside.bank; state = c.self.inside.state; history = c.reserve.new.self; payload = c.self.inside.payload; reserved = c.self.inside.reserved; sheets = c.self.inside.sheets })
    c.self.invariant refl c.reserve.ensures.items refl refl refl refl c.reserve.ensures.capacity

pub invariant_of-self-in_err-sheets : goal.invariant_of-self-in_err-sheets
invariant_of-self-in_err-sheets c =
    IsKept-roomier c.self.inside (record { alloc = c.self.inside.alloc; zone = c.self.inside.zone; bank = c.self.inside.bank; state = c.self.inside.state; history = c.reserve.new.self; payload = c.self.inside.payload; reserved = c.self.inside.reserved; sheets = c.self.inside.sheets })
    c.self.invariant refl c.reserve.ensures.items refl refl refl refl c.reserve.ensures.capacity

pub invariant_of-self-in_err-reserve-2 : goal.invariant_of-self-in_err-reserve-2
invariant_of-self-in_err-reserve-2 c =
    IsKept-roomier c.self.inside (record { alloc = c.self.inside.alloc; zone = c.self.inside.zone; bank = c.self.inside.bank; state = record c.self.inside.state { memory = c.reserve-2.new.self }; history = c.reserve.new.self; payload = c.self.inside.payload; reserved = c.self.inside.reserved; sheets = c.self.inside.sheets })
    c.self.invariant refl c.reserve.ensures.items (ap (λ (m : Contents). record c.self.inside.state { memory = m }) c.in_err-reserve-2.ensures.err) refl refl refl c.reserve.ensures.capacity

pub invariant_of-self-2 : goal.invariant_of-self-2
invariant_of-self-2 c =
    let old : Inside = c.self.inside in
    let ample : passes_limit (seen old) c.args.entries (c.args.pages * 4096) ≡ false = subst (λ (b : BankBook). passes_limit b c.args.entries (c.args.pages * 4096) ≡ false) (sym c.self.view_is) (sym c.passes_limit.ensures ∙ c.if-passes_limit.false) in
    let fits = below_limits (seen old) c.args.entries (c.args.pages * 4096) ample in
    let made : c.reserve-2.new.self ≡ record old.state.memory { reserved = old.state.memory.reserved + c.args.pages } = c.in_ok-reserve-2.ensures.ok in
    let state : IsStateAfter old.bank old.history.items (record old.state { memory = c.reserve-2.new.self }) = IsStateAfter-memory old.bank old.history.items old.state c.reserve-2.new.self c.self.invariant.state (ap (λ (m : Contents). m.blocks) made) (ap (λ (m : Contents). m.pages) made) in
    let none : old.sheets ≡ 0 = ap (λ (b : BankBook). b.pages) c.self.view_is ∙ c.requires in
    let reserved : c.reserve-2.new.self.reserved ≡ old.state.memory.reserved + c.args.pages = ap (λ (m : Contents). m.reserved) made in
    let sheets : c.in_ok-sheets.sheets ≡ c.args.pages = c.in_ok-sheets.ensures in
    let pins : total old.state.pins ≡ length (pins_of old.history.items) = c.self.invariant.state.pins.counted in
    let more : vec_len c.reserve.new.self + (old.reserved + c.len.result + c.args.entries) ≤ vec_capacity c.reserve.new.self = c.in_ok-reserve.ensures.ok in
    IsKept-like old (record { alloc = old.alloc; zone = old.zone; bank = old.bank; state = record old.state { memory = c.reserve-2.new.self }; history = c.reserve.new.self; payload = old.payload; reserved = old.reserved + c.args.entries; sheets = c.in_ok-sheets.sheets })
    c.self.invariant refl c.reserve.ensures.items state refl
    (omega (arith, sheets, reserved, none, c.self.invariant.sheets_counted))
    (omega (arith, fits.0, pins))
    (omega (arith, fits.1, none, sheets, c.self.invariant.bytes_counted))
    (omega (arith, more, c.len.ensures, c.reserve.new.self.ok.0, ap length c.reserve.ensures.items))
