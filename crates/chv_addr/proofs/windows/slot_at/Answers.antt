use Rattle.std.proofs.Common.{sym, inl, inr, arith}
use Rattle.chv_addr.proofs.Slots.{slot_at-below, slot_at-above, slot_at-inside}
use Rattle.chv_addr.proofs.windows.slot_at.Goals as goal

pub returns-then-addr-lt-FIRST : goal.returns-then-addr-lt-FIRST
returns-then-addr-lt-FIRST c =
    elim c.then-addr-lt-FIRST.either [
      | inl low ↦ sym (slot_at-below c.args.addr low)
      | inr high ↦ sym (slot_at-above c.args.addr high.1)
    ]

pub returns : goal.returns
returns c = sym (slot_at-inside c.args.addr (omega arith) (omega arith))
