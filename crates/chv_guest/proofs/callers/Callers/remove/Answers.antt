use Rattle.std.proofs.Common.{◌≡◌, ◌<◌, ℕ, List, true, false, length, set, sym, subst, arith}
use Rattle.chv_defs_memory.specs.BlockSets.{members}
use Rattle.chv_defs_memory.specs.Lending.{is_in, OneLess}
use Rattle.chv_guest.proofs.CallerFlags.{has-flag, one-less-flag}
use Rattle.chv_guest.proofs.callers.Callers.remove.Goals as goal

pub bounds-self-inside-caller : goal.bounds-self-inside-caller
bounds-self-inside-caller c =
    let here : is_in c.args.caller (members c.self.inside.flags) ≡ true = subst (λ (before : List ℕ). is_in c.args.caller before ≡ true) (sym c.self.view_is) c.requires in
    let inside : c.args.caller < length c.self.inside.flags = has-flag c.self.inside.flags c.args.caller here in
    omega (arith, inside, c.self.told)

pub returns : goal.returns
returns c =
    let here : is_in c.args.caller (members c.self.inside.flags) ≡ true = subst (λ (before : List ℕ). is_in c.args.caller before ≡ true) (sym c.self.view_is) c.requires in
    subst (λ (before : List ℕ). OneLess c.args.caller before (members (set c.self.inside.flags c.args.caller false))) c.self.view_is
    (one-less-flag c.self.inside.flags c.args.caller (has-flag c.self.inside.flags c.args.caller here))
