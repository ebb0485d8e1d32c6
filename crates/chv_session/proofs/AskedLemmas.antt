-- What is done to a desk where only calls are asked there.
use Rattle.std.proofs.Common.{List, [], ◌∷◌, ◌++◌, refl, subst}
use Rattle.chv_defs_api.specs.declared.control.ControlCall.{ControlCall}
use Rattle.chv_defs_api.specs.Desks.{AreAsked, IsOnlyAsked}

-- one call was asked
pub asked_one : {A : Type 0} (asks : A → ControlCall → A → Type 0) (before after : A) (c : ControlCall) → asks before c after
    → IsOnlyAsked asks before after
asked_one asks before after c asked = (c ∷ [], (after, asked, refl))

-- calls that were asked behind others
are_asked_join : {A : Type 0} (asks : A → ControlCall → A → Type 0) (calls more : List ControlCall) (before between after : A)
    → AreAsked asks before calls between → AreAsked asks between more after → AreAsked asks before (calls ++ more) after
are_asked_join asks [] more before between after same asked = subst (λ a. AreAsked asks a more after) same asked
are_asked_join asks (c ∷ calls) more before between after first asked =
    (first.0, first.1, are_asked_join asks calls more first.0 between after first.2 asked)

pub asked_join : {A : Type 0} (asks : A → ControlCall → A → Type 0) (before between after : A) → IsOnlyAsked asks before between
    → IsOnlyAsked asks between after → IsOnlyAsked asks before after
asked_join asks before between after first second =
    (first.0 ++ second.0, are_asked_join asks first.0 second.0 before between after first.1 second.1)
