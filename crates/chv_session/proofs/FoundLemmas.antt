-- What is in front of the bytes at hand.
use Rattle.std.proofs.Common.{◌≡◌, ◌<◌, ℕ, List, ◌++◌, length, sym, subst, ◌∙◌}
use Rattle.chv_defs_base.specs.declared.rule.Rule.{Rule}
use Rattle.chv_defs_api.specs.declared.request.Took.{Took}
use Rattle.chv_defs_api.specs.declared.request.Took.TheVariants as took
use Rattle.chv_defs_api.specs.Requests.{Cuts, IsShort}
use Rattle.chv_defs_api.specs.SessionBytes.{IsBad, session_limit}
use Rattle.chv_session.specs.declared.fill.Found.TheVariants as found
use Rattle.chv_session.specs.Taking.{Intake, HasFed, IsSame, TakesPieces}
use Rattle.chv_session.proofs.TakingLemmas.{fed_join, takes_join}
use Rattle.chv_session.specs.Found.{Finds}

-- bytes that a rule refuses
bad : (r s t more : List ℕ) (rule : Rule) → s ≡ r ++ more → Cuts s (took.Bad rule) t → IsBad (r ++ more) rule × (t ≡ r ++ more)
bad r s t more rule same cuts =
    (subst (λ h. IsBad h rule) same (subst (λ x. Cuts s (took.Bad rule) x) cuts.1 cuts), cuts.1 ∙ same)

pub found_bad : {what : Took} {rule : Rule} (a b r s t : List ℕ) → HasFed a b r s → Cuts s what t → what ≡ took.Bad rule
    → Finds (found.Bad rule) a b r t
found_bad {what} {rule} a b r s t fed cuts is =
    (fed.0, fed.1, bad r s t fed.0 rule fed.2 (subst (λ w. Cuts s w t) is cuts))

-- a part of a request, or nothing
not_yet : (s t : List ℕ) (what : Took) → Cuts s what t → what ≡ took.NotYet → IsShort s × (t ≡ s)
not_yet s t what cuts is = subst (λ w. Cuts s w t) is cuts

pub left_short : (s t : List ℕ) (what : Took) → Cuts s what t → what ≡ took.NotYet → IsShort t
left_short s t what cuts is = let both = not_yet s t what cuts is in subst IsShort (sym both.1) both.0

pub found_limit : {what : Took} (a b r s t : List ℕ) → HasFed a b r s → Cuts s what t → what ≡ took.NotYet
    → length b ≡ session_limit → Finds found.Limit a b r t
found_limit {what} a b r s t fed cuts is all =
    let both = not_yet s t what cuts is in (fed.0, fed.1, (subst IsShort fed.2 both.0, both.1 ∙ fed.2, all))

-- nothing came behind a short rest
pub found_end : {b c t u : List ℕ} {what : Took} (a r s : List ℕ) → HasFed a b r s → Cuts s what t → what ≡ took.NotYet
    → IsSame b c t u → length b < session_limit → Finds found.End a c r u
found_end {b} {c} {t} {u} {what} a r s fed cuts is same below =
    let both = not_yet s t what cuts is in
    (fed.0, same.0 ∙ fed.1, (subst IsShort fed.2 both.0, same.1 ∙ both.1 ∙ fed.2, subst (λ x. length x < session_limit) (sym same.0) below))

pub found_fault : {b c t u : List ℕ} {what : Took} (a r s : List ℕ) → HasFed a b r s → Cuts s what t → what ≡ took.NotYet
    → IsSame b c t u → length b < session_limit → Finds found.Fault a c r u
found_fault {b} {c} {t} {u} {what} a r s fed cuts is same below = found_end {b = b} {c = c} {t = t} {u = u} {what = what} a r s fed cuts is same below

-- what is fed behind a short rest
pub fed_more : {what : Took} (a b c r s t u : List ℕ) → HasFed a b r s → Cuts s what t → what ≡ took.NotYet → HasFed b c t u
    → HasFed a c r u
fed_more {what} a b c r s t u fed cuts is more =
    fed_join a b c r s u fed (subst (λ x. HasFed b c x u) (not_yet s t what cuts is).1 more)

-- what is taken behind a short rest
pub takes_more : {first now after : Intake} {what : Took} (rest : List ℕ) → TakesPieces first now
    → HasFed first.asked now.asked first.rest now.rest → Cuts now.rest what rest → what ≡ took.NotYet → now.most ≡ first.most
    → TakesPieces (record now { rest = rest }) after → TakesPieces first after
takes_more {first} {now} {after} {what} rest one fed cuts is same two =
    takes_join one fed same
    (subst (λ (r : List ℕ). TakesPieces (record now { rest = r }) after) (not_yet now.rest rest what cuts is).1 two)
