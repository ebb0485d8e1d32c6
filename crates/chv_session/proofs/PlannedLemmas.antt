-- What comes behind what was found and made, and what was put of it.
use Rattle.std.proofs.Common.{◌≡◌, ◌≢◌, ◌≤◌, ◌<◌, ◌==◌, ℕ, Bool, true, false, List, [], ◌∷◌, ◌++◌, length, Option, Some, None, refl, sym, ap, subst, ◌∙◌, inl, inr, arith}
use Rattle.std.proofs.lemmas.List.{append-nil}
use Rattle.std.proofs.lemmas.Bool.{eqb-true}
use Rattle.chv_defs_api.specs.declared.request.Request.{Request}
use Rattle.chv_defs_api.specs.declared.session.SessionEnd.{SessionEnd}
use Rattle.chv_defs_api.specs.declared.session.SessionEnd.TheVariants as end
use Rattle.chv_defs_api.specs.Desks.{Answer}
use Rattle.chv_io.specs.Outside.{Rose, Gains, GainsPart}
use Rattle.chv_defs_api.specs.Requests.{BeginsWith, IsShort}
use Rattle.chv_defs_api.specs.Routes.{refusal_bytes}
use Rattle.chv_defs_api.specs.SessionBytes.{Answered, session_limit}
use Rattle.chv_session.specs.declared.fill.Found.{Found}
use Rattle.chv_session.specs.declared.fill.Found.TheVariants as found
use Rattle.chv_session.specs.declared.respond.Response.{Response}
use Rattle.chv_session.specs.declared.respond.Then.{Then}
use Rattle.chv_session.specs.declared.respond.Then.TheVariants as then_is
use Rattle.chv_session.specs.declared.state.State.{State}
use Rattle.chv_session.specs.declared.state.State.TheVariants as state
use Rattle.chv_session.specs.Moment.{Moment}
use Rattle.chv_session.specs.Found.{IsFound, IsCaused}
use Rattle.chv_session.specs.Response.{StopsIn, Responds, Sent, sent, Sends, then_after, end_at}
use Rattle.chv_session.specs.Step.{state_behind, Answers, Hand, hand_between, ComesToEnd}

-- ---- what is put, and what rose

pub part_none : (put put_after : Option (List ℕ)) → put_after ≡ put → GainsPart put put_after []
part_none None put_after same = same
part_none (Some before) None same = absurd (cc same)
part_none (Some before) (Some after) same = let e : after ≡ before = cc in (0, omega arith, e ∙ sym (append-nil before))

rose_within : (a b c d : ℕ) → a ≤ b → Rose b c → c ≤ d → Rose a d
rose_within a b c d earlier rose later = omega arith

pub caused_later : (what : Found) (a b c : ℕ) → IsCaused what a b → b ≤ c → IsCaused what a c
caused_later found.Fault a b c caused later = omega arith
caused_later (found.Request request) a b c caused later = tt
caused_later (found.Bad rule) a b c caused later = tt
caused_later found.End a b c caused later = tt
caused_later found.Limit a b c caused later = tt

-- with a count of faults from before, and one from behind
pub sends_within : (response : Option (List ℕ)) (planned then_of : Then) (before after : Sent) (a d : ℕ)
    → a ≤ before.writes → after.writes ≤ d → Sends response planned then_of before after
    → Sends response planned then_of (record before { writes = a }) (record after { writes = d })
sends_within None planned then_of before after a d earlier later sends = sends
sends_within (Some bytes) planned then_of before after a d earlier later (inl done) = inl done
sends_within (Some bytes) planned then_of before after a d earlier later (inr failed) =
    inr (failed.0, failed.1, failed.2, rose_within a before.writes after.writes d earlier failed.3 later)

-- ---- what comes then

-- what a session had sent
abbrev pub sent_at : Moment → Sent
sent_at m = sent m.talk.replied m.put m.writes

-- what was at hand was replied to, and the session is to stand there
abbrev pub Replies : State → Moment → Moment → List ℕ → List Answer → Type 0
Replies stands before now more made =
    (reply : List ℕ) × Answers stands (before.talk.rest ++ more) now.talk.rest reply made
    × (now.talk.replied ≡ before.talk.replied ++ reply) × Gains before.put now.put reply × (now.refused ≡ before.refused)

-- by what comes then: what a session that took these bytes and made these calls had found, put and kept
abbrev pub Comes : Then → Moment → Moment → List ℕ → List Answer → Type 0
Comes then_is.GoOn before now more made = Replies state.Open before now more made
Comes (then_is.Leave how) before now more made = Replies (state.Leaving how) before now more made
Comes then_is.Stop before now more made =
    (request : Request) × BeginsWith (before.talk.rest ++ more) request now.talk.rest × StopsIn request made now.refused
    × (now.talk.replied ≡ before.talk.replied) × (now.put ≡ before.put)
Comes (then_is.End how) before now more made =
    (unsent : List ℕ) × ComesToEnd how (hand_between before more now) unsent made × (now.talk.replied ≡ before.talk.replied)
    × GainsPart before.put now.put unsent × (now.refused ≡ before.refused)

-- no reply
sent_none : (planned then_of : Then) (before now : Moment) (more : List ℕ) (made : List Answer)
    → Sends None planned then_of (sent_at before) (sent_at now)
    → (now.talk.replied ≡ before.talk.replied → now.put ≡ before.put → Comes planned before now more made)
    → Comes then_of before now more made
sent_none planned then_of before now more made sends comes =
    subst (λ t. Comes t before now more made) (sym sends.0) (comes sends.1 sends.2)

-- a reply, put or not
sent_some : (planned then_of : Then) (bytes : List ℕ) (before now : Moment) (more : List ℕ) (made : List Answer)
    → Sends (Some bytes) planned then_of (sent_at before) (sent_at now)
    → (now.talk.replied ≡ before.talk.replied ++ bytes → Gains before.put now.put bytes → Comes planned before now more made)
    → (Rose before.writes now.writes → ComesToEnd end.Fault (hand_between before more now) bytes made)
    → now.refused ≡ before.refused → Comes then_of before now more made
sent_some planned then_of bytes before now more made (inl done) whole part goes =
    subst (λ t. Comes t before now more made) (sym done.0) (whole done.1 done.2)
sent_some planned then_of bytes before now more made (inr failed) whole part goes =
    subst (λ t. Comes t before now more made) (sym failed.0) (bytes, part failed.3, failed.1, failed.2, goes)

-- ---- by what was found

answer_comes : (request : Request) (last : Bool) (bytes : List ℕ) (before now : Moment) (more : List ℕ) (made : List Answer)
    → request.last ≡ last → BeginsWith (before.talk.rest ++ more) request now.talk.rest → Answered request made bytes
    → now.refused ≡ before.refused → now.talk.replied ≡ before.talk.replied ++ bytes → Gains before.put now.put bytes
    → Comes (then_after last) before now more made
answer_comes request true bytes before now more made is begins answered goes replies gains =
    (bytes, inl (request, begins, answered, sym (ap state_behind is)), replies, gains, goes)
answer_comes request false bytes before now more made is begins answered goes replies gains =
    (bytes, inl (request, begins, answered, sym (ap state_behind is)), replies, gains, goes)

empty_is : (rest : List ℕ) → (length rest == 0) ≡ true → rest ≡ []
empty_is [] e = refl
empty_is (x ∷ rest) e = let none : length (x ∷ rest) ≡ 0 = eqb-true (length (x ∷ rest)) 0 e in absurd (omega arith)

full_is : (rest : List ℕ) → (length rest == 0) ≡ false → rest ≢ []
full_is [] e same = let some : true ≡ false = e in absurd (cc some)
full_is (x ∷ rest) e same = absurd (cc same)

end_comes : (all : Bool) (hand : Hand) → all ≡ (length hand.rest == 0) → hand.rest ≡ hand.bytes → IsShort hand.bytes
    → length hand.asked < session_limit → ComesToEnd (end_at all) hand [] []
end_comes true hand is same short below =
    let none : hand.rest ≡ [] = empty_is hand.rest (sym is) in (sym same ∙ none, none, below, refl, refl)
end_comes false hand is same short below = (short, λ e. full_is hand.rest (sym is) (same ∙ e), same, below, refl, refl)

-- an end with no reply
ends_silent : (how : SessionEnd) (planned : Then) (before now : Moment) (more : List ℕ) (made : List Answer)
    → planned ≡ then_is.End how → ComesToEnd how (hand_between before more now) [] made → now.refused ≡ before.refused
    → now.talk.replied ≡ before.talk.replied → now.put ≡ before.put → Comes planned before now more made
ends_silent how planned before now more made is comes goes replies same =
    subst (λ t. Comes t before now more made) (sym is) ([], comes, replies, part_none before.put now.put same, goes)

pub comes_is : (what : Found) (all : Bool) (response : Response) (then_of : Then) (before now : Moment) (more : List ℕ) (made : List Answer)
    → IsFound what (before.talk.rest ++ more) now.talk.rest now.talk.asked → all ≡ (length now.talk.rest == 0)
    → Responds what all response made before.refused now.refused
    → Sends response.reply response.then then_of (sent_at before) (sent_at now)
    → IsCaused what before.reads now.reads → Comes then_of before now more made
comes_is (found.Request request) all response then_of before now more made is_found is_all (inl serves) sends caused =
    sent_some response.then then_of serves.0 before now more made
    (subst (λ r. Sends r response.then then_of (sent_at before) (sent_at now)) serves.1 sends)
    (λ replies gains. subst (λ t. Comes t before now more made) (sym serves.2)
    (answer_comes request request.last serves.0 before now more made refl is_found serves.3 serves.4 replies gains))
    (λ rose. inr (inr (request, is_found, serves.3, rose))) serves.4
comes_is (found.Request request) all response then_of before now more made is_found is_all (inr stops) sends caused =
    sent_none response.then then_of before now more made
    (subst (λ r. Sends r response.then then_of (sent_at before) (sent_at now)) stops.0 sends)
    (λ replies same. subst (λ t. Comes t before now more made) (sym stops.1) (request, is_found, stops.2, replies, same))
comes_is (found.Bad rule) all response then_of before now more made is_found is_all responds sends caused =
    sent_some response.then then_of (refusal_bytes rule true) before now more made
    (subst (λ r. Sends r response.then then_of (sent_at before) (sent_at now)) responds.0 sends)
    (λ replies gains. subst (λ t. Comes t before now more made) (sym responds.1)
    (refusal_bytes rule true, inr (rule, is_found.0, is_found.1, responds.2, refl, refl), replies, gains, responds.3))
    (λ rose. inr (inl (rule, is_found.0, is_found.1, refl, responds.2, rose))) responds.3
comes_is found.End all response then_of before now more made is_found is_all responds sends caused =
    sent_none response.then then_of before now more made
    (subst (λ r. Sends r response.then then_of (sent_at before) (sent_at now)) responds.0 sends)
    (ends_silent (end_at all) response.then before now more made responds.1
    (subst (λ m. ComesToEnd (end_at all) (hand_between before more now) [] m) (sym responds.2)
    (end_comes all (hand_between before more now) is_all is_found.1 is_found.0 is_found.2)) responds.3)
comes_is found.Fault all response then_of before now more made is_found is_all responds sends caused =
    sent_none response.then then_of before now more made
    (subst (λ r. Sends r response.then then_of (sent_at before) (sent_at now)) responds.0 sends)
    (ends_silent end.Fault response.then before now more made responds.1
    (inl (is_found.0, is_found.1, is_found.2, refl, responds.2, caused)) responds.3)
comes_is found.Limit all response then_of before now more made is_found is_all responds sends caused =
    sent_none response.then then_of before now more made
    (subst (λ r. Sends r response.then then_of (sent_at before) (sent_at now)) responds.0 sends)
    (ends_silent end.Limit response.then before now more made responds.1
    (is_found.0, is_found.1, is_found.2, refl, responds.2) responds.3)
