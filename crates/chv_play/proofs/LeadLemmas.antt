-- What comes of a turn at the control value is what the schedule says.
use Rattle.std.proofs.Common.{◌≡◌, ◌≢◌, ◌≤◌, inl, inr, ℕ, ◌==◌, cond, Bool, true, false, List, [], ◌∷◌, ◌++◌, Option, None, Some, Ok, Err, refl, sym, ap, subst, ◌∙◌, arith}
use Rattle.std.proofs.lemmas.List.{append-nil, append_cancel_left}
use Rattle.std.proofs.lemmas.List.Elements.{filter-append}
use Rattle.std.proofs.lemmas.Grind.{flat_map-append}
use Rattle.std.proofs.lemmas.Bool.Decides.{nat_tests}
use Rattle.std.specs.List.{filter, flat_map}
use Rattle.chv_defs_base.specs.declared.book.Full.{Full}
use Rattle.chv_defs_api.specs.declared.shelf.OnShelf.{OnShelf}
use Rattle.chv_defs_api.specs.declared.control.ControlCall.{ControlCall}
use Rattle.chv_defs_api.specs.declared.control.ControlCall.TheVariants as call
use Rattle.chv_defs_api.specs.declared.control.ControlReply.{ControlReply}
use Rattle.chv_defs_api.specs.declared.control.ControlReply.TheVariants as reply
use Rattle.chv_defs_control.specs.ApiStep.{after, reply_to}
use Rattle.chv_defs_api.specs.Desks.{Answer, IsOnlyAsked}
use Rattle.chv_defs_control.specs.LegalControl.{answers_by}
use Rattle.chv_defs_api.specs.Routes.{reply_to_call}
use Rattle.chv_defs.specs.declared.trace.BankTrace.{BankTrace}
use Rattle.chv_defs.specs.Schedule.{Stage, Turn, Answers, Leaves, with_reply, with_entry, after_turn, replies_to}
use Rattle.chv_defs.specs.Schedule as schedule
use Rattle.chv_session.specs.declared.next.Next.{Next}
use Rattle.chv_session.specs.declared.state.State.TheVariants as state
use Rattle.chv_session.specs.Moment.{moment}
use Rattle.chv_session.specs.Step.{ComesTo, is_over}
use Rattle.chv_session.specs.Taking.{TakesPieces}
use Rattle.chv_session.specs.Wire.{Drains}
use Rattle.chv_store.specs.declared.any_disk.AnyDisk.{AnyDisk}
use Rattle.chv_control.specs.Shelf.{shelf_of}
use Rattle.chv_play.specs.declared.desk.PlayDesk.{PlayDesk}
use Rattle.chv_play.specs.declared.desk.Refused.{Refused}
use Rattle.chv_play.specs.declared.seat.Seat.{Seat}
use Rattle.chv_play.specs.Ahead.{Does}
use Rattle.chv_play.specs.Desk.{call_of, entry_at, full_of, full_for}
use Rattle.chv_play.specs.Order.{played}
use Rattle.chv_play.specs.Round.{stage_at, TurnsOut}
use Rattle.chv_play.specs.Turns.{call_in, with_reply_of, TurnedOrHalted}
use Rattle.chv_play.proofs.DeskLemmas.{Enters, enters_stays, enters_no_other, never_holding, TellsFull, CallsLeave, asks_at, asked_leaves}
use Rattle.chv_play.proofs.NextLemmas.{turned_or_halted}
use Rattle.chv_play.proofs.OrderLemmas.{turn_ordered}
use Rattle.chv_play.specs.Banks.{PlayedControl, entered_with_banks}
use Rattle.chv_play.proofs.BankLemmas.{traced_behind}
use Rattle.chv_play.proofs.TurnLemmas.{intake_at}

-- ---- what the schedule says

-- a call that is answered Holding was not entered
held_never : {A D : Type 0} (shelf : List OnShelf) (caller : ℕ) (c : ControlCall) (more : List Answer) (old new : PlayedControl D)
    → Enters shelf caller old (record { call = c; reply = reply.Holding } ∷ more) new → A
held_never {A} {D} shelf caller c more old new enters = absurd (cc (never_holding shelf old.machine c reply.Holding enters.1))

-- the one call of a turn was entered
one_entered : {D : Type 0} (shelf : List OnShelf) (caller : ℕ) (c : ControlCall) (answer : Answer) (made : List Answer) (old new : PlayedControl D)
    → Enters shelf caller old made new → made ≡ answer ∷ [] → answer.call ≡ c
    → Enters shelf caller old (record { call = c; reply = answer.reply } ∷ []) new
one_entered {D} shelf caller c answer made old new enters is same =
    subst (λ (calls : List Answer). Enters shelf caller old calls new)
    (is ∙ ap (λ (x : ControlCall). record { call = x; reply = answer.reply } ∷ []) same) enters

-- the stage behind an entry, with its banks
stage_entered : {D : Type 0} (shelf : List OnShelf) (caller : ℕ) (c : ControlCall) (control : PlayedControl D) (replies : List (ℕ × List ℕ))
    → with_entry shelf caller c (stage_at control replies) ≡ stage_at (entered_with_banks control (entry_at shelf control caller c)) replies
stage_entered {D} shelf caller c control replies =
    let e = entry_at shelf control caller c in
    ap (λ (bs : List BankTrace). record {
      machine = after control.machine caller c (reply_to shelf control.machine c);
      history = control.history ++ e ∷ [];
      banks = bs;
      replies = replies;
    }) (traced_behind control.machine e control.zones)

pub leads : {D : Type 0} (shelf : List OnShelf) (caller : ℕ) (turn : Turn) (old new : PlayedControl D) (made : List Answer) (bytes : List ℕ)
    → Enters shelf caller old made new → Does turn made bytes → (replies : List (ℕ × List ℕ))
    → after_turn shelf (stage_at old replies) caller turn ≡ Ok (stage_at new (with_reply_of turn caller bytes replies))
leads {D} shelf caller (Answers (Err rule) last) old new made bytes enters does replies =
    let same : new ≡ old = subst (λ (calls : List Answer). Enters shelf caller old calls new) does.0 enters in
    ap (λ (b : List ℕ). Ok (stage_at old (replies ++ (caller, b) ∷ []))) (sym does.1)
    ∙ ap (λ (x : PlayedControl D). Ok (stage_at x (replies ++ (caller, bytes) ∷ []))) (sym same)
leads {D} shelf caller (Answers (Ok c) last) old new made bytes enters (answer, (goes, inl one), is) replies =
    let s = stage_at old replies in
    let entry = one_entered shelf caller c answer made old new enters one.1 one.0 in
    let bytes_are : reply_to_call c (reply_to shelf old.machine c) last ≡ bytes =
    sym (is ∙ ap (λ (x : ControlCall). reply_to_call x answer.reply last) one.0 ∙ ap (λ (x : ControlReply). reply_to_call c x last) entry.1) in
    ap (λ (f : Option Full). schedule.unless_full f (with_reply caller (reply_to_call c (reply_to shelf old.machine c) last) (with_entry shelf caller c s))) entry.0
    ∙ ap (λ (b : List ℕ). Ok (with_reply caller b (with_entry shelf caller c s))) bytes_are
    ∙ ap (λ (x : Stage). Ok (with_reply caller bytes x)) (stage_entered shelf caller c old replies)
    ∙ ap (λ (x : PlayedControl D). Ok (stage_at x (replies ++ (caller, bytes) ∷ []))) (sym entry.2)
leads {D} shelf caller (Answers (Ok c) last) old new made bytes enters (answer, (goes, inr two), is) replies =
    held_never shelf caller c (answer ∷ []) old new (subst (λ (calls : List Answer). Enters shelf caller old calls new) two.1 enters)
leads {D} shelf caller (Leaves how) old new made bytes enters (bye, is_bye, made_is, none) replies =
    let entry = one_entered shelf caller call.Bye bye made old new enters made_is is_bye in
    ap (λ (f : Option Full). schedule.unless_full f (with_entry shelf caller call.Bye (stage_at old replies))) entry.0
    ∙ ap (λ (x : Stage). Ok x) (stage_entered shelf caller call.Bye old replies)
    ∙ ap (λ (x : PlayedControl D). Ok (stage_at x replies)) (sym entry.2)

some_is : (a b : ControlCall) → Some a ≡ Some b → a ≡ b
some_is a b same = cc

pub leads_full : {D : Type 0} (shelf : List OnShelf) (caller : ℕ) (turn : Turn) (c : ControlCall) (old : PlayedControl D) (full : Full)
    → call_in turn ≡ Some c → full_for shelf old caller c ≡ Some full → (replies : List (ℕ × List ℕ))
    → after_turn shelf (stage_at old replies) caller turn ≡ Err full
leads_full {D} shelf caller (Answers (Err rule) last) c old full is finds replies = absurd (cc is)
leads_full {D} shelf caller (Answers (Ok made) last) c old full is finds replies =
    let same : made ≡ c = some_is made c is in
    ap (λ (f : Option Full). schedule.unless_full f (with_reply caller (reply_to_call made (reply_to shelf old.machine made) last)
    (with_entry shelf caller made (stage_at old replies)))) (ap (full_for shelf old caller) same ∙ finds)
leads_full {D} shelf caller (Leaves how) c old full is finds replies =
    let same : call.Bye ≡ c = some_is call.Bye c is in
    ap (λ (f : Option Full). schedule.unless_full f (with_entry shelf caller call.Bye (stage_at old replies))) (ap (full_for shelf old caller) same ∙ finds)

-- ---- replies

replies_more : (k session : ℕ) (bytes : List ℕ) (replies : List (ℕ × List ℕ))
    → replies_to k (replies ++ (session, bytes) ∷ []) ≡ replies_to k replies ++ replies_to k ((session, bytes) ∷ [])
replies_more k session bytes replies =
    ap (λ (rs : List (ℕ × List ℕ)). flat_map (λ (r : ℕ × List ℕ). r.1) rs) (filter-append (λ (r : ℕ × List ℕ). r.0 == k) replies ((session, bytes) ∷ []))
    ∙ flat_map-append (λ (r : ℕ × List ℕ). r.1) (filter (λ (r : ℕ × List ℕ). r.0 == k) replies) (filter (λ (r : ℕ × List ℕ). r.0 == k) ((session, bytes) ∷ []))

one_reply : (b : Bool) (bytes : List ℕ) (r : ℕ × List ℕ) → b ≡ true → r.1 ≡ bytes → flat_map (λ (r : ℕ × List ℕ). r.1) (cond b (r ∷ []) []) ≡ bytes
one_reply true bytes r is same = append-nil r.1 ∙ same
one_reply false bytes r is same = absurd (cc is)

no_reply : (b : Bool) (r : ℕ × List ℕ) → b ≡ false → flat_map (λ (r : ℕ × List ℕ). r.1) (cond b (r ∷ []) []) ≡ []
no_reply true r is = absurd (cc is)
no_reply false r is = refl

pub puts : (turn : Turn) (session : ℕ) (made : List Answer) (bytes before after : List ℕ) (replies : List (ℕ × List ℕ)) → Does turn made bytes
    → after ≡ before ++ bytes → replies_to session replies ≡ before → replies_to session (with_reply_of turn session bytes replies) ≡ after
puts (Answers what last) session made bytes before after replies does grows is =
    replies_more session session bytes replies
    ∙ ap (λ (l : List ℕ). l ++ replies_to session ((session, bytes) ∷ [])) is
    ∙ ap (λ (l : List ℕ). before ++ l) (one_reply (session == session) bytes (session, bytes) (grind (arith, nat_tests)) refl) ∙ sym grows
puts (Leaves how) session made bytes before after replies does grows is =
    is ∙ sym (append-nil before) ∙ ap (λ (l : List ℕ). before ++ l) (sym does.3) ∙ sym grows

pub puts_no_other : (turn : Turn) (session other : ℕ) (bytes : List ℕ) (replies : List (ℕ × List ℕ)) → other ≢ session
    → replies_to other (with_reply_of turn session bytes replies) ≡ replies_to other replies
puts_no_other (Answers what last) session other bytes replies differs =
    replies_more other session bytes replies
    ∙ ap (λ (l : List ℕ). replies_to other replies ++ l) (no_reply (session == other) (session, bytes) (grind (arith, nat_tests, differs)))
    ∙ append-nil (replies_to other replies)
puts_no_other (Leaves how) session other bytes replies differs = refl

-- ---- a whole turn

-- What `next` says of a seat's session at the desk, of whose stream a read gives so much.
pub record SaysAt {D : Type 0} (most : ℕ) (count : AnyDisk D → ℕ) (said : Next) (desk desk_after : PlayDesk D) (seat after : Seat) : Type 0 where
  pub many : 4096 ≤ most
  pub goes : is_over seat.session.state ≡ false
  pub takes : TakesPieces (intake_at most seat.session seat.link.left) (intake_at most after.session after.link.left)
  pub drains : seat.session.state ≡ state.Open → Drains said (intake_at most seat.session seat.link.left) (intake_at most after.session after.link.left)
  pub rests : seat.session.state ≢ state.Open → after.link.left ≡ seat.link.left
  pub comes : ComesTo said
      (moment seat.session (answers_by desk.caller desk.control.history) (call_of desk.refused) None 0 0)
      (moment after.session (answers_by desk_after.caller desk_after.control.history) (call_of desk_after.refused) None 0 0)
  pub stays : desk_after.caller ≡ desk.caller
  pub asked : IsOnlyAsked (asks_at count) desk desk_after

-- a desk at the turn of this caller
abbrev pub at_turn : {D : Type 0} → PlayDesk D → ℕ → PlayDesk D
at_turn desk caller = record desk { caller = caller; refused = None }

turns_at : {D : Type 0} (most : ℕ) (count : AnyDisk D → ℕ) (said : Next) (desk desk_after : PlayDesk D) (caller : ℕ) (seat after : Seat)
    → SaysAt most count said (at_turn desk caller) desk_after seat after
    → TurnsOut (shelf_of count desk.control.disks) caller desk.control desk_after.control seat after (full_of desk_after.refused)
turns_at {D} most count said desk desk_after caller seat after says = go desk_after.refused refl turned
  where
    shelf : List OnShelf
    shelf = shelf_of count desk.control.disks

    leaves : CallsLeave shelf (at_turn desk caller) desk_after
    leaves = asked_leaves count (at_turn desk caller) desk_after says.asked

    answers : List Answer
    answers = answers_by caller desk.control.history

    answers_after : List Answer
    answers_after = answers_by caller desk_after.control.history

    made_is : (made : List Answer) → answers_after ≡ answers ++ made → leaves.made ≡ made
    made_is made calls = append_cancel_left answers leaves.made made (sym leaves.answers ∙ calls)

    entered : (made : List Answer) → answers_after ≡ answers ++ made → Enters shelf caller desk.control made desk_after.control
    entered made calls = subst (λ (calls : List Answer). Enters shelf caller desk.control calls desk_after.control) (made_is made calls) leaves.enters

    comes : ComesTo said (played seat.session answers) (moment after.session answers_after (call_of desk_after.refused) None 0 0)
    comes = subst (λ (n : ℕ). ComesTo said (played seat.session answers)
        (moment after.session (answers_by n desk_after.control.history) (call_of desk_after.refused) None 0 0)) says.stays says.comes

    turned : TurnedOrHalted seat.session after.session seat.link.left after.link.left answers answers_after (call_of desk_after.refused)
    turned = turned_or_halted most said seat.session after.session seat.link.left after.link.left answers answers_after (call_of desk_after.refused) (record {
      many = says.many;
      goes = says.goes;
      takes = says.takes;
      drains = says.drains;
      rests = says.rests;
      comes = comes;
      none_holds = λ c made calls holds. held_never shelf caller c [] desk.control desk_after.control
          (subst (λ (calls : List Answer). Enters shelf caller desk.control calls desk_after.control) holds (entered made calls));
    })

    go : (refused : Option Refused) → desk_after.refused ≡ refused
        → TurnedOrHalted seat.session after.session seat.link.left after.link.left answers answers_after (call_of refused)
        → TurnsOut shelf caller desk.control desk_after.control seat after (full_of refused)
    go None is (made, calls, took) = record {
      turn = took.turn;
      reply = took.reply;
      more = took.more;
      first = took.first;
      asks = took.asks;
      gives = took.gives;
      puts = λ replies is. puts took.turn caller made took.reply seat.session.replied after.session.replied replies took.does took.replied is;
      puts_no_other = λ replies other differs. puts_no_other took.turn caller other took.reply replies differs;
      leads = leads shelf caller took.turn desk.control desk_after.control made took.reply (entered made calls) took.does;
      calls = turn_ordered said seat.session after.session answers answers_after says.goes
          (subst (λ (r : Option Refused). ComesTo said (played seat.session answers) (moment after.session answers_after (call_of r) None 0 0)) is comes);
      calls_no_other = λ other differs. enters_no_other shelf caller other desk.control made desk_after.control differs (entered made calls);
    }
    go (Some refused) is (same, halts) =
        let none = made_is [] (same ∙ sym (append-nil answers)) in
        let tells : full_for shelf desk.control caller refused.call ≡ Some refused.full =
        subst (TellsFull shelf caller desk.control) is (leaves.tells none tt) in
        record {
          turn = halts.turn;
          rest = halts.rest;
          first = halts.first;
          leads = leads_full shelf caller halts.turn refused.call desk.control refused.full halts.makes tells;
        }

pub turns_out : {D : Type 0} (most : ℕ) (count : AnyDisk D → ℕ) (said : Next) (desk begun desk_after : PlayDesk D) (caller : ℕ) (seat after : Seat)
    → begun ≡ at_turn desk caller → SaysAt most count said begun desk_after seat after
    → TurnsOut (shelf_of count desk.control.disks) caller desk.control desk_after.control seat after (full_of desk_after.refused)
turns_out {D} most count said desk begun desk_after caller seat after is says =
    turns_at most count said desk desk_after caller seat after (subst (λ (d : PlayDesk D). SaysAt most count said d desk_after seat after) is says)

-- whatever `next` answers, the disks stay, and the number of sessions
pub turn_stays : {D : Type 0} (count : AnyDisk D → ℕ) (desk begun desk_after : PlayDesk D) (caller : ℕ) → begun ≡ at_turn desk caller
    → IsOnlyAsked (asks_at count) begun desk_after
    → (desk_after.control.disks ≡ desk.control.disks) × (desk_after.control.sessions ≡ desk.control.sessions)
turn_stays {D} count desk begun desk_after caller is asked =
    let leaves = asked_leaves count begun desk_after asked in
    let stays = enters_stays (shelf_of count begun.control.disks) begun.caller begun.control leaves.made desk_after.control leaves.enters in
    (stays.0 ∙ ap (λ (d : PlayDesk D). d.control.disks) is, stays.1 ∙ ap (λ (d : PlayDesk D). d.control.sessions) is)
