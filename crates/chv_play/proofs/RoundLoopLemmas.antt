-- A round, seat by seat.
use Rattle.std.proofs.Common.{◌≡◌, ◌<◌, inl, inr, ℕ, suc, ◌+◌, List, ◌∷◌, ◌++◌, length, map, get_or, Option, None, Some, is_some, true, false, Result, Ok, Err, sym, ap, subst, ◌∙◌, arith, append_assoc}
use Rattle.std.proofs.Math.ListN.{set}
use Rattle.std.proofs.lemmas.List.{set-get_or}
use Rattle.chv_defs_base.specs.declared.book.Full.{Full}
use Rattle.chv_defs_api.specs.declared.shelf.OnShelf.{OnShelf}
use Rattle.chv_defs.specs.Schedule.{Turn, Visit, Stage, then_from, after_turn, after_turns, all_turns, numbered}
use Rattle.chv_play.specs.declared.seat.Seat.{Seat}
use Rattle.chv_play.specs.Ahead.{Ahead}
use Rattle.chv_play.specs.Playing.{visit_ahead, round_left, behind_round, turns_left, EachFrom, IsPut, Attends}
use Rattle.chv_play.specs.Order.{IsOrdered, IsOrderedIn}
use Rattle.chv_play.specs.Turns.{with_reply_of}
use Rattle.chv_play.specs.Round.{TakesTurn, FindsFull, IsServed, Stands, GoesOn, stage_at, whole}
use Rattle.chv_play.proofs.EachLemmas.{each_set, for_each_set}
use Rattle.chv_play.proofs.SeatLemmas.{begins, round_ends, turn_found, turn_taken, turn_skipped, behind_step, behind_skip, behind_over}
use Rattle.chv_play.specs.Banks.{PlayedControl}

-- ---- streams

attends_on : {D : Type 0} (shelf : List OnShelf) (caller : ℕ) (old new : PlayedControl D) (seat after : Seat) → TakesTurn shelf caller old new seat after
    → (stream : List ℕ) → Attends stream seat → Attends stream after
attends_on {D} shelf caller old new seat after takes stream attends = record {
  split = attends.split ∙ ap (λ (l : List ℕ). seat.session.asked ++ l) takes.gives
      ∙ sym (append_assoc seat.session.asked takes.more after.link.left) ∙ ap (λ (l : List ℕ). l ++ after.link.left) (sym takes.asks);
  taken = sym (ap (λ (a : Ahead). a.taken) takes.first) ∙ attends.taken;
  how = sym (ap (λ (a : Ahead). a.how) takes.first) ∙ attends.how;
}

-- ---- a step of the loop

-- the turn that is taken leads on
lead_on : (shelf : List OnShelf) (s : Stage) (result : Result Stage Full) (n : ℕ) (turn : Turn) (turns : List (ℕ × Turn))
    → after_turn shelf s n turn ≡ result → after_turns shelf s ((n, turn) ∷ turns) ≡ then_from result (λ next. after_turns shelf next turns)
lead_on shelf s result n turn turns is = ap (λ (r : Result Stage Full). then_from r (λ next. after_turns shelf next turns)) is

same_set : (i : ℕ) (seats : List Seat) (seat after : Seat) → get_or seats i seat ≡ seat → after ≡ seat → set seats i after ≡ seats
same_set i seats seat after is same =
    ap (λ (s : Seat). set seats i s) (same ∙ sym is) ∙ set-get_or seats i seat

pub stands_on : {D : Type 0} (shelf : List OnShelf) (streams : List (List ℕ)) (old new : PlayedControl D) (i : ℕ) (seats : List Seat) (seat after : Seat)
    → i < length seats → get_or seats i seat ≡ seat → IsServed shelf (i + 1) old new seat after None
    → Stands shelf streams old i seats → Stands shelf streams new (suc i) (set seats i after)
stands_on {D} shelf streams old new i seats seat after within is (inl takes) stands =
    let replies = stands.under_way.replies in
    let number : 1 + i ≡ i + 1 = omega arith in
    let turns : turns_left i seats ≡ (i + 1, takes.turn) ∷ turns_left (suc i) (set seats i after) =
    turn_taken i seats seat after takes.turn within is takes.first ∙ ap (λ n. (n, takes.turn) ∷ turns_left (suc i) (set seats i after)) number in
    record {
      under_way = record {
        replies = with_reply_of takes.turn (i + 1) takes.reply replies;
        put = each_set (IsPut replies) (IsPut (with_reply_of takes.turn (i + 1) takes.reply replies)) 1 i (i + 1) seats seat after (sym number) within is
            (λ other one differs is_put. takes.puts_no_other replies other differs ∙ is_put) (takes.puts replies) stands.under_way.put;
        leads = sym (ap (after_turns shelf (stage_at old replies)) turns
            ∙ lead_on shelf (stage_at old replies) (Ok (stage_at new (with_reply_of takes.turn (i + 1) takes.reply replies))) (i + 1) takes.turn
            (turns_left (suc i) (set seats i after)) (takes.leads replies)) ∙ stands.under_way.leads;
      };
      attend = for_each_set Attends i streams seats seat after within is (attends_on shelf (i + 1) old new seat after takes) stands.attend;
      ordered = each_set (IsOrderedIn old.history) (IsOrderedIn new.history) 1 i (i + 1) seats seat after (sym number) within is
          (λ other one differs ordered. subst (IsOrdered one.session) (sym (takes.calls_no_other other differs)) ordered) takes.calls stands.ordered;
    }
stands_on {D} shelf streams old new i seats seat after within is (inr rests) stands =
    let seats_are : set seats i after ≡ seats = same_set i seats seat after is rests.2 in
    subst (λ (ss : List Seat). Stands shelf streams new (suc i) ss) (sym seats_are) (record {
      under_way = record {
        replies = stands.under_way.replies;
        put = stands.under_way.put;
        leads = ap (λ (c : PlayedControl D). after_turns shelf (stage_at c stands.under_way.replies) (turns_left (suc i) seats)) rests.1
            ∙ ap (after_turns shelf (stage_at old stands.under_way.replies)) (sym (turn_skipped i seats seat within is rests.0))
            ∙ stands.under_way.leads;
      };
      attend = stands.attend;
      ordered = subst (λ (c : PlayedControl D). EachFrom (IsOrderedIn c.history) 1 seats) (sym rests.1) stands.ordered;
    })

pub stands_full : {D : Type 0} (shelf : List OnShelf) (streams : List (List ℕ)) (old : PlayedControl D) (i : ℕ) (seats : List Seat) (seat : Seat) (full : Full)
    → i < length seats → get_or seats i seat ≡ seat → FindsFull shelf (i + 1) old seat full
    → Stands shelf streams old i seats → whole shelf streams ≡ Err full
stands_full {D} shelf streams old i seats seat full within is finds stands =
    let replies = stands.under_way.replies in
    let number : 1 + i ≡ i + 1 = omega arith in
    let behind = round_left 1 (suc i) seats ++ all_turns (numbered (behind_round i seats)) in
    let turns : turns_left i seats ≡ (i + 1, finds.turn) ∷ behind =
    turn_found i seats seat finds.turn finds.rest within is finds.first ∙ ap (λ n. (n, finds.turn) ∷ behind) number in
    sym stands.under_way.leads ∙ ap (after_turns shelf (stage_at old replies)) turns
    ∙ lead_on shelf (stage_at old replies) (Err full) (i + 1) finds.turn behind (finds.leads replies)

-- ---- a round begins and ends

pub stands_round : {D : Type 0} (shelf : List OnShelf) (streams : List (List ℕ)) (control : PlayedControl D) (i : ℕ) (seats : List Seat)
    → i ≡ length seats → Stands shelf streams control i seats → Stands shelf streams control 0 seats
stands_round {D} shelf streams control i seats over stands = record {
  under_way = record {
    replies = stands.under_way.replies;
    put = stands.under_way.put;
    leads = ap (after_turns shelf (stage_at control stands.under_way.replies))
        (begins seats ∙ sym (round_ends seats) ∙ ap (λ n. turns_left n seats) (sym over)) ∙ stands.under_way.leads;
  };
  attend = stands.attend;
  ordered = stands.ordered;
}

-- ---- as the loop has it

-- an answer that is no book that was full
pub is_none_served : {D : Type 0} (shelf : List OnShelf) (caller : ℕ) (old new : PlayedControl D) (seat after : Seat) (full : Option Full)
    → is_some full ≡ false → IsServed shelf caller old new seat after full → IsServed shelf caller old new seat after None
is_none_served {D} shelf caller old new seat after None none served = served
is_none_served {D} shelf caller old new seat after (Some full) none served = absurd (cc none)

pub next_stands : {D : Type 0} (shelf : List OnShelf) (streams : List (List ℕ)) (old new : PlayedControl D) (i : ℕ) (seats : List Seat) (seat after : Seat)
    → i < length seats → get_or seats i seat ≡ seat → IsServed shelf (i + 1) old new seat after None
    → Stands shelf streams old i seats → Stands shelf streams new (i + 1) (set seats i after)
next_stands {D} shelf streams old new i seats seat after within is served stands =
    let number : suc i ≡ i + 1 = omega arith in
    subst (λ n. Stands shelf streams new n (set seats i after)) number (stands_on shelf streams old new i seats seat after within is served stands)

pub next_visits : {D : Type 0} (shelf : List OnShelf) (caller : ℕ) (old new : PlayedControl D) (i : ℕ) (seats : List Seat) (seat after : Seat)
    → i < length seats → get_or seats i seat ≡ seat → IsServed shelf caller old new seat after None
    → behind_round (i + 1) (set seats i after) ≡ behind_round i seats
next_visits {D} shelf caller old new i seats seat after within is (inl takes) =
    let number : i + 1 ≡ suc i = omega arith in
    ap (λ n. behind_round n (set seats i after)) number ∙ sym (behind_step i seats seat after takes.turn within is takes.first)
next_visits {D} shelf caller old new i seats seat after within is (inr rests) =
    let number : i + 1 ≡ suc i = omega arith in
    ap (λ n. behind_round n (set seats i after)) number ∙ ap (behind_round (suc i)) (same_set i seats seat after is rests.2)
    ∙ sym (behind_skip i seats seat within is rests.0)

pub full_goes_on : {D : Type 0} (shelf : List OnShelf) (streams : List (List ℕ)) (old new : PlayedControl D) (i : ℕ) (seats seats_after : List Seat) (seat after : Seat)
    (full : Option Full) → i < length seats → get_or seats i seat ≡ seat → is_some full ≡ true → IsServed shelf (i + 1) old new seat after full
    → Stands shelf streams old i seats → GoesOn shelf streams new 0 seats_after full
full_goes_on {D} shelf streams old new i seats seats_after seat after None within is some served stands = absurd (cc some)
full_goes_on {D} shelf streams old new i seats seats_after seat after (Some full) within is some served stands =
    stands_full shelf streams old i seats seat full within is served stands

pub round_visits : (i : ℕ) (seats : List Seat) (visits : List Visit) → i ≡ length seats → behind_round i seats ≡ visits
    → map visit_ahead seats ≡ visits
round_visits i seats visits over is = sym (behind_over seats) ∙ ap (λ n. behind_round n seats) (sym over) ∙ is
