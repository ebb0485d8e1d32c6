-- Turns that are left at seats: at the start of a round, at its end, and where a seat takes one.
use Rattle.std.proofs.Common.{◌≡◌, ◌<◌, ℕ, zero, suc, ◌+◌, List, [], ◌∷◌, ◌++◌, length, map, slice_get, get_or, refl, sym, ap, ◌∙◌, arith, add-zero}
use Rattle.std.specs.List.{cons_option, enumerate_from}
use Rattle.std.proofs.Math.ListN.{set}
use Rattle.chv_defs.specs.Schedule.{Turn, Visit, turn_of, round_of, numbered, all_turns}
use Rattle.chv_play.specs.declared.seat.Seat.{Seat}
use Rattle.chv_play.specs.Ahead.{Ahead, with_first}
use Rattle.chv_play.specs.Playing.{ahead_at, visit_ahead, later, round_left, behind_round, turns_left}
use Rattle.chv_play.proofs.RoundLemmas.{each_later, first_round}

-- ---- a round begins and ends

round_begins : (k : ℕ) (seats : List Seat) → round_left k zero seats ≡ round_of (enumerate_from k (map visit_ahead seats)) 0
round_begins k [] = refl
round_begins k (seat ∷ seats) =
    ap (λ (ts : List (ℕ × Turn)). cons_option (turn_of k (slice_get (ahead_at seat).turns 0)) ts) (round_begins (k + 1) seats)

pub behind_begins : (k : ℕ) (seats : List Seat)
    → enumerate_from k (behind_round zero seats) ≡ map each_later (enumerate_from k (map visit_ahead seats))
behind_begins k [] = refl
behind_begins k (seat ∷ seats) = ap (λ (vs : List (ℕ × Visit)). (k, later (visit_ahead seat)) ∷ vs) (behind_begins (k + 1) seats)

pub begins : (seats : List Seat) → turns_left 0 seats ≡ all_turns (numbered (map visit_ahead seats))
begins seats =
    ap (λ (ts : List (ℕ × Turn)). ts ++ all_turns (numbered (behind_round 0 seats))) (round_begins 1 seats)
    ∙ ap (λ (vs : List (ℕ × Visit)). round_of (numbered (map visit_ahead seats)) 0 ++ all_turns vs) (behind_begins 1 seats)
    ∙ sym (first_round (numbered (map visit_ahead seats)))

round_over : (k : ℕ) (seats : List Seat) → round_left k (length seats) seats ≡ []
round_over k [] = refl
round_over k (seat ∷ seats) = round_over (k + 1) seats

pub behind_over : (seats : List Seat) → behind_round (length seats) seats ≡ map visit_ahead seats
behind_over [] = refl
behind_over (seat ∷ seats) = ap (λ (vs : List Visit). visit_ahead seat ∷ vs) (behind_over seats)

pub round_ends : (seats : List Seat) → turns_left (length seats) seats ≡ all_turns (numbered (map visit_ahead seats))
round_ends seats =
    ap (λ (ts : List (ℕ × Turn)). ts ++ all_turns (numbered (behind_round (length seats) seats))) (round_over 1 seats)
    ∙ ap (λ (vs : List Visit). all_turns (numbered vs)) (behind_over seats)

-- ---- a seat's turn

-- the turn that a seat has ahead of it is the next one of the round
round_step : (k i : ℕ) (seats : List Seat) (seat : Seat) (turn : Turn) (rest : Ahead) → i < length seats → get_or seats i seat ≡ seat
    → ahead_at seat ≡ with_first turn rest → round_left k i seats ≡ (k + i, turn) ∷ round_left k (suc i) seats
round_step k i [] seat turn rest within is first = absurd (omega (arith, within))
round_step k zero (one ∷ seats) seat turn rest within is first =
    ap (λ (s : Seat). cons_option (turn_of k (slice_get (ahead_at s).turns 0)) (round_left (k + 1) zero seats)) is
    ∙ ap (λ (a : Ahead). cons_option (turn_of k (slice_get a.turns 0)) (round_left (k + 1) zero seats)) first
    ∙ ap (λ (n : ℕ). (n, turn) ∷ round_left (k + 1) zero seats) (sym (add-zero k))
round_step k (suc i) (one ∷ seats) seat turn rest within is first =
    let same : (k + 1) + i ≡ k + suc i = omega arith in
    round_step (k + 1) i seats seat turn rest (omega (arith, within)) is first
    ∙ ap (λ (n : ℕ). (n, turn) ∷ round_left (k + 1) (suc i) seats) same

-- and it is no matter to those behind it what the seat is then
round_set : (k i : ℕ) (seats : List Seat) (after : Seat) → round_left k (suc i) (set seats i after) ≡ round_left k (suc i) seats
round_set k i [] after = refl
round_set k zero (one ∷ seats) after = refl
round_set k (suc i) (one ∷ seats) after = round_set (k + 1) i seats after

pub behind_step : (i : ℕ) (seats : List Seat) (seat after : Seat) (turn : Turn) → i < length seats → get_or seats i seat ≡ seat
    → ahead_at seat ≡ with_first turn (ahead_at after) → behind_round i seats ≡ behind_round (suc i) (set seats i after)
behind_step i [] seat after turn within is first = absurd (omega (arith, within))
behind_step zero (one ∷ seats) seat after turn within is first =
    ap (λ (s : Seat). later (visit_ahead s) ∷ behind_round zero seats) is
    ∙ ap (λ (a : Ahead). later (record { turns = a.turns; taken = a.taken }) ∷ behind_round zero seats) first
behind_step (suc i) (one ∷ seats) seat after turn within is first =
    ap (λ (vs : List Visit). visit_ahead one ∷ vs) (behind_step i seats seat after turn (omega (arith, within)) is first)

pub turn_found : (i : ℕ) (seats : List Seat) (seat : Seat) (turn : Turn) (rest : Ahead) → i < length seats → get_or seats i seat ≡ seat
    → ahead_at seat ≡ with_first turn rest
    → turns_left i seats ≡ (1 + i, turn) ∷ (round_left 1 (suc i) seats ++ all_turns (numbered (behind_round i seats)))
turn_found i seats seat turn rest within is first =
    ap (λ (ts : List (ℕ × Turn)). ts ++ all_turns (numbered (behind_round i seats))) (round_step 1 i seats seat turn rest within is first)

pub turn_taken : (i : ℕ) (seats : List Seat) (seat after : Seat) (turn : Turn) → i < length seats → get_or seats i seat ≡ seat
    → ahead_at seat ≡ with_first turn (ahead_at after)
    → turns_left i seats ≡ (1 + i, turn) ∷ turns_left (suc i) (set seats i after)
turn_taken i seats seat after turn within is first =
    turn_found i seats seat turn (ahead_at after) within is first
    ∙ ap (λ (ts : List (ℕ × Turn)). (1 + i, turn) ∷ (ts ++ all_turns (numbered (behind_round i seats)))) (sym (round_set 1 i seats after))
    ∙ ap (λ (vs : List Visit). (1 + i, turn) ∷ (round_left 1 (suc i) (set seats i after) ++ all_turns (numbered vs)))
    (behind_step i seats seat after turn within is first)

-- ---- a seat that has no turn

round_skip : (k i : ℕ) (seats : List Seat) (seat : Seat) → i < length seats → get_or seats i seat ≡ seat
    → (ahead_at seat).turns ≡ [] → round_left k i seats ≡ round_left k (suc i) seats
round_skip k i [] seat within is none = absurd (omega (arith, within))
round_skip k zero (one ∷ seats) seat within is none =
    ap (λ (s : Seat). cons_option (turn_of k (slice_get (ahead_at s).turns 0)) (round_left (k + 1) zero seats)) is
    ∙ ap (λ (ts : List Turn). cons_option (turn_of k (slice_get ts 0)) (round_left (k + 1) zero seats)) none
round_skip k (suc i) (one ∷ seats) seat within is none = round_skip (k + 1) i seats seat (omega (arith, within)) is none

pub behind_skip : (i : ℕ) (seats : List Seat) (seat : Seat) → i < length seats → get_or seats i seat ≡ seat
    → (ahead_at seat).turns ≡ [] → behind_round i seats ≡ behind_round (suc i) seats
behind_skip i [] seat within is none = absurd (omega (arith, within))
behind_skip zero (one ∷ seats) seat within is none =
    ap (λ (s : Seat). later (visit_ahead s) ∷ behind_round zero seats) is
    ∙ ap (λ (v : Visit). v ∷ behind_round zero seats) (nothing_later seat none)
    ∙ ap (λ (s : Seat). visit_ahead s ∷ behind_round zero seats) (sym is)
  where
    nothing_later : (seat : Seat) → (ahead_at seat).turns ≡ [] → later (visit_ahead seat) ≡ visit_ahead seat
    nothing_later seat none =
        ap (λ (ts : List Turn). later (record { turns = ts; taken = (ahead_at seat).taken })) none
        ∙ ap (λ (ts : List Turn). record { turns = ts; taken = (ahead_at seat).taken }) (sym none)
behind_skip (suc i) (one ∷ seats) seat within is none =
    ap (λ (vs : List Visit). visit_ahead one ∷ vs) (behind_skip i seats seat (omega (arith, within)) is none)

pub turn_skipped : (i : ℕ) (seats : List Seat) (seat : Seat) → i < length seats → get_or seats i seat ≡ seat
    → (ahead_at seat).turns ≡ [] → turns_left i seats ≡ turns_left (suc i) seats
turn_skipped i seats seat within is none =
    ap (λ (ts : List (ℕ × Turn)). ts ++ all_turns (numbered (behind_round i seats))) (round_skip 1 i seats seat within is none)
    ∙ ap (λ (vs : List Visit). round_left 1 (suc i) seats ++ all_turns (numbered vs)) (behind_skip i seats seat within is none)
