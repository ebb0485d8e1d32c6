-- Rounds: the first one, and the turns that are left behind it.
use Rattle.std.proofs.Common.{◌≡◌, ◌≤◌, ℕ, zero, suc, ◌+◌, ◌-◌, List, [], ◌∷◌, ◌++◌, length, drop, map, flat_map, slice_get, refl, sym, ap, ◌∙◌, arith}
use Rattle.std.specs.List.{range_with_len, cons_option}
use Rattle.std.proofs.lemmas.List.{length-drop}
use Rattle.chv_defs.specs.Schedule.{Turn, Visit, turn_of, turn_in, round_of, rounds_of, all_turns}
use Rattle.chv_play.specs.Playing.{later}

abbrev pub each_later : ℕ × Visit → ℕ × Visit
each_later visit = (visit.0, later visit.1)

place_later : (turns : List Turn) (round : ℕ) → slice_get (drop 1 turns) round ≡ slice_get turns (suc round)
place_later [] round = refl
place_later (turn ∷ turns) round = refl

round_later : (visits : List (ℕ × Visit)) (round : ℕ) → round_of (map each_later visits) round ≡ round_of visits (suc round)
round_later [] round = refl
round_later (visit ∷ visits) round =
    ap (λ o. cons_option (turn_of visit.0 o) (round_of (map each_later visits) round)) (place_later visit.1.turns round)
    ∙ ap (λ (ts : List (ℕ × Turn)). cons_option (turn_in (suc round) visit) ts) (round_later visits round)

pub rounds_later : (visits : List (ℕ × Visit)) → rounds_of (map each_later visits) ≡ rounds_of visits - 1
rounds_later [] = refl
rounds_later (visit ∷ visits) =
    let a = length-drop 1 visit.1.turns in
    let b = rounds_later visits in
    omega (arith, a, b)

rounds_from : (visits : List (ℕ × Visit)) (a n : ℕ)
    → flat_map (round_of (map each_later visits)) (range_with_len a n) ≡ flat_map (round_of visits) (range_with_len (suc a) n)
rounds_from visits a zero = refl
rounds_from visits a (suc n) =
    ap (λ (ts : List (ℕ × Turn)). ts ++ flat_map (round_of (map each_later visits)) (range_with_len (a + 1) n)) (round_later visits a)
    ∙ ap (λ (ts : List (ℕ × Turn)). round_of visits (suc a) ++ ts)
    (rounds_from visits (a + 1) n ∙ ap (λ b. flat_map (round_of visits) (range_with_len b n)) (next a))
  where
    next : (a : ℕ) → suc (a + 1) ≡ suc a + 1
    next a = omega arith

no_turns : (turns : List Turn) (round : ℕ) → length turns ≤ 0 → slice_get turns round ≡ slice_get [] round
no_turns [] round none = refl
no_turns (turn ∷ turns) round none = absurd (omega (arith, none))

no_round : (visits : List (ℕ × Visit)) (round : ℕ) → rounds_of visits ≤ 0 → round_of visits round ≡ []
no_round [] round none = refl
no_round (visit ∷ visits) round none =
    ap (λ o. cons_option (turn_of visit.0 o) (round_of visits round)) (no_turns visit.1.turns round (omega (arith, none)))
    ∙ no_round visits round (omega (arith, none))

by_count : (visits : List (ℕ × Visit)) (n : ℕ) → rounds_of visits ≡ n
    → flat_map (round_of visits) (range_with_len 0 n)
    ≡ round_of visits 0 ++ flat_map (round_of (map each_later visits)) (range_with_len 0 (n - 1))
by_count visits zero is = sym (ap (λ (ts : List (ℕ × Turn)). ts ++ []) (no_round visits 0 (omega (arith, is))))
by_count visits (suc n) is =
    let less : suc n - 1 ≡ n = omega arith in
    ap (λ (ts : List (ℕ × Turn)). round_of visits 0 ++ ts)
    (sym (rounds_from visits 0 n) ∙ ap (λ k. flat_map (round_of (map each_later visits)) (range_with_len 0 k)) (sym less))

-- all turns: those of the first round, and those that are left then
pub first_round : (visits : List (ℕ × Visit)) → all_turns visits ≡ round_of visits 0 ++ all_turns (map each_later visits)
first_round visits =
    by_count visits (rounds_of visits) refl
    ∙ ap (λ n. round_of visits 0 ++ flat_map (round_of (map each_later visits)) (range_with_len 0 n)) (sym (rounds_later visits))
