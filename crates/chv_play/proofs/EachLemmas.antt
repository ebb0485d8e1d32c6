-- What holds of each seat, where one of them changes.
use Rattle.std.proofs.Common.{◌≡◌, ◌≢◌, ◌<◌, ℕ, zero, suc, ◌+◌, List, [], ◌∷◌, ◌++◌, length, get_or, refl, ap, subst, arith}
use Rattle.std.proofs.Math.ListN.{set}
use Rattle.chv_play.specs.declared.seat.Seat.{Seat}
use Rattle.chv_play.specs.Playing.{EachFrom, ForEach}

-- ---- by number

each_other : (P Q : ℕ → Seat → Type 0) (k n : ℕ) (seats : List Seat) → n < k → ((other : ℕ) (seat : Seat) → other ≢ n → P other seat → Q other seat)
    → EachFrom P k seats → EachFrom Q k seats
each_other P Q k n [] above others each = tt
each_other P Q k n (seat ∷ seats) above others each = (
  others k seat (λ e. absurd (omega (arith, e, above))) each.0,
  each_other P Q (k + 1) n seats (omega (arith, above)) others each.1,
)

pub each_set : (P Q : ℕ → Seat → Type 0) (k i n : ℕ) (seats : List Seat) (seat after : Seat) → n ≡ k + i → i < length seats
    → get_or seats i seat ≡ seat → ((other : ℕ) (seat : Seat) → other ≢ n → P other seat → Q other seat) → (P n seat → Q n after)
    → EachFrom P k seats → EachFrom Q k (set seats i after)
each_set P Q k i n [] seat after number within is others own each = absurd (omega (arith, within))
each_set P Q k zero n (one ∷ seats) seat after number within is others own each =
    let number_is : n ≡ k = omega (arith, number) in (
      subst (λ (j : ℕ). P j seat → Q j after) number_is own (subst (P k) is each.0),
      each_other P Q (k + 1) n seats (omega (arith, number)) others each.1,
    )
each_set P Q k (suc i) n (one ∷ seats) seat after number within is others own each = (
  others k one (λ e. absurd (omega (arith, e, number))) each.0,
  each_set P Q (k + 1) i n seats seat after (omega (arith, number)) (omega (arith, within)) is others own each.1,
)

-- ---- by stream

pub for_each_set : (P : List ℕ → Seat → Type 0) (i : ℕ) (streams : List (List ℕ)) (seats : List Seat) (seat after : Seat) → i < length seats
    → get_or seats i seat ≡ seat → ((stream : List ℕ) → P stream seat → P stream after) → ForEach P streams seats
    → ForEach P streams (set seats i after)
for_each_set P i [] [] seat after within is keeps each = absurd (omega (arith, within))
for_each_set P i [] (one ∷ seats) seat after within is keeps each = absurd each
for_each_set P i (stream ∷ streams) [] seat after within is keeps each = absurd each
for_each_set P zero (stream ∷ streams) (one ∷ seats) seat after within is keeps each = (keeps stream (subst (P stream) is each.0), each.1)
for_each_set P (suc i) (stream ∷ streams) (one ∷ seats) seat after within is keeps each =
    (each.0, for_each_set P i streams seats seat after (omega (arith, within)) is keeps each.1)

pub for_each_so : (P Q : List ℕ → Seat → Type 0) (streams : List (List ℕ)) (seats : List Seat) → ((stream : List ℕ) (seat : Seat) → P stream seat → Q stream seat)
    → ForEach P streams seats → ForEach Q streams seats
for_each_so P Q [] [] so each = tt
for_each_so P Q [] (seat ∷ seats) so each = absurd each
for_each_so P Q (stream ∷ streams) [] so each = absurd each
for_each_so P Q (stream ∷ streams) (seat ∷ seats) so each = (so stream seat each.0, for_each_so P Q streams seats so each.1)

pub for_each_numbered : (P : List ℕ → Seat → Type 0) (Q : ℕ → Seat → Type 0) (k : ℕ) (streams : List (List ℕ)) (seats : List Seat)
    → ((n : ℕ) (stream : List ℕ) (seat : Seat) → P stream seat → Q n seat) → ForEach P streams seats → EachFrom Q k seats
for_each_numbered P Q k [] [] so each = tt
for_each_numbered P Q k [] (seat ∷ seats) so each = absurd each
for_each_numbered P Q k (stream ∷ streams) [] so each = absurd each
for_each_numbered P Q k (stream ∷ streams) (seat ∷ seats) so each = (so k stream seat each.0, for_each_numbered P Q (k + 1) streams seats so each.1)

pub for_each_length : (P : List ℕ → Seat → Type 0) (streams : List (List ℕ)) (seats : List Seat) → ForEach P streams seats → length seats ≡ length streams
for_each_length P [] [] each = refl
for_each_length P [] (seat ∷ seats) each = absurd each
for_each_length P (stream ∷ streams) [] each = absurd each
for_each_length P (stream ∷ streams) (seat ∷ seats) each = ap suc (for_each_length P streams seats each.1)

pub for_each_more : (P : List ℕ → Seat → Type 0) (streams : List (List ℕ)) (seats : List Seat) (stream : List ℕ) (seat : Seat)
    → ForEach P streams seats → P stream seat → ForEach P (streams ++ stream ∷ []) (seats ++ seat ∷ [])
for_each_more P [] [] stream seat each one = (one, tt)
for_each_more P [] (other ∷ seats) stream seat each one = absurd each
for_each_more P (other ∷ streams) [] stream seat each one = absurd each
for_each_more P (other ∷ streams) (another ∷ seats) stream seat each one = (each.0, for_each_more P streams seats stream seat each.1 one)
