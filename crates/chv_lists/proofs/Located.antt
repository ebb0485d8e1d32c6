-- What is located in a list of stretches.
use Rattle.std.proofs.Common.{◌≡◌, ℕ, ◌+◌, ◌<◌, ◌≤◌, Bool, true, false, List, [], ◌∷◌, Result, Ok, Err, Option, None, Some, refl, sym, ◌∙◌, ap, arith, suc}
use Rattle.std.specs.Prelude.{cond, ◌&&◌, nat_le, nat_lt, slice_get, find, if◌then◌else◌, MatchResult}
use Rattle.std.specs.List.{prefix_len}
use Rattle.std.specs.Option.{option_map_or}
use Rattle.std.proofs.lemmas.Bool.Decides.{nat_tests}
use Rattle.chv_lists.specs.Locate.{further, locate, Follow}

-- ---- by the number of stretches that end before

-- the answer at the place of the first stretch that ends above a number
abbrev pub answer_at : {X : Type 0} → (X → ℕ) → List X → ℕ → ℕ → Result ℕ ℕ
answer_at start xs at place = if option_map_or (λ x. nat_le (start x) at) (slice_get xs place) false then Ok place else Err place

answer-further : (begun : Bool) (place : ℕ) → further (if begun then Ok place else Err place) ≡ (if begun then Ok (suc place) else Err (suc place))
answer-further true place = refl
answer-further false place = refl

pub locate-answer : {X : Type 0} (start end : X → ℕ) (xs : List X) (at : ℕ) → locate start end xs at ≡ answer_at start xs at (prefix_len (λ x. nat_le (end x) at) xs)
locate-answer start end [] at = refl
locate-answer {X = X} start end (x ∷ xs) at = by (nat_le (end x) at) (locate-answer start end xs at)
  where
    by : (past : Bool) → locate start end xs at ≡ answer_at start xs at (prefix_len (λ x. nat_le (end x) at) xs) →
        (if past then further (locate start end xs at) else (if nat_le (start x) at then Ok 0 else Err 0)) ≡ answer_at start (x ∷ xs) at (cond past (1 + prefix_len (λ x. nat_le (end x) at) xs) 0)
    by true rest =
        let before : ℕ = prefix_len (λ x. nat_le (end x) at) xs in
        let next : suc before ≡ 1 + before = omega arith in
        ap further rest ∙ answer-further (option_map_or (λ x. nat_le (start x) at) (slice_get xs before) false) before ∙ ap (answer_at start (x ∷ xs) at) next
    by false rest = refl

pub locate-there : {X : Type 0} (start end : X → ℕ) (xs : List X) (at place : ℕ) (x : X) (begun : Bool) → place ≡ prefix_len (λ x. nat_le (end x) at) xs → slice_get xs place ≡ Some x → nat_le (start x) at ≡ begun →
    locate start end xs at ≡ (if begun then Ok place else Err place)
locate-there start end xs at place x begun ended there begins =
    let here : answer_at start xs at place ≡ (if begun then Ok place else Err place) = rw (there, begins) refl in
    locate-answer start end xs at ∙ ap (answer_at start xs at) (sym ended) ∙ here

pub locate-none : {X : Type 0} (start end : X → ℕ) (xs : List X) (at place : ℕ) → place ≡ prefix_len (λ x. nat_le (end x) at) xs → slice_get xs place ≡ None → locate start end xs at ≡ Err place
locate-none start end xs at place ended none =
    let here : answer_at start xs at place ≡ Err place = rw none refl in
    locate-answer start end xs at ∙ ap (answer_at start xs at) (sym ended) ∙ here

-- the place, found or not, is the number of stretches that end at the number or below it
abbrev pub place_in : Result ℕ ℕ → ℕ
place_in (Ok place) = place
place_in (Err place) = place

place_in-answer : (begun : Bool) (place : ℕ) → place_in (if begun then Ok place else Err place) ≡ place
place_in-answer true place = refl
place_in-answer false place = refl

pub locate-place : {X : Type 0} (start end : X → ℕ) (xs : List X) (at : ℕ) → place_in (locate start end xs at) ≡ prefix_len (λ x. nat_le (end x) at) xs
locate-place start end xs at =
    let before : ℕ = prefix_len (λ x. nat_le (end x) at) xs in
    ap place_in (locate-answer start end xs at) ∙ place_in-answer (option_map_or (λ x. nat_le (start x) at) (slice_get xs before) false) before

-- ---- what is located, by one step

further-cases : (r : Result ℕ ℕ) (F N F' N' : ℕ → Type 0) → ((k : ℕ) → F k → F' (suc k)) → ((k : ℕ) → N k → N' (suc k)) → MatchResult r F N → MatchResult (further r) F' N'
further-cases (Ok k) F N F' N' f n m = f k m
further-cases (Err k) F N F' N' f n m = n k m

-- What holds of the place in every list: where it holds of the end of a list, at a stretch that holds the number and
-- before one that begins above it, and where a stretch that ends before the number may be put in front.
pub locate-cases : {X : Type 0} (start end : X → ℕ) (at : ℕ) (Found Missed : List X → ℕ → Type 0) → Missed [] 0 →
    ((x : X) (xs : List X) → start x ≤ at → at < end x → Found (x ∷ xs) 0) → ((x : X) (xs : List X) → at < start x → at < end x → Missed (x ∷ xs) 0) →
    ((x : X) (xs : List X) (k : ℕ) → end x ≤ at → Found xs k → Found (x ∷ xs) (suc k)) → ((x : X) (xs : List X) (k : ℕ) → end x ≤ at → Missed xs k → Missed (x ∷ xs) (suc k)) →
    (xs : List X) → MatchResult (locate start end xs at) (Found xs) (Missed xs)
locate-cases start end at Found Missed none here before found missed [] = none
locate-cases start end at Found Missed none here before found missed (x ∷ xs) =
    by (nat_le (end x) at) (nat_le (start x) at) refl refl (locate-cases start end at Found Missed none here before found missed xs)
  where
    by : (past begun : Bool) → nat_le (end x) at ≡ past → nat_le (start x) at ≡ begun → MatchResult (locate start end xs at) (Found xs) (Missed xs) →
        MatchResult (if past then further (locate start end xs at) else (if begun then Ok 0 else Err 0)) (Found (x ∷ xs)) (Missed (x ∷ xs))
    by true begun p q rest =
        let ended : end x ≤ at = grind (arith, nat_tests) in
        further-cases (locate start end xs at) (Found xs) (Missed xs) (Found (x ∷ xs)) (Missed (x ∷ xs)) (λ k f. found x xs k ended f) (λ k m. missed x xs k ended m) rest
    by false true p q rest = here x xs (grind (arith, nat_tests)) (grind (arith, nat_tests))
    by false false p q rest = before x xs (grind (arith, nat_tests)) (grind (arith, nat_tests))

-- ---- the stretch that holds a number

-- whether a stretch holds a number
abbrev pub holds : {X : Type 0} → (X → ℕ) → (X → ℕ) → ℕ → X → Bool
holds start end at x = nat_le (start x) at && nat_lt at (end x)

none-above : {X : Type 0} (start end : X → ℕ) (low : ℕ) (xs : List X) (at : ℕ) → Follow start end low xs → at < low → find (holds start end at) xs ≡ None
none-above start end low [] at o h = refl
none-above start end low (x ∷ xs) at o h =
    let later : at < start x = omega (arith, o.0) in
    let no : holds start end at x ≡ false = grind (arith, nat_tests) in
    rw no (none-above start end (end x) xs at o.2 (omega (arith, o.1)))

-- the stretch that stands at a place that was found, and none where none was
abbrev pub held_in : {X : Type 0} → List X → Result ℕ ℕ → Option X
held_in xs (Ok place) = slice_get xs place
held_in xs (Err place) = None

held-further : {X : Type 0} (x : X) (xs : List X) (r : Result ℕ ℕ) → held_in (x ∷ xs) (further r) ≡ held_in xs r
held-further x xs (Ok place) = refl
held-further x xs (Err place) = refl

-- what is located is the first stretch that holds the number
pub find-located : {X : Type 0} (start end : X → ℕ) (low : ℕ) (xs : List X) (at : ℕ) → Follow start end low xs → find (holds start end at) xs ≡ held_in xs (locate start end xs at)
find-located start end low [] at o = refl
find-located {X = X} start end low (x ∷ xs) at o = by (nat_le (end x) at) (nat_le (start x) at) refl refl (find-located start end (end x) xs at o.2)
  where
    by : (past begun : Bool) → nat_le (end x) at ≡ past → nat_le (start x) at ≡ begun → find (holds start end at) xs ≡ held_in xs (locate start end xs at) →
        find (holds start end at) (x ∷ xs) ≡ held_in (x ∷ xs) (if past then further (locate start end xs at) else (if begun then Ok 0 else Err 0))
    by true begun p q rest =
        let no : holds start end at x ≡ false = grind (arith, nat_tests) in
        let further_on : find (holds start end at) (x ∷ xs) ≡ find (holds start end at) xs = rw no refl in
        further_on ∙ rest ∙ sym (held-further x xs (locate start end xs at))
    by false true p q rest =
        let yes : holds start end at x ≡ true = grind (arith, nat_tests) in
        rw yes refl
    by false false p q rest =
        let no : holds start end at x ≡ false = grind (arith, nat_tests) in
        let below : at < end x = grind (arith, nat_tests) in
        rw no (none-above start end (end x) xs at o.2 below)
