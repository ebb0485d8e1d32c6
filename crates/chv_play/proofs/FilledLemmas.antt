-- What a session has taken that took its pieces until nothing more was to be taken.
use Rattle.std.proofs.Common.{◌≡◌, ◌≤◌, ◌<◌, ℕ, zero, suc, ◌+◌, min, Bool, true, false, ◌&&◌, nat_lt, cond, List, [], ◌∷◌, ◌++◌, length, take, drop, refl, sym, ap, subst, ◌∙◌, arith, append_assoc, length-append, length-drop, add_assoc, add-zero, ◌-◌}
use Rattle.std.specs.List.{concat}
use Rattle.std.proofs.lemmas.List.{append-nil, take_min, drop_all}
use Rattle.std.proofs.lemmas.Bool.{ltb-true, ltb-false}
use Rattle.std.proofs.Math.Seq.{drop-append_seam, take-append_seam}
use Rattle.chv_defs_api.specs.declared.request.Took.{Took}
use Rattle.chv_defs_api.specs.declared.request.Took.TheVariants as took
use Rattle.chv_defs_api.specs.Requests.{Cuts, IsShort}
use Rattle.chv_defs_api.specs.SessionBytes.{AreTaken, AreGiven, asks_for}
use Rattle.chv_defs_api.specs.StreamCut.{cut}
use Rattle.chv_defs.specs.Schedule.{Standing, next_piece, with_piece, is_not_yet, takes_more, filled}
use Rattle.chv_http.proofs.CutLemmas.{cuts_is_one}
use Rattle.chv_http.proofs.CutFunctionLemmas.{cut_gives}

-- what bytes begin with is what the function gives
pub cut_is : (bytes : List ℕ) (what : Took) (rest : List ℕ) → Cuts bytes what rest → (what ≡ (cut bytes).0) × (rest ≡ (cut bytes).1)
cut_is bytes what rest cuts = cuts_is_one bytes what (cut bytes).0 rest (cut bytes).1 cuts (cut_gives bytes)

-- these together
abbrev pub stand : List ℕ → ℕ → List ℕ → Standing
stand left taken rest = record { left = left; taken = taken; rest = rest }

-- ---- one piece

pub filled_stops : (n : ℕ) (s : Standing) → takes_more s ≡ false → filled n s ≡ s
filled_stops zero s none = refl
filled_stops (suc n) s none = ap (λ b. cond b (filled n (with_piece s)) s) none

pub filled_goes : (n : ℕ) (s : Standing) → takes_more s ≡ true → filled (suc n) s ≡ filled n (with_piece s)
filled_goes n s more = ap (λ b. cond b (filled n (with_piece s)) s) more

-- dropping as many as there are
drop_min : (a : ℕ) (xs : List ℕ) → drop (min a (length xs)) xs ≡ drop a xs
drop_min a xs = go (nat_lt a (length xs)) refl
  where
    go : (b : Bool) → nat_lt a (length xs) ≡ b → drop (min a (length xs)) xs ≡ drop a xs
    go true e =
        let h : a < length xs = ltb-true a (length xs) e in
        let m : min a (length xs) ≡ a = omega (arith, h) in
        ap (λ n. drop n xs) m
    go false e =
        let h : length xs ≤ a = ltb-false a (length xs) e in
        let m : length xs ≤ min a (length xs) = omega (arith, h) in
        drop_all (min a (length xs)) xs m ∙ sym (drop_all a xs h)

-- the piece that is given, of the bytes that are left
piece_length : (most count n m : ℕ) → 4096 ≤ most → n ≡ min (min most (asks_for count)) m → n ≡ min (asks_for count) m
piece_length most count n m many e = omega (arith, many, e)

next_is : (most count : ℕ) (left piece behind rest : List ℕ) → 4096 ≤ most → left ≡ piece ++ behind
    → length piece ≡ min (min most (asks_for count)) (length left) → next_piece (stand left count rest) ≡ piece
next_is most count left piece behind rest many is long =
    let size = piece_length most count (length piece) (length left) many long in
    sym (take_min (asks_for count) left) ∙ ap (λ n. take n left) (sym size) ∙ ap (take (length piece)) is ∙ take-append_seam piece behind

left_is : (most count : ℕ) (left piece behind : List ℕ) → 4096 ≤ most → left ≡ piece ++ behind
    → length piece ≡ min (min most (asks_for count)) (length left) → drop (asks_for count) left ≡ behind
left_is most count left piece behind many is long =
    let size = piece_length most count (length piece) (length left) many long in
    sym (drop_min (asks_for count) left) ∙ ap (λ n. drop n left) (sym size) ∙ ap (drop (length piece)) is ∙ drop-append_seam piece behind

-- it takes a piece that is not empty where neither a request nor a refusal is at hand
goes_on : (s : Standing) → IsShort s.rest → 0 < length (next_piece s) → takes_more s ≡ true
goes_on s short some =
    let none : took.NotYet ≡ (cut s.rest).0 = (cut_is s.rest took.NotYet s.rest (short, refl)).0 in
    ap (λ w. is_not_yet w && nat_lt 0 (length (next_piece s))) (sym none) ∙ grind (arith, some)

same_stand : (left left_too : List ℕ) (taken taken_too : ℕ) (rest rest_too : List ℕ) → left ≡ left_too → taken ≡ taken_too
    → rest ≡ rest_too → stand left taken rest ≡ stand left_too taken_too rest_too
same_stand left left_too taken taken_too rest rest_too a b c =
    ap (λ (l : List ℕ). stand l taken rest) a ∙ ap (λ (n : ℕ). stand left_too n rest) b ∙ ap (λ (r : List ℕ). stand left_too taken_too r) c

-- ---- all pieces

pub filled_is : (most n : ℕ) (left after : List ℕ) (count count_after : ℕ) (rest rest_after : List ℕ) (pieces : List (List ℕ))
    → 4096 ≤ most → length left ≤ n → left ≡ concat pieces ++ after → count_after ≡ count + length (concat pieces)
    → rest_after ≡ rest ++ concat pieces → AreTaken count rest pieces → AreGiven most left count pieces
    → takes_more (stand after count_after rest_after) ≡ false
    → filled n (stand left count rest) ≡ stand after count_after rest_after
filled_is most n left after count count_after rest rest_after [] many enough is count_is rest_is taken given stops =
    let same : stand after count_after rest_after ≡ stand left count rest =
    same_stand after left count_after count rest_after rest (sym is) (count_is ∙ add-zero count) (rest_is ∙ append-nil rest) in
    filled_stops n (stand left count rest) (subst (λ s. takes_more s ≡ false) same stops) ∙ sym same
filled_is most zero left after count count_after rest rest_after (piece ∷ pieces) many enough is count_is rest_is taken given stops =
    absurd (omega (arith, enough, taken.1, given.0))
filled_is most (suc n) left after count count_after rest rest_after (piece ∷ pieces) many enough is count_is rest_is taken given stops =
    let split : left ≡ piece ++ (concat pieces ++ after) = is ∙ append_assoc piece (concat pieces) after in
    let piece_is : next_piece (stand left count rest) ≡ piece =
    next_is most count left piece (concat pieces ++ after) rest many split given.0 in
    let behind_is : drop (asks_for count) left ≡ concat pieces ++ after =
    left_is most count left piece (concat pieces ++ after) many split given.0 in
    let behind_too : drop (length piece) left ≡ concat pieces ++ after =
    ap (drop (length piece)) split ∙ drop-append_seam piece (concat pieces ++ after) in
    let more : takes_more (stand left count rest) ≡ true =
    goes_on (stand left count rest) taken.0 (subst (λ (p : List ℕ). 0 < length p) (sym piece_is) taken.1) in
    let next : with_piece (stand left count rest) ≡ stand (drop (length piece) left) (count + length piece) (rest ++ piece) =
    same_stand _ _ _ _ _ _ (behind_is ∙ sym behind_too) (ap (λ (p : List ℕ). count + length p) piece_is) (ap (λ (p : List ℕ). rest ++ p) piece_is) in
    let size : length (drop (length piece) left) ≡ length left - length piece = length-drop (length piece) left in
    let fewer : length (drop (length piece) left) ≤ n = omega (arith, size, taken.1, enough) in
    filled_goes n (stand left count rest) more ∙ ap (filled n) next
    ∙ filled_is most n (drop (length piece) left) after (count + length piece) count_after (rest ++ piece) rest_after pieces many
    fewer behind_too
    (count_is ∙ ap (λ k. count + k) (length-append piece (concat pieces)) ∙ sym (add_assoc count (length piece) (length (concat pieces))))
    (rest_is ∙ sym (append_assoc rest piece (concat pieces))) taken.3 given.1 stops
