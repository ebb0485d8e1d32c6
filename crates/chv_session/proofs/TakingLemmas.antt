-- What a session takes, piece by piece.
use Rattle.std.proofs.Common.{◌≡◌, ◌≤◌, ℕ, zero, suc, ◌+◌, List, [], ◌∷◌, ◌++◌, length, take, drop, Option, None, Some, Ok, sym, ap, subst, ◌∙◌, arith, append_assoc, length-append, add_assoc, add-zero}
use Rattle.std.specs.List.{concat}
use Rattle.std.proofs.lemmas.List.{append-nil, append_cancel_left, length-take-le, take-append-drop, drop-drop}
use Rattle.std.proofs.Math.Seq.{drop-append_seam}
use Rattle.std.proofs.lemmas.List.Folds.{concat-append}
use Rattle.chv_io.specs.Outside.{Takes, Gains, Loses}
use Rattle.chv_io.proofs.Gained.{gains_join, loses_join}
use Rattle.chv_io.specs.Links.{Gives, Fills, GivesMost}
use Rattle.chv_defs_api.specs.Requests.{IsShort}
use Rattle.chv_defs_api.specs.SessionBytes.{AreTaken, AreGiven, asks_for}
use Rattle.chv_io.specs.declared.failed.Failed.{Failed}
use Rattle.chv_session.specs.Taking.{Intake, AreGivenWhereTold, TakesPieces, HasFed}

-- ---- no piece

given_none : (most : Option ℕ) (left : Option (List ℕ)) (count : ℕ) → AreGivenWhereTold most left count []
given_none (Some most) (Some left) count = tt
given_none (Some most) None count = tt
given_none None left count = tt

loses_none : (left left_after : Option (List ℕ)) → left_after ≡ left → Loses left left_after []
loses_none None left_after same = same
loses_none (Some before) None same = absurd (cc same)
loses_none (Some before) (Some after) same = let e : before ≡ after = cc in e

gains_none : (gave gave_after : Option (List ℕ)) → gave_after ≡ gave → Gains gave gave_after []
gains_none None gave_after same = same
gains_none (Some before) None same = absurd (cc same)
gains_none (Some before) (Some after) same = let e : after ≡ before = cc in e ∙ sym (append-nil before)

pub takes_none : {before after : Intake} → after.asked ≡ before.asked → after.left ≡ before.left → after.gave ≡ before.gave
    → TakesPieces before after
takes_none {before} {after} same left_is gave_is = record {
  pieces = [];
  grows = same ∙ sym (append-nil before.asked);
  taken = tt;
  given = given_none before.most before.left (length before.asked);
  loses = loses_none before.left after.left left_is;
  gains = gains_none before.gave after.gave gave_is;
}

-- ---- a read that was answered

loses_read : (left left_after : Option (List ℕ)) (buffer : List ℕ) (n : ℕ)
    → Takes {E = Failed} left left_after buffer (Ok n) → Loses left left_after (take n buffer)
loses_read None left_after buffer n takes = takes
loses_read (Some before) None buffer n takes = absurd takes
loses_read (Some before) (Some after) buffer n takes =
    sym (ap (λ b. b ++ after) takes.front ∙ ap (λ b. take n before ++ b) takes.rest ∙ take-append-drop n before)

gains_read : (gave gave_after : Option (List ℕ)) (buffer : List ℕ) (n : ℕ)
    → Gives {E = Failed} gave gave_after buffer (Ok n) → Gains gave gave_after (take n buffer)
gains_read None gave_after buffer n gives = gives
gains_read (Some before) None buffer n gives = absurd gives
gains_read (Some before) (Some after) buffer n gives = gives

-- a piece that is not empty
given_read : (most : Option ℕ) (left : Option (List ℕ)) (count n : ℕ) (piece : List ℕ) → length piece ≡ n
    → GivesMost {E = Failed} left most (asks_for count) (Ok n) → AreGivenWhereTold most left count (piece ∷ [])
given_read (Some most) (Some left) count n piece long full = (long ∙ full, tt)
given_read (Some most) None count n piece long full = tt
given_read None left count n piece long full = tt

one_piece : (piece : List ℕ) → piece ≡ concat (piece ∷ [])
one_piece piece = sym (append-nil piece)

-- what is known of a read of so many bytes into a buffer with this room, behind which what was asked has them
pub record HasRead (before after : Intake) (buffer : List ℕ) (n room : ℕ) : Type 0 where
  pub short : IsShort before.rest
  pub asks : room ≡ asks_for (length before.asked)
  pub within : n ≤ room
  pub held : n ≤ length buffer
  pub moves : Takes {E = Failed} before.left after.left buffer (Ok n)
  pub gives : Gives {E = Failed} before.gave after.gave buffer (Ok n)
  pub fills : Fills {E = Failed} before.left before.most after.most room (Ok n)
  pub kept : after.asked ≡ before.asked ++ take n buffer

pub read_is : {before after : Intake} {buffer : List ℕ} {n room : ℕ} → n ≤ length buffer → IsShort before.rest
    → room ≡ asks_for (length before.asked) → n ≤ room → Takes {E = Failed} before.left after.left buffer (Ok n)
    → Gives {E = Failed} before.gave after.gave buffer (Ok n) → Fills {E = Failed} before.left before.most after.most room (Ok n)
    → after.asked ≡ before.asked ++ take n buffer → HasRead before after buffer n room
read_is held short asks within moves gives fills kept = record {
  short = short;
  asks = asks;
  within = within;
  held = held;
  moves = moves;
  gives = gives;
  fills = fills;
  kept = kept;
}

pub takes_read : {before after : Intake} {buffer : List ℕ} {n room : ℕ} → HasRead before after buffer n room → TakesPieces before after
takes_read {before} {after} {buffer} {n = zero} {room} read = record {
  pieces = [];
  grows = read.kept;
  taken = tt;
  given = given_none before.most before.left (length before.asked);
  loses = loses_read before.left after.left buffer 0 read.moves;
  gains = gains_read before.gave after.gave buffer 0 read.gives;
}
takes_read {before} {after} {buffer} {n = suc n} {room} read =
    let piece = take (suc n) buffer in
    let long : length piece ≡ suc n = length-take-le (suc n) buffer read.held in
    record {
      pieces = piece ∷ [];
      grows = read.kept ∙ ap (λ b. before.asked ++ b) (one_piece piece);
      taken = (read.short, omega (arith, long), omega (arith, long, read.within, read.asks), tt);
      given = given_read before.most before.left (length before.asked) (suc n) piece long
          (subst (λ r. GivesMost {E = Failed} before.left before.most r (Ok (suc n))) read.asks read.fills.full);
      loses = subst (λ b. Loses before.left after.left b) (one_piece piece) (loses_read before.left after.left buffer (suc n) read.moves);
      gains = subst (λ b. Gains before.gave after.gave b) (one_piece piece) (gains_read before.gave after.gave buffer (suc n) read.gives);
    }

-- ---- pieces and more pieces

taken_join : (count : ℕ) (rest : List ℕ) (first next : List (List ℕ)) → AreTaken count rest first
    → AreTaken (count + length (concat first)) (rest ++ concat first) next → AreTaken count rest (first ++ next)
taken_join count rest [] next a b =
    subst (λ n. AreTaken n rest next) (add-zero count) (subst (λ r. AreTaken (count + 0) r next) (append-nil rest) b)
taken_join count rest (piece ∷ first) next a b = (
  a.0,
  a.1,
  a.2,
  taken_join (count + length piece) (rest ++ piece) first next a.3 (
      subst (λ n. AreTaken n ((rest ++ piece) ++ concat first) next)
      (ap (λ n. count + n) (length-append piece (concat first)) ∙ sym (add_assoc count (length piece) (length (concat first))))
      (subst (λ r. AreTaken (count + length (piece ++ concat first)) r next) (sym (append_assoc rest piece (concat first))) b)
      ),
)

given_join : (most : ℕ) (left : List ℕ) (count : ℕ) (first next : List (List ℕ)) → AreGiven most left count first
    → AreGiven most (drop (length (concat first)) left) (count + length (concat first)) next → AreGiven most left count (first ++ next)
given_join most left count [] next a b = subst (λ n. AreGiven most left n next) (add-zero count) b
given_join most left count (piece ∷ first) next a b = (
  a.0,
  given_join most (drop (length piece) left) (count + length piece) first next a.1 (
      subst (λ n. AreGiven most (drop (length (concat first)) (drop (length piece) left)) n next)
      (ap (λ n. count + n) (length-append piece (concat first)) ∙ sym (add_assoc count (length piece) (length (concat first))))
      (subst (λ l. AreGiven most l (count + length (piece ++ concat first)) next)
      (ap (λ n. drop n left) (length-append piece (concat first)) ∙ sym (drop-drop (length (concat first)) (length piece) left)) b)
      ),
)

given_where_told_join : (most : Option ℕ) (left left_after : Option (List ℕ)) (count : ℕ) (first next : List (List ℕ))
    → Loses left left_after (concat first) → AreGivenWhereTold most left count first
    → AreGivenWhereTold most left_after (count + length (concat first)) next → AreGivenWhereTold most left count (first ++ next)
given_where_told_join (Some most) (Some left) None count first next loses a b = absurd loses
given_where_told_join (Some most) (Some left) (Some after) count first next loses a b =
    given_join most left count first next a
    (subst (λ l. AreGiven most l (count + length (concat first)) next) (sym (ap (drop (length (concat first))) loses ∙ drop-append_seam (concat first) after)) b)
given_where_told_join (Some most) None left_after count first next loses a b = tt
given_where_told_join None left left_after count first next loses a b = tt

pub fed_join : (a b c r s t : List ℕ) → HasFed a b r s → HasFed b c s t → HasFed a c r t
fed_join a b c r s t first second = (
  first.0 ++ second.0,
  second.1 ∙ ap (λ l. l ++ second.0) first.1 ∙ append_assoc a first.0 second.0,
  second.2 ∙ ap (λ l. l ++ second.0) first.2 ∙ append_assoc r first.0 second.0,
)

pub takes_join : {first then_at after : Intake} → TakesPieces first then_at
    → HasFed first.asked then_at.asked first.rest then_at.rest → then_at.most ≡ first.most → TakesPieces then_at after
    → TakesPieces first after
takes_join {first} {then_at} {after} one fed same two =
    let a = first.asked in
    let now = then_at.asked in
    let more : concat one.pieces ≡ fed.0 = append_cancel_left a (concat one.pieces) fed.0 (sym one.grows ∙ fed.1) in
    let rest : then_at.rest ≡ first.rest ++ concat one.pieces = fed.2 ∙ ap (λ b. first.rest ++ b) (sym more) in
    let count : length now ≡ length a + length (concat one.pieces) = ap length one.grows ∙ length-append a (concat one.pieces) in
    let all = concat-append one.pieces two.pieces in
    record {
      pieces = one.pieces ++ two.pieces;
      grows = two.grows ∙ ap (λ l. l ++ concat two.pieces) one.grows
          ∙ append_assoc a (concat one.pieces) (concat two.pieces) ∙ ap (λ l. a ++ l) (sym all);
      taken = taken_join (length a) first.rest one.pieces two.pieces one.taken
          (subst (λ n. AreTaken n (first.rest ++ concat one.pieces) two.pieces) count
          (subst (λ t. AreTaken (length now) t two.pieces) rest two.taken));
      given = given_where_told_join first.most first.left then_at.left (length a) one.pieces two.pieces one.loses one.given
          (subst (λ n. AreGivenWhereTold first.most then_at.left n two.pieces) count
          (subst (λ o. AreGivenWhereTold o then_at.left (length now) two.pieces) same two.given));
      loses = subst (λ b. Loses first.left after.left b) (sym all)
          (loses_join first.left then_at.left after.left (concat one.pieces) (concat two.pieces) one.loses two.loses);
      gains = subst (λ b. Gains first.gave after.gave b) (sym all)
          (gains_join first.gave then_at.gave after.gave (concat one.pieces) (concat two.pieces) one.gains two.gains);
    }
