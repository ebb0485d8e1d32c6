-- What one read leaves, by how it went.
use Rattle.std.proofs.Common.{◌≡◌, ◌≤◌, ℕ, ◌+◌, List, [], ◌++◌, length, take, drop, Option, None, Some, IfSome, Result, Ok, Err, sym, ap, subst, ◌∙◌, length-append}
use Rattle.std.specs.Prelude.{IsErr}
use Rattle.std.proofs.lemmas.List.{append-nil, length-take-le}
use Rattle.chv_io.specs.declared.failed.Failed.{Failed}
use Rattle.chv_io.specs.Outside.{Takes, Rose}
use Rattle.chv_io.specs.Links.{Gives}
use Rattle.chv_session.specs.Taking.{Intake, TakesPieces, TakesPiece}
use Rattle.chv_session.proofs.TakingLemmas.{HasRead, takes_read, takes_none}

nothing_left : (left left_after : Option (List ℕ)) (buffer : List ℕ) (n : ℕ) → Takes {E = Failed} left left_after buffer (Ok n) → n ≡ 0
    → IfSome left_after (λ bytes. bytes ≡ [])
nothing_left None left_after buffer n takes none = subst (λ (o : Option (List ℕ)). IfSome o (λ bytes. bytes ≡ [])) (sym takes) tt
nothing_left (Some before) None buffer n takes none = absurd takes
nothing_left (Some before) (Some after) buffer n takes none =
    takes.rest ∙ ap (λ (k : ℕ). drop k before) none ∙ takes.end.0 none

-- it was answered, and the piece was fed
pub took_read : {E : Type 0} {before after : Intake} {buffer : List ℕ} {n room : ℕ} → HasRead before after buffer n room
    → after.rest ≡ before.rest ++ take n buffer → before.reads ≤ after.reads → TakesPiece {E = E} {F = Failed} (Ok (Ok n)) before after
took_read {E} {before} {after} {buffer} {n} {room} read fed later = record {
  pieces = takes_read read;
  fed = (take n buffer, read.kept, fed);
  count = ap length read.kept ∙ length-append before.asked (take n buffer)
      ∙ ap (λ (k : ℕ). length before.asked + k) (length-take-le n buffer read.held);
  empty = λ none.
      let nothing : take n buffer ≡ [] = ap (λ (k : ℕ). take k buffer) none in (
        read.kept ∙ ap (λ (b : List ℕ). before.asked ++ b) nothing ∙ append-nil before.asked,
        fed ∙ ap (λ (b : List ℕ). before.rest ++ b) nothing ∙ append-nil before.rest,
      );
  failed = tt;
  drained = λ none. nothing_left before.left after.left buffer n read.moves none;
  cause = tt;
  most_stays = read.fills.most_stays;
  later = later;
}

-- memory was wanting, before it or behind it
pub took_lost : {E F : Type 0} {before after : Intake} (result : Result (Result ℕ F) E) → IsErr result → TakesPieces before after
    → after.most ≡ before.most → before.reads ≤ after.reads → TakesPiece result before after
took_lost (Ok answer) lost pieces most later = absurd (cc lost)
took_lost (Err error) lost pieces most later = record {
  pieces = pieces;
  fed = tt;
  count = tt;
  empty = tt;
  failed = tt;
  drained = tt;
  cause = tt;
  most_stays = most;
  later = later;
}

left_failed : (e : Failed) (left left_after : Option (List ℕ)) (buffer : List ℕ) → Takes left left_after buffer (Err e) → left_after ≡ left
left_failed e None left_after buffer takes = takes
left_failed e (Some before) None buffer takes = absurd takes
left_failed e (Some before) (Some after) buffer takes = ap Some takes

gave_failed : (e : Failed) (gave gave_after : Option (List ℕ)) (buffer : List ℕ) → Gives gave gave_after buffer (Err e) → gave_after ≡ gave
gave_failed e None gave_after buffer gives = gives
gave_failed e (Some before) None buffer gives = absurd gives
gave_failed e (Some before) (Some after) buffer gives = ap Some gives

-- it failed
pub took_failed : {E : Type 0} {before after : Intake} (e : Failed) (buffer : List ℕ) → Takes before.left after.left buffer (Err e)
    → Gives before.gave after.gave buffer (Err e) → after.asked ≡ before.asked → after.rest ≡ before.rest
    → Rose before.reads after.reads → after.most ≡ before.most → before.reads ≤ after.reads
    → TakesPiece {E = E} {F = Failed} (Ok (Err e)) before after
took_failed {E} {before} {after} e buffer takes gives asked rest rose most later = record {
  pieces = takes_none asked (left_failed e before.left after.left buffer takes) (gave_failed e before.gave after.gave buffer gives);
  fed = ([], asked ∙ sym (append-nil before.asked), rest ∙ sym (append-nil before.rest));
  count = tt;
  empty = tt;
  failed = (asked, rest);
  drained = tt;
  cause = rose;
  most_stays = most;
  later = later;
}
