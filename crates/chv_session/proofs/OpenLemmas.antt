-- What a session has asked and answered so far.
use Rattle.std.proofs.Common.{◌≡◌, ◌||◌, Bool, true, false, ℕ, List, [], ◌∷◌, ◌++◌, refl, sym, ap, subst, ◌∙◌, append_assoc}
use Rattle.std.proofs.lemmas.List.{append-nil}
use Rattle.chv_defs_api.specs.declared.request.Request.{Request}
use Rattle.chv_defs_api.specs.Desks.{Answer}
use Rattle.chv_defs_api.specs.Requests.{BeginsWith}
use Rattle.chv_defs_api.specs.SessionBytes.{Answered, AreAnswered, has_last, IsOpen}
use Rattle.chv_http.proofs.CutLemmas.{cuts_into_append, cuts_into_join}

-- ---- requests so far

first_none : (a b : Bool) → a || b ≡ false → a ≡ false
first_none true b e = absurd (cc e)
first_none false b e = refl

second_none : (a b : Bool) → a || b ≡ false → b ≡ false
second_none true b e = absurd (cc e)
second_none false b e = e

both_none : (a b : Bool) → a ≡ false → b ≡ false → a || b ≡ false
both_none true b e f = absurd (cc e)
both_none false b e f = f

none_last_more : (requests : List Request) (request : Request) → has_last requests ≡ false → request.last ≡ false
    → has_last (requests ++ request ∷ []) ≡ false
none_last_more [] request none is = both_none request.last false is refl
none_last_more (first ∷ requests) request none is =
    both_none first.last (has_last (requests ++ request ∷ [])) (first_none first.last (has_last requests) none)
    (none_last_more requests request (second_none first.last (has_last requests) none) is)

are_answered_more : (requests : List Request) (request : Request) (made more : List Answer) (bytes reply : List ℕ)
    → AreAnswered requests made bytes → Answered request more reply
    → AreAnswered (requests ++ request ∷ []) (made ++ more) (bytes ++ reply)
are_answered_more [] request made more bytes reply are answered = (
  more,
  [],
  reply,
  [],
  answered,
  (refl, refl),
  ap (λ l. l ++ more) are.0 ∙ sym (append-nil more),
  ap (λ l. l ++ reply) are.1 ∙ sym (append-nil reply),
)
are_answered_more (request_one ∷ requests) request made more bytes reply are answered = (
  are.0,
  are.1 ++ more,
  are.2,
  are.3 ++ reply,
  are.4,
  are_answered_more requests request are.1 more are.3 reply are.5 answered,
  ap (λ l. l ++ more) are.6 ∙ append_assoc are.0 are.1 more,
  ap (λ l. l ++ reply) are.7 ∙ append_assoc are.2 are.3 reply,
)

-- ---- a session so far

pub open_start : IsOpen [] [] [] []
open_start = record { requests = []; cut = refl; none_last = refl; answered = (refl, refl) }

pub open_takes : (asked replied rest more : List ℕ) (made : List Answer) → IsOpen asked replied made rest
    → IsOpen (asked ++ more) replied made (rest ++ more)
open_takes asked replied rest more made so_far = record {
  requests = so_far.requests;
  cut = cuts_into_append asked more so_far.requests rest so_far.cut;
  none_last = so_far.none_last;
  answered = so_far.answered;
}

pub open_answers : (asked replied rest behind reply : List ℕ) (made more : List Answer) (request : Request) → IsOpen asked replied made rest
    → BeginsWith rest request behind → request.last ≡ false → Answered request more reply
    → IsOpen asked (replied ++ reply) (made ++ more) behind
open_answers asked replied rest behind reply made more request so_far begins is answered = record {
  requests = so_far.requests ++ request ∷ [];
  cut = cuts_into_join asked so_far.requests (request ∷ []) rest behind so_far.cut (behind, begins, refl);
  none_last = none_last_more so_far.requests request so_far.none_last is;
  answered = are_answered_more so_far.requests request made more replied reply so_far.answered answered;
}

pub open_same : (asked replied replied_too rest rest_too : List ℕ) (made made_too : List Answer) → IsOpen asked replied made rest
    → replied_too ≡ replied → made_too ≡ made → rest_too ≡ rest → IsOpen asked replied_too made_too rest_too
open_same asked replied replied_too rest rest_too made made_too so_far a b c =
    subst (λ r. IsOpen asked r made_too rest_too) (sym a) (subst (λ m. IsOpen asked replied m rest_too) (sym b)
    (subst (λ h. IsOpen asked replied made h) (sym c) so_far))

-- nothing more
pub no_more : {A : Type 0} (xs more : List A) → more ≡ [] → xs ++ more ≡ xs
no_more xs more none = ap (λ l. xs ++ l) none ∙ append-nil xs
