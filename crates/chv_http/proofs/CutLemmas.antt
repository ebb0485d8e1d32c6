-- Bytes begin with one thing at most, and the bytes behind it do not change it.
use Rattle.std.proofs.Common.{◌≡◌, ℕ, ◌+◌, ◌≤◌, ◌⊎◌, List, [], ◌∷◌, ◌++◌, ◌≢◌, length, take, drop, Ok, Err, Result, refl, sym, ap, subst, ◌∙◌, inl, inr, arith, length-append, length-drop}
use Rattle.std.proofs.lemmas.List.{take-append-le, drop-append-le}
use Rattle.httparse.specs.Grammar.{RequestHead, ReadsRequest}
use Rattle.httparse.proofs.GrammarLemmas.{request_unique}
use Rattle.chv_defs_base.specs.declared.rule.Rule.{Rule}
use Rattle.chv_defs_base.specs.declared.rule.Rule.TheVariants.{BadHead}
use Rattle.chv_defs_api.specs.declared.request.Request.{Request}
use Rattle.chv_defs_api.specs.declared.request.Took.{Took}
use Rattle.chv_defs_api.specs.declared.request.Took.TheVariants as took
use Rattle.chv_defs_api.specs.HttpFront.{HasNoFront}
use Rattle.chv_defs_api.specs.Requests.{fields_of, body_length, request_of, HasHead, Announces, BeginsWith, IsShort, HasBadHead, HasBadFields, Cuts, CutsInto}
use Rattle.chv_http.specs.Laws.{BeginsWithNone}
use Rattle.chv_http.proofs.FrontLemmas.{closes_within, closes_back, front_append, front_is_one}

-- ---- bytes that follow

head_within : (bytes : List ℕ) (n : ℕ) (head : RequestHead) → HasHead bytes n head → n ≤ length bytes
head_within bytes n head has = closes_within bytes n has.front.closes

no_front_append : (bytes more : List ℕ) → 8192 ≤ length bytes → HasNoFront bytes → HasNoFront (bytes ++ more)
no_front_append bytes more long none n small closes = none n small (closes_back bytes more n (omega arith) closes)

head_append : (bytes more : List ℕ) (n : ℕ) (head : RequestHead) → HasHead bytes n head → HasHead (bytes ++ more) n head
head_append bytes more n head has = record {
  front = front_append bytes more n has.front;
  short = has.short;
  reads = subst (λ b. ReadsRequest b head []) (sym (take-append-le n bytes more (head_within bytes n head has))) has.reads;
  room = has.room;
}

bad_head_append : (bytes more : List ℕ) → HasBadHead bytes → HasBadHead (bytes ++ more)
bad_head_append bytes more (inl endless) =
    inl (no_front_append bytes more endless.1 endless.0, omega (arith, length-append bytes more, endless.1))
bad_head_append bytes more (inr other) =
    let same = take-append-le other.0 bytes more (closes_within bytes other.0 other.1.closes) in
    inr (
      other.0,
      front_append bytes more other.0 other.1,
      other.2,
      λ head has. other.3 head (record {
        front = other.1;
        short = has.short;
        reads = subst (λ b. ReadsRequest b head []) same has.reads;
        room = has.room;
      }),
    )

bad_fields_append : (bytes more : List ℕ) (rule : Rule) → HasBadFields bytes rule → HasBadFields (bytes ++ more) rule
bad_fields_append bytes more rule bad = (bad.0, bad.1, head_append bytes more bad.0 bad.1 bad.2, bad.3)

-- bytes behind a refused head leave it refused
pub bad_append : (bytes more : List ℕ) (rule : Rule) → Cuts bytes (took.Bad rule) bytes
    → Cuts (bytes ++ more) (took.Bad rule) (bytes ++ more)
bad_append bytes more rule bad = (
  elim bad.0 as (λ _. ((rule ≡ BadHead) × HasBadHead (bytes ++ more)) ⊎ HasBadFields (bytes ++ more) rule) [
    | inl head ↦ inl (head.0, bad_head_append bytes more head.1)
    | inr fields ↦ inr (bad_fields_append bytes more rule fields)
  ],
  refl,
)

-- bytes behind a whole request leave it
pub begins_append : (bytes more : List ℕ) (request : Request) (rest : List ℕ) → BeginsWith bytes request rest
    → BeginsWith (bytes ++ more) request (rest ++ more)
begins_append bytes more request rest begins =
    let n = begins.n in
    let len = begins.len in
    let whole = begins.whole in
    let within : n ≤ length bytes = omega (arith, whole) in
    let body : len ≤ length (drop n bytes) = omega (arith, whole, length-drop n bytes) in
    record {
      n = n;
      head = begins.head;
      len = len;
      announces = record {
        begins = head_append bytes more n begins.head begins.announces.begins;
        accepted = begins.announces.accepted;
      };
      whole = omega (arith, whole, length-append bytes more);
      request_is = begins.request_is ∙ ap (request_of begins.head)
          (sym (ap (take len) (drop-append-le n bytes more within) ∙ take-append-le len (drop n bytes) more body));
      rest_is = ap (λ b. b ++ more) begins.rest_is ∙ sym (drop-append-le (n + len) bytes more whole);
    }

-- ---- one outcome

head_is_one : (bytes : List ℕ) (n m : ℕ) (h k : RequestHead) → HasHead bytes n h → HasHead bytes m k → (n ≡ m) × (h ≡ k)
head_is_one bytes n m h k a b =
    let same = front_is_one bytes n m a.front b.front in
    let other = subst (λ x. ReadsRequest (take x bytes) k []) (sym same) b.reads in
    (same, (request_unique (take n bytes) h k [] [] a.reads other).0)

no_front_no_head : {A : Type 0} (bytes : List ℕ) (n : ℕ) (h : RequestHead) → HasNoFront bytes → HasHead bytes n h → A
no_front_no_head bytes n h none has = absurd (none n has.short has.front.closes)

same_length : (bytes : List ℕ) (n m : ℕ) (h k : RequestHead) (r s : Result ℕ Rule) → HasHead bytes n h → HasHead bytes m k
    → body_length (fields_of h) ≡ r → body_length (fields_of k) ≡ s → r ≡ s
same_length bytes n m h k r s a b x y =
    sym x ∙ ap (λ t. body_length (fields_of t)) (head_is_one bytes n m h k a b).1 ∙ y

ok_is_one : {n m : ℕ} → ◌≡◌ {A = Result ℕ Rule} (Ok n) (Ok m) → n ≡ m
ok_is_one e = cc

err_is_one : {a b : Rule} → ◌≡◌ {A = Result ℕ Rule} (Err a) (Err b) → a ≡ b
err_is_one e = cc

ok_not_err : {A : Type 0} {n : ℕ} {rule : Rule} → ◌≡◌ {A = Result ℕ Rule} (Ok n) (Err rule) → A
ok_not_err e = absurd (cc e)

begins_is_one : (bytes : List ℕ) (a b : Request) (x y : List ℕ) → BeginsWith bytes a x → BeginsWith bytes b y → (a ≡ b) × (x ≡ y)
begins_is_one bytes a b x y first second =
    let one = head_is_one bytes _ _ _ _ first.announces.begins second.announces.begins in
    let len = ok_is_one (same_length bytes _ _ _ _ _ _ first.announces.begins second.announces.begins
    first.announces.accepted second.announces.accepted) in
    let n = one.0 in
    let head = one.1 in
    let request : request_of first.head (take first.len (drop first.n bytes)) ≡ request_of second.head (take second.len (drop second.n bytes)) = cc in
    let rest : drop (first.n + first.len) bytes ≡ drop (second.n + second.len) bytes = cc in
    (first.request_is ∙ request ∙ sym second.request_is, first.rest_is ∙ rest ∙ sym second.rest_is)

-- a whole request is not short
begins_not_short : {A : Type 0} (bytes : List ℕ) (request : Request) (rest : List ℕ) → BeginsWith bytes request rest
    → IsShort bytes → A
begins_not_short bytes request rest begins (inl none) = no_front_no_head bytes _ _ none.0 begins.announces.begins
begins_not_short bytes request rest begins (inr short) =
    let one = head_is_one bytes _ _ _ _ begins.announces.begins short.3.begins in
    let len = ok_is_one (same_length bytes _ _ _ _ _ _ begins.announces.begins short.3.begins
    begins.announces.accepted short.3.accepted) in
    let n = one.0 in
    let whole = begins.whole in
    let less = short.4 in
    absurd (omega arith)

-- a head is no bad head
head_not_bad : {A : Type 0} (bytes : List ℕ) (n : ℕ) (head : RequestHead) → HasHead bytes n head → HasBadHead bytes → A
head_not_bad bytes n head has (inl endless) = no_front_no_head bytes n head endless.0 has
head_not_bad bytes n head has (inr other) =
    let same = front_is_one bytes n other.0 has.front other.1 in
    absurd (other.3 head (subst (λ m. HasHead bytes m head) same has))

-- an accepted head is no refused one
accepted_not_bad : {A : Type 0} (bytes : List ℕ) (n : ℕ) (head : RequestHead) (len : ℕ) (rule : Rule)
    → Announces bytes n head len → HasBadFields bytes rule → A
accepted_not_bad bytes n head len rule announces bad =
    ok_not_err (same_length bytes _ _ _ _ _ _ announces.begins bad.2 announces.accepted bad.3)

-- what is refused is not short
bad_not_short : {A : Type 0} (bytes : List ℕ) (rule : Rule) → ((rule ≡ BadHead) × HasBadHead bytes) ⊎ HasBadFields bytes rule
    → IsShort bytes → A
bad_not_short bytes rule (inl (e, inl endless)) (inl none) = absurd (omega (arith, endless.1, none.1))
bad_not_short bytes rule (inl (e, inr other)) (inl none) = absurd (none.0 other.0 other.2 other.1.closes)
bad_not_short bytes rule (inl (e, bad)) (inr short) = head_not_bad bytes _ _ short.3.begins bad
bad_not_short bytes rule (inr fields) (inl none) = no_front_no_head bytes _ _ none.0 fields.2
bad_not_short bytes rule (inr fields) (inr short) = accepted_not_bad bytes _ _ _ rule short.3 fields

bad_is_one : (bytes : List ℕ) (a b : Rule) → ((a ≡ BadHead) × HasBadHead bytes) ⊎ HasBadFields bytes a
    → ((b ≡ BadHead) × HasBadHead bytes) ⊎ HasBadFields bytes b → a ≡ b
bad_is_one bytes a b (inl first) (inl second) = first.0 ∙ sym second.0
bad_is_one bytes a b (inl first) (inr second) = head_not_bad bytes _ _ second.2 first.1
bad_is_one bytes a b (inr first) (inl second) = head_not_bad bytes _ _ first.2 second.1
bad_is_one bytes a b (inr first) (inr second) =
    err_is_one (same_length bytes _ _ _ _ _ _ first.2 second.2 first.3 second.3)

bad_not_begins : {A : Type 0} (bytes : List ℕ) (request : Request) (rest : List ℕ) (rule : Rule) → BeginsWith bytes request rest
    → ((rule ≡ BadHead) × HasBadHead bytes) ⊎ HasBadFields bytes rule → A
bad_not_begins bytes request rest rule begins (inl bad) = head_not_bad bytes _ _ begins.announces.begins bad.1
bad_not_begins bytes request rest rule begins (inr bad) = accepted_not_bad bytes _ _ _ rule begins.announces bad

-- bytes begin with one thing
pub cuts_is_one : (bytes : List ℕ) (a b : Took) (x y : List ℕ) → Cuts bytes a x → Cuts bytes b y → (a ≡ b) × (x ≡ y)
cuts_is_one bytes (took.Request a) (took.Request b) x y first second =
    let one = begins_is_one bytes a b x y first second in
    (ap took.Request one.0, one.1)
cuts_is_one bytes (took.Request a) took.NotYet x y first second = begins_not_short bytes a x first second.0
cuts_is_one bytes (took.Request a) (took.Bad rule) x y first second = bad_not_begins bytes a x rule first second.0
cuts_is_one bytes took.NotYet (took.Request b) x y first second = begins_not_short bytes b y second first.0
cuts_is_one bytes took.NotYet took.NotYet x y first second = (refl, first.1 ∙ sym second.1)
cuts_is_one bytes took.NotYet (took.Bad rule) x y first second = bad_not_short bytes rule second.0 first.0
cuts_is_one bytes (took.Bad rule) (took.Request b) x y first second = bad_not_begins bytes b y rule second first.0
cuts_is_one bytes (took.Bad rule) took.NotYet x y first second = bad_not_short bytes rule first.0 second.0
cuts_is_one bytes (took.Bad rule) (took.Bad other) x y first second =
    (ap took.Bad (bad_is_one bytes rule other first.0 second.0), first.1 ∙ sym second.1)

-- bytes that follow do not change what the bytes begin with, where that is there whole
pub cuts_append : (bytes more : List ℕ) (what : Took) (rest : List ℕ) → what ≢ took.NotYet → Cuts bytes what rest
    → Cuts (bytes ++ more) what (rest ++ more)
cuts_append bytes more (took.Request request) rest some cuts = begins_append bytes more request rest cuts
cuts_append bytes more took.NotYet rest some cuts = absurd (some refl)
cuts_append bytes more (took.Bad rule) rest some cuts =
    let bad = bad_append bytes more rule (cuts.0, refl) in
    (bad.0, ap (λ b. b ++ more) cuts.1)

-- ---- whole streams

-- bytes that follow leave the requests
pub cuts_into_append : (stream more : List ℕ) (requests : List Request) (rest : List ℕ) → CutsInto stream requests rest
    → CutsInto (stream ++ more) requests (rest ++ more)
cuts_into_append stream more [] rest cuts = ap (λ b. b ++ more) cuts
cuts_into_append stream more (request ∷ requests) rest cuts = (
  cuts.0 ++ more,
  begins_append stream more request cuts.0 cuts.1,
  cuts_into_append cuts.0 more requests rest cuts.2,
)

-- the requests of the rest follow
pub cuts_into_join : (stream : List ℕ) (first next : List Request) (rest left : List ℕ) → CutsInto stream first rest
    → CutsInto rest next left → CutsInto stream (first ++ next) left
cuts_into_join stream [] next rest left cuts others = subst (λ b. CutsInto b next left) (sym cuts) others
cuts_into_join stream (request ∷ first) next rest left cuts others =
    (cuts.0, cuts.1, cuts_into_join cuts.0 first next rest left cuts.2 others)

-- a stream is cut in one way, up to a rest that begins with no request
pub cuts_into_is_one : (stream : List ℕ) (a b : List Request) (x y : List ℕ) → CutsInto stream a x → CutsInto stream b y
    → BeginsWithNone x → BeginsWithNone y → (a ≡ b) × (x ≡ y)
cuts_into_is_one stream [] [] x y first second none other = (refl, sym first ∙ second)
cuts_into_is_one stream [] (request ∷ b) x y first second none other =
    absurd (none request second.0 (subst (λ s. BeginsWith s request second.0) first second.1))
cuts_into_is_one stream (request ∷ a) [] x y first second none other =
    absurd (other request first.0 (subst (λ s. BeginsWith s request first.0) second first.1))
cuts_into_is_one stream (request ∷ a) (first_of_b ∷ b) x y first second none other =
    let one = begins_is_one stream request first_of_b first.0 second.0 first.1 second.1 in
    let rest = cuts_into_is_one second.0 a b x y (subst (λ s. CutsInto s a x) one.1 first.2) second.2 none other in
    let head = one.0 in
    let tail = rest.0 in
    (cc, rest.1)
