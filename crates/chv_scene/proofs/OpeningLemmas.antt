-- What is known of a line that opens a section.
use Rattle.std.proofs.Common.{◌≡◌, ℕ, ◌<◌, ◌≤◌, ◌&&◌, not, nat_lt, nat_le, Bool, true, false, cond, List, ◌∷◌, ◌++◌, codes, Option, None, Some, Result, Ok, Err, refl, sym, ap, ap₂, subst}
use Rattle.std.specs.Str.{bytes_eq}
use Rattle.std.proofs.lemmas.Bool.{and_parts, ltb-true, leb-true}
use Rattle.chv_defs_base.specs.Numbers.{dec, dec_text}
use Rattle.chv_defs_base.specs.declared.rule.Reason.{Reason}
use Rattle.chv_defs_base.specs.declared.rule.Reason.TheVariants.{UnknownWord, FieldCount, BadNumber, OutOfOrder, TooMany}
use Rattle.chv_defs_scene.specs.ScenarioLines.{at_space, has_space, Before, Opening, OpensVcpu, OpensSession, OpensOrder, in_order, session_opening, order_opening, is_early, ranged, vcpu_numbers, vcpu_fields, vcpu_opening, disk_reason, top_word, top_line}
use Rattle.chv_defs_scene.specs.ScriptText.{field}
use Rattle.chv_script.proofs.FieldLemmas.{not_is}
use Rattle.chv_script.proofs.KindLemmas.{dec_spelled}
use Rattle.chv_scene.proofs.SpellingLemmas.{joined, with_feed, at_space_joined, by_test, no_fault}
use Rattle.std.proofs.lemmas.Slice.Eq.{bytes_eq-Decides}

-- the line that opens a section
abbrev pub opening_text : Opening → List ℕ
opening_text (OpensVcpu vcpu fuel) = codes "vcpu" ++ field (dec_text vcpu) ++ field (dec_text fuel) ++ codes "\n"
opening_text OpensSession = codes "session\n"
opening_text OpensOrder = codes "order\n"

-- whether a section can be opened there
abbrev pub MayOpen : Before → Opening → Type 0
MayOpen b (OpensVcpu vcpu fuel) = (is_early b ≡ true) × (b.next_vcpu ≤ vcpu) × (vcpu ≤ 15) × (fuel ≤ 1048576)
MayOpen b OpensSession = (b.has_order ≡ false) × (b.sessions < 16)
MayOpen b OpensOrder = b.has_order ≡ false

-- a text opens a section there
pub record IsOpening (b : Before) (text : List ℕ) (o : Opening) : Type 0 where
  pub spelled : text ≡ opening_text o
  pub may : MayOpen b o

-- what is kept where a test holds
kept_is : {A : Type 0} (v : Bool) (x y : A) (reason : Reason) → cond v (Ok x) (Err reason) ≡ Ok y → (v ≡ true) × (x ≡ y)
kept_is true x y reason e = (refl, (cc))
kept_is false x y reason e = absurd (cc)

pub in_order_is : (v : Bool) (x o : Opening) → in_order v x ≡ Ok o → (v ≡ true) × (x ≡ o)
in_order_is true x o e = (refl, (cc))
in_order_is false x o e = absurd (cc)

-- ---- sessions and the order

pub session_by : (v w : Bool) (o : Opening) → cond v (Err OutOfOrder) (cond w (Ok OpensSession) (Err TooMany)) ≡ Ok o → (v ≡ false) × (w ≡ true) × (OpensSession ≡ o)
session_by true w o e = absurd (cc)
session_by false true o e = (refl, refl, (cc))
session_by false false o e = absurd (cc)

session_opens : (b : Before) (fields : Option (List ℕ)) (o : Opening) → session_opening b fields ≡ Ok o → IsOpening b (joined (codes "session") fields ++ codes "\n") o
session_opens b (Some fields) o e = absurd (cc)
session_opens b None o e =
    let found = session_by b.has_order (nat_lt b.sessions 16) o e in
    subst (IsOpening b (codes "session\n")) found.2 (record { spelled = refl; may = (found.0, ltb-true b.sessions 16 found.1) })

order_opens : (b : Before) (fields : Option (List ℕ)) (o : Opening) → order_opening b fields ≡ Ok o → IsOpening b (joined (codes "order") fields ++ codes "\n") o
order_opens b (Some fields) o e = absurd (cc)
order_opens b None o e =
    let found = in_order_is (not b.has_order) OpensOrder o e in
    subst (IsOpening b (codes "order\n")) found.1 (record { spelled = refl; may = not_is b.has_order found.0 })

-- ---- vCPUs

ranged_is : (low high : ℕ) (found : Option ℕ) (n : ℕ) → ranged low high found ≡ Ok n → (found ≡ Some n) × (n ≤ high)
ranged_is low high None n e = absurd (cc)
ranged_is low high (Some m) n e =
    let kept = kept_is (nat_le low m && nat_le m high) m n BadNumber e in
    (ap Some kept.1, subst (λ k. k ≤ high) kept.1 (leb-true m high (and_parts (nat_le low m) (nat_le m high) kept.0).1))

-- the numbers of a line that opens a vCPU's section
record Numbers (b : Before) (vcpu fuel : Result ℕ Reason) (o : Opening) : Type 0 where
  n : ℕ
  f : ℕ
  vcpu_is : vcpu ≡ Ok n
  fuel_is : fuel ≡ Ok f
  early : (is_early b && nat_le b.next_vcpu n) ≡ true
  is : OpensVcpu n f ≡ o

numbers_are : (b : Before) (vcpu fuel : Result ℕ Reason) (o : Opening) → vcpu_numbers b vcpu fuel ≡ Ok o → Numbers b vcpu fuel o
numbers_are b (Err reason) fuel o e = absurd (cc)
numbers_are b (Ok n) (Err reason) o e = absurd (cc)
numbers_are b (Ok n) (Ok f) o e =
    let found = in_order_is (is_early b && nat_le b.next_vcpu n) (OpensVcpu n f) o e in
    record { n = n; f = f; vcpu_is = refl; fuel_is = refl; early = found.0; is = found.1 }

vcpu_text : (number fuel : List ℕ) (n f : ℕ) → number ≡ dec_text n → fuel ≡ dec_text f → (codes "vcpu" ++ 32 ∷ (number ++ 32 ∷ fuel)) ++ codes "\n" ≡ opening_text (OpensVcpu n f)
vcpu_text number fuel n f a b = ap₂ (λ x y. codes "vcpu" ++ field x ++ field y ++ codes "\n") a b

fields_open : (b : Before) (number : List ℕ) (fuel : Option (List ℕ)) (o : Opening) → vcpu_fields b number fuel ≡ Ok o → IsOpening b ((codes "vcpu" ++ 32 ∷ joined number fuel) ++ codes "\n") o
fields_open b number None o e = absurd (cc)
fields_open b number (Some fuel) o e =
    let are = numbers_are b (ranged 0 15 (dec number)) (ranged 0 1048576 (dec fuel)) o (no_fault (has_space fuel) FieldCount _ o e) in
    let vcpu = ranged_is 0 15 (dec number) are.n are.vcpu_is in
    let most = ranged_is 0 1048576 (dec fuel) are.f are.fuel_is in
    let tests = and_parts (is_early b) (nat_le b.next_vcpu are.n) are.early in
    subst (IsOpening b ((codes "vcpu" ++ 32 ∷ joined number (Some fuel)) ++ codes "\n")) are.is (record {
      spelled = vcpu_text number fuel are.n are.f (dec_spelled number are.n vcpu.0) (dec_spelled fuel are.f most.0);
      may = (tests.0, leb-true b.next_vcpu are.n tests.1, vcpu.1, most.1);
    })

vcpu_opens : (b : Before) (fields : Option (List ℕ)) (o : Opening) → vcpu_opening b fields ≡ Ok o → IsOpening b (joined (codes "vcpu") fields ++ codes "\n") o
vcpu_opens b None o e = absurd (cc)
vcpu_opens b (Some fields) o e =
    subst (λ text. IsOpening b ((codes "vcpu" ++ 32 ∷ text) ++ codes "\n") o) (at_space_joined fields) (fields_open b (at_space fields).0 (at_space fields).1 o e)

-- ---- a line

-- a word that is this one
word_is : (b : Before) (word other : List ℕ) (fields : Option (List ℕ)) (o : Opening) → IsOpening b (joined other fields ++ codes "\n") o → bytes_eq word other ≡ true → IsOpening b (joined word fields ++ codes "\n") o
word_is b word other fields o h test = subst (λ w. IsOpening b (joined w fields ++ codes "\n") o) (sym ((bytes_eq-Decides word other).0 test)) h

no_opening : (v : Bool) (x y : Reason) (o : Opening) (G : Type 0) → cond v (Err x) (Err y) ≡ Ok o → G
no_opening true x y o G e = absurd (cc)
no_opening false x y o G e = absurd (cc)

word_opens : (b : Before) (word : List ℕ) (fields : Option (List ℕ)) (o : Opening) → top_word b word fields ≡ Ok o → IsOpening b (joined word fields ++ codes "\n") o
word_opens b word fields o =
    by_test (bytes_eq word (codes "session")) (session_opening b fields) _ (Ok o) _ (λ test e. word_is b word (codes "session") fields o (session_opens b fields o e) test) (
    by_test (bytes_eq word (codes "vcpu")) (vcpu_opening b fields) _ (Ok o) _ (λ test e. word_is b word (codes "vcpu") fields o (vcpu_opens b fields o e) test) (
    by_test (bytes_eq word (codes "order")) (order_opening b fields) _ (Ok o) _ (λ test e. word_is b word (codes "order") fields o (order_opens b fields o e) test) (
    no_opening (bytes_eq word (codes "disk")) (disk_reason b fields) UnknownWord o _)))

-- a line that opens a section is the line of that section, which can be opened there
pub top_opens : (b : Before) (text : List ℕ) (v : Bool) (o : Opening) → top_line b (record { text = text; is_ended = v }) ≡ Ok o → IsOpening b (with_feed (record { text = text; is_ended = v })) o
top_opens b text true o e = subst (λ t. IsOpening b (t ++ codes "\n") o) (at_space_joined text) (word_opens b (at_space text).0 (at_space text).1 o e)
top_opens b text false o e = absurd (cc)
