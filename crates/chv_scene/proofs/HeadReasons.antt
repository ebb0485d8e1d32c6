-- A line outside of the sections fails for the first reason that holds of it.
use Rattle.std.proofs.Common.{◌≡◌, ◌≢◌, ◌⊎◌, inl, inr, ℕ, zero, suc, ◌+◌, ◌≤◌, ◌<◌, ◌==◌, ◌&&◌, not, nat_lt, nat_le, Bool, true, false, cond, List, [], ◌∷◌, ◌++◌, length, codes, Option, None, Some, Result, Ok, Err, refl, sym, ◌∙◌, ap, ap₂, subst, arith}
use Rattle.std.specs.Str.{bytes_eq}
use Rattle.std.proofs.lemmas.Bool.{cond-true, cond-false, ltb-true, ltb-false, lt-ltb}
use Rattle.std.proofs.lemmas.Bool.Decides.{nat_tests}
use Rattle.std.proofs.lemmas.Slice.Eq.{bytes_eq-Decides}
use Rattle.chv_defs_base.specs.Name.{is_name}
use Rattle.chv_defs_base.specs.Numbers.{dec, dec_text}
use Rattle.chv_defs_base.specs.declared.rule.Reason.{Reason}
use Rattle.chv_defs_base.specs.declared.rule.Reason.TheVariants.{UnknownWord, FieldCount, BadName, BadNumber, NotBuilt, OutOfOrder, TooMany}
use Rattle.chv_defs_scene.specs.LineShapes.{Kind, DiskName, Number, kinds_of, FieldsFail, FieldsFit, top_shapes}
use Rattle.chv_defs_scene.specs.ScenarioLines.{at_space, has_space, Before, Opening, OpensVcpu, OpensSession, OpensOrder, in_order, session_opening, order_opening, is_early, ranged, vcpu_numbers, vcpu_fields, vcpu_opening, is_first, late_number, late_disk, disk_reason, top_word}
use Rattle.chv_defs_scene.specs.ScriptReading.{fields_of}
use Rattle.chv_script.specs.Fields.{fields_behind}
use Rattle.chv_script.specs.Reasons.{LooksLike, LooksWrong}
use Rattle.chv_script.proofs.FieldLemmas.{field_there}
use Rattle.chv_script.proofs.KindLemmas.{dec_spelled}
use Rattle.chv_scene.specs.Reasons.{begins_with, sections, vcpu_head, IsOutOfOrder, IsTooMany, IsNotBuilt, HeadFails}
use Rattle.chv_scene.proofs.SpellingLemmas.{joined, at_space_joined}
use Rattle.chv_scene.proofs.ScriptLemmas.{first_of_fields}
use Rattle.chv_scene.proofs.FieldReasons.{one_field_there, more_fields, read_ranged, not_both}
use Rattle.chv_scene.proofs.SectionReasons.{wrong_fields, right_fields}

-- What stands before a line is told by the lines outside of the sections.
pub record Counts (b : Before) (heads : List (List ℕ)) : Type 0 where
  pub sessions : b.sessions ≡ sections (codes "session") heads
  pub order : b.has_order ≡ nat_lt 0 (sections (codes "order") heads)
  pub above : (n : ℕ) → n < b.next_vcpu → (higher other : ℕ) × (front behind : List (List ℕ)) × (heads ≡ front ++ vcpu_head higher other ∷ behind) × (n ≤ higher)
  pub none : heads ≡ [] → b.next_vcpu ≡ 0
  pub some : heads ≢ [] → is_first b ≡ false

-- ---- words

-- a line of this word begins with no other
pub other_word : (text word other : List ℕ) → (at_space text).0 ≡ word → bytes_eq word other ≡ false → begins_with other text ≡ true → ⊥
other_word text word other is differs h = not_both (ap (λ w. bytes_eq w other) is ∙ differs) h

has_word : (text word : List ℕ) → (at_space text).0 ≡ word → bytes_eq word word ≡ true → begins_with word text ≡ true
has_word text word is same = ap (λ w. bytes_eq w word) is ∙ same

-- by the kinds behind its word
wrong_word : (text word : List ℕ) (kinds : Option (List Kind)) (reason : Reason) → (at_space text).0 ≡ word → kinds_of top_shapes word ≡ kinds → FieldsFail kinds (fields_behind (at_space text).1) reason → LooksWrong top_shapes (fields_of text) reason
wrong_word text word kinds reason is known h = wrong_fields top_shapes text reason (subst (λ ks. FieldsFail ks (fields_behind (at_space text).1) reason) (sym (ap (kinds_of top_shapes) is ∙ known)) h)

right_word : (text word : List ℕ) (kinds : Option (List Kind)) → (at_space text).0 ≡ word → kinds_of top_shapes word ≡ kinds → FieldsFit kinds (fields_behind (at_space text).1) → LooksLike top_shapes (fields_of text)
right_word text word kinds is known h = right_fields top_shapes text (subst (λ ks. FieldsFit ks (fields_behind (at_space text).1)) (sym (ap (kinds_of top_shapes) is ∙ known)) h)

no_disk : (heads : List (List ℕ)) (text word : List ℕ) → (at_space text).0 ≡ word → bytes_eq word (codes "disk") ≡ false → IsNotBuilt heads text → ⊥
no_disk heads text word is differs (disk, none) = other_word text word (codes "disk") is differs disk

-- something stands behind a word that nothing may
too_much : (fields : Option (List ℕ)) (text : List ℕ) (reason : Reason) → fields ≡ Some text → reason ≡ FieldCount → FieldsFail (Some []) (fields_behind fields) reason
too_much fields text reason is why = let some = field_there text in subst (λ f. FieldsFail (Some []) (fields_behind f) reason) (sym is) (inl ((λ e. omega (arith, e, some)), why))

-- ---- sessions

session_late : (v w : Bool) (reason : Reason) → cond v (Err OutOfOrder) (cond w (Ok OpensSession) (Err TooMany)) ≡ Err reason → ((v ≡ true) × (reason ≡ OutOfOrder)) ⊎ ((v ≡ false) × (w ≡ false) × (reason ≡ TooMany))
session_late true w reason e = inl (refl, (cc))
session_late false true reason e = absurd (cc)
session_late false false reason e = inr (refl, refl, (cc))

session_in_order : (heads : List (List ℕ)) (text : List ℕ) → (at_space text).0 ≡ codes "session" → nat_lt 0 (sections (codes "order") heads) ≡ false → IsOutOfOrder heads text → ⊥
session_in_order heads text is none (inl (word, some)) = not_both none (lt-ltb 0 (sections (codes "order") heads) some)
session_in_order heads text is none (inr (inl (word, some))) = other_word text (codes "session") (codes "order") is refl word
session_in_order heads text is none (inr (inr (inl (word, some)))) = other_word text (codes "session") (codes "vcpu") is refl word
session_in_order heads text is none (inr (inr (inr (word, some)))) = other_word text (codes "session") (codes "disk") is refl word

session_fails : (b : Before) (heads : List (List ℕ)) (text : List ℕ) (reason : Reason) → Counts b heads → (at_space text).0 ≡ codes "session" → (fields : Option (List ℕ)) → (at_space text).1 ≡ fields → session_opening b fields ≡ Err reason → HeadFails heads text reason
session_fails b heads text reason counts is (Some behind) f e =
    let why : reason ≡ FieldCount = cc in
    inr (no_disk heads text (codes "session") is refl, inl (wrong_word text (codes "session") (Some []) reason is refl (too_much (at_space text).1 behind reason f why)))
session_fails b heads text reason counts is None f e = inr (no_disk heads text (codes "session") is refl, inr (looks, by_case (session_late b.has_order (nat_lt b.sessions 16) reason e)))
  where
    looks : LooksLike top_shapes (fields_of text)
    looks = right_word text (codes "session") (Some []) is refl (subst (λ fs. FieldsFit (Some []) (fields_behind fs)) (sym f) tt)

    by_case : ((b.has_order ≡ true) × (reason ≡ OutOfOrder)) ⊎ ((b.has_order ≡ false) × (nat_lt b.sessions 16 ≡ false) × (reason ≡ TooMany)) → (IsOutOfOrder heads text × (reason ≡ OutOfOrder)) ⊎ ((IsOutOfOrder heads text → ⊥) × IsTooMany heads text × (reason ≡ TooMany))
    by_case (inl (late, why)) = inl (inl (has_word text (codes "session") is refl, ltb-true 0 (sections (codes "order") heads) (sym counts.order ∙ late)), why)
    by_case (inr (early, full, why)) = inr (session_in_order heads text is (sym counts.order ∙ early), (has_word text (codes "session") is refl, subst (λ n. 16 ≤ n) counts.sessions (ltb-false b.sessions 16 full)), why)

-- ---- the order

in_order_fails : (v : Bool) (o : Opening) (reason : Reason) → in_order v o ≡ Err reason → (v ≡ false) × (reason ≡ OutOfOrder)
in_order_fails true o reason e = absurd (cc)
in_order_fails false o reason e = (refl, (cc))

not_not : (v : Bool) → not v ≡ false → v ≡ true
not_not true h = refl
not_not false h = absurd (cc)

order_fails : (b : Before) (heads : List (List ℕ)) (text : List ℕ) (reason : Reason) → Counts b heads → (at_space text).0 ≡ codes "order" → (fields : Option (List ℕ)) → (at_space text).1 ≡ fields → order_opening b fields ≡ Err reason → HeadFails heads text reason
order_fails b heads text reason counts is (Some behind) f e =
    let why : reason ≡ FieldCount = cc in
    inr (no_disk heads text (codes "order") is refl, inl (wrong_word text (codes "order") (Some []) reason is refl (too_much (at_space text).1 behind reason f why)))
order_fails b heads text reason counts is None f e =
    let found = in_order_fails (not b.has_order) OpensOrder reason e in
    inr (
      no_disk heads text (codes "order") is refl,
      inr (
        right_word text (codes "order") (Some []) is refl (subst (λ fs. FieldsFit (Some []) (fields_behind fs)) (sym f) tt),
        inl (inr (inl (has_word text (codes "order") is refl, ltb-true 0 (sections (codes "order") heads) (sym counts.order ∙ not_not b.has_order found.0))), found.1),
      ),
    )

-- ---- vCPUs

abbrev vcpu_kinds : List Kind
vcpu_kinds = Number 0 15 ∷ Number 0 1048576 ∷ []

-- why the line fails, or that it is out of order
abbrev VcpuFails : Before → Option (List ℕ) → Reason → Type 0
VcpuFails b fields reason =
    FieldsFail (Some vcpu_kinds) (fields_behind fields) reason
    ⊎ (FieldsFit (Some vcpu_kinds) (fields_behind fields)
    × ((vcpu fuel : ℕ) × (fields ≡ Some (dec_text vcpu ++ 32 ∷ dec_text fuel)) × ((is_early b && nat_le b.next_vcpu vcpu) ≡ false) × (reason ≡ OutOfOrder)))

-- the same of two fields
abbrev NumbersFail : Before → List ℕ → List ℕ → Reason → Type 0
NumbersFail b number fuel reason =
    FieldsFail (Some vcpu_kinds) (number ∷ fuel ∷ []) reason
    ⊎ (FieldsFit (Some vcpu_kinds) (number ∷ fuel ∷ [])
    × ((n f : ℕ) × (number ≡ dec_text n) × (fuel ≡ dec_text f) × ((is_early b && nat_le b.next_vcpu n) ≡ false) × (reason ≡ OutOfOrder)))

numbers_fail : (b : Before) (number fuel : List ℕ) (reason : Reason) (first second : Result ℕ Reason) → ranged 0 15 (dec number) ≡ first → ranged 0 1048576 (dec fuel) ≡ second → vcpu_numbers b first second ≡ Err reason → NumbersFail b number fuel reason
numbers_fail b number fuel reason (Err why) second is also e =
    let same : why ≡ reason = cc in
    inl (inr (refl, inl ((read_ranged 0 15 (omega arith)).fails number reason (is ∙ ap Err same))))
numbers_fail b number fuel reason (Ok n) (Err why) is also e =
    let same : why ≡ reason = cc in
    inl (inr (refl, inr ((read_ranged 0 15 (omega arith)).fits number n is, inl ((read_ranged 0 1048576 (omega arith)).fails fuel reason (also ∙ ap Err same)))))
numbers_fail b number fuel reason (Ok n) (Ok f) is also e =
    let found = in_order_fails (is_early b && nat_le b.next_vcpu n) (OpensVcpu n f) reason e in
    inr (
      ((read_ranged 0 15 (omega arith)).fits number n is, ((read_ranged 0 1048576 (omega arith)).fits fuel f also, tt)),
      (n, f, number_is 15 number n is, number_is 1048576 fuel f also, found.0, found.1),
    )
  where
    number_is : (high : ℕ) (text : List ℕ) (n : ℕ) → ranged 0 high (dec text) ≡ Ok n → text ≡ dec_text n
    number_is high text n e = dec_spelled text n (kept high (dec text) n e)
      where
        chosen : (v : Bool) (m n : ℕ) → cond v (Ok m) (Err BadNumber) ≡ Ok n → m ≡ n
        chosen true m n e = cc
        chosen false m n e = absurd (cc)

        kept : (high : ℕ) (found : Option ℕ) (n : ℕ) → ranged 0 high found ≡ Ok n → found ≡ Some n
        kept high None n e = absurd (cc)
        kept high (Some m) n e = ap Some (chosen (nat_le 0 m && nat_le m high) m n e)

-- two fields, of which there may be more
fields_fail : (b : Before) (fields number : List ℕ) (behind : Option (List ℕ)) (reason : Reason) → fields ≡ joined number behind → fields_of fields ≡ number ∷ fields_behind behind → vcpu_fields b number behind ≡ Err reason → VcpuFails b (Some fields) reason
fields_fail b fields number None reason whole all e =
    let why : reason ≡ FieldCount = cc in
    let counted : length (fields_of fields) ≡ length (number ∷ fields_behind None) = ap length all in
    inl (inl ((λ h. omega (arith, counted, h)), why))
fields_fail b fields number (Some fuel) reason whole all e = by_space (has_space fuel) refl e
  where
    by_space : (v : Bool) → has_space fuel ≡ v → cond v (Err FieldCount) (vcpu_numbers b (ranged 0 15 (dec number)) (ranged 0 1048576 (dec fuel))) ≡ Err reason → VcpuFails b (Some fields) reason
    by_space true is e =
        let why : reason ≡ FieldCount = cc in
        let more = more_fields fuel is in
        let counted : length (fields_of fields) ≡ length (number ∷ fields_of fuel) = ap length all in
        inl (inl ((λ h. omega (arith, counted, more, h)), why))
    by_space false is e = by_numbers (numbers_fail b number fuel reason _ _ refl refl e)
      where
        two : fields_of fields ≡ number ∷ fuel ∷ []
        two = all ∙ ap (λ fs. number ∷ fs) (one_field_there fuel is)

        by_numbers : NumbersFail b number fuel reason → VcpuFails b (Some fields) reason
        by_numbers (inl wrong) = inl (subst (λ fs. FieldsFail (Some vcpu_kinds) fs reason) (sym two) wrong)
        by_numbers (inr (fit, (n, f, first, second, late, why))) =
            inr (subst (FieldsFit (Some vcpu_kinds)) (sym two) fit, (n, f, ap Some (whole ∙ ap₂ (λ x y. x ++ 32 ∷ y) first second), late, why))

opening_fails : (b : Before) (fields : Option (List ℕ)) (reason : Reason) → vcpu_opening b fields ≡ Err reason → VcpuFails b fields reason
opening_fails b None reason e = let why : reason ≡ FieldCount = cc in inl (inl ((λ h. omega (arith, h)), why))
opening_fails b (Some fields) reason e = fields_fail b fields (at_space fields).0 (at_space fields).1 reason (sym (at_space_joined fields)) (first_of_fields fields) e

and_fails : (v w : Bool) → (v && w) ≡ false → (v ≡ false) ⊎ (w ≡ false)
and_fails true w e = inr e
and_fails false w e = inl refl

-- what is not early stands behind a session or the order
late : (b : Before) (heads : List (List ℕ)) → Counts b heads → is_early b ≡ false → 0 < sections (codes "session") heads + sections (codes "order") heads
late b heads counts e = by_both (and_fails (b.sessions == 0) (not b.has_order) e)
  where
    zero_or : (n : ℕ) → (n == 0) ≡ false → 0 < n
    zero_or zero h = absurd (cc)
    zero_or (suc n) h = omega arith

    by_both : ((b.sessions == 0) ≡ false) ⊎ (not b.has_order ≡ false) → 0 < sections (codes "session") heads + sections (codes "order") heads
    by_both (inl h) = let some = subst (λ n. 0 < n) counts.sessions (zero_or b.sessions h) in omega (arith, some)
    by_both (inr h) = let some = ltb-true 0 (sections (codes "order") heads) (sym counts.order ∙ not_not b.has_order h) in omega (arith, some)

le_fails : (a b : ℕ) → nat_le a b ≡ false → b < a
le_fails a b h = grind (arith, nat_tests)

vcpu_fails : (b : Before) (heads : List (List ℕ)) (text : List ℕ) (reason : Reason) → Counts b heads → (at_space text).0 ≡ codes "vcpu" → vcpu_opening b (at_space text).1 ≡ Err reason → HeadFails heads text reason
vcpu_fails b heads text reason counts is e = inr (no_disk heads text (codes "vcpu") is refl, by_case (opening_fails b (at_space text).1 reason e))
  where
    word : begins_with (codes "vcpu") text ≡ true
    word = has_word text (codes "vcpu") is refl

    by_order : (vcpu fuel : ℕ) → text ≡ vcpu_head vcpu fuel → (is_early b ≡ false) ⊎ (nat_le b.next_vcpu vcpu ≡ false) → IsOutOfOrder heads text
    by_order vcpu fuel spelled (inl h) = inr (inr (inl (word, inl (late b heads counts h))))
    by_order vcpu fuel spelled (inr h) =
        let found = counts.above vcpu (le_fails b.next_vcpu vcpu h) in
        inr (inr (inl (word, inr (vcpu, fuel, found.0, found.1, found.2, found.3, spelled, found.4, found.5))))

    by_case : VcpuFails b (at_space text).1 reason → LooksWrong top_shapes (fields_of text) reason ⊎ (LooksLike top_shapes (fields_of text) × ((IsOutOfOrder heads text × (reason ≡ OutOfOrder)) ⊎ ((IsOutOfOrder heads text → ⊥) × IsTooMany heads text × (reason ≡ TooMany))))
    by_case (inl wrong) = inl (wrong_word text (codes "vcpu") (Some vcpu_kinds) reason is refl wrong)
    by_case (inr (fit, (vcpu, fuel, fields, out, why))) =
        let spelled : text ≡ vcpu_head vcpu fuel = sym (at_space_joined text) ∙ ap₂ joined is fields in
        inr (right_word text (codes "vcpu") (Some vcpu_kinds) is refl fit, inl (by_order vcpu fuel spelled (and_fails (is_early b) (nat_le b.next_vcpu vcpu) out), why))

-- ---- disks

abbrev disk_kinds : List Kind
disk_kinds = DiskName ∷ Number 1 8192 ∷ []

-- why a disk's line fails behind a section
abbrev DiskFails : Option (List ℕ) → Reason → Type 0
DiskFails fields reason = FieldsFail (Some disk_kinds) (fields_behind fields) reason ⊎ (FieldsFit (Some disk_kinds) (fields_behind fields) × (reason ≡ OutOfOrder))

abbrev PartsFail : List ℕ → List ℕ → Reason → Type 0
PartsFail name size reason = FieldsFail (Some disk_kinds) (name ∷ size ∷ []) reason ⊎ (FieldsFit (Some disk_kinds) (name ∷ size ∷ []) × (reason ≡ OutOfOrder))

late_size : (name size : List ℕ) (reason : Reason) → is_name name ≡ true → (found : Result ℕ Reason) → ranged 1 8192 (dec size) ≡ found → late_number found ≡ reason → PartsFail name size reason
late_size name size reason named (Err why) is e = inl (inr (refl, inr (named, inl ((read_ranged 1 8192 (omega arith)).fails size reason (is ∙ ap Err e)))))
late_size name size reason named (Ok n) is e = inr ((named, ((read_ranged 1 8192 (omega arith)).fits size n is, tt)), sym e)

late_name : (name size : List ℕ) (reason : Reason) (v : Bool) → is_name name ≡ v → cond (not v) BadName (late_number (ranged 1 8192 (dec size))) ≡ reason → PartsFail name size reason
late_name name size reason true is e = late_size name size reason is _ refl e
late_name name size reason false is e = inl (inr (refl, inl ((λ named. not_both is named), sym e)))

late_fails : (fields name : List ℕ) (behind : Option (List ℕ)) (reason : Reason) → fields_of fields ≡ name ∷ fields_behind behind → late_disk name behind ≡ reason → DiskFails (Some fields) reason
late_fails fields name None reason all e =
    let counted : length (fields_of fields) ≡ length (name ∷ fields_behind None) = ap length all in
    inl (inl ((λ h. omega (arith, counted, h)), sym e))
late_fails fields name (Some size) reason all e = by_space (has_space size) refl e
  where
    by_space : (v : Bool) → has_space size ≡ v → cond v FieldCount (cond (not (is_name name)) BadName (late_number (ranged 1 8192 (dec size)))) ≡ reason → DiskFails (Some fields) reason
    by_space true is e =
        let more = more_fields size is in
        let counted : length (fields_of fields) ≡ length (name ∷ fields_of size) = ap length all in
        inl (inl ((λ h. omega (arith, counted, more, h)), sym e))
    by_space false is e = subst (λ fs. FieldsFail (Some disk_kinds) fs reason ⊎ (FieldsFit (Some disk_kinds) fs × (reason ≡ OutOfOrder))) (sym (all ∙ ap (λ fs. name ∷ fs) (one_field_there size is))) (late_name name size reason (is_name name) refl e)

behind_fails : (b : Before) (fields : Option (List ℕ)) (reason : Reason) → is_first b ≡ false → disk_reason b fields ≡ reason → DiskFails fields reason
behind_fails b None reason later e = inl (inl ((λ h. omega (arith, h)), sym e ∙ cond-false (is_first b) NotBuilt FieldCount later))
behind_fails b (Some fields) reason later e = late_fails fields (at_space fields).0 (at_space fields).1 reason (first_of_fields fields) (sym (cond-false (is_first b) NotBuilt (late_disk (at_space fields).0 (at_space fields).1) later) ∙ e)

first_fails : (b : Before) (fields : Option (List ℕ)) (reason : Reason) → is_first b ≡ true → disk_reason b fields ≡ reason → reason ≡ NotBuilt
first_fails b None reason first e = sym e ∙ cond-true (is_first b) NotBuilt FieldCount first
first_fails b (Some fields) reason first e = sym e ∙ cond-true (is_first b) NotBuilt (late_disk (at_space fields).0 (at_space fields).1) first

-- where nothing stands before a line, later head does
no_heads : (b : Before) (heads : List (List ℕ)) → Counts b heads → is_first b ≡ true → heads ≡ []
no_heads b [] counts h = refl
no_heads b (head ∷ heads) counts h = absurd (not_both (counts.some (λ e. cc)) h)

heads_there : (b : Before) (heads : List (List ℕ)) → Counts b heads → is_first b ≡ false → heads ≢ []
heads_there b [] counts h e = not_both h (ap₂ (λ s v. s && v == 0) (ap₂ (λ n o. n == 0 && not o) counts.sessions counts.order) (counts.none refl))
heads_there b (head ∷ heads) counts h e = cc

disk_fails : (b : Before) (heads : List (List ℕ)) (text : List ℕ) (reason : Reason) → Counts b heads → (at_space text).0 ≡ codes "disk" → disk_reason b (at_space text).1 ≡ reason → HeadFails heads text reason
disk_fails b heads text reason counts is e = by_first (is_first b) refl
  where
    word : begins_with (codes "disk") text ≡ true
    word = has_word text (codes "disk") is refl

    by_case : heads ≢ [] → DiskFails (at_space text).1 reason → HeadFails heads text reason
    by_case some (inl wrong) = inr ((λ later. some later.1), inl (wrong_word text (codes "disk") (Some disk_kinds) reason is refl wrong))
    by_case some (inr (fit, why)) = inr ((λ later. some later.1), inr (right_word text (codes "disk") (Some disk_kinds) is refl fit, inl (inr (inr (inr (word, some))), why)))

    by_first : (v : Bool) → is_first b ≡ v → HeadFails heads text reason
    by_first true first = inl ((word, no_heads b heads counts first), first_fails b (at_space text).1 reason first e)
    by_first false later = by_case (heads_there b heads counts later) (behind_fails b (at_space text).1 reason later e)

-- ---- any word

same_word : (word other : List ℕ) → bytes_eq word other ≡ true → word ≡ other
same_word word other test = (bytes_eq-Decides word other).0 test

err_is : (A : Type 0) (x y : Reason) → (let r : Result A Reason = Err x in r) ≡ Err y → x ≡ y
err_is A x y e = cc

pub head_fails : (b : Before) (heads : List (List ℕ)) (text : List ℕ) (reason : Reason) → Counts b heads → top_word b (at_space text).0 (at_space text).1 ≡ Err reason → HeadFails heads text reason
head_fails b heads text reason counts e = by_session (bytes_eq (at_space text).0 (codes "session")) refl e
  where
    unknown : bytes_eq (at_space text).0 (codes "session") ≡ false → bytes_eq (at_space text).0 (codes "vcpu") ≡ false → bytes_eq (at_space text).0 (codes "order") ≡ false → bytes_eq (at_space text).0 (codes "disk") ≡ false → kinds_of top_shapes (at_space text).0 ≡ None
    unknown s v o d = cond-false _ _ _ s ∙ (cond-false _ _ _ v ∙ (cond-false _ _ _ o ∙ cond-false _ _ _ d))

    by_disk : bytes_eq (at_space text).0 (codes "session") ≡ false → bytes_eq (at_space text).0 (codes "vcpu") ≡ false → bytes_eq (at_space text).0 (codes "order") ≡ false → (v : Bool) → bytes_eq (at_space text).0 (codes "disk") ≡ v → (let r : Result Opening Reason = cond v (Err (disk_reason b (at_space text).1)) (Err UnknownWord) in r) ≡ Err reason → HeadFails heads text reason
    by_disk s v o true is e = disk_fails b heads text reason counts (same_word _ _ is) (err_is Opening (disk_reason b (at_space text).1) reason e)
    by_disk s v o false is e = inr ((λ later. not_both is later.0), inl (wrong_fields top_shapes text reason (subst (λ ks. FieldsFail ks (fields_behind (at_space text).1) reason) (sym (unknown s v o is)) (sym (err_is Opening UnknownWord reason e)))))

    by_order : bytes_eq (at_space text).0 (codes "session") ≡ false → bytes_eq (at_space text).0 (codes "vcpu") ≡ false → (v : Bool) → bytes_eq (at_space text).0 (codes "order") ≡ v → cond v (order_opening b (at_space text).1) (cond (bytes_eq (at_space text).0 (codes "disk")) (Err (disk_reason b (at_space text).1)) (Err UnknownWord)) ≡ Err reason → HeadFails heads text reason
    by_order s v true is e = order_fails b heads text reason counts (same_word _ _ is) (at_space text).1 refl e
    by_order s v false is e = by_disk s v is _ refl e

    by_vcpu : bytes_eq (at_space text).0 (codes "session") ≡ false → (v : Bool) → bytes_eq (at_space text).0 (codes "vcpu") ≡ v → cond v (vcpu_opening b (at_space text).1) (cond (bytes_eq (at_space text).0 (codes "order")) (order_opening b (at_space text).1) (cond (bytes_eq (at_space text).0 (codes "disk")) (Err (disk_reason b (at_space text).1)) (Err UnknownWord))) ≡ Err reason → HeadFails heads text reason
    by_vcpu s true is e = vcpu_fails b heads text reason counts (same_word _ _ is) e
    by_vcpu s false is e = by_order s is _ refl e

    by_session : (v : Bool) → bytes_eq (at_space text).0 (codes "session") ≡ v → cond v (session_opening b (at_space text).1) (cond (bytes_eq (at_space text).0 (codes "vcpu")) (vcpu_opening b (at_space text).1) (cond (bytes_eq (at_space text).0 (codes "order")) (order_opening b (at_space text).1) (cond (bytes_eq (at_space text).0 (codes "disk")) (Err (disk_reason b (at_space text).1)) (Err UnknownWord)))) ≡ Err reason → HeadFails heads text reason
    by_session true is e = session_fails b heads text reason counts (same_word _ _ is) (at_space text).1 refl e
    by_session false is e = by_vcpu is _ refl e
