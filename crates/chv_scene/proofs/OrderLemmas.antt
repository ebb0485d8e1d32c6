-- A step of the order that is read is spelled as it is, and can stand in a scenario.
use Rattle.std.proofs.Common.{◌≡◌, ℕ, ◌^◌, nat_lt, Bool, true, false, List, ◌++◌, codes, Option, None, Some, Ok, Err, refl, sym, ◌∙◌, ap, subst}
use Rattle.std.specs.Str.{bytes_eq}
use Rattle.std.proofs.lemmas.Slice.Eq.{bytes_eq-Decides}
use Rattle.chv_defs_base.specs.Numbers.{is_decimal_digit, dec, dec_text}
use Rattle.chv_defs_base.specs.declared.rule.Reason.TheVariants.{UnknownWord, FieldCount}
use Rattle.chv_defs_scene.specs.declared.scene.OrderStep.{OrderStep}
use Rattle.chv_defs_scene.specs.declared.scene.OrderStep.TheVariants as step
use Rattle.chv_defs_scene.specs.ScenarioLines.{at_space, has_space, Part, Has, end_line, numbered, number_line, queue_line, order_word, most_steps, order_line}
use Rattle.chv_defs_scene.specs.ScenarioText.{is_step}
use Rattle.chv_defs_scene.specs.SceneText.{step_line}
use Rattle.chv_defs_scene.specs.ScriptText.{field}
use Rattle.chv_script.proofs.KindLemmas.{dec_spelled, number_small}
use Rattle.chv_scene.proofs.SpellingLemmas.{joined, with_feed, part_text, at_space_joined, by_test, no_fault, end_spelled}
use Rattle.chv_scene.proofs.RequestLemmas.{is_good, end_good}
use Rattle.chv_scene.proofs.ScriptLemmas.{Room, at_most_is}

-- a text is the line of what it means, which can stand there
pub record IsStepLine (text : List ℕ) (p : Part OrderStep) : Type 0 where
  pub spelled : text ≡ part_text step_line p
  pub good : is_good is_step p ≡ true

-- the number of a step
numbered_is : (make : ℕ → OrderStep) (found : Option ℕ) (p : Part OrderStep) → numbered make found ≡ Ok p → (n : ℕ) × (found ≡ Some n) × (Has (make n) ≡ p)
numbered_is make None p e = absurd (cc)
numbered_is make (Some n) p e = (n, refl, (cc))

number_is : (make : ℕ → OrderStep) (word : List ℕ) (fields : Option (List ℕ)) (p : Part OrderStep) → ((n : ℕ) → step_line (make n) ≡ word ++ field (dec_text n) ++ codes "\n") → ((n : ℕ) → is_step (make n) ≡ nat_lt n (2 ^ 64)) → number_line make fields ≡ Ok p → IsStepLine (joined word fields ++ codes "\n") p
number_is make word None p text test e = absurd (cc)
number_is make word (Some number) p text test e =
    let found = numbered_is make (dec number) p (no_fault (has_space number) FieldCount _ p e) in
    let same : word ++ field number ++ codes "\n" ≡ word ++ field (dec_text found.0) ++ codes "\n" = ap (λ t. word ++ field t ++ codes "\n") (dec_spelled number found.0 found.1) in
    subst (IsStepLine (joined word (Some number) ++ codes "\n")) found.2 (record {
      spelled = same ∙ sym (text found.0);
      good = test found.0 ∙ number_small 10 is_decimal_digit number found.0 found.1;
    })

queue_is : (fields : Option (List ℕ)) (p : Part OrderStep) → queue_line fields ≡ Ok p → IsStepLine (joined (codes "q") fields ++ codes "\n") p
queue_is None p e = let is : Has step.Queue ≡ p = cc in subst (IsStepLine (codes "q\n")) is (record { spelled = refl; good = refl })
queue_is (Some fields) p e = absurd (cc)

end_is : (fields : Option (List ℕ)) (p : Part OrderStep) → end_line fields ≡ Ok p → IsStepLine (joined (codes "end") fields ++ codes "\n") p
end_is fields p e = record { spelled = end_spelled step_line fields p e; good = end_good is_step fields p e }

-- a word that is this one
word_is : (word other : List ℕ) (fields : Option (List ℕ)) (p : Part OrderStep) → IsStepLine (joined other fields ++ codes "\n") p → bytes_eq word other ≡ true → IsStepLine (joined word fields ++ codes "\n") p
word_is word other fields p h test = subst (λ w. IsStepLine (joined w fields ++ codes "\n") p) (sym ((bytes_eq-Decides word other).0 test)) h

order_word_is : (word : List ℕ) (fields : Option (List ℕ)) (p : Part OrderStep) → order_word word fields ≡ Ok p → IsStepLine (joined word fields ++ codes "\n") p
order_word_is word fields p =
    by_test (bytes_eq word (codes "s")) (number_line step.Session fields) _ (Ok p) _ (λ test e. word_is word (codes "s") fields p (number_is step.Session (codes "s") fields p (λ n. refl) (λ n. refl) e) test) (
    by_test (bytes_eq word (codes "v")) (number_line step.Vcpu fields) _ (Ok p) _ (λ test e. word_is word (codes "v") fields p (number_is step.Vcpu (codes "v") fields p (λ n. refl) (λ n. refl) e) test) (
    by_test (bytes_eq word (codes "q")) (queue_line fields) _ (Ok p) _ (λ test e. word_is word (codes "q") fields p (queue_is fields p e) test) (
    by_test (bytes_eq word (codes "end")) (end_line fields) (Err UnknownWord) (Ok p) _ (λ test e. word_is word (codes "end") fields p (end_is fields p e) test) (
    λ e. absurd (cc)))))

-- a line of the order
pub order_line_is : (steps : ℕ) (text : List ℕ) (v : Bool) (p : Part OrderStep) → order_line steps (record { text = text; is_ended = v }) ≡ Ok p → IsStepLine (with_feed (record { text = text; is_ended = v })) p × Room most_steps steps p
order_line_is steps text true p e =
    let found = at_most_is most_steps steps (order_word (at_space text).0 (at_space text).1) p e in
    (subst (λ t. IsStepLine (t ++ codes "\n") p) (at_space_joined text) (order_word_is (at_space text).0 (at_space text).1 p found.0), found.1)
order_line_is steps text false p e = absurd (cc)
