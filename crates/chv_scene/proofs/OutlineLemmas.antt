-- The lines before a line tell where it stands, and so why it fails.
use Rattle.std.proofs.Common.{◌≡◌, ◌≢◌, inl, inr, ℕ, ◌+◌, ◌≤◌, ◌<◌, ◌==◌, ◌&&◌, not, nat_lt, Bool, true, false, cond, List, [], ◌∷◌, ◌++◌, length, filter, codes, Result, Ok, Err, refl, sym, ◌∙◌, ap, subst, append_assoc, length-append, arith}
use Rattle.std.specs.Str.{bytes_eq}
use Rattle.std.proofs.lemmas.Bool.{lt-ltb, ne_eqb}
use Rattle.std.proofs.lemmas.List.{append_cancel_right}
use Rattle.std.proofs.lemmas.List.Elements.{filter-append}
use Rattle.std.proofs.lemmas.Slice.Eq.{bytes_eq-Decides}
use Rattle.chv_defs_base.specs.declared.rule.Reason.{Reason}
use Rattle.chv_defs_base.specs.declared.rule.Reason.TheVariants.{Unended, Unclosed}
use Rattle.chv_defs_scene.specs.declared.scene.Asked.{Asked}
use Rattle.chv_defs_scene.specs.declared.scene.OrderStep.{OrderStep}
use Rattle.chv_defs_scene.specs.ScenarioLines.{Line, lines_of, is_end, Part, Has, Ends, script_lines, script_line, session_line, order_line, Before, nothing_before, is_early, Opening, OpensVcpu, OpensSession, OpensOrder, top_line}
use Rattle.chv_defs_scene.specs.ScenarioText.{Fault, Place, Outside, InScript, InSession, InOrder, read_lines}
use Rattle.chv_scene.specs.Reasons.{begins_with, Stand, Outer, Inner, Outline, grown, outline_on, sections, vcpu_head, StandingFails, LineFails, RefusesForFirstReason}
use Rattle.chv_scene.proofs.SpellingLemmas.{session_line_spelled}
use Rattle.chv_scene.proofs.OpeningLemmas.{opening_text, top_opens}
use Rattle.chv_scene.proofs.OrderLemmas.{order_line_is}
use Rattle.chv_scene.proofs.ScriptLemmas.{no_end, line_instructed, ended_text}
use Rattle.chv_scene.proofs.NextLemmas.{Spot, went, opened, next, lines_fail}
use Rattle.chv_scene.proofs.SectionReasons.{request_fails, step_fails, script_line_fails}
use Rattle.chv_scene.proofs.HeadReasons.{Counts, head_fails}

-- ---- counts of heads

one_more : (word : List ℕ) (heads : List (List ℕ)) (head : List ℕ) → begins_with word head ≡ true → sections word (heads ++ head ∷ []) ≡ sections word heads + 1
one_more word heads head h =
    ap length (filter-append (begins_with word) heads (head ∷ []) ∙ ap (λ v. filter (begins_with word) heads ++ cond v (head ∷ []) []) h)
    ∙ length-append (filter (begins_with word) heads) (head ∷ [])

as_many : (word : List ℕ) (heads : List (List ℕ)) (head : List ℕ) → begins_with word head ≡ false → sections word (heads ++ head ∷ []) ≡ sections word heads
as_many word heads head h =
    ap length (filter-append (begins_with word) heads (head ∷ []) ∙ ap (λ v. filter (begins_with word) heads ++ cond v (head ∷ []) []) h)
    ∙ (length-append (filter (begins_with word) heads) [] ∙ plus_none (sections word heads))
  where
    plus_none : (n : ℕ) → n + 0 ≡ n
    plus_none n = omega arith

no_nil : (heads : List (List ℕ)) (head : List ℕ) → heads ++ head ∷ [] ≡ [] → ⊥
no_nil [] head e = cc
no_nil (x ∷ heads) head e = cc

-- a vCPU's section that stood among the heads still does
still_above : (next : ℕ) (heads : List (List ℕ)) (head : List ℕ) → ((n : ℕ) → n < next → (higher other : ℕ) × (front behind : List (List ℕ)) × (heads ≡ front ++ vcpu_head higher other ∷ behind) × (n ≤ higher)) → (n : ℕ) → n < next → (higher other : ℕ) × (front behind : List (List ℕ)) × (heads ++ head ∷ [] ≡ front ++ vcpu_head higher other ∷ behind) × (n ≤ higher)
still_above next heads head above n less =
    let found = above n less in
    (found.0, found.1, found.2, found.3 ++ head ∷ [], ap (λ hs. hs ++ head ∷ []) found.4 ∙ append_assoc found.2 (vcpu_head found.0 found.1 ∷ found.3) (head ∷ []), found.5)

not_first : (v : Bool) (next : ℕ) → v ≡ false → (v && next == 0) ≡ false
not_first v next h = ap (λ w. w && next == 0) h

pub begun : Counts nothing_before []
begun = record { sessions = refl; order = refl; above = λ n less. let below : n < 0 = less in absurd (omega (arith, below)); none = λ e. refl; some = λ h. absurd (h refl) }

more_than_none : (n : ℕ) → nat_lt 0 (n + 1) ≡ true
more_than_none n = lt-ltb 0 (n + 1) (omega arith)

session_counts : (b : Before) (heads : List (List ℕ)) (text : List ℕ) → Counts b heads → text ≡ codes "session" → Counts (record b { sessions = b.sessions + 1 }) (heads ++ text ∷ [])
session_counts b heads text counts is = record {
  sessions = ap (λ n. n + 1) counts.sessions ∙ sym (one_more (codes "session") heads text (ap (begins_with (codes "session")) is));
  order = counts.order ∙ ap (nat_lt 0) (sym (as_many (codes "order") heads text (ap (begins_with (codes "order")) is)));
  above = still_above b.next_vcpu heads text counts.above;
  none = λ e. absurd (no_nil heads text e);
  some = λ h. not_first (b.sessions + 1 == 0 && not b.has_order) b.next_vcpu (ap (λ v. v && not b.has_order) (ne_eqb (b.sessions + 1) 0 (λ e. omega arith)));
}

order_counts : (b : Before) (heads : List (List ℕ)) (text : List ℕ) → Counts b heads → text ≡ codes "order" → Counts (record b { has_order = true }) (heads ++ text ∷ [])
order_counts b heads text counts is = record {
  sessions = counts.sessions ∙ sym (as_many (codes "session") heads text (ap (begins_with (codes "session")) is));
  order = sym (ap (nat_lt 0) (one_more (codes "order") heads text (ap (begins_with (codes "order")) is)) ∙ more_than_none (sections (codes "order") heads));
  above = still_above b.next_vcpu heads text counts.above;
  none = λ e. absurd (no_nil heads text e);
  some = λ h. not_first (b.sessions == 0 && false) b.next_vcpu (and_no (b.sessions == 0));
}
  where
    and_no : (v : Bool) → (v && false) ≡ false
    and_no true = refl
    and_no false = refl

vcpu_counts : (b : Before) (heads : List (List ℕ)) (text : List ℕ) (vcpu fuel : ℕ) → Counts b heads → text ≡ vcpu_head vcpu fuel → Counts (record b { next_vcpu = vcpu + 1 }) (heads ++ text ∷ [])
vcpu_counts b heads text vcpu fuel counts is = record {
  sessions = counts.sessions ∙ sym (as_many (codes "session") heads text (ap (begins_with (codes "session")) is));
  order = counts.order ∙ ap (nat_lt 0) (sym (as_many (codes "order") heads text (ap (begins_with (codes "order")) is)));
  above = λ n less. let below : n < vcpu + 1 = less in (vcpu, fuel, heads, [], ap (λ t. heads ++ t ∷ []) is, omega (arith, below));
  none = λ e. absurd (no_nil heads text e);
  some = λ h. and_right (is_early b) (vcpu + 1 == 0) (ne_eqb (vcpu + 1) 0 (λ e. omega arith));
}
  where
    and_right : (v w : Bool) → w ≡ false → (v && w) ≡ false
    and_right true w h = h
    and_right false w h = refl

-- ---- where a line stands

-- a section that is open, by its first line
abbrev pub StandsAt : Stand → Place → Type 0
StandsAt Outer Outside = Unit {0}
StandsAt (Inner head lines) (InScript before) = (begins_with (codes "vcpu") head ≡ true) × (lines ≡ before)
StandsAt (Inner head lines) InSession = begins_with (codes "session") head ≡ true
StandsAt (Inner head lines) (InOrder steps) = (begins_with (codes "order") head ≡ true) × (length lines ≡ steps)
StandsAt stand place = ⊥

pub record Stands (o : Outline) (spot : Spot) : Type 0 where
  pub counts : Counts spot.1 o.heads
  pub at : StandsAt o.stand spot.0

abbrev whole : List ℕ → Line
whole text = record { text = text; is_ended = true }

opened_stands : (heads : List (List ℕ)) (b : Before) (text : List ℕ) (spot : Spot) (opens : Result Opening Reason) → Counts b heads → ((o : Opening) → opens ≡ Ok o → text ++ codes "\n" ≡ opening_text o) → opened b opens ≡ Ok spot → Stands (grown heads Outer (whole text)) spot
opened_stands heads b text spot (Err reason) counts spelled e = absurd (cc)
opened_stands heads b text spot (Ok (OpensVcpu vcpu fuel)) counts spelled e =
    let there : Spot = (InScript [], record b { next_vcpu = vcpu + 1 }) in
    let same : there ≡ spot = cc in
    let is = append_cancel_right text (vcpu_head vcpu fuel) (codes "\n") (spelled (OpensVcpu vcpu fuel) refl) in
    subst (Stands (grown heads Outer (whole text))) same (record { counts = vcpu_counts b heads text vcpu fuel counts is; at = (ap (begins_with (codes "vcpu")) is, refl) })
opened_stands heads b text spot (Ok OpensSession) counts spelled e =
    let there : Spot = (InSession, record b { sessions = b.sessions + 1 }) in
    let same : there ≡ spot = cc in
    let is = append_cancel_right text (codes "session") (codes "\n") (spelled OpensSession refl) in
    subst (Stands (grown heads Outer (whole text))) same (record { counts = session_counts b heads text counts is; at = ap (begins_with (codes "session")) is })
opened_stands heads b text spot (Ok OpensOrder) counts spelled e =
    let there : Spot = (InOrder 0, record b { has_order = true }) in
    let same : there ≡ spot = cc in
    let is = append_cancel_right text (codes "order") (codes "\n") (spelled OpensOrder refl) in
    subst (Stands (grown heads Outer (whole text))) same (record { counts = order_counts b heads text counts is; at = (ap (begins_with (codes "order")) is, refl) })

-- behind a line of a section, by what it means
went_stands : {A : Type 0} (heads : List (List ℕ)) (head : List ℕ) (lines : List (List ℕ)) (b : Before) (text : List ℕ) (inside : Place) (spot : Spot) (means : Result (Part A) Reason) → Counts b heads → (means ≡ Ok Ends → is_end (whole text) ≡ true) → ((thing : A) → means ≡ Ok (Has thing) → (is_end (whole text) ≡ false) × StandsAt (Inner head (lines ++ text ∷ [])) inside) → went inside b means ≡ Ok spot → Stands (grown heads (Inner head lines) (whole text)) spot
went_stands heads head lines b text inside spot (Err reason) counts ends goes e = absurd (cc)
went_stands heads head lines b text inside spot (Ok Ends) counts ends goes e =
    let there : Spot = (Outside, b) in
    let same : there ≡ spot = cc in
    subst (Stands (grown heads (Inner head lines) (whole text))) same (record { counts = counts; at = subst (λ v. StandsAt (cond v Outer (Inner head (lines ++ text ∷ []))) Outside) (sym (ends refl)) tt })
went_stands heads head lines b text inside spot (Ok (Has thing)) counts ends goes e =
    let there : Spot = (inside, b) in
    let same : there ≡ spot = cc in
    let found = goes thing refl in
    subst (Stands (grown heads (Inner head lines) (whole text))) same (record { counts = counts; at = subst (λ v. StandsAt (cond v Outer (Inner head (lines ++ text ∷ []))) inside) (sym found.0) found.1 })

is_end_from : (text : List ℕ) → text ++ codes "\n" ≡ codes "end\n" → is_end (whole text) ≡ true
is_end_from text e = ap (λ t. bytes_eq t (codes "end")) (append_cancel_right text (codes "end") (codes "\n") e)

false_unless : (v : Bool) → (v ≡ true → ⊥) → v ≡ false
false_unless true h = absurd (h refl)
false_unless false h = refl

end_text : (text : List ℕ) → is_end (whole text) ≡ true → text ≡ codes "end"
end_text text h = (bytes_eq-Decides text (codes "end")).0 h

no_request : (text : List ℕ) (thing : Asked) → session_line (whole text) ≡ Ok (Has thing) → is_end (whole text) ≡ false
no_request text thing e = false_unless (is_end (whole text)) (λ h. let both : Ok Ends ≡ Ok (Has thing) = ap (λ t. session_line (whole t)) (sym (end_text text h)) ∙ e in cc)

no_step : (steps : ℕ) (text : List ℕ) (thing : OrderStep) → order_line steps (whole text) ≡ Ok (Has thing) → is_end (whole text) ≡ false
no_step steps text thing e = false_unless (is_end (whole text)) (λ h. let both : Ok Ends ≡ Ok (Has thing) = ap (λ t. order_line steps (whole t)) (sym (end_text text h)) ∙ e in cc)

next_stands : (heads : List (List ℕ)) (stand : Stand) (place : Place) (b : Before) (text : List ℕ) (lines : List Line) (spot : Spot) → Counts b heads → StandsAt stand place → next place b (whole text) lines ≡ Ok spot → Stands (grown heads stand (whole text)) spot
next_stands heads Outer Outside b text lines spot counts at e = opened_stands heads b text spot (top_line b (whole text)) counts (λ o is. (top_opens b text true o is).spelled) e
next_stands heads Outer (InScript before) b text lines spot counts at e = absurd at
next_stands heads Outer InSession b text lines spot counts at e = absurd at
next_stands heads Outer (InOrder k) b text lines spot counts at e = absurd at
next_stands heads (Inner head ls) Outside b text lines spot counts at e = absurd at
next_stands heads (Inner head ls) (InScript before) b text lines spot counts at e =
    went_stands heads head ls b text (InScript (before ++ text ∷ [])) spot (script_line before (whole text) lines) counts
    (λ is. ap (λ t. bytes_eq t (codes "end")) (ended_text before text lines is))
    (λ l is. (no_end text (line_instructed before text true lines l is).word, (at.0, ap (λ ts. ts ++ text ∷ []) at.1))) e
next_stands heads (Inner head ls) InSession b text lines spot counts at e =
    went_stands heads head ls b text InSession spot (session_line (whole text)) counts
    (λ is. is_end_from text (session_line_spelled text true Ends is))
    (λ thing is. (no_request text thing is, at)) e
next_stands heads (Inner head ls) (InOrder k) b text lines spot counts at e =
    went_stands heads head ls b text (InOrder (k + 1)) spot (order_line k (whole text)) counts
    (λ is. is_end_from text (order_line_is k text true Ends is).0.spelled)
    (λ thing is. (no_step k text thing is, (at.0, length-append ls (text ∷ []) ∙ ap (λ n. n + 1) at.1))) e

-- ---- why a line fails there

went_err : {A : Type 0} (inside : Place) (b : Before) (means : Result (Part A) Reason) (reason : Reason) → went inside b means ≡ Err reason → means ≡ Err reason
went_err inside b (Err other) reason e = let is : other ≡ reason = cc in ap Err is
went_err inside b (Ok Ends) reason e = absurd (cc)
went_err inside b (Ok (Has thing)) reason e = absurd (cc)

opened_err : (b : Before) (opens : Result Opening Reason) (reason : Reason) → opened b opens ≡ Err reason → opens ≡ Err reason
opened_err b (Err other) reason e = let is : other ≡ reason = cc in ap Err is
opened_err b (Ok (OpensVcpu vcpu fuel)) reason e = absurd (cc)
opened_err b (Ok OpensSession) reason e = absurd (cc)
opened_err b (Ok OpensOrder) reason e = absurd (cc)

stand_fails : (heads : List (List ℕ)) (stand : Stand) (place : Place) (b : Before) (text : List ℕ) (lines : List Line) (reason : Reason) → Counts b heads → StandsAt stand place → next place b (whole text) lines ≡ Err reason → StandingFails heads stand text lines reason
stand_fails heads Outer Outside b text lines reason counts at e = head_fails b heads text reason counts (opened_err b (top_line b (whole text)) reason e)
stand_fails heads Outer (InScript before) b text lines reason counts at e = absurd at
stand_fails heads Outer InSession b text lines reason counts at e = absurd at
stand_fails heads Outer (InOrder k) b text lines reason counts at e = absurd at
stand_fails heads (Inner head ls) Outside b text lines reason counts at e = absurd at
stand_fails heads (Inner head ls) (InScript before) b text lines reason counts at e =
    inl (at.0, script_line_fails ls text (script_lines lines) reason (ap (λ (ts : List (List ℕ)). script_line ts (whole text) lines) at.1 ∙ went_err (InScript (before ++ text ∷ [])) b (script_line before (whole text) lines) reason e))
stand_fails heads (Inner head ls) InSession b text lines reason counts at e = inr (inl (at, request_fails text reason (went_err InSession b (session_line (whole text)) reason e)))
stand_fails heads (Inner head ls) (InOrder k) b text lines reason counts at e =
    inr (inr (at.0, step_fails (length ls) text reason (ap (λ n. order_line n (whole text)) at.1 ∙ went_err (InOrder (k + 1)) b (order_line k (whole text)) reason e)))

-- a line without a line feed
feed_wanting : (place : Place) (b : Before) (text : List ℕ) (lines : List Line) (found : Result Spot Reason) → next place b (record { text = text; is_ended = false }) lines ≡ found → found ≡ Err Unended
feed_wanting Outside b text lines found e = sym e
feed_wanting InSession b text lines found e = sym e
feed_wanting (InOrder k) b text lines found e = sym e
feed_wanting (InScript before) b text lines found e = sym e

err_same : (x y : Reason) → (let r : Result Spot Reason = Err x in r) ≡ Err y → x ≡ y
err_same x y e = cc

line_fails : (o : Outline) (place : Place) (b : Before) (line : Line) (lines : List Line) (reason : Reason) → Counts b o.heads → StandsAt o.stand place → next place b line lines ≡ Err reason → LineFails o (line ∷ lines) reason
line_fails o place b line lines reason counts at e = by_end line.is_ended e
  where
    by_end : (v : Bool) → next place b (record { text = line.text; is_ended = v }) lines ≡ Err reason → LineFails o (record { text = line.text; is_ended = v } ∷ lines) reason
    by_end true e = inr (refl, stand_fails o.heads o.stand place b line.text lines reason counts at e)
    by_end false e = inl (refl, err_same reason Unended (feed_wanting place b line.text lines (Err reason) e))

line_stands : (o : Outline) (place : Place) (b : Before) (line : Line) (lines : List Line) (spot : Spot) → Counts b o.heads → StandsAt o.stand place → next place b line lines ≡ Ok spot → Stands (grown o.heads o.stand line) spot
line_stands o place b line lines spot counts at e = by_end line.is_ended e
  where
    by_end : (v : Bool) → next place b (record { text = line.text; is_ended = v }) lines ≡ Ok spot → Stands (grown o.heads o.stand (record { text = line.text; is_ended = v })) spot
    by_end true e = next_stands o.heads o.stand place b line.text lines spot counts at e
    by_end false e = let both : Ok spot ≡ Err Unended = feed_wanting place b line.text lines (Ok spot) e in absurd (cc)

-- ---- the whole

-- which of some lines fails, and why, by the outline of those before
abbrev pub FailsBehind : Outline → ℕ → List Line → Fault → Type 0
FailsBehind o n lines fault = (front behind : List Line) × (lines ≡ front ++ behind) × (fault.line ≡ n + length front) × LineFails (outline_on o front) behind fault.reason

outer_outside : (stand : Stand) (place : Place) → StandsAt stand place → stand ≡ Outer → place ≡ Outside
outer_outside Outer Outside at e = refl
outer_outside Outer (InScript before) at e = absurd at
outer_outside Outer InSession at e = absurd at
outer_outside Outer (InOrder k) at e = absurd at
outer_outside (Inner head lines) place at e = absurd (cc)

unclosed_at : (place : Place) (b : Before) (n : ℕ) (fault : Fault) → read_lines place b n [] ≡ Err fault → (place ≢ Outside) × (fault.line ≡ n) × (fault.reason ≡ Unclosed)
unclosed_at Outside b n fault e = absurd (cc)
unclosed_at (InScript before) b n fault e = let is : record { line = n; reason = Unclosed } ≡ fault = cc in ((λ h. cc), sym (ap (λ (f : Fault). f.line) is), sym (ap (λ (f : Fault). f.reason) is))
unclosed_at InSession b n fault e = let is : record { line = n; reason = Unclosed } ≡ fault = cc in ((λ h. cc), sym (ap (λ (f : Fault). f.line) is), sym (ap (λ (f : Fault). f.reason) is))
unclosed_at (InOrder k) b n fault e = let is : record { line = n; reason = Unclosed } ≡ fault = cc in ((λ h. cc), sym (ap (λ (f : Fault). f.line) is), sym (ap (λ (f : Fault). f.reason) is))

fails_behind : (o : Outline) (place : Place) (b : Before) (n : ℕ) (lines : List Line) (fault : Fault) → Counts b o.heads → StandsAt o.stand place → read_lines place b n lines ≡ Err fault → FailsBehind o n lines fault
fails_behind o place b n [] fault counts at e =
    let found = unclosed_at place b n fault e in
    let line = found.1 in
    ([], [], refl, omega (arith, line), ((λ outer. found.0 (outer_outside o.stand place at outer)), found.2))
fails_behind o place b n (line ∷ lines) fault counts at e =
    lines_fail place b n line lines fault e (FailsBehind o n (line ∷ lines) fault)
    (λ fails is. ([], line ∷ lines, refl, omega (arith, is), line_fails o place b line lines fault.reason counts at fails))
    (λ spot goes fails.
    let now = line_stands o place b line lines spot counts at goes in
    let found = fails_behind (grown o.heads o.stand line) spot.0 spot.1 (n + 1) lines fault now.counts now.at fails in
    let counted = found.3 in
    (line ∷ found.0, found.1, ap (λ ls. line ∷ ls) found.2, omega (arith, counted), found.4))

pub for_first_reason : RefusesForFirstReason
for_first_reason text fault e =
    let found = fails_behind (record { heads = []; stand = Outer }) Outside nothing_before 1 (lines_of text) fault begun tt e in
    let counted = found.3 in
    (found.0, found.1, found.2, omega (arith, counted), found.4)
