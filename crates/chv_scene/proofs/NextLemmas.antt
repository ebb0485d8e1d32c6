-- A line of a scenario, wherever it stands: where the line behind it stands, or why it fails.
use Rattle.std.proofs.Common.{◌≡◌, ℕ, ◌+◌, true, List, [], ◌∷◌, ◌++◌, length, Result, Ok, Err, refl, sym, ◌∙◌, ap, arith}
use Rattle.chv_defs_base.specs.declared.rule.Reason.{Reason}
use Rattle.chv_defs_scene.specs.declared.scene.Scene.{Scene}
use Rattle.chv_defs_scene.specs.ScenarioLines.{Line, Part, Has, Ends, Before, Opening, OpensVcpu, OpensSession, OpensOrder, session_line, order_line, script_line, top_line}
use Rattle.chv_defs_scene.specs.ScenarioText.{Fault, Place, Outside, InScript, InSession, InOrder, of_scene, with_request, with_session, with_step, with_order, with_instruction, with_script, with_numbers, section_part, top_part, read_lines}
use Rattle.chv_scene.proofs.GrammarLemmas.{unchanged}

-- where a line stands, and what stands before its section
abbrev pub Spot : Type 0
Spot = Place × Before

-- where the line behind a line of a section stands
abbrev pub went : {A : Type 0} → Place → Before → Result (Part A) Reason → Result Spot Reason
went inside b (Err reason) = Err reason
went inside b (Ok Ends) = Ok (Outside, b)
went inside b (Ok (Has thing)) = Ok (inside, b)

-- where the line behind one outside of the sections stands
abbrev pub opened : Before → Result Opening Reason → Result Spot Reason
opened b (Err reason) = Err reason
opened b (Ok (OpensVcpu vcpu fuel)) = Ok (InScript [], record b { next_vcpu = vcpu + 1 })
opened b (Ok OpensSession) = Ok (InSession, record b { sessions = b.sessions + 1 })
opened b (Ok OpensOrder) = Ok (InOrder 0, record b { has_order = true })

-- where the line behind a line stands, or why the line fails
abbrev pub next : Place → Before → Line → List Line → Result Spot Reason
next Outside b line lines = opened b (top_line b line)
next (InScript before) b line lines = went (InScript (before ++ line.text ∷ [])) b (script_line before line lines)
next InSession b line lines = went InSession b (session_line line)
next (InOrder steps) b line lines = went (InOrder (steps + 1)) b (order_line steps line)

-- the lines behind it
abbrev pub read_at : ℕ → List Line → Spot → Result Scene Fault
read_at n lines spot = read_lines spot.0 spot.1 n lines

-- ---- a line that fails, or lines behind it that do

failed_is : (n : ℕ) (reason : Reason) (fault : Fault) → (let r : Result Scene Fault = Err (record { line = n; reason = reason }) in r) ≡ Err fault → (fault.line ≡ n) × (reason ≡ fault.reason)
failed_is n reason fault e = let is : record { line = n; reason = reason } ≡ fault = cc in (sym (ap (λ (f : Fault). f.line) is), ap (λ (f : Fault). f.reason) is)

scene_fails : (f : Scene → Scene) (read : Result Scene Fault) (fault : Fault) → of_scene f read ≡ Err fault → read ≡ Err fault
scene_fails f (Ok s) fault e = absurd (cc)
scene_fails f (Err d) fault e = let same : d ≡ fault = cc in ap Err same

scene_read : (f : Scene → Scene) (read : Result Scene Fault) (s : Scene) → read ≡ Ok s → (t : Scene) × (of_scene f read ≡ Ok t)
scene_read f read s e = (f s, ap (of_scene f) e)

part_fails : {A : Type 0} (n : ℕ) (onto : A → Scene → Scene) (close : Scene → Scene) (place : Place) (b : Before) (means : Result (Part A) Reason) (read : Spot → Result Scene Fault) (fault : Fault) → section_part n onto close means (read (place, b)) (read (Outside, b)) ≡ Err fault → (G : Type 0) → (went place b means ≡ Err fault.reason → fault.line ≡ n → G) → ((spot : Spot) → went place b means ≡ Ok spot → read spot ≡ Err fault → G) → G
part_fails n onto close place b (Err reason) read fault e G here on = let is = failed_is n reason fault e in here (ap Err is.1) is.0
part_fails n onto close place b (Ok Ends) read fault e G here on = on (Outside, b) refl (scene_fails close (read (Outside, b)) fault e)
part_fails n onto close place b (Ok (Has thing)) read fault e G here on = on (place, b) refl (scene_fails (onto thing) (read (place, b)) fault e)

top_fails : (n : ℕ) (b : Before) (opens : Result Opening Reason) (read : Spot → Result Scene Fault) (fault : Fault) → top_part n b opens (λ place now. read (place, now)) ≡ Err fault → (G : Type 0) → (opened b opens ≡ Err fault.reason → fault.line ≡ n → G) → ((spot : Spot) → opened b opens ≡ Ok spot → read spot ≡ Err fault → G) → G
top_fails n b (Err reason) read fault e G here on = let is = failed_is n reason fault e in here (ap Err is.1) is.0
top_fails n b (Ok (OpensVcpu vcpu fuel)) read fault e G here on = on (InScript [], record b { next_vcpu = vcpu + 1 }) refl (scene_fails (with_numbers vcpu fuel) (read (InScript [], record b { next_vcpu = vcpu + 1 })) fault e)
top_fails n b (Ok OpensSession) read fault e G here on = on (InSession, record b { sessions = b.sessions + 1 }) refl e
top_fails n b (Ok OpensOrder) read fault e G here on = on (InOrder 0, record b { has_order = true }) refl e

pub lines_fail : (place : Place) (b : Before) (n : ℕ) (line : Line) (lines : List Line) (fault : Fault) → read_lines place b n (line ∷ lines) ≡ Err fault → (G : Type 0) → (next place b line lines ≡ Err fault.reason → fault.line ≡ n → G) → ((spot : Spot) → next place b line lines ≡ Ok spot → read_at (n + 1) lines spot ≡ Err fault → G) → G
lines_fail Outside b n line lines fault e = top_fails n b (top_line b line) (read_at (n + 1) lines) fault e
lines_fail InSession b n line lines fault e = part_fails n with_request with_session InSession b (session_line line) (read_at (n + 1) lines) fault e
lines_fail (InOrder k) b n line lines fault e = part_fails n with_step with_order (InOrder (k + 1)) b (order_line k line) (read_at (n + 1) lines) fault e
lines_fail (InScript before) b n line lines fault e = part_fails n with_instruction with_script (InScript (before ++ line.text ∷ [])) b (script_line before line lines) (read_at (n + 1) lines) fault e

-- ---- lines that are read

part_read : {A : Type 0} (n : ℕ) (onto : A → Scene → Scene) (close : Scene → Scene) (place : Place) (b : Before) (means : Result (Part A) Reason) (read : Spot → Result Scene Fault) (s : Scene) → section_part n onto close means (read (place, b)) (read (Outside, b)) ≡ Ok s → (spot : Spot) × (t : Scene) × (went place b means ≡ Ok spot) × (read spot ≡ Ok t)
part_read n onto close place b (Err reason) read s e = absurd (cc)
part_read n onto close place b (Ok Ends) read s e = let found = unchanged close (read (Outside, b)) s e in ((Outside, b), found.0, refl, found.1)
part_read n onto close place b (Ok (Has thing)) read s e = let found = unchanged (onto thing) (read (place, b)) s e in ((place, b), found.0, refl, found.1)

top_read : (n : ℕ) (b : Before) (opens : Result Opening Reason) (read : Spot → Result Scene Fault) (s : Scene) → top_part n b opens (λ place now. read (place, now)) ≡ Ok s → (spot : Spot) × (t : Scene) × (opened b opens ≡ Ok spot) × (read spot ≡ Ok t)
top_read n b (Err reason) read s e = absurd (cc)
top_read n b (Ok (OpensVcpu vcpu fuel)) read s e =
    let found = unchanged (with_numbers vcpu fuel) (read (InScript [], record b { next_vcpu = vcpu + 1 })) s e in
    ((InScript [], record b { next_vcpu = vcpu + 1 }), found.0, refl, found.1)
top_read n b (Ok OpensSession) read s e = ((InSession, record b { sessions = b.sessions + 1 }), s, refl, e)
top_read n b (Ok OpensOrder) read s e = ((InOrder 0, record b { has_order = true }), s, refl, e)

pub lines_read_on : (place : Place) (b : Before) (n : ℕ) (line : Line) (lines : List Line) (s : Scene) → read_lines place b n (line ∷ lines) ≡ Ok s → (spot : Spot) × (t : Scene) × (next place b line lines ≡ Ok spot) × (read_at (n + 1) lines spot ≡ Ok t)
lines_read_on Outside b n line lines s e = top_read n b (top_line b line) (read_at (n + 1) lines) s e
lines_read_on InSession b n line lines s e = part_read n with_request with_session InSession b (session_line line) (read_at (n + 1) lines) s e
lines_read_on (InOrder k) b n line lines s e = part_read n with_step with_order (InOrder (k + 1)) b (order_line k line) (read_at (n + 1) lines) s e
lines_read_on (InScript before) b n line lines s e = part_read n with_instruction with_script (InScript (before ++ line.text ∷ [])) b (script_line before line lines) (read_at (n + 1) lines) s e

part_goes : {A : Type 0} (n : ℕ) (onto : A → Scene → Scene) (close : Scene → Scene) (place : Place) (b : Before) (means : Result (Part A) Reason) (read : Spot → Result Scene Fault) (spot : Spot) (t : Scene) → went place b means ≡ Ok spot → read spot ≡ Ok t → (s : Scene) × (section_part n onto close means (read (place, b)) (read (Outside, b)) ≡ Ok s)
part_goes n onto close place b (Err reason) read spot t e h = absurd (cc)
part_goes n onto close place b (Ok Ends) read spot t e h = scene_read close (read (Outside, b)) t (let there : Spot = (Outside, b) in let is : there ≡ spot = cc in ap read is ∙ h)
part_goes n onto close place b (Ok (Has thing)) read spot t e h = scene_read (onto thing) (read (place, b)) t (let there : Spot = (place, b) in let is : there ≡ spot = cc in ap read is ∙ h)

top_goes : (n : ℕ) (b : Before) (opens : Result Opening Reason) (read : Spot → Result Scene Fault) (spot : Spot) (t : Scene) → opened b opens ≡ Ok spot → read spot ≡ Ok t → (s : Scene) × (top_part n b opens (λ place now. read (place, now)) ≡ Ok s)
top_goes n b (Err reason) read spot t e h = absurd (cc)
top_goes n b (Ok (OpensVcpu vcpu fuel)) read spot t e h = scene_read (with_numbers vcpu fuel) (read (InScript [], record b { next_vcpu = vcpu + 1 })) t (let there : Spot = (InScript [], record b { next_vcpu = vcpu + 1 }) in let is : there ≡ spot = cc in ap read is ∙ h)
top_goes n b (Ok OpensSession) read spot t e h = (t, (let there : Spot = (InSession, record b { sessions = b.sessions + 1 }) in let is : there ≡ spot = cc in ap read is ∙ h))
top_goes n b (Ok OpensOrder) read spot t e h = (t, (let there : Spot = (InOrder 0, record b { has_order = true }) in let is : there ≡ spot = cc in ap read is ∙ h))

pub lines_go : (place : Place) (b : Before) (n : ℕ) (line : Line) (lines : List Line) (spot : Spot) (t : Scene) → next place b line lines ≡ Ok spot → read_at (n + 1) lines spot ≡ Ok t → (s : Scene) × (read_lines place b n (line ∷ lines) ≡ Ok s)
lines_go Outside b n line lines spot t e h = top_goes n b (top_line b line) (read_at (n + 1) lines) spot t e h
lines_go InSession b n line lines spot t e h = part_goes n with_request with_session InSession b (session_line line) (read_at (n + 1) lines) spot t e h
lines_go (InOrder k) b n line lines spot t e h = part_goes n with_step with_order (InOrder (k + 1)) b (order_line k line) (read_at (n + 1) lines) spot t e h
lines_go (InScript before) b n line lines spot t e h = part_goes n with_instruction with_script (InScript (before ++ line.text ∷ [])) b (script_line before line lines) (read_at (n + 1) lines) spot t e h

-- ---- which of the lines fails

-- the lines before the one that fails, and those from it on
pub lines_split : (place : Place) (b : Before) (n : ℕ) (lines : List Line) (fault : Fault) → read_lines place b n lines ≡ Err fault → (front rest : List Line) × (lines ≡ front ++ rest) × (fault.line ≡ n + length front)
lines_split Outside b n [] fault e = absurd (cc)
lines_split InSession b n [] fault e = ([], [], refl, omega (arith, (failed_is n _ fault e).0))
lines_split (InOrder k) b n [] fault e = ([], [], refl, omega (arith, (failed_is n _ fault e).0))
lines_split (InScript before) b n [] fault e = ([], [], refl, omega (arith, (failed_is n _ fault e).0))
lines_split place b n (line ∷ lines) fault e =
    lines_fail place b n line lines fault e _
    (λ here is. ([], line ∷ lines, refl, omega (arith, is)))
    (λ spot goes fails.
    let found = lines_split spot.0 spot.1 (n + 1) lines fault fails in
    (line ∷ found.0, found.1, ap (λ ls. line ∷ ls) found.2, omega (arith, found.3)))
