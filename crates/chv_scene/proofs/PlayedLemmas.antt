-- What of a scenario is played.
use Rattle.std.proofs.Common.{◌≡◌, ℕ, ◌+◌, ◌^◌, ◌<◌, ◌≤◌, List, [], ◌∷◌, ◌++◌, length, flat_map, codes, None, Some, Result, Ok, Err, sym, ◌∙◌, ap, subst, length-append, arith}
use Rattle.chv_defs_scene.specs.declared.scene.Asked.{Asked}
use Rattle.chv_defs_scene.specs.declared.scene.Asked.TheVariants as asked
use Rattle.chv_defs_scene.specs.declared.scene.Scene.{Scene}
use Rattle.chv_defs_scene.specs.ScenarioText.{Fault, read_scenario, IsScenario}
use Rattle.chv_defs_scene.specs.SceneText.{vcpu_section, request_line, session_section, order_section, scene_text}
use Rattle.chv_scene.specs.Answer.{answer_of}
use Rattle.chv_scene.specs.Played.{Sessions, session_lines, unless_scripted, played, played_answer}
use Rattle.chv_scene.specs.declared.scenario.SceneFault.{SceneFault}
use Rattle.chv_scene.proofs.GrammarLemmas.{body_text, read_is_scenario}

-- a request has at least one byte
request_long : (request : Asked) → 1 ≤ length (request_line request)
request_long (asked.Get name) = omega arith
request_long (asked.Put name None) = omega arith
request_long (asked.Put name (Some body)) = omega arith
request_long (asked.Raw bytes) = omega arith

requests_long : (requests : List Asked) → length requests ≤ length (flat_map request_line requests)
requests_long [] = omega arith
requests_long (request ∷ requests) =
    let one = request_long request in
    let rest = requests_long requests in
    omega (arith, one, rest, length-append (request_line request) (flat_map request_line requests))

session_long : (requests : List Asked) → length requests + 2 ≤ length (session_section requests)
session_long requests =
    let long = requests_long requests in
    omega (arith, long, length-append (codes "session\n" ++ flat_map request_line requests) (codes "end\n"), length-append (codes "session\n") (flat_map request_line requests))

sessions_long : (sessions : Sessions) → session_lines sessions ≤ length (flat_map session_section sessions)
sessions_long [] = omega arith
sessions_long (requests ∷ sessions) =
    let one = session_long requests in
    let rest = sessions_long sessions in
    omega (arith, one, rest, length-append (session_section requests) (flat_map session_section sessions))

scene_long : (s : Scene) → session_lines s.sessions ≤ length (body_text s)
scene_long s =
    let long = sessions_long s.sessions in
    omega (arith, long, length-append (flat_map vcpu_section s.vcpus ++ flat_map session_section s.sessions) (order_section s.order), length-append (flat_map vcpu_section s.vcpus) (flat_map session_section s.sessions))

text_long : (text : List ℕ) (s : Scene) → IsScenario text s → session_lines s.sessions ≤ length text
text_long text s is =
    let spelled : text ≡ body_text s = is.spelled ∙ ap (λ disks. scene_text (record s { disks = disks })) is.disks in
    subst (λ t. session_lines s.sessions ≤ length t) (sym spelled) (scene_long s)

read_was : (read : Result Scene Fault) (s : Scene) → Ok s ≡ answer_of read → read ≡ Ok s
read_was (Ok t) s e = let is : t ≡ s = cc in ap Ok is
read_was (Err fault) s e = absurd (cc)

-- the lines of a scenario that is read are fewer than its bytes
pub lines_few : (text : List ℕ) (answer : Result Scene SceneFault) (s : Scene) → length text + 1 < 2 ^ 32 → answer ≡ answer_of (read_scenario text) → answer ≡ Ok s → session_lines s.sessions + 1 < 2 ^ 32
lines_few text answer s short is ok =
    let long = text_long text s (read_is_scenario text s (read_was (read_scenario text) s (sym ok ∙ is))) in
    omega (arith, short, long)

-- what is answered to a scenario that is read
pub played_read : (read : Result Scene Fault) (answer : Result Scene SceneFault) (s : Scene) → answer ≡ answer_of read → answer ≡ Ok s → played_answer (unless_scripted s s.vcpus) ≡ played_answer (played read)
played_read read answer s is ok = ap (λ r. played_answer (played r)) (sym (read_was read s (sym ok ∙ is)))

-- what is answered to one that is refused
pub played_refused : (read : Result Scene Fault) (answer : Result Scene SceneFault) (fault : SceneFault) → answer ≡ answer_of read → answer ≡ Err fault → Err fault ≡ played_answer (played read)
played_refused (Ok t) answer fault is err = let both : Ok t ≡ Err fault = sym is ∙ err in absurd (cc)
played_refused (Err f) answer fault is err = sym err ∙ is
