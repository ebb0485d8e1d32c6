-- Texts that are joined, and the parts of a trace's text.
use Rattle.std.proofs.Common.{◌≡◌, ℕ, ◌+◌, ◌<◌, List, [], ◌∷◌, ◌++◌, length, take, drop, get_or, flat_map, sum_by, codes, decimal, Result, Ok, Err, IfOk, sym, ◌∙◌, ap, append_assoc, zero-add}
use Rattle.std.proofs.lemmas.List.{append-nil, take-append-drop}
use Rattle.std.proofs.lemmas.Grind.{take_at_read, flat_map-append}
use Rattle.chv_defs_scene.specs.ScriptText.{field, line_text}
use Rattle.chv_defs_scene.specs.SceneText.{disk_line, vcpu_section}
use Rattle.chv_defs.specs.TraceText.{pairs_or_dash, control_line, control_part, bank_line, bank_part, scene_part, session_end_text, session_part, trace_text}
use Rattle.chv_defs_memory.specs.declared.bank.BankEntry.{BankEntry}
use Rattle.chv_defs_api.specs.declared.control.ControlEntry.{ControlEntry}
use Rattle.chv_defs_scene.specs.declared.scene.Line.{Line}
use Rattle.chv_defs_scene.specs.declared.scene.MadeDisk.{MadeDisk}
use Rattle.chv_defs_scene.specs.declared.scene.VcpuSection.{VcpuSection}
use Rattle.chv_defs.specs.declared.trace.BankTrace.{BankTrace}
use Rattle.chv_defs.specs.declared.trace.SessionTrace.{SessionTrace}
use Rattle.chv_defs.specs.declared.trace.Trace.{Trace}
use Rattle.chv_trace.specs.Printing.{scene_head, control_head, end_line, bank_head}

pub regrouped : (a b c : List ℕ) → (a ++ b) ++ c ≡ a ++ (b ++ c)
regrouped a b c = append_assoc a b c

five : (a b c d e : List ℕ) → a ++ b ++ c ++ d ++ e ≡ a ++ (b ++ (c ++ (d ++ e)))
five a b c d e = simp append_assoc

four_fields : (a b c d e : List ℕ) → a ++ (32 ∷ (b ++ (32 ∷ (c ++ (32 ∷ (d ++ e)))))) ≡ a ++ field b ++ field c ++ field d ++ e
four_fields a b c d e = sym (five a (32 ∷ b) (32 ∷ c) (32 ∷ d) e)

-- a vCPU's context, with its flag and its registers
pub cpu_same : (v p f h r flag regs : List ℕ) → h ≡ flag → r ≡ regs → codes "cpu " ++ (v ++ (32 ∷ (p ++ (32 ∷ (f ++ (32 ∷ (h ++ r))))))) ≡ codes "cpu" ++ field v ++ field p ++ field f ++ field flag ++ regs
cpu_same v p f h r flag regs same_flag same_regs =
    four_fields (codes "cpu" ++ field v) p f h r
    ∙ ap (λ x. codes "cpu" ++ field v ++ field p ++ field f ++ field x ++ r) same_flag
    ∙ ap (λ x. codes "cpu" ++ field v ++ field p ++ field f ++ field flag ++ x) same_regs

-- what is printed is the same text
pub printed_same : {S E : Type 0} (bytes : S → List ℕ) (r : Result S E) (a b : List ℕ) → IfOk r (λ s. bytes s ≡ a) → a ≡ b → IfOk r (λ s. bytes s ≡ b)
printed_same bytes (Ok s) a b h e = h ∙ e
printed_same bytes (Err x) a b h e = tt

-- the items up to the next one
pub flat_map_next : {X : Type 0} (f : X → List ℕ) (xs : List X) (i : ℕ) (d x : X) → i < length xs → x ≡ get_or xs i d → flat_map f (take i xs) ++ f x ≡ flat_map f (take (i + 1) xs)
flat_map_next f xs i d x h e =
    ap (λ y. flat_map f (take i xs) ++ f y) e
    ∙ ap (λ l. flat_map f (take i xs) ++ l) (sym (append-nil (f (get_or xs i d))))
    ∙ sym (flat_map-append f (take i xs) (get_or xs i d ∷ []))
    ∙ sym (ap (flat_map f) (take_at_read xs i d h).1)

-- the items up to the next one, and those after it
pub flat_map_rest : {X : Type 0} (f : X → List ℕ) (xs : List X) (i : ℕ) (d x : X) → i < length xs → x ≡ get_or xs i d → flat_map f (take i xs) ++ f x ++ flat_map f (drop (i + 1) xs) ≡ flat_map f xs
flat_map_rest f xs i d x h e =
    ap (λ l. l ++ flat_map f (drop (i + 1) xs)) (flat_map_next f xs i d x h e)
    ∙ sym (flat_map-append f (take (i + 1) xs) (drop (i + 1) xs))
    ∙ ap (flat_map f) (take-append-drop (i + 1) xs)

-- ---- the parts of a text

session_regrouped : (s n e l k a r b : List ℕ) → (s ++ n ++ e ++ l) ++ ((k ++ a) ++ l) ++ ((r ++ b) ++ l) ≡ s ++ n ++ e ++ (l ++ k) ++ a ++ (l ++ r) ++ b ++ l
session_regrouped s n e l k a r b = simp append_assoc

session_joined : (n e a b : List ℕ) → (codes "session" ++ field n ++ field e ++ codes "\n") ++ (codes "ask " ++ a ++ codes "\n") ++ (codes "reply " ++ b ++ codes "\n") ≡ codes "session" ++ field n ++ field e ++ codes "\nask" ++ field a ++ codes "\nreply" ++ field b ++ codes "\n"
session_joined n e a b = session_regrouped (codes "session") (field n) (field e) (codes "\n") (codes "ask") (field a) (codes "reply") (field b)

-- a session's lines
pub session_lines : (s : SessionTrace) → end_line s ++ (codes "ask " ++ pairs_or_dash s.log.asked ++ codes "\n") ++ (codes "reply " ++ pairs_or_dash s.log.replied ++ codes "\n") ≡ session_part s
session_lines s = session_joined (decimal s.session) (session_end_text s.log.end) (pairs_or_dash s.log.asked) (pairs_or_dash s.log.replied)

-- a bank's lines
pub bank_lines : (b : BankTrace) (entries : List BankEntry) → entries ≡ b.entries → bank_head b ++ flat_map bank_line entries ≡ bank_part b
bank_lines b entries same = ap (λ (l : List BankEntry). bank_head b ++ flat_map bank_line l) same

-- the control book's lines
pub control_lines : (head : List ℕ) (entries : List ControlEntry) → head ≡ control_head (length entries) → head ++ flat_map control_line entries ≡ control_part entries
control_lines head entries is = ap (λ h. h ++ flat_map control_line entries) is

-- a vCPU's lines
pub vcpu_lines : (v : VcpuSection) (head : List ℕ) (instructions : List Line) → head ≡ codes "vcpu" ++ field (decimal v.vcpu) ++ field (decimal v.fuel) ++ codes "\n" → instructions ≡ v.script.lines
    → head ++ flat_map (λ l. line_text l ++ codes "\n") instructions ++ codes "end\n" ≡ vcpu_section v
vcpu_lines v head instructions is same =
    ap (λ h. h ++ flat_map (λ l. line_text l ++ codes "\n") instructions ++ codes "end\n") is
    ∙ ap (λ (ls : List Line). codes "vcpu" ++ field (decimal v.vcpu) ++ field (decimal v.fuel) ++ codes "\n" ++ flat_map (λ l. line_text l ++ codes "\n") ls ++ codes "end\n") same

scene_regrouped : (t u z l c : List ℕ) → ((t ++ u) ++ z ++ l) ++ c ≡ t ++ (u ++ z ++ l ++ [] ++ c)
scene_regrouped t u z l c = simp (append_assoc, append-nil)

scene_joined : (z c : List ℕ) → (codes "trace 1\nscene" ++ field z ++ codes "\n") ++ c ≡ codes "trace 1\n" ++ (codes "scene" ++ field z ++ codes "\n" ++ [] ++ c)
scene_joined z c = scene_regrouped (codes "trace 1\n") (codes "scene") (field z) (codes "\n") c

-- how many lines sections of vCPUs have
abbrev pub lines_in : List VcpuSection → ℕ
lines_in vcpus = sum_by (λ (v : VcpuSection). length v.script.lines + 2) vcpus

-- the first line of a trace, and the part of a scenario with these disks and vCPUs
abbrev scene_with : List MadeDisk → List VcpuSection → List ℕ
scene_with disks vcpus = codes "trace 1\n" ++ (codes "scene" ++ field (decimal (length disks + lines_in vcpus)) ++ codes "\n" ++ flat_map disk_line disks ++ flat_map vcpu_section vcpus)

-- the lines of the scenario
pub scene_sections : (t : Trace) (head : List ℕ) (n : ℕ) (vcpus : List VcpuSection) → t.disks ≡ [] → head ≡ scene_head n → n ≡ lines_in vcpus → vcpus ≡ t.vcpus
    → head ++ flat_map vcpu_section vcpus ≡ codes "trace 1\n" ++ scene_part t
scene_sections t head n vcpus none is count same =
    ap (λ h. h ++ flat_map vcpu_section vcpus) (is ∙ ap scene_head (count ∙ sym (zero-add (lines_in vcpus))))
    ∙ scene_joined (decimal (0 + lines_in vcpus)) (flat_map vcpu_section vcpus)
    ∙ ap (λ (vs : List VcpuSection). scene_with [] vs) same
    ∙ ap (λ (ds : List MadeDisk). scene_with ds t.vcpus) (sym none)

-- the parts that are added make a trace's text
pub trace_parts : (t : Trace) (control : List ControlEntry) (banks : List BankTrace) (sessions : List SessionTrace) → control ≡ t.control → banks ≡ t.banks → sessions ≡ t.sessions
    → (codes "trace 1\n" ++ scene_part t) ++ control_part control ++ flat_map bank_part banks ++ flat_map session_part sessions ++ codes "end\n" ≡ trace_text t
trace_parts t control banks sessions e f g =
    let with_parts : List ControlEntry → List BankTrace → List SessionTrace → List ℕ = λ cs bs ss.
    (codes "trace 1\n" ++ scene_part t) ++ control_part cs ++ flat_map bank_part bs ++ flat_map session_part ss ++ codes "end\n" in
    ap (λ cs. with_parts cs banks sessions) e
    ∙ ap (λ bs. with_parts t.control bs sessions) f
    ∙ ap (λ ss. with_parts t.control t.banks ss) g

-- ---- what follows a part

-- two parts follow
pub two_follow : {all : List ℕ} (a b c : List ℕ) → a ++ b ++ c ≡ all → a ++ (b ++ c) ≡ all
two_follow a b c same = sym (append_assoc a b c) ∙ same

-- three parts follow
pub three_follow : {all : List ℕ} (a b c d : List ℕ) → a ++ b ++ c ++ d ≡ all → a ++ (b ++ (c ++ d)) ≡ all
three_follow a b c d same = two_follow a b (c ++ d) (two_follow (a ++ b) c d same)

-- four parts follow
pub four_follow : {all : List ℕ} (a b c d e : List ℕ) → a ++ b ++ c ++ d ++ e ≡ all → a ++ (b ++ (c ++ (d ++ e))) ≡ all
four_follow a b c d e same = three_follow a b c (d ++ e) (two_follow (a ++ b ++ c) d e same)
