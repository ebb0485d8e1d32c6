-- Lines from their parts.
use Rattle.std.proofs.Common.{◌≡◌, ℕ, List, ◌∷◌, ◌++◌, codes, sym, ◌∙◌, ap, append_assoc}
use Rattle.chv_defs_scene.specs.ScriptText.{field}

regrouped5 : (a b c d e : List ℕ) → a ++ (b ++ (c ++ (d ++ e))) ≡ a ++ b ++ c ++ d ++ e
regrouped5 a b c d e = simp append_assoc

pub fault_same : (line reason named : List ℕ) → reason ≡ named → codes "chv: line " ++ (line ++ (codes ": " ++ (reason ++ codes "\n"))) ≡ codes "chv: line " ++ line ++ codes ": " ++ named ++ codes "\n"
fault_same line reason named e = ap (λ r. codes "chv: line " ++ (line ++ (codes ": " ++ (r ++ codes "\n")))) e ∙ regrouped5 (codes "chv: line ") line (codes ": ") named (codes "\n")

pub full_same : (book named entries bytes : List ℕ) → book ≡ named → codes "chv: full " ++ (book ++ (32 ∷ (entries ++ (32 ∷ (bytes ++ codes "\n"))))) ≡ codes "chv: full" ++ field named ++ field entries ++ field bytes ++ codes "\n"
full_same book named entries bytes e =
    ap (λ b. codes "chv: full " ++ (b ++ (32 ∷ (entries ++ (32 ∷ (bytes ++ codes "\n")))))) e
    ∙ regrouped5 (codes "chv: full") (field named) (field entries) (field bytes) (codes "\n")

pub bank_same : (zone bank : List ℕ) → zone ++ (46 ∷ bank) ≡ zone ++ codes "." ++ bank
bank_same zone bank = sym (append_assoc zone (codes ".") bank)
