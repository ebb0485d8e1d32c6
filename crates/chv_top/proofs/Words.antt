-- One word, and whether it is `play`.
use Rattle.std.proofs.Common.{◌≡◌, ◌≤◌, ◌<◌, ℕ, Bool, List, [], ◌∷◌, length, get_or, codes, String, string_bytes, IsTrue, sym, ◌∙◌, ap, arith}
use Rattle.std.specs.declared.alloc.Global.{Global}
use Rattle.std.specs.Str.{bytes_eq}
use Rattle.std.proofs.lemmas.Slice.Eq.{bytes_eq-Decides}
use Rattle.chv_top.specs.Words.{ArePlay}

pub play_iff : (words : List (String Global)) (word : String Global) (text : List ℕ) (b : Bool) → 1 ≤ length words → length words < 2 → word ≡ get_or words 0 word → text ≡ string_bytes word → b ≡ bytes_eq text (codes "play")
    → (IsTrue b → ArePlay words) × (ArePlay words → IsTrue b)
play_iff [] word text b low high is same test = absurd (omega arith)
play_iff (x ∷ []) word text b low high is same test = (
  λ yes. ap (λ t. t ∷ []) (ap string_bytes (sym is) ∙ sym same ∙ (bytes_eq-Decides text (codes "play")).0 (sym test ∙ yes)),
  λ are. test ∙ (bytes_eq-Decides text (codes "play")).1 (same ∙ ap string_bytes is ∙ ap (λ (l : List (List ℕ)). get_or l 0 []) are),
)
play_iff (x ∷ y ∷ ys) word text b low high is same test = absurd (omega arith)
