-- What a run says that writes the line of the words, where they are none of the program's.
use Rattle.std.specs.Prelude.{IsTrue}
use Rattle.std.proofs.Common.{◌≡◌, ◌⊎◌, ℕ, Bool, true, false, List, Option, sym, ◌∙◌, ap, subst, ⊎_elim, inl, inr}
use Rattle.chv_io.specs.Outside.{Rose, Gains, GainsPart}
use Rattle.chv_top.specs.Says.{Writes}
use Rattle.chv_top.specs.declared.status.Status.{Status}
use Rattle.chv_top.specs.declared.status.Status.TheVariants as status

-- the statuses of such a run
abbrev pub is_of_words : Status → Bool
is_of_words status.Usage = true
is_of_words status.WriteFault = true
is_of_words _ = false

pub which : (w w' : Option (List ℕ)) (f f' : ℕ) (text : List ℕ) (result : Status)
    → Writes w w' f f' text status.Usage result → (result ≡ status.Usage) ⊎ (result ≡ status.WriteFault)
which w w' f f' text result writes = ⊎_elim (λ done. inl done.0) (λ failed. inr failed.0) writes

pub no_other : (w w' : Option (List ℕ)) (f f' : ℕ) (text : List ℕ) (result s : Status)
    → Writes w w' f f' text status.Usage result → result ≡ s → is_of_words s ≡ false → ⊥
no_other w w' f f' text result s writes is other =
    ⊎_elim (λ done. cc (ap is_of_words (sym is ∙ done.0), other)) (λ failed. cc (ap is_of_words (sym is ∙ failed.0), other)) writes

-- what is true is not false
pub otherwise : (b : Bool) → IsTrue b → b ≡ false → ⊥
otherwise b is other = cc (is, other)

pub line_written : (w w' : Option (List ℕ)) (f f' : ℕ) (text line : List ℕ) (result : Status)
    → Writes w w' f f' text status.Usage result → text ≡ line → result ≡ status.Usage → Gains w w' line
line_written w w' f f' text line result writes same is =
    ⊎_elim (λ done. subst (λ (t : List ℕ). Gains w w' t) same done.1) (λ failed. absurd (cc (sym is ∙ failed.0))) writes

pub part_written : (w w' : Option (List ℕ)) (f f' : ℕ) (text line : List ℕ) (result : Status)
    → Writes w w' f f' text status.Usage result → text ≡ line → result ≡ status.WriteFault → Rose f f' × GainsPart w w' line
part_written w w' f f' text line result writes same is =
    ⊎_elim
    (λ done. absurd (cc (sym is ∙ done.0)))
    (λ failed. (failed.1, subst (λ (t : List ℕ). GainsPart w w' t) same failed.2))
    writes
