-- What an output gains, and an input loses, in two goes.
use Rattle.std.proofs.Common.{◌≡◌, ℕ, List, ◌++◌, Option, None, Some, sym, ap, ◌∙◌, append_assoc}
use Rattle.chv_io.specs.Outside.{Gains, Loses}

none_gains : (b c : Option (List ℕ)) (ys : List ℕ) → b ≡ None → Gains b c ys → c ≡ None
none_gains None c ys same second = second
none_gains (Some b) c ys same second = absurd (cc same)

-- an output gains the bytes of both
pub gains_join : (a b c : Option (List ℕ)) (xs ys : List ℕ) → Gains a b xs → Gains b c ys → Gains a c (xs ++ ys)
gains_join None b c xs ys first second = none_gains b c ys first second
gains_join (Some a) None c xs ys first second = absurd first
gains_join (Some a) (Some b) None xs ys first second = absurd second
gains_join (Some a) (Some b) (Some c) xs ys first second = second ∙ ap (λ l. l ++ ys) first ∙ append_assoc a xs ys

none_loses : (b c : Option (List ℕ)) (ys : List ℕ) → b ≡ None → Loses b c ys → c ≡ None
none_loses None c ys same second = second
none_loses (Some b) c ys same second = absurd (cc same)

-- an input loses the bytes of both
pub loses_join : (a b c : Option (List ℕ)) (xs ys : List ℕ) → Loses a b xs → Loses b c ys → Loses a c (xs ++ ys)
loses_join None b c xs ys first second = none_loses b c ys first second
loses_join (Some a) None c xs ys first second = absurd first
loses_join (Some a) (Some b) None xs ys first second = absurd second
loses_join (Some a) (Some b) (Some c) xs ys first second = first ∙ ap (λ l. xs ++ l) second ∙ sym (append_assoc xs ys c)
