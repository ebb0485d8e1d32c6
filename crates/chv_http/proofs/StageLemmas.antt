-- What a stage says still holds where bytes follow.
use Rattle.std.proofs.Common.{◌≡◌, ℕ, ◌≤◌, ◌⊎◌, List, ◌++◌, length, get_or, sym, subst, ◌∙◌, inl, inr, arith, length-append}
use Rattle.std.proofs.lemmas.List.{take-append-le, get_or_append_left}
use Rattle.chv_defs_base.specs.declared.rule.Rule.{Rule}
use Rattle.chv_defs_api.specs.declared.request.Took.TheVariants as took
use Rattle.chv_defs_api.specs.Requests.{IsShort, Cuts}
use Rattle.chv_http.specs.declared.stage.Stage.{Stage}
use Rattle.chv_http.specs.declared.stage.Stage.TheVariants.{Front, Body, Bad}
use Rattle.chv_http.specs.Head.{IsHeadOf}
use Rattle.chv_http.specs.Search.{AreLineEnds}
use Rattle.chv_http.specs.Stage.{Holds, Settles}
use Rattle.chv_http.proofs.FrontLemmas.{closes_back, front_append}
use Rattle.chv_http.proofs.CutLemmas.{bad_append}

passed_append : (bytes more : List ℕ) (to : ℕ) → to ≤ length bytes → AreLineEnds bytes 0 to → AreLineEnds (bytes ++ more) 0 to
passed_append bytes more to within passed k from below =
    let same = get_or_append_left bytes more 0 k (omega arith) in
    elim (passed k from below) as (λ _. (get_or (bytes ++ more) k 0 ≡ 13) ⊎ (get_or (bytes ++ more) k 0 ≡ 10)) [
      | inl return ↦ inl (same ∙ return)
      | inr feed ↦ inr (same ∙ feed)
    ]

pub holds_append : (stage : Stage) (bytes more : List ℕ) → Holds stage bytes → Holds stage (bytes ++ more)
holds_append (Front text looked) bytes more holds = record {
  ordered = holds.ordered;
  within = omega (arith, holds.within, length-append bytes more);
  short = holds.short;
  passed = passed_append bytes more text (omega (arith, holds.ordered, holds.within)) holds.passed;
  none = λ n before closes. holds.none n before (closes_back bytes more n (omega (arith, holds.within)) closes);
}
holds_append (Body head) bytes more holds = record {
  front = front_append bytes more head.len holds.front;
  short = holds.short;
  within = omega (arith, holds.within, length-append bytes more);
  tree = holds.tree;
  is = subst (λ b. IsHeadOf b head holds.tree) (sym (take-append-le head.len bytes more holds.within)) holds.is;
}
holds_append (Bad rule) bytes more holds = bad_append bytes more rule holds

-- no front is there so far
pub short_of_front : (stage : Stage) (text looked : ℕ) (bytes rest : List ℕ) → stage ≡ Front text looked → bytes ≡ rest
    → Settles stage bytes → IsShort rest
short_of_front stage text looked bytes rest is same settled =
    inl (subst (λ b. Settles (Front text looked) b) same (subst (λ s. Settles s bytes) is settled))

-- the head is refused
pub refused_here : (stage : Stage) (rule : Rule) (bytes rest : List ℕ) → stage ≡ Bad rule → bytes ≡ rest
    → Holds stage bytes → Cuts rest (took.Bad rule) rest
refused_here stage rule bytes rest is same holds =
    subst (λ b. Cuts b (took.Bad rule) b) same (subst (λ s. Holds s bytes) is holds)
