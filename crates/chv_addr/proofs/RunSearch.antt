-- The search in runs that ascend.
use Rattle.std.proofs.Common.{◌≡◌, ℕ, ◌+◌, ◌≤◌, Bool, true, false, List, [], ◌∷◌, Option, None, Some, refl, sym, ◌∙◌, ap, subst, arith, suc}
use Rattle.std.specs.Prelude.{not, nat_le, slice_get, find, All}
use Rattle.std.specs.List.{prefix_len}
use Rattle.std.proofs.lemmas.List.Elements.{All-tail}
use Rattle.std.proofs.lemmas.Bool.Decides.{nat_tests}
use Rattle.chv_addr.specs.declared.run.Run.{Run}
use Rattle.chv_addr.specs.AddressMap.{AreInOrder, is_apart, no_ram, run_bytes}
use Rattle.chv_addr.specs.Search.{next_run}
use Rattle.chv_lists.specs.Locate.{Follow}

-- ---- the next run

get-more : (run : Run) (runs : List Run) (n : ℕ) → slice_get (run ∷ runs) (1 + n) ≡ slice_get runs n
get-more run runs n = let e : 1 + n ≡ suc n = omega arith in rw e refl

next-past : (run : Run) (runs : List Run) (addr : ℕ) → nat_le (run.addr + run_bytes run) addr ≡ true → next_run (run ∷ runs) addr ≡ next_run runs addr
next-past run runs addr e = rw e (get-more run runs (prefix_len (λ run. nat_le (run.addr + run_bytes run) addr) runs))

next-here : (run : Run) (runs : List Run) (addr : ℕ) → nat_le (run.addr + run_bytes run) addr ≡ false → next_run (run ∷ runs) addr ≡ Some run
next-here run runs addr e = rw e refl

-- ---- runs that begin above

no_ram-above : (from : ℕ) (runs : List Run) (addr end : ℕ) → AreInOrder from runs → end ≤ from → no_ram runs addr end ≡ true
no_ram-above from [] addr end o h = refl
no_ram-above from (run ∷ runs) addr end o h =
    let low : end ≤ run.addr = omega (arith, o.0) in
    let yes : is_apart run.addr (run_bytes run) addr end ≡ true = grind (arith, nat_tests) in
    let next : end ≤ run.addr + run_bytes run = omega arith in
    rw yes (no_ram-above (run.addr + run_bytes run) runs addr end o.2 next)

-- ---- whether a stretch is apart from all runs, by the next run

abbrev pub apart_by : Option Run → ℕ → Bool
apart_by None end = true
apart_by (Some run) end = nat_le end run.addr

pub no_ram-next : (from : ℕ) (runs : List Run) (addr end : ℕ) → AreInOrder from runs → no_ram runs addr end ≡ apart_by (next_run runs addr) end
no_ram-next from [] addr end o = refl
no_ram-next from (run ∷ runs) addr end o = by (no_ram-next (run.addr + run_bytes run) runs addr end o.2) (nat_le (run.addr + run_bytes run) addr) (nat_le end run.addr) refl refl
  where
    by : no_ram runs addr end ≡ apart_by (next_run runs addr) end → (past before : Bool) → nat_le (run.addr + run_bytes run) addr ≡ past → nat_le end run.addr ≡ before → no_ram (run ∷ runs) addr end ≡ apart_by (next_run (run ∷ runs) addr) end
    by further true before e f =
        let yes : is_apart run.addr (run_bytes run) addr end ≡ true = grind (arith, nat_tests) in
        let rest : no_ram (run ∷ runs) addr end ≡ no_ram runs addr end = rw yes refl in
        rest ∙ further ∙ sym (ap (λ next. apart_by next end) (next-past run runs addr e))
    by further false true e f =
        let yes : is_apart run.addr (run_bytes run) addr end ≡ true = grind (arith, nat_tests) in
        let rest : no_ram (run ∷ runs) addr end ≡ no_ram runs addr end = rw yes refl in
        let next : end ≤ run.addr + run_bytes run = grind (arith, nat_tests) in
        rest ∙ no_ram-above (run.addr + run_bytes run) runs addr end o.2 next ∙ sym f ∙ sym (ap (λ next. apart_by next end) (next-here run runs addr e))
    by further false false e f =
        let no : is_apart run.addr (run_bytes run) addr end ≡ false = rw (f, e) refl in
        let none : no_ram (run ∷ runs) addr end ≡ false = rw no refl in
        none ∙ sym f ∙ sym (ap (λ next. apart_by next end) (next-here run runs addr e))

-- ---- what the search answers

abbrev pub reached_by : Option Run → ℕ → Bool
reached_by None last = false
reached_by (Some run) last = nat_le run.addr last

not-apart : (next : Option Run) (last : ℕ) → reached_by next last ≡ not (apart_by next (last + 1))
not-apart None last = refl
not-apart (Some run) last = by (nat_le run.addr last) refl
  where
    by : (reached : Bool) → nat_le run.addr last ≡ reached → nat_le run.addr last ≡ not (nat_le (last + 1) run.addr)
    by true e = let no : nat_le (last + 1) run.addr ≡ false = grind (arith, nat_tests) in e ∙ sym (ap not no)
    by false e = let yes : nat_le (last + 1) run.addr ≡ true = grind (arith, nat_tests) in e ∙ sym (ap not yes)

pub touches-by : (runs : List Run) (addr last : ℕ) (next : Option Run) → AreInOrder 0 runs → next_run runs addr ≡ next → reached_by next last ≡ not (no_ram runs addr (last + 1))
touches-by runs addr last next o e =
    not-apart next last ∙ sym (ap not (no_ram-next 0 runs addr (last + 1) o ∙ ap (λ n. apart_by n (last + 1)) e))

-- ---- runs are stretches that follow each other

pub runs-follow : (from : ℕ) (runs : List Run) → AreInOrder from runs → Follow (λ run. run.addr) (λ run. run.addr + run_bytes run) from runs
runs-follow from [] o = tt
runs-follow from (run ∷ runs) o = (o.0, omega (arith, o.1), runs-follow (run.addr + run_bytes run) runs o.2)

-- ---- what a look-up finds

pub find-passes : {X : Type 0} (p : X → Bool) (xs : List X) (x : X) → find p xs ≡ Some x → p x ≡ true
find-passes p [] x e = cc
find-passes p (y ∷ ys) x e = by (find-passes p ys x) (p y) refl
  where
    by : (find p ys ≡ Some x → p x ≡ true) → (b : Bool) → p y ≡ b → p x ≡ true
    by further true q =
        let here : find p (y ∷ ys) ≡ Some y = rw q refl in
        let same : y ≡ x = cc in
        ap p (sym same) ∙ q
    by further false q =
        let rest : find p (y ∷ ys) ≡ find p ys = rw q refl in
        further (sym rest ∙ e)

pub find-in : {X : Type 0} (P : X → Type 0) (p : X → Bool) (xs : List X) (x : X) → All P xs → find p xs ≡ Some x → P x
find-in P p [] x all e = cc
find-in P p (y ∷ ys) x all e = by (find-in P p ys x (All-tail P y ys all)) (p y) refl
  where
    by : (find p ys ≡ Some x → P x) → (b : Bool) → p y ≡ b → P x
    by further true q =
        let here : find p (y ∷ ys) ≡ Some y = rw q refl in
        let same : y ≡ x = cc in
        subst P same (all 0 y (omega arith))
    by further false q =
        let rest : find p (y ∷ ys) ≡ find p ys = rw q refl in
        further (sym rest ∙ e)
