-- Runs of ascending numbers, made from the front.
use Rattle.std.specs.Prelude.{ℕ, ◌+◌, ◌==◌, Bool, false, if◌then◌else◌, List, [], ◌∷◌, ◌++◌}
use Rattle.chv_defs_memory.specs.declared.bank.Span.{Span}

-- whether the last run ends right before the number
abbrev pub touches_end : List Span → ℕ → Bool
touches_end [] k = false
touches_end (run ∷ []) k = run.first + run.count == k
touches_end (run ∷ next ∷ runs) k = touches_end (next ∷ runs) k

-- the last run with one number more
abbrev pub longer : List Span → List Span
longer [] = []
longer (run ∷ []) = record run { count = run.count + 1 } ∷ []
longer (run ∷ next ∷ runs) = run ∷ longer (next ∷ runs)

-- a number put behind the runs of smaller ones: it joins the last run where they touch
abbrev pub onto_end : List Span → ℕ → List Span
onto_end runs k = if touches_end runs k then longer runs else runs ++ record { first = k; count = 1 } ∷ []
