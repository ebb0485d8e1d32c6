-- Pages that stand in the order of their numbers.
use Rattle.std.specs.Prelude.{◌+◌, List}
use Rattle.chv_lists.specs.Locate.{Follow}
use Rattle.chv_pages.specs.declared.held.Held.{Held}

-- pages stand in the order of their numbers, and no two have the same
abbrev pub AreInOrder : List Held → Type 0
AreInOrder held = Follow (λ (h : Held). h.number) (λ (h : Held). h.number + 1) 0 held
