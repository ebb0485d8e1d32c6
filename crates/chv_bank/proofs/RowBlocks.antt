-- What rows of pins say of a block: whether a pin pins it, and whose is the lowest that does.
use Rattle.std.proofs.Common.{◌≡◌, ℕ, ◌+◌, ◌<◌, ◌≤◌, Bool, true, false, List, [], ◌∷◌, Option, None, Some, refl, sym, ◌∙◌, ap, subst, arith}
use Rattle.std.specs.Prelude.{cond, ◌==◌, ◌||◌, filter, find, map, min, nat_lt, unwrap_or, MatchOption}
use Rattle.std.specs.List.{list_any}
use Rattle.std.specs.Option.{option_map}
use Rattle.std.proofs.lemmas.Bool.Decides.{nat_tests}
use Rattle.std.proofs.lemmas.Bool.{or_right}
use Rattle.chv_lists.proofs.Bools.{bool_eq}
use Rattle.chv_defs_memory.specs.BankState.{PinOut, pins_block, lesser, lowest, lowest_pinned, lowest_pinner}
use Rattle.chv_bank.specs.CallerPins.{CallerPins, AreRows, HoldPins, pins_by, has_pinned, first_pinner}

-- the pins of a caller
abbrev mine : ℕ → List PinOut → List PinOut
mine c pins = filter (λ (pin : PinOut). c == pin.caller) pins

-- whether a row has a pin of a kind
abbrev row_any : (PinOut → Bool) → CallerPins → Bool
row_any p row = list_any p row.pins

same_number : (n : ℕ) → (n == n) ≡ true
same_number n = grind (arith, nat_tests)

-- ---- some pin

any-mine : (p : PinOut → Bool) (c : ℕ) (pins : List PinOut) → list_any p (mine c pins) ≡ true → list_any p pins ≡ true
any-mine p c [] h = h
any-mine p c (x ∷ pins) h = by (c == x.caller) (p x) refl h (any-mine p c pins)
  where
    by : (t a : Bool) → p x ≡ a → list_any p (cond t (x ∷ mine c pins) (mine c pins)) ≡ true → (list_any p (mine c pins) ≡ true → list_any p pins ≡ true) → (a || list_any p pins) ≡ true
    by t true e g f = refl
    by true false e g f = f (sym (ap (λ b. b || list_any p (mine c pins)) e) ∙ g)
    by false false e g f = f g

more-mine : (p : PinOut → Bool) (c : ℕ) (x : PinOut) (pins : List PinOut) → list_any p (mine c pins) ≡ true → list_any p (mine c (x ∷ pins)) ≡ true
more-mine p c x pins h = by (c == x.caller)
  where
    by : (t : Bool) → list_any p (cond t (x ∷ mine c pins) (mine c pins)) ≡ true
    by true = or_right (p x) (list_any p (mine c pins)) h
    by false = h

first-mine : (p : PinOut → Bool) (x : PinOut) (pins : List PinOut) → p x ≡ true → list_any p (mine x.caller (x ∷ pins)) ≡ true
first-mine p x pins h = rw (same_number x.caller, h) refl

any-own : (p : PinOut → Bool) (pins : List PinOut) → list_any p pins ≡ true → (c : ℕ) × (list_any p (mine c pins) ≡ true)
any-own p [] h = cc
any-own p (x ∷ pins) h = by (p x) refl h (any-own p pins)
  where
    by : (a : Bool) → p x ≡ a → (a || list_any p pins) ≡ true → (list_any p pins ≡ true → (c : ℕ) × (list_any p (mine c pins) ≡ true)) → (c : ℕ) × (list_any p (mine c (x ∷ pins)) ≡ true)
    by true e g f = (x.caller, first-mine p x pins e)
    by false e g f = let there = f g in (there.0, more-mine p there.0 x pins there.1)

any-rows : (p : PinOut → Bool) (rows : List CallerPins) (c : ℕ) → list_any p (pins_by rows c) ≡ true → list_any (row_any p) rows ≡ true
any-rows p [] c h = h
any-rows p (row ∷ rows) c h = by (row.caller == c) h (any-rows p rows c)
  where
    by : (t : Bool) → list_any p (cond t row.pins (pins_by rows c)) ≡ true → (list_any p (pins_by rows c) ≡ true → list_any (row_any p) rows ≡ true) → (list_any p row.pins || list_any (row_any p) rows) ≡ true
    by true g f = ap (λ b. b || list_any (row_any p) rows) g
    by false g f = or_right (list_any p row.pins) (list_any (row_any p) rows) (f g)

-- ---- the least of the numbers of a kind, if there is one

pub record IsLeast (P : ℕ → Type 0) (o : Option ℕ) : Type 0 where
  pub cases : MatchOption o ((c : ℕ) → P c → ⊥) (λ m. P m × ((c : ℕ) → P c → m ≤ c))

one-least : (P : ℕ → Type 0) (a b : Option ℕ) → IsLeast P a → IsLeast P b → a ≡ b
one-least P None None f g = refl
one-least P None (Some n) f g = absurd (f.cases n g.cases.0)
one-least P (Some m) None f g = absurd (g.cases m f.cases.0)
one-least P (Some m) (Some n) f g = let same : m ≡ n = omega (arith, f.cases.1 n g.cases.0, g.cases.1 m f.cases.0) in ap Some same

not_both : (b : Bool) → b ≡ true → b ≡ false → ⊥
not_both b e f = cc

-- whether a caller has a pin of a kind
abbrev Has : (PinOut → Bool) → List PinOut → ℕ → Type 0
Has p pins c = list_any p (mine c pins) ≡ true

skipped : (p : PinOut → Bool) (x : PinOut) (pins : List PinOut) (c : ℕ) → p x ≡ false → Has p (x ∷ pins) c → Has p pins c
skipped p x pins c e h = by (c == x.caller) h
  where
    by : (t : Bool) → list_any p (cond t (x ∷ mine c pins) (mine c pins)) ≡ true → list_any p (mine c pins) ≡ true
    by true g = sym (ap (λ b. b || list_any p (mine c pins)) e) ∙ g
    by false g = g

later-mine : (p : PinOut → Bool) (x : PinOut) (pins : List PinOut) (c : ℕ) → (c == x.caller) ≡ false → Has p (x ∷ pins) c → Has p pins c
later-mine p x pins c e h = sym (ap (λ t. list_any p (cond t (x ∷ mine c pins) (mine c pins))) e) ∙ h

least-skip : (p : PinOut → Bool) (x : PinOut) (pins : List PinOut) → p x ≡ false → (m : Option ℕ) → IsLeast (Has p pins) m → IsLeast (Has p (x ∷ pins)) m
least-skip p x pins e None l = record { cases = λ c h. l.cases c (skipped p x pins c e h) }
least-skip p x pins e (Some m) l = record { cases = (more-mine p m x pins l.cases.0, λ c h. l.cases.1 c (skipped p x pins c e h)) }

below : (p : PinOut → Bool) (x : PinOut) (pins : List PinOut) (n : ℕ) → n ≤ x.caller → ((c : ℕ) → Has p pins c → n ≤ c) → (c : ℕ) → Has p (x ∷ pins) c → n ≤ c
below p x pins n low f c h = by (c == x.caller) refl
  where
    by : (t : Bool) → (c == x.caller) ≡ t → n ≤ c
    by true e = (let same : c ≡ x.caller = grind (arith, nat_tests) in omega arith)
    by false e = f c (later-mine p x pins c e h)

of_lower : (P : ℕ → Type 0) (a b : ℕ) → P a → P b → P (min a b)
of_lower P a b f g = by (nat_lt a b) refl
  where
    by : (t : Bool) → nat_lt a b ≡ t → P (min a b)
    by true e = (let low : a < b = grind (arith, nat_tests) in let same : a ≡ min a b = omega arith in subst P same f)
    by false e = (let low : b ≤ a = grind (arith, nat_tests) in let same : b ≡ min a b = omega arith in subst P same g)

least-first : (p : PinOut → Bool) (x : PinOut) (pins : List PinOut) → p x ≡ true → (m : Option ℕ) → IsLeast (Has p pins) m → IsLeast (Has p (x ∷ pins)) (Some (lesser x.caller m))
least-first p x pins e None l = record { cases = (first-mine p x pins e, below p x pins x.caller (omega arith) (λ c h. absurd (l.cases c h))) }
least-first p x pins e (Some m) l = record {
  cases = (of_lower (Has p (x ∷ pins)) x.caller m (first-mine p x pins e) (more-mine p m x pins l.cases.0), below p x pins (min x.caller m) (omega arith) (λ c h. omega (arith, l.cases.1 c h)));
}

-- of the callers of pins of a kind
least-lowest : (p : PinOut → Bool) (pins : List PinOut) → IsLeast (Has p pins) (lowest (map (λ (pin : PinOut). pin.caller) (filter p pins)))
least-lowest p [] = record { cases = λ c h. cc }
least-lowest p (x ∷ pins) = by (p x) refl (least-lowest p pins)
  where
    by : (a : Bool) → p x ≡ a → IsLeast (Has p pins) (lowest (map (λ (pin : PinOut). pin.caller) (filter p pins))) → IsLeast (Has p (x ∷ pins)) (lowest (map (λ (pin : PinOut). pin.caller) (cond a (x ∷ filter p pins) (filter p pins))))
    by true e l = least-first p x pins e (lowest (map (λ (pin : PinOut). pin.caller) (filter p pins))) l
    by false e l = least-skip p x pins e (lowest (map (λ (pin : PinOut). pin.caller) (filter p pins))) l

-- ---- the same of rows

above : (p : PinOut → Bool) (low : ℕ) (rows : List CallerPins) (c : ℕ) → AreRows low rows → list_any p (pins_by rows c) ≡ true → low ≤ c
above p low [] c o h = cc
above p low (row ∷ rows) c o h = by (row.caller == c) refl h (above p (row.caller + 1) rows c o.1)
  where
    by : (t : Bool) → (row.caller == c) ≡ t → list_any p (cond t row.pins (pins_by rows c)) ≡ true → (list_any p (pins_by rows c) ≡ true → row.caller + 1 ≤ c) → low ≤ c
    by true e g f = (let same : row.caller ≡ c = grind (arith, nat_tests) in omega (arith, o.0))
    by false e g f = omega (arith, o.0, f g)

least-find : (p : PinOut → Bool) (low : ℕ) (rows : List CallerPins) → AreRows low rows → IsLeast (λ c. list_any p (pins_by rows c) ≡ true) (option_map (λ (row : CallerPins). row.caller) (find (row_any p) rows))
least-find p low [] o = record { cases = λ c h. cc }
least-find p low (row ∷ rows) o = by (list_any p row.pins) refl (option_map (λ (r : CallerPins). r.caller) (find (row_any p) rows)) refl (least-find p (row.caller + 1) rows o.1)
  where
    further : (c : ℕ) → list_any p row.pins ≡ false → list_any p (pins_by (row ∷ rows) c) ≡ true → list_any p (pins_by rows c) ≡ true
    further c e h = here (row.caller == c) h
      where
        here : (t : Bool) → list_any p (cond t row.pins (pins_by rows c)) ≡ true → list_any p (pins_by rows c) ≡ true
        here true g = absurd (not_both (list_any p row.pins) g e)
        here false g = g

    behind : (c : ℕ) → list_any p (pins_by rows c) ≡ true → list_any p (pins_by (row ∷ rows) c) ≡ true
    behind c h =
        let past : row.caller + 1 ≤ c = above p (row.caller + 1) rows c o.1 h in
        let other : (row.caller == c) ≡ false = grind (arith, nat_tests) in
        rw other h

    first : (c : ℕ) → list_any p (pins_by (row ∷ rows) c) ≡ true → row.caller ≤ c
    first c h = above p row.caller (row ∷ rows) c (omega arith, o.1) h

    by : (a : Bool) → list_any p row.pins ≡ a → (m : Option ℕ) → option_map (λ (r : CallerPins). r.caller) (find (row_any p) rows) ≡ m → IsLeast (λ c. list_any p (pins_by rows c) ≡ true) (option_map (λ (r : CallerPins). r.caller) (find (row_any p) rows)) →
        IsLeast (λ c. list_any p (pins_by (row ∷ rows) c) ≡ true) (option_map (λ (r : CallerPins). r.caller) (cond a (Some row) (find (row_any p) rows)))
    by true e m f l = record { cases = (rw (same_number row.caller) e, first) }
    by false e None f l = subst (IsLeast (λ c. list_any p (pins_by (row ∷ rows) c) ≡ true)) (sym f) (record { cases = λ c h. (subst (IsLeast (λ c. list_any p (pins_by rows c) ≡ true)) f l).cases c (further c e h) })
    by false e (Some n) f l =
        let was : IsLeast (λ c. list_any p (pins_by rows c) ≡ true) (Some n) = subst (IsLeast (λ c. list_any p (pins_by rows c) ≡ true)) f l in
        subst (IsLeast (λ c. list_any p (pins_by (row ∷ rows) c) ≡ true)) (sym f) (record { cases = (behind n was.cases.0, λ c h. was.cases.1 c (further c e h)) })

row-mine : (p : PinOut → Bool) (low : ℕ) (rows : List CallerPins) → AreRows low rows → list_any (row_any p) rows ≡ true → (c : ℕ) × (list_any p (pins_by rows c) ≡ true)
row-mine p low [] o h = cc
row-mine p low (row ∷ rows) o h = by (list_any p row.pins) refl h (row-mine p (row.caller + 1) rows o.1)
  where
    by : (a : Bool) → list_any p row.pins ≡ a → (a || list_any (row_any p) rows) ≡ true → (list_any (row_any p) rows ≡ true → (c : ℕ) × (list_any p (pins_by rows c) ≡ true)) → (c : ℕ) × (list_any p (pins_by (row ∷ rows) c) ≡ true)
    by true e g f = (row.caller, rw (same_number row.caller) e)
    by false e g f =
        let there = f g in
        let past : row.caller + 1 ≤ there.0 = above p (row.caller + 1) rows there.0 o.1 there.1 in
        let other : (row.caller == there.0) ≡ false = grind (arith, nat_tests) in
        (there.0, rw other there.1)

-- ---- rows that hold pins

any-same : (p : PinOut → Bool) (rows : List CallerPins) (pins : List PinOut) → HoldPins rows pins → list_any (row_any p) rows ≡ list_any p pins
any-same p rows pins h = bool_eq (list_any (row_any p) rows) (list_any p pins)
    (λ e. let there = row-mine p 0 rows h.ascend e in any-mine p there.0 pins (sym (ap (list_any p) (h.of_each there.0)) ∙ there.1))
    (λ e. let there = any-own p pins e in any-rows p rows there.0 (ap (list_any p) (h.of_each there.0) ∙ there.1))

least-same : (p : PinOut → Bool) (rows : List CallerPins) (pins : List PinOut) (o : Option ℕ) → HoldPins rows pins → IsLeast (λ c. list_any p (pins_by rows c) ≡ true) o → IsLeast (Has p pins) o
least-same p rows pins None h l = record { cases = λ c g. l.cases c (ap (list_any p) (h.of_each c) ∙ g) }
least-same p rows pins (Some m) h l = record { cases = (sym (ap (list_any p) (h.of_each m)) ∙ l.cases.0, λ c g. l.cases.1 c (ap (list_any p) (h.of_each c) ∙ g)) }

lowest-same : (p : PinOut → Bool) (rows : List CallerPins) (pins : List PinOut) → HoldPins rows pins → option_map (λ (row : CallerPins). row.caller) (find (row_any p) rows) ≡ lowest (map (λ (pin : PinOut). pin.caller) (filter p pins))
lowest-same p rows pins h = one-least (Has p pins) (option_map (λ (row : CallerPins). row.caller) (find (row_any p) rows)) (lowest (map (λ (pin : PinOut). pin.caller) (filter p pins)))
    (least-same p rows pins (option_map (λ (row : CallerPins). row.caller) (find (row_any p) rows)) h (least-find p 0 rows h.ascend)) (least-lowest p pins)

find_agree : (f g : ℕ → Bool) (blocks : List ℕ) → ((k : ℕ) → f k ≡ g k) → find f blocks ≡ find g blocks
find_agree f g [] h = refl
find_agree f g (k ∷ blocks) h = ap (λ b. cond b (Some k) (find f blocks)) (h k) ∙ ap (λ o. cond (g k) (Some k) o) (find_agree f g blocks h)

-- the lowest block that a pin pins
pub pinned-same : (bank : ℕ) (rows : List CallerPins) (pins : List PinOut) (blocks : List ℕ) → HoldPins rows pins → find (λ block. list_any (has_pinned bank block) rows) blocks ≡ lowest_pinned bank pins blocks
pinned-same bank rows pins blocks h = find_agree (λ block. list_any (has_pinned bank block) rows) (λ block. list_any (pins_block bank block) pins) blocks (λ k. any-same (pins_block bank k) rows pins h)

-- the lowest caller that pins it
pub pinner-same : (bank block : ℕ) (rows : List CallerPins) (pins : List PinOut) → HoldPins rows pins → first_pinner bank rows block ≡ lowest_pinner bank pins block
pinner-same bank block rows pins h = ap (λ o. unwrap_or o 0) (lowest-same (pins_block bank block) rows pins h)
