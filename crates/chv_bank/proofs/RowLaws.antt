-- Rows of pins, and what a change of one leaves.
use Rattle.std.proofs.Common.{◌≡◌, ℕ, ◌+◌, ◌<◌, ◌≤◌, Bool, true, false, List, [], ◌∷◌, ◌++◌, Result, Ok, Err, refl, sym, ◌∙◌, ap, subst, arith, suc, length, get_or, set}
use Rattle.std.specs.Prelude.{cond, not, ◌==◌, ◌&&◌, nat_lt, filter, insert, MatchResult}
use Rattle.std.proofs.lemmas.List.{append-nil, length_push}
use Rattle.std.proofs.lemmas.List.Elements.{filter-append}
use Rattle.std.proofs.lemmas.Bool.Decides.{nat_tests}
use Rattle.chv_defs_memory.specs.BankState.{PinOut}
use Rattle.chv_lists.specs.Locate.{locate, Follow}
use Rattle.chv_lists.proofs.Located.{locate-cases}
use Rattle.chv_bank.specs.CallerPins.{CallerPins, AreRows, HoldPins, pins_by, total, with_pin, is_other, without_pin}

-- ---- rows ascend

pub rows-follow : (low : ℕ) (rows : List CallerPins) → AreRows low rows → Follow (λ (row : CallerPins). row.caller) (λ (row : CallerPins). row.caller + 1) low rows
rows-follow low [] o = tt
rows-follow low (row ∷ rows) o = (o.0, omega arith, rows-follow (row.caller + 1) rows o.1)

-- the place of a caller's row, or the place where it belongs
abbrev pub located : List CallerPins → ℕ → Result ℕ ℕ
located rows caller = locate (λ (row : CallerPins). row.caller) (λ (row : CallerPins). row.caller + 1) rows caller

pins_by-above : (low : ℕ) (rows : List CallerPins) (caller : ℕ) → AreRows low rows → caller < low → pins_by rows caller ≡ []
pins_by-above low [] caller o h = refl
pins_by-above low (x ∷ rows) caller o h =
    let from : low ≤ x.caller = o.0 in
    let other : (x.caller == caller) ≡ false = grind (arith, nat_tests) in
    rw other (pins_by-above (x.caller + 1) rows caller o.1 (omega arith))

-- ---- one more pin

-- a row with one more pin, and a row of one
abbrev pub more_of : CallerPins → PinOut → CallerPins
more_of row pin = record { caller = row.caller; pins = row.pins ++ pin ∷ [] }

abbrev pub one_of : PinOut → CallerPins
one_of pin = record { caller = pin.caller; pins = pin ∷ [] }

-- put into the row that is located, or as a row at that place
with-located : (pin : PinOut) (d : CallerPins) (rows : List CallerPins) → MatchResult (located rows pin.caller)
    (λ place. set rows place (more_of (get_or rows place d) pin) ≡ with_pin rows pin) (λ place. insert rows place (one_of pin) ≡ with_pin rows pin)
with-located pin d rows = locate-cases (λ (row : CallerPins). row.caller) (λ (row : CallerPins). row.caller + 1) pin.caller
    (λ all place. set all place (more_of (get_or all place d) pin) ≡ with_pin all pin) (λ all place. insert all place (one_of pin) ≡ with_pin all pin) refl here before found missed rows
  where
    here : (x : CallerPins) (all : List CallerPins) → x.caller ≤ pin.caller → pin.caller < x.caller + 1 → more_of x pin ∷ all ≡ with_pin (x ∷ all) pin
    here x all from below =
        let no : nat_lt x.caller pin.caller ≡ false = grind (arith, nat_tests) in
        let mine : (x.caller == pin.caller) ≡ true = grind (arith, nat_tests) in
        rw (no, mine) refl

    before : (x : CallerPins) (all : List CallerPins) → pin.caller < x.caller → pin.caller < x.caller + 1 → one_of pin ∷ x ∷ all ≡ with_pin (x ∷ all) pin
    before x all above below =
        let no : nat_lt x.caller pin.caller ≡ false = grind (arith, nat_tests) in
        let other : (x.caller == pin.caller) ≡ false = grind (arith, nat_tests) in
        rw (no, other) refl

    found : (x : CallerPins) (all : List CallerPins) (k : ℕ) → x.caller + 1 ≤ pin.caller → set all k (more_of (get_or all k d) pin) ≡ with_pin all pin → x ∷ set all k (more_of (get_or all k d) pin) ≡ with_pin (x ∷ all) pin
    found x all k past f = let less : nat_lt x.caller pin.caller ≡ true = grind (arith, nat_tests) in rw less (ap (λ (rest : List CallerPins). x ∷ rest) f)

    missed : (x : CallerPins) (all : List CallerPins) (k : ℕ) → x.caller + 1 ≤ pin.caller → insert all k (one_of pin) ≡ with_pin all pin → x ∷ insert all k (one_of pin) ≡ with_pin (x ∷ all) pin
    missed x all k past f = let less : nat_lt x.caller pin.caller ≡ true = grind (arith, nat_tests) in rw less (ap (λ (rest : List CallerPins). x ∷ rest) f)

-- the same, of rows that were read before
pub with-found : (items read : List CallerPins) (place : ℕ) (was new : CallerPins) (pin : PinOut) → read ≡ items → located read pin.caller ≡ Ok place → was ≡ get_or items place was → new ≡ more_of was pin → set items place new ≡ with_pin items pin
with-found items read place was new pin e at is made =
    let put : set items place (more_of (get_or items place was) pin) ≡ with_pin items pin =
    subst (λ r. MatchResult r (λ k. set items k (more_of (get_or items k was) pin) ≡ with_pin items pin) (λ k. insert items k (one_of pin) ≡ with_pin items pin)) (sym (ap (λ rows. located rows pin.caller) e) ∙ at) (with-located pin was items) in
    ap (set items place) (made ∙ ap (λ row. more_of row pin) is) ∙ put

pub with-missed : (items read : List CallerPins) (place : ℕ) (row : CallerPins) (pin : PinOut) → read ≡ items → located read pin.caller ≡ Err place → row ≡ one_of pin → insert items place row ≡ with_pin items pin
with-missed items read place row pin e at one =
    let put : insert items place (one_of pin) ≡ with_pin items pin =
    subst (λ r. MatchResult r (λ k. set items k (more_of (get_or items k row) pin) ≡ with_pin items pin) (λ k. insert items k (one_of pin) ≡ with_pin items pin)) (sym (ap (λ rows. located rows pin.caller) e) ∙ at) (with-located pin row items) in
    ap (insert items place) one ∙ put

pub rows-with : (low : ℕ) (rows : List CallerPins) (pin : PinOut) → AreRows low rows → low ≤ pin.caller → AreRows low (with_pin rows pin)
rows-with low [] pin o from = (from, tt)
rows-with low (x ∷ rows) pin o from = by (nat_lt x.caller pin.caller) (x.caller == pin.caller) refl refl (λ next. rows-with (x.caller + 1) rows pin o.1 next)
  where
    by : (b e : Bool) → nat_lt x.caller pin.caller ≡ b → (x.caller == pin.caller) ≡ e → (x.caller + 1 ≤ pin.caller → AreRows (x.caller + 1) (with_pin rows pin)) →
        AreRows low (cond b (x ∷ with_pin rows pin) (cond e (record { caller = x.caller; pins = x.pins ++ pin ∷ [] } ∷ rows) (record { caller = pin.caller; pins = pin ∷ [] } ∷ x ∷ rows)))
    by true e p q f = (o.0, f (grind (arith, nat_tests)))
    by false true p q f = (o.0, o.1)
    by false false p q f =
        let after : pin.caller + 1 ≤ x.caller = grind (arith, nat_tests) in
        (from, (after, o.1))

pub total-with : (rows : List CallerPins) (pin : PinOut) → total (with_pin rows pin) ≡ total rows + 1
total-with [] pin = omega arith
total-with (x ∷ rows) pin = by (nat_lt x.caller pin.caller) (x.caller == pin.caller) (total-with rows pin)
  where
    by : (b e : Bool) → total (with_pin rows pin) ≡ total rows + 1 →
        total (cond b (x ∷ with_pin rows pin) (cond e (record { caller = x.caller; pins = x.pins ++ pin ∷ [] } ∷ rows) (record { caller = pin.caller; pins = pin ∷ [] } ∷ x ∷ rows))) ≡ length x.pins + total rows + 1
    by true e h = omega arith
    by false true h = omega (arith, length_push x.pins pin)
    by false false h = omega arith

pub pins_by-with : (low : ℕ) (rows : List CallerPins) (pin : PinOut) (c : ℕ) → AreRows low rows → pins_by (with_pin rows pin) c ≡ pins_by rows c ++ cond (c == pin.caller) (pin ∷ []) []
pins_by-with low [] pin c o = let e : (pin.caller == c) ≡ (c == pin.caller) = grind (arith, nat_tests) in ap (λ b. let ps : List PinOut = cond b (pin ∷ []) [] in ps) e
pins_by-with low (x ∷ rows) pin c o =
    by (nat_lt x.caller pin.caller) (x.caller == pin.caller) refl refl (x.caller == c) (c == pin.caller) (pin.caller == c) refl refl refl (pins_by-with (x.caller + 1) rows pin c o.1)
  where
    by : (b e : Bool) → nat_lt x.caller pin.caller ≡ b → (x.caller == pin.caller) ≡ e → (t u v : Bool) → (x.caller == c) ≡ t → (c == pin.caller) ≡ u → (pin.caller == c) ≡ v →
        pins_by (with_pin rows pin) c ≡ pins_by rows c ++ cond u (pin ∷ []) [] →
        pins_by (cond b (x ∷ with_pin rows pin) (cond e (record { caller = x.caller; pins = x.pins ++ pin ∷ [] } ∷ rows) (record { caller = pin.caller; pins = pin ∷ [] } ∷ x ∷ rows))) c
        ≡ cond t x.pins (pins_by rows c) ++ cond u (pin ∷ []) []
    by true e p q true true v i j k h = absurd (grind (arith, nat_tests))
    by true e p q true false v i j k h = rw i (sym (append-nil x.pins))
    by true e p q false u v i j k h = rw i h
    by false true p q true true v i j k h = rw i refl
    by false true p q true false v i j k h = absurd (grind (arith, nat_tests))
    by false true p q false true v i j k h = absurd (grind (arith, nat_tests))
    by false true p q false false v i j k h = rw i (sym (append-nil (pins_by rows c)))
    by false false p q t true true i j k h =
        let after : c < x.caller + 1 = grind (arith, nat_tests) in
        let other : t ≡ false = (let n : (x.caller == c) ≡ false = grind (arith, nat_tests) in sym i ∙ n) in
        let none : pins_by rows c ≡ [] = pins_by-above (x.caller + 1) rows c o.1 after in
        rw (k, other, none) refl
    by false false p q t true false i j k h = absurd (grind (arith, nat_tests))
    by false false p q t false true i j k h = absurd (grind (arith, nat_tests))
    by false false p q t false false i j k h = rw (k, i) (sym (append-nil (cond t x.pins (pins_by rows c))))

-- the rows hold one more pin
pub holds-with : (rows : List CallerPins) (pins : List PinOut) (pin : PinOut) → HoldPins rows pins → HoldPins (with_pin rows pin) (pins ++ pin ∷ [])
holds-with rows pins pin h = record {
  ascend = rows-with 0 rows pin h.ascend (omega arith);
  of_each = λ c. pins_by-with 0 rows pin c h.ascend ∙ ap (λ (ps : List PinOut). ps ++ cond (c == pin.caller) (pin ∷ []) []) (h.of_each c) ∙ sym (filter-append (λ (p : PinOut). c == p.caller) pins (pin ∷ []));
  counted = total-with rows pin ∙ ap (λ n. n + 1) h.counted ∙ sym (length_push pins pin);
}

-- ---- without a pin

without-above : (low : ℕ) (rows : List CallerPins) (caller number : ℕ) → AreRows low rows → caller < low → without_pin rows caller number ≡ rows
without-above low [] caller number o h = refl
without-above low (x ∷ rows) caller number o h =
    let from : low ≤ x.caller = o.0 in
    let other : (x.caller == caller) ≡ false = grind (arith, nat_tests) in
    rw other (ap (λ (rest : List CallerPins). x ∷ rest) (without-above (x.caller + 1) rows caller number o.1 (omega arith)))

-- a row without a pin
abbrev pub less_of : ℕ → ℕ → CallerPins → CallerPins
less_of caller number row = record { caller = row.caller; pins = filter (is_other caller number) row.pins }

-- taken out of the row that is located
record Without (caller number : ℕ) (d : CallerPins) (rows : List CallerPins) (place : ℕ) : Type 0 where
  pub out : set rows place (less_of caller number (get_or rows place d)) ≡ without_pin rows caller number
  pub mine : pins_by rows caller ≡ (get_or rows place d).pins

-- taken out where no row is located
abbrev Nothing : ℕ → ℕ → List CallerPins → Type 0
Nothing caller number rows = (low : ℕ) → AreRows low rows → without_pin rows caller number ≡ rows

without-located : (caller number : ℕ) (d : CallerPins) (rows : List CallerPins) → MatchResult (located rows caller) (Without caller number d rows) (λ place. Nothing caller number rows)
without-located caller number d rows = locate-cases (λ (row : CallerPins). row.caller) (λ (row : CallerPins). row.caller + 1) caller (Without caller number d) (λ all place. Nothing caller number all) (λ low o. refl) here before found missed rows
  where
    here : (x : CallerPins) (all : List CallerPins) → x.caller ≤ caller → caller < x.caller + 1 → Without caller number d (x ∷ all) 0
    here x all from below =
        let same : (x.caller == caller) ≡ true = grind (arith, nat_tests) in
        record { out = rw same refl; mine = rw same refl }

    before : (x : CallerPins) (all : List CallerPins) → caller < x.caller → caller < x.caller + 1 → Nothing caller number (x ∷ all)
    before x all above below =
        let other : (x.caller == caller) ≡ false = grind (arith, nat_tests) in
        λ low o. rw other (ap (λ (rest : List CallerPins). x ∷ rest) (without-above (x.caller + 1) all caller number o.1 below))

    found : (x : CallerPins) (all : List CallerPins) (k : ℕ) → x.caller + 1 ≤ caller → Without caller number d all k → Without caller number d (x ∷ all) (suc k)
    found x all k past f =
        let other : (x.caller == caller) ≡ false = grind (arith, nat_tests) in
        record { out = rw other (ap (λ (rest : List CallerPins). x ∷ rest) f.out); mine = rw other f.mine }

    missed : (x : CallerPins) (all : List CallerPins) (k : ℕ) → x.caller + 1 ≤ caller → Nothing caller number all → Nothing caller number (x ∷ all)
    missed x all k past f =
        let other : (x.caller == caller) ≡ false = grind (arith, nat_tests) in
        λ low o. rw other (ap (λ (rest : List CallerPins). x ∷ rest) (f (x.caller + 1) o.1))

without-at : (items read : List CallerPins) (place : ℕ) (caller number : ℕ) (d : CallerPins) → read ≡ items → located read caller ≡ Ok place → Without caller number d items place
without-at items read place caller number d e at =
    subst (λ r. MatchResult r (Without caller number d items) (λ k. Nothing caller number items)) (sym (ap (λ rows. located rows caller) e) ∙ at) (without-located caller number d items)

-- the same, of rows that were read before
pub without-found : (items read : List CallerPins) (place : ℕ) (was new : CallerPins) (caller number : ℕ) → read ≡ items → located read caller ≡ Ok place → was ≡ get_or items place was → new ≡ less_of caller number was → set items place new ≡ without_pin items caller number
without-found items read place was new caller number e at is made =
    ap (set items place) (made ∙ ap (less_of caller number) is) ∙ (without-at items read place caller number was e at).out

pub without-missed : (items read : List CallerPins) (place : ℕ) (caller number : ℕ) → AreRows 0 items → read ≡ items → located read caller ≡ Err place → without_pin items caller number ≡ items
without-missed items read place caller number o e at =
    let none : CallerPins = record { caller = 0; pins = [] } in
    let same = subst (λ r. MatchResult r (Without caller number none items) (λ k. Nothing caller number items)) (sym (ap (λ rows. located rows caller) e) ∙ at) (without-located caller number none items) in
    same 0 o

pub rows-without : (low : ℕ) (rows : List CallerPins) (caller number : ℕ) → AreRows low rows → AreRows low (without_pin rows caller number)
rows-without low [] caller number o = tt
rows-without low (x ∷ rows) caller number o = by (x.caller == caller) (rows-without (x.caller + 1) rows caller number o.1)
  where
    by : (b : Bool) → AreRows (x.caller + 1) (without_pin rows caller number) → AreRows low (cond b (record { caller = x.caller; pins = filter (is_other caller number) x.pins } ∷ rows) (x ∷ without_pin rows caller number))
    by true h = (o.0, o.1)
    by false h = (o.0, h)

pub total-without : (rows : List CallerPins) (caller number : ℕ) → total (without_pin rows caller number) + length (pins_by rows caller) ≡ total rows + length (filter (is_other caller number) (pins_by rows caller))
total-without [] caller number = refl
total-without (x ∷ rows) caller number = by (x.caller == caller) (total-without rows caller number)
  where
    by : (b : Bool) → total (without_pin rows caller number) + length (pins_by rows caller) ≡ total rows + length (filter (is_other caller number) (pins_by rows caller)) →
        total (cond b (record { caller = x.caller; pins = filter (is_other caller number) x.pins } ∷ rows) (x ∷ without_pin rows caller number)) + length (cond b x.pins (pins_by rows caller))
        ≡ length x.pins + total rows + length (filter (is_other caller number) (cond b x.pins (pins_by rows caller)))
    by true h = omega arith
    by false h = omega arith

-- the same, of rows that were read before
pub total-found : (items read : List CallerPins) (place : ℕ) (was new : CallerPins) (caller number gone : ℕ) → read ≡ items → located read caller ≡ Ok place → was ≡ get_or items place was →
    new ≡ less_of caller number was → gone + length new.pins ≡ length was.pins → gone + total (set items place new) ≡ total items
total-found items read place was new caller number gone e at is made count =
    let mine : pins_by items caller ≡ was.pins = (without-at items read place caller number was e at).mine ∙ sym (ap (λ (r : CallerPins). r.pins) is) in
    let all : length (pins_by items caller) ≡ length was.pins = ap length mine in
    let left : length (filter (is_other caller number) (pins_by items caller)) ≡ length new.pins = ap (λ (ps : List PinOut). length (filter (is_other caller number) ps)) mine ∙ sym (ap (λ (r : CallerPins). length r.pins) made) in
    let after : total (set items place new) ≡ total (without_pin items caller number) = ap total (without-found items read place was new caller number e at is made) in
    omega (arith, total-without items caller number, all, left, after, count)

pub pins_by-without : (rows : List CallerPins) (caller number c : ℕ) → pins_by (without_pin rows caller number) c ≡ cond (c == caller) (filter (is_other caller number) (pins_by rows c)) (pins_by rows c)
pins_by-without [] caller number c = by (c == caller)
  where
    by : (b : Bool) → let none : List PinOut = [] in none ≡ cond b [] []
    by true = refl
    by false = refl
pins_by-without (x ∷ rows) caller number c = by (x.caller == caller) (x.caller == c) (c == caller) refl refl refl (pins_by-without rows caller number c)
  where
    by : (b t u : Bool) → (x.caller == caller) ≡ b → (x.caller == c) ≡ t → (c == caller) ≡ u →
        pins_by (without_pin rows caller number) c ≡ cond u (filter (is_other caller number) (pins_by rows c)) (pins_by rows c) →
        pins_by (cond b (record { caller = x.caller; pins = filter (is_other caller number) x.pins } ∷ rows) (x ∷ without_pin rows caller number)) c
        ≡ cond u (filter (is_other caller number) (cond t x.pins (pins_by rows c))) (cond t x.pins (pins_by rows c))
    by true true true i j k h = rw j refl
    by true true false i j k h = absurd (grind (arith, nat_tests))
    by true false true i j k h = absurd (grind (arith, nat_tests))
    by true false false i j k h = rw j refl
    by false true true i j k h = absurd (grind (arith, nat_tests))
    by false true false i j k h = rw j refl
    by false false u i j k h = rw j h

-- ---- the same of the pins themselves

commute : (p q : PinOut → Bool) (pins : List PinOut) → filter p (filter q pins) ≡ filter q (filter p pins)
commute p q [] = refl
commute p q (x ∷ pins) = by (p x) (q x) refl refl (commute p q pins)
  where
    by : (a b : Bool) → p x ≡ a → q x ≡ b → filter p (filter q pins) ≡ filter q (filter p pins) → filter p (cond b (x ∷ filter q pins) (filter q pins)) ≡ filter q (cond a (x ∷ filter p pins) (filter p pins))
    by true true e f h = rw (e, f) (ap (λ (rest : List PinOut). x ∷ rest) h)
    by true false e f h = rw f h
    by false true e f h = rw e h
    by false false e f h = h

apart : (caller number c : ℕ) (pins : List PinOut) → (c == caller) ≡ false → filter (λ (pin : PinOut). c == pin.caller) (filter (is_other caller number) pins) ≡ filter (λ (pin : PinOut). c == pin.caller) pins
apart caller number c [] e = refl
apart caller number c (x ∷ pins) e = by (caller == x.caller) (number == x.number) (c == x.caller) refl refl (apart caller number c pins e)
  where
    by : (a b t : Bool) → (caller == x.caller) ≡ a → (c == x.caller) ≡ t → filter (λ (pin : PinOut). c == pin.caller) (filter (is_other caller number) pins) ≡ filter (λ (pin : PinOut). c == pin.caller) pins →
        filter (λ (pin : PinOut). c == pin.caller) (cond (not (a && b)) (x ∷ filter (is_other caller number) pins) (filter (is_other caller number) pins)) ≡ cond t (x ∷ filter (λ (pin : PinOut). c == pin.caller) pins) (filter (λ (pin : PinOut). c == pin.caller) pins)
    by true true true i j h = absurd (grind (arith, nat_tests))
    by true true false i j h = h
    by true false true i j h = absurd (grind (arith, nat_tests))
    by true false false i j h = rw j h
    by false b true i j h = rw j (ap (λ (rest : List PinOut). x ∷ rest) h)
    by false b false i j h = rw j h

few : (caller number : ℕ) (pins : List PinOut) →
    length (filter (is_other caller number) pins) + length (filter (λ (pin : PinOut). caller == pin.caller) pins) ≡ length pins + length (filter (is_other caller number) (filter (λ (pin : PinOut). caller == pin.caller) pins))
few caller number [] = refl
few caller number (x ∷ pins) = by (caller == x.caller) (number == x.number) refl refl (few caller number pins)
  where
    by : (a b : Bool) → (caller == x.caller) ≡ a → (number == x.number) ≡ b →
        length (filter (is_other caller number) pins) + length (filter (λ (pin : PinOut). caller == pin.caller) pins) ≡ length pins + length (filter (is_other caller number) (filter (λ (pin : PinOut). caller == pin.caller) pins)) →
        length (cond (not (a && b)) (x ∷ filter (is_other caller number) pins) (filter (is_other caller number) pins)) + length (cond a (x ∷ filter (λ (pin : PinOut). caller == pin.caller) pins) (filter (λ (pin : PinOut). caller == pin.caller) pins))
        ≡ suc (length pins) + length (filter (is_other caller number) (cond a (x ∷ filter (λ (pin : PinOut). caller == pin.caller) pins) (filter (λ (pin : PinOut). caller == pin.caller) pins)))
    by true true i j h = rw (i, j) (omega arith)
    by true false i j h = rw (i, j) (omega arith)
    by false b i j h = omega arith

-- the rows hold one pin less
pub holds-without : (rows : List CallerPins) (pins : List PinOut) (caller number : ℕ) → HoldPins rows pins → HoldPins (without_pin rows caller number) (filter (is_other caller number) pins)
holds-without rows pins caller number h = record {
  ascend = rows-without 0 rows caller number h.ascend;
  of_each = λ c. pins_by-without rows caller number c ∙ each c (c == caller) refl;
  counted =
      (let mine : length (pins_by rows caller) ≡ length (filter (λ (pin : PinOut). caller == pin.caller) pins) = ap length (h.of_each caller) in
      let left : length (filter (is_other caller number) (pins_by rows caller)) ≡ length (filter (is_other caller number) (filter (λ (pin : PinOut). caller == pin.caller) pins)) = ap (λ (ps : List PinOut). length (filter (is_other caller number) ps)) (h.of_each caller) in
      omega (arith, total-without rows caller number, few caller number pins, mine, left, h.counted));
}
  where
    each : (c : ℕ) (b : Bool) → (c == caller) ≡ b → cond b (filter (is_other caller number) (pins_by rows c)) (pins_by rows c) ≡ filter (λ (pin : PinOut). c == pin.caller) (filter (is_other caller number) pins)
    each c true e = ap (filter (is_other caller number)) (h.of_each c) ∙ commute (is_other caller number) (λ (pin : PinOut). c == pin.caller) pins
    each c false e = h.of_each c ∙ sym (apart caller number c pins e)
