-- Laws of histories with callers, and of numbers that are out.
use Rattle.std.proofs.Common.{◌≡◌, ◌≢◌, ◌⊎◌, ℕ, suc, ◌+◌, ◌<◌, ◌≤◌, List, [], ◌∷◌, ◌++◌, length, Bool, true, false, not, ◌&&◌, ◌||◌, cond, true≢false, leb, refl, sym, ap, ◌∙◌, subst, ⊎_elim, inl, inr, arith, length-append, append_assoc, append-nil, eq-eqb, ne_eqb, eqb-true, leb-true, leb-false, if◌then◌else◌, ◌==◌}
use Rattle.std.specs.List.{list_all}
use Rattle.std.proofs.lemmas.List.{nil_from_length}
use Rattle.std.proofs.lemmas.List.Elements.{filter-append}
use Rattle.chv_defs_book.specs.Histories.{entries_by, is_out, longer, without, AreOfOthers, AreOut, StartsWith}
use Rattle.chv_defs_book.specs.Passes.{Begins, Joins, PassView}

pub bool_cases : (b : Bool) → (b ≡ true) ⊎ (b ≡ false)
bool_cases true = inl refl
bool_cases false = inr refl

and_left : (a b : Bool) → (a && b) ≡ true → a ≡ true
and_left true b e = refl
and_left false b e = e

and_right : (a b : Bool) → (a && b) ≡ true → b ≡ true
and_right true b e = e
and_right false b e = absurd (true≢false (sym e))

-- ---- beginnings

module _ {A : Type 0} where
  pub starts_refl : (a : List A) → StartsWith a a
  starts_refl a = ([], sym (append-nil a))

  pub starts_nil : (a : List A) → StartsWith a []
  starts_nil a = (a, refl)

  pub starts_trans : (a b c : List A) → StartsWith b a → StartsWith c b → StartsWith c a
  starts_trans a b c p q = (p.0 ++ q.0, q.1 ∙ ap (λ (xs : List A). xs ++ q.0) p.1 ∙ append_assoc a p.0 q.0)

  -- of two beginnings of one list, the one that is no longer begins the other
  starts_both : (c a b : List A) → StartsWith c a → StartsWith c b → length a ≤ length b → StartsWith b a
  starts_both c [] b p q le = (b, refl)
  starts_both c (x ∷ a) [] p q le = absurd (omega arith)
  starts_both [] (x ∷ a) (y ∷ b) p q le = absurd (cc)
  starts_both (z ∷ c) (x ∷ a) (y ∷ b) p q le =
      let r = starts_both c a b (p.0, ap tail_of p.1) (q.0, ap tail_of q.1) (omega arith) in
      (r.0, λ i. (sym (head_is y z (sym q.1)) ∙ sym (head_is z x p.1)) i ∷ r.1 i)
    where
      tail_of : List A → List A
      tail_of [] = []
      tail_of (x ∷ xs) = xs

      head_is : {xs ys : List A} (x y : A) → x ∷ xs ≡ y ∷ ys → y ≡ x
      head_is {xs} {ys} x y e = sym (ap (head_or x) e)
        where
          head_or : A → List A → A
          head_or d [] = d
          head_or d (x ∷ xs) = x

  not_nil : (x : A) (xs : List A) → x ∷ xs ≡ [] → ⊥
  not_nil x xs e = let l : suc (length xs) ≡ 0 = ap length e in omega arith

  if_true : (t : Bool) (a b : List A) → t ≡ true → (if t then a else b) ≡ a
  if_true t a b e = ap (λ (z : Bool). if z then a else b) e

  if_false : (t : Bool) (a b : List A) → t ≡ false → (if t then a else b) ≡ b
  if_false t a b e = ap (λ (z : Bool). if z then a else b) e

  -- the longer of two beginnings of a list is one, and both begin it
  pub longer_front : (c a b : List A) → StartsWith c a → StartsWith c b → StartsWith c (longer a b) × StartsWith (longer a b) a × StartsWith (longer a b) b
  longer_front c a b p q = ⊎_elim
      (λ t. subst (λ (z : List A). StartsWith c z × StartsWith z a × StartsWith z b) (sym (if_true (leb (length a) (length b)) b a t)) (q, starts_both c a b p q (leb-true _ _ t), starts_refl b))
      (λ f. let lt : length b < length a = leb-false _ _ f in subst (λ (z : List A). StartsWith c z × StartsWith z a × StartsWith z b) (sym (if_false (leb (length a) (length b)) b a f)) (p, starts_refl a, starts_both c b a q p (omega arith)))
      (bool_cases (leb (length a) (length b)))

-- ---- the entries of one caller

module _ {E : Type 0} (by : E → ℕ) where
  pub entries_by-append : (n : ℕ) (a b : List E) → entries_by by n (a ++ b) ≡ entries_by by n a ++ entries_by by n b
  entries_by-append n a b = filter-append (λ (e : E). by e == n) a b

  pub entries_by-own : (n : ℕ) (e : E) → by e ≡ n → entries_by by n (e ∷ []) ≡ e ∷ []
  entries_by-own n e is = ap (λ (t : Bool). cond t (e ∷ []) []) (eq-eqb (by e) n is)

  -- one entry of the caller more
  pub entries_by-push : (n : ℕ) (l : List E) (e : E) → by e ≡ n → entries_by by n (l ++ e ∷ []) ≡ entries_by by n l ++ e ∷ []
  entries_by-push n l e is = entries_by-append n l (e ∷ []) ∙ ap (λ (z : List E). entries_by by n l ++ z) (entries_by-own n e is)

  -- behind a list with the same entries of a caller there are none
  none_behind : (n : ℕ) (a r : List E) → entries_by by n (a ++ r) ≡ entries_by by n a → entries_by by n r ≡ []
  none_behind n a r e =
      let l : length (entries_by by n (a ++ r)) ≡ length (entries_by by n a) + length (entries_by by n r) = ap length (entries_by-append n a r) ∙ length-append (entries_by by n a) (entries_by by n r) in
      let k : length (entries_by by n (a ++ r)) ≡ length (entries_by by n a) = ap length e in
      nil_from_length _ (omega arith)

  -- what stands between two lists with the same entries of a caller has them too
  pub entries_between : (n : ℕ) (a b c : List E) → StartsWith b a → StartsWith c b → entries_by by n c ≡ entries_by by n a → entries_by by n c ≡ entries_by by n b
  entries_between n a b c p q e =
      let one : entries_by by n b ≡ entries_by by n a ++ entries_by by n p.0 = ap (entries_by by n) p.1 ∙ entries_by-append n a p.0 in
      let two : entries_by by n c ≡ entries_by by n b ++ entries_by by n q.0 = ap (entries_by by n) q.1 ∙ entries_by-append n b q.0 in
      let la : length (entries_by by n c) ≡ length (entries_by by n a) = ap length e in
      let lb : length (entries_by by n b) ≡ length (entries_by by n a) + length (entries_by by n p.0) = ap length one ∙ length-append (entries_by by n a) (entries_by by n p.0) in
      let lc : length (entries_by by n c) ≡ length (entries_by by n b) + length (entries_by by n q.0) = ap length two ∙ length-append (entries_by by n b) (entries_by by n q.0) in
      let none : entries_by by n q.0 ≡ [] = nil_from_length _ (omega arith) in
      two ∙ ap (λ (z : List E). entries_by by n b ++ z) none ∙ append-nil (entries_by by n b)

  no_more : (x : E) (a r : List E) → entries_by by (by x) (a ++ x ∷ r) ≡ entries_by by (by x) a → ⊥
  no_more x a r e = not_nil x (entries_by by (by x) r)
      (sym (ap (λ (t : Bool). cond t (x ∷ entries_by by (by x) r) (entries_by by (by x) r)) (eq-eqb (by x) (by x) refl)) ∙ none_behind (by x) a (x ∷ r) e)

  -- a beginning that has everybody's entries is the whole
  pub whole : (c a rest : List E) → c ≡ a ++ rest → ((n : ℕ) → entries_by by n c ≡ entries_by by n a) → c ≡ a
  whole c a [] is all = is ∙ append-nil a
  whole c a (x ∷ r) is all = absurd (no_more x a r (ap (entries_by by (by x)) (sym is) ∙ all (by x)))

  -- where a caller has no entry, neither the first one is its nor one of the others
  none_cons : (n : ℕ) (x : E) (r : List E) → entries_by by n (x ∷ r) ≡ [] → ((by x == n) ≡ false) × (entries_by by n r ≡ [])
  none_cons n x r e = ⊎_elim
      (λ (t : (by x == n) ≡ true). absurd (not_nil x (entries_by by n r) (sym (ap (λ (b : Bool). cond b (x ∷ entries_by by n r) (entries_by by n r)) t) ∙ e)))
      (λ (f : (by x == n) ≡ false). (f, sym (ap (λ (b : Bool). cond b (x ∷ entries_by by n r) (entries_by by n r)) f) ∙ e))
      (bool_cases (by x == n))

  others_none : (n : ℕ) (r : List E) → entries_by by n r ≡ [] → AreOfOthers by n r
  others_none n [] none = refl
  others_none n (x ∷ r) none =
      let c = none_cons n x r none in
      ap (λ (b : Bool). not b && list_all (λ (e : E). not (by e == n)) r) c.0 ∙ others_none n r c.1

  -- what is new, where a caller's entries are the same, is of others
  pub others_new : (n : ℕ) (a r : List E) → entries_by by n (a ++ r) ≡ entries_by by n a → AreOfOthers by n r
  others_new n a r e = others_none n r (none_behind n a r e)

  none_others : (n : ℕ) (r : List E) → AreOfOthers by n r → entries_by by n r ≡ []
  none_others n [] others = refl
  none_others n (x ∷ r) others = ⊎_elim
      (λ (t : (by x == n) ≡ true). absurd (true≢false (sym others ∙ ap (λ (b : Bool). not b && list_all (λ (e : E). not (by e == n)) r) t)))
      (λ (f : (by x == n) ≡ false). ap (λ (b : Bool). cond b (x ∷ entries_by by n r) (entries_by by n r)) f
      ∙ none_others n r (sym (ap (λ (b : Bool). not b && list_all (λ (e : E). not (by e == n)) r) f) ∙ others))
      (bool_cases (by x == n))

  -- where what is new is of others, a caller's entries are the same
  pub entries_kept : (n : ℕ) (a r : List E) → AreOfOthers by n r → entries_by by n (a ++ r) ≡ entries_by by n a
  entries_kept n a r others = entries_by-append n a r ∙ ap (λ (z : List E). entries_by by n a ++ z) (none_others n r others) ∙ append-nil (entries_by by n a)

  out_none : (out : List ℕ) (r : List E) → ((n : ℕ) → is_out n out ≡ false → entries_by by n r ≡ []) → AreOut by out r
  out_none out [] none = refl
  out_none out (x ∷ r) none = ⊎_elim
      (λ (t : is_out (by x) out ≡ true). ap (λ (b : Bool). b && list_all (λ (e : E). is_out (by e) out) r) t ∙ out_none out r (λ n home. (none_cons n x r (none n home)).1))
      (λ (f : is_out (by x) out ≡ false). absurd (true≢false (sym (eq-eqb (by x) (by x) refl) ∙ (none_cons (by x) x r (none (by x) f)).0)))
      (bool_cases (is_out (by x) out))

  -- what is new, where the entries of each number that is not out are the same, is of numbers that are
  pub out_new : (out : List ℕ) (a r : List E) → ((n : ℕ) → is_out n out ≡ false → entries_by by n (a ++ r) ≡ entries_by by n a) → AreOut by out r
  out_new out a r same = out_none out r (λ n home. none_behind n a r (same n home))

  -- where no number is out, nothing is new
  pub nothing_new : (out : List ℕ) (r : List E) → out ≡ [] → AreOut by out r → r ≡ []
  nothing_new out [] nobody new = refl
  nothing_new out (x ∷ r) nobody new = absurd (true≢false (sym new ∙ ap (λ (z : List ℕ). is_out (by x) z && list_all (λ (e : E). is_out (by e) z) r) nobody))

  -- what the longer of two beginnings has to do with both
  pub joins_of : (log a b : List E) (out : List ℕ) (n : ℕ) → StartsWith log a → StartsWith log b → ((m : ℕ) → is_out m out ≡ false → entries_by by m log ≡ entries_by by m a)
      → entries_by by 0 log ≡ entries_by by 0 a → entries_by by n log ≡ entries_by by n b → Joins by a out b n (longer a b)
  joins_of log a b out n p q kept own theirs =
      let f = longer_front log a b p q in
      let l : List E = longer a b in
      let same : (m : ℕ) (z : List E) (s : StartsWith l z) → entries_by by m log ≡ entries_by by m z → entries_by by m (z ++ s.0) ≡ entries_by by m z =
      λ m z s e. ap (entries_by by m) (sym s.1) ∙ sym (entries_between m z l log s f.0 e) ∙ e in
      record {
        more = f.1.0;
        goes_on = f.1.1;
        of_out = out_new out a f.1.0 (λ m home. same m a f.1 (kept m home));
        of_others = others_new 0 a f.1.0 (same 0 a f.1 own);
        rest = f.2.0;
        begins = f.2.1;
        own = others_new n b f.2.0 (same n b f.2 theirs);
      }

  -- of an ended pass's caller there are the entries that it had seen
  pub joined_own : (a : List E) (out : List ℕ) (b : List E) (n : ℕ) (l : List E) → Joins by a out b n l → entries_by by n l ≡ entries_by by n b
  joined_own a out b n l j = ap (entries_by by n) j.begins ∙ entries_kept n b j.rest j.own

  others_home : (out : List ℕ) (n : ℕ) (r : List E) → is_out n out ≡ false → AreOut by out r → AreOfOthers by n r
  others_home out n [] home new = refl
  others_home out n (x ∷ r) home new = ⊎_elim
      (λ (t : (by x == n) ≡ true). absurd (true≢false (sym (and_left _ _ new) ∙ ap (λ (m : ℕ). is_out m out) (eqb-true (by x) n t) ∙ home)))
      (λ (f : (by x == n) ≡ false). ap (λ (b : Bool). not b && list_all (λ (e : E). not (by e == n)) r) f ∙ others_home out n r home (and_right _ _ new))
      (bool_cases (by x == n))

  -- of a number that was not out there are the entries that the first pass had seen
  pub joined_home : (a : List E) (out : List ℕ) (b : List E) (c : ℕ) (l : List E) (n : ℕ) → Joins by a out b c l → is_out n out ≡ false → entries_by by n l ≡ entries_by by n a
  joined_home a out b c l n j home = ap (entries_by by n) j.goes_on ∙ entries_kept n a j.more (others_home out n j.more home j.of_out)

  -- as a turn begins there are of its caller the entries that its passes made
  pub begins_own : {O : Type 0} (is_still : List E → Bool) (pass : PassView E O) (history : List E) (side : ℕ × ℕ) → Begins by is_still pass history side → entries_by by pass.caller history ≡ entries_by by pass.caller pass.seen
  begins_own is_still pass history side b = ap (entries_by by pass.caller) b.seen ∙ entries_kept pass.caller pass.seen b.more b.others

  -- where no number is out, the first pass has seen all that a turn of it begins with
  pub begins_whole : {O : Type 0} (is_still : List E → Bool) (pass : PassView E O) (history : List E) (side : ℕ × ℕ) → Begins by is_still pass history side → pass.caller ≡ 0 → pass.out ≡ [] → history ≡ pass.seen
  begins_whole is_still pass history side b first nobody = b.seen ∙ ap (λ (z : List E). pass.seen ++ z) (nothing_new pass.out b.more nobody (b.of_out first)) ∙ append-nil pass.seen

-- ---- numbers that are out

pub is_out_front : (n : ℕ) (xs : List ℕ) → is_out n (n ∷ xs) ≡ true
is_out_front n xs = ap (λ (t : Bool). t || is_out n xs) (eq-eqb n n refl)

pub is_out_later : (n m : ℕ) (xs : List ℕ) → is_out n xs ≡ true → is_out n (m ∷ xs) ≡ true
is_out_later n m xs e = ⊎_elim
    (λ (t : (m == n) ≡ true). ap (λ (z : Bool). z || is_out n xs) t)
    (λ (f : (m == n) ≡ false). ap (λ (z : Bool). z || is_out n xs) f ∙ e)
    (bool_cases (m == n))

-- a number that is not out, behind one more, is another one and was not out
pub is_out_not : (n m : ℕ) (xs : List ℕ) → is_out n (m ∷ xs) ≡ false → is_out n xs ≡ false
is_out_not n m xs e = ⊎_elim
    (λ (t : (m == n) ≡ true). absurd (true≢false (sym (ap (λ (z : Bool). z || is_out n xs) t) ∙ e)))
    (λ (f : (m == n) ≡ false). sym (ap (λ (z : Bool). z || is_out n xs) f) ∙ e)
    (bool_cases (m == n))

-- another number than the one taken out is there as before
pub is_out_without : (n m : ℕ) (xs : List ℕ) → n ≢ m → is_out n (without m xs) ≡ is_out n xs
is_out_without n m [] ne = refl
is_out_without n m (x ∷ xs) ne = ⊎_elim
    (λ (t : (x == m) ≡ true). ap (λ (z : Bool). is_out n (cond (not z) (x ∷ without m xs) (without m xs))) t ∙ is_out_without n m xs ne
    ∙ sym (ap (λ (z : Bool). z || is_out n xs) (ne_eqb x n (λ (e : x ≡ n). ne (sym e ∙ eqb-true x m t)))))
    (λ (f : (x == m) ≡ false). ap (λ (z : Bool). is_out n (cond (not z) (x ∷ without m xs) (without m xs))) f ∙ ap (λ (z : Bool). (x == n) || z) (is_out_without n m xs ne))
    (bool_cases (x == m))

pub without_nil : (n : ℕ) (xs : List ℕ) → xs ≡ [] → without n xs ≡ []
without_nil n xs e = ap (without n) e
