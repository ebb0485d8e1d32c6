-- Exchanges one behind another, and what they bring about.
use Rattle.std.proofs.Common.{◌≡◌, ◌∙◌, ℕ, ◌==◌, Bool, true, false, List, [], ◌∷◌, ◌++◌, Option, None, Some, refl, ap, sym, subst, append_assoc}
use Rattle.std.specs.Prelude.{◌&&◌}
use Rattle.std.specs.List.{list_all}
use Rattle.std.proofs.lemmas.List.{append-nil}
use Rattle.std.proofs.lemmas.List.Concat.{flat_map-append}
use Rattle.std.proofs.lemmas.Bool.{and_parts, eqb-true}
use Rattle.chv_defs_base.specs.declared.book.BookId.TheVariants as book
use Rattle.chv_defs_api.specs.declared.control.ControlCall.{ControlCall}
use Rattle.chv_defs_memory.specs.declared.bank.BankCall.{BankCall}
use Rattle.chv_defs_memory.specs.declared.bank.BankEntry.{BankEntry}
use Rattle.chv_defs_memory.specs.BankState.{later}
use Rattle.chv_defs_memory.specs.Lending.{Access}
use Rattle.chv_defs_memory.specs.Zones.{IsBank}
use Rattle.chv_defs_guest.specs.Course.{Course, Accesses, Asks, Exchange, Accessed, Asked, Leads, Outcome, access_cause, answer_in, answers_of, book_if, book_in, books_of, cause_in, cause_of, entries_in, entry_by, entry_in, last_stopped, outcome_cause, stopped_in}
use Rattle.chv_defs_guest.specs.Replies.{AreFitting, can_come, is_fitting}
use Rattle.chv_defs_guest.specs.Moments.{Makes, Moment, OnlySeesOn, Takes, Turns}
use Rattle.chv_defs_guest.specs.Worlds.{Chains, Does}

-- ---- the later of findings

pub later_none : {A : Type 0} (a : Option A) → later None a ≡ a
later_none None = refl
later_none (Some a) = refl

pub later_assoc : {A : Type 0} (a b c : Option A) → later (later a b) c ≡ later a (later b c)
later_assoc a b None = refl
later_assoc a b (Some c) = refl

-- ---- one behind another

pub leads_join : {N : Type 0} (a : Course N) (es fs : List Exchange) (b c : Course N) → Leads a es b → Leads b fs c → Leads a (es ++ fs) c
leads_join a [] fs b c h k = subst (λ d. Leads d fs c) (sym h) k
leads_join (Accesses zone bank call next) (Accessed z d e answer ∷ es) fs b c h k = (h.0, h.1, h.2, leads_join (next answer) es fs b c h.3 k)
leads_join (Asks call next) (Asked e answer ∷ es) fs b c h k = (h.0, leads_join (next answer) es fs b c h.1 k)
leads_join a (e ∷ es) fs b c h k = absurd h

pub chains_join : {W : Type 0} (accesses : W → ℕ → ℕ → BankCall → Access → W → Type 0) (asks : W → ControlCall → W → Type 0) (a b c : W) (es fs : List Exchange)
    → Chains accesses asks a es b → Chains accesses asks b fs c → Chains accesses asks a (es ++ fs) c
chains_join accesses asks a b c [] fs h k = subst (λ d. Chains accesses asks d fs c) h k
chains_join accesses asks a b c (Accessed zone bank call answer ∷ es) fs h k = (h.0, h.1, chains_join accesses asks h.0 b c es fs h.2 k)
chains_join accesses asks a b c (Asked call answer ∷ es) fs h k = (h.0, h.1, chains_join accesses asks h.0 b c es fs h.2 k)

pub turns_join : (caller : ℕ) (a b c : ℕ → ℕ → Option (List BankEntry)) (es fs : List Exchange) → Turns caller a es b → Turns caller b fs c → Turns caller a (es ++ fs) c
turns_join caller a b c [] fs h k = subst (λ d. Turns caller d fs c) h k
turns_join caller a b c (Accessed zone bank call answer ∷ es) fs h k = (h.0, h.1, turns_join caller h.0 b c es fs h.2 k)
turns_join caller a b c (Asked call answer ∷ es) fs h k = (h.0, h.1, turns_join caller h.0 b c es fs h.2 k)

pub stopped_join : (es fs : List Exchange) → last_stopped (es ++ fs) ≡ later (last_stopped es) (last_stopped fs)
stopped_join [] fs = sym (later_none (last_stopped fs))
stopped_join (e ∷ es) fs = ap (later (stopped_in e)) (stopped_join es fs) ∙ sym (later_assoc (stopped_in e) (last_stopped es) (last_stopped fs))

pub cause_join : (es fs : List Exchange) → cause_of (es ++ fs) ≡ later (cause_of es) (cause_of fs)
cause_join [] fs = sym (later_none (cause_of fs))
cause_join (e ∷ es) fs = ap (later (cause_in e)) (cause_join es fs) ∙ sym (later_assoc (cause_in e) (cause_of es) (cause_of fs))

pub fitting_join : (es fs : List Exchange) → AreFitting es → AreFitting fs → AreFitting (es ++ fs)
fitting_join [] fs h k = k
fitting_join (e ∷ es) fs h k =
    let both = and_parts (is_fitting e) (list_all is_fitting es) h in
    ap (λ b. b && list_all is_fitting (es ++ fs)) both.0 ∙ fitting_join es fs both.1 k

-- a list with one behind it, and another behind that
lists_join : {A : Type 0} (a b c es fs all : List A) → b ≡ a ++ es → c ≡ b ++ fs → all ≡ es ++ fs → c ≡ a ++ all
lists_join a b c es fs all h k j = k ∙ ap (λ xs. xs ++ fs) h ∙ append_assoc a es fs ∙ ap (λ xs. a ++ xs) (sym j)

later_join : {A : Type 0} (a b c e f all : Option A) → b ≡ later a e → c ≡ later b f → all ≡ later e f → c ≡ later a all
later_join a b c e f all h k j = k ∙ ap (λ x. later x f) h ∙ later_assoc a e f ∙ ap (later a) (sym j)

pub makes_none : (m : Moment) → Makes m [] m
makes_none m = record {
  caller = refl;
  banks = λ zone bank there. sym (append-nil (m.own zone bank));
  turns = refl;
  answers = sym (append-nil m.answers);
  stopped = refl;
  order = sym (append-nil m.order);
  cause = refl;
  fitting = refl;
}

pub makes_join : (a b c : Moment) (es fs : List Exchange) → Makes a es b → Makes b fs c → Makes a (es ++ fs) c
makes_join a b c es fs h k = record {
  caller = k.caller ∙ h.caller;
  banks = λ zone bank there.
      lists_join (a.own zone bank) (b.own zone bank) (c.own zone bank) (entries_in a.caller zone bank es) (entries_in a.caller zone bank fs) _ (h.banks zone bank there)
      (k.banks zone bank there ∙ ap (λ n. b.own zone bank ++ entries_in n zone bank fs) h.caller) (flat_map-append (entry_in a.caller zone bank) es fs);
  turns = turns_join a.caller a.seen b.seen c.seen es fs h.turns (subst (λ n. Turns n b.seen fs c.seen) h.caller k.turns);
  answers = lists_join a.answers b.answers c.answers (answers_of es) (answers_of fs) _ h.answers k.answers (flat_map-append answer_in es fs);
  stopped = later_join a.stopped b.stopped c.stopped (last_stopped es) (last_stopped fs) _ h.stopped k.stopped (stopped_join es fs);
  order = lists_join a.order b.order c.order (books_of es) (books_of fs) _ h.order k.order (flat_map-append book_in es fs);
  cause = later_join a.cause b.cause c.cause (cause_of es) (cause_of fs) _ h.cause k.cause (cause_join es fs);
  fitting = fitting_join es fs h.fitting k.fitting;
}

-- ---- one call

-- what an access leaves of the own entries in a bank
own_in : (caller zone bank z b : ℕ) (before after : ℕ → ℕ → List BankEntry) (c : BankCall) (answer : Access)
    → after zone bank ≡ before zone bank ++ entry_by caller c answer → ((z == zone && b == bank) ≡ false → after z b ≡ before z b)
    → after z b ≡ before z b ++ entries_in caller z b (Accessed zone bank c answer ∷ [])
own_in caller zone bank z b before after c answer here others = by (z == zone && b == bank) refl
  where
    by : (t : Bool) → (z == zone && b == bank) ≡ t → after z b ≡ before z b ++ entries_in caller z b (Accessed zone bank c answer ∷ [])
    by false e = rw e (others e ∙ sym (append-nil (before z b)))
    by true e =
        let same = and_parts (z == zone) (b == bank) e in
        let moved : after z b ≡ before z b ++ entry_by caller c answer =
        subst (λ y. after y b ≡ before y b ++ entry_by caller c answer) (sym (eqb-true z zone same.0))
        (subst (λ y. after zone y ≡ before zone y ++ entry_by caller c answer) (sym (eqb-true b bank same.1)) here)
        in
        rw e (moved ∙ ap (λ xs. before z b ++ xs) (sym (append-nil (entry_by caller c answer))))

one_fitting : (b : Bool) → b ≡ true → (b && true) ≡ true
one_fitting b h = ap (λ x. x && true) h

-- an access was made
pub makes_access : (m n : Moment) (zone bank : ℕ) (c : BankCall) (answer : Access) → n.caller ≡ m.caller
    → n.own zone bank ≡ m.own zone bank ++ entry_by m.caller c answer
    → ((z b : ℕ) → IsBank z b → (z == zone && b == bank) ≡ false → n.own z b ≡ m.own z b)
    → Takes m.caller zone bank m.seen n.seen c answer → n.answers ≡ m.answers → n.stopped ≡ m.stopped
    → n.order ≡ m.order ++ book_if (book.Bank zone bank) answer → n.cause ≡ later m.cause (access_cause answer) → can_come c answer ≡ true
    → Makes m (Accessed zone bank c answer ∷ []) n
makes_access m n zone bank c answer caller own others takes answers stopped order cause fits = record {
  caller = caller;
  banks = λ z b there. own_in m.caller zone bank z b m.own n.own c answer own (others z b there);
  turns = (n.seen, takes, refl);
  answers = answers ∙ sym (append-nil m.answers);
  stopped = stopped;
  order = order ∙ ap (λ xs. m.order ++ xs) (sym (append-nil (book_if (book.Bank zone bank) answer)));
  cause = cause;
  fitting = one_fitting (can_come c answer) fits;
}

-- ---- what was done of a course

-- nothing was done
pub does_none : {N W : Type 0} (accesses : W → ℕ → ℕ → BankCall → Access → W → Type 0) (asks : W → ControlCall → W → Type 0) (course : Course N) (w : W) (m : Moment)
    → Does accesses asks course w m w m course
does_none accesses asks course w m = record { exchanges = []; leads = refl; makes = makes_none m; chains = refl }

-- one thing behind another
pub does_join : {N W : Type 0} (accesses : W → ℕ → ℕ → BankCall → Access → W → Type 0) (asks : W → ControlCall → W → Type 0) (first between last : Course N)
    (u v w : W) (l m n : Moment) → Does accesses asks first u l v m between → Does accesses asks between v m w n last → Does accesses asks first u l w n last
does_join accesses asks first between last u v w l m n h k = record {
  exchanges = h.exchanges ++ k.exchanges;
  leads = leads_join first h.exchanges k.exchanges between last h.leads k.leads;
  makes = makes_join l m n h.exchanges k.exchanges h.makes k.makes;
  chains = chains_join accesses asks u v w h.exchanges k.exchanges h.chains k.chains;
}
