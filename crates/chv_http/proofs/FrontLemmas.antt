-- A front ends at one place at most, inside the bytes, and bytes behind it do not move its end.
use Rattle.std.proofs.Common.{◌≡◌, ℕ, ◌+◌, ◌<◌, ◌≤◌, ◌⊎◌, List, ◌++◌, length, get_or, sym, ◌∙◌, subst, inl, inr, arith}
use Rattle.std.proofs.lemmas.Bool.{cases_lt}
use Rattle.std.proofs.lemmas.List.{get_or_append_left, get_or_past}
use Rattle.chv_defs_api.specs.HttpFront.{IsEmptyLine, IsBehindText, Closes, IsFront}

-- what does not read 0 lies inside the bytes
pub inside : (bytes : List ℕ) (k x : ℕ) → get_or bytes k 0 ≡ x → 0 < x → k < length bytes
inside bytes k x reads positive =
    elim (cases_lt k (length bytes)) as (λ _. k < length bytes) [
      | inl below ↦ below
      | inr past ↦ absurd (omega (arith, reads, get_or_past bytes k 0 past))
    ]

reads_append : (bytes more : List ℕ) (k x : ℕ) → get_or bytes k 0 ≡ x → 0 < x → get_or (bytes ++ more) k 0 ≡ x
reads_append bytes more k x reads positive =
    get_or_append_left bytes more 0 k (inside bytes k x reads positive) ∙ reads

reads_back : (bytes more : List ℕ) (k x : ℕ) → k < length bytes → get_or (bytes ++ more) k 0 ≡ x → get_or bytes k 0 ≡ x
reads_back bytes more k x below reads = sym (get_or_append_left bytes more 0 k below) ∙ reads

empty_within : (bytes : List ℕ) (i n : ℕ) → IsEmptyLine bytes i n → (i < n) × (n ≤ length bytes)
empty_within bytes i n line =
    elim line.1 as (λ _. (i < n) × (n ≤ length bytes)) [
      | inl feed ↦ (omega arith, omega (arith, inside bytes (i + 1) 10 feed.0 (omega arith)))
      | inr return ↦ (omega arith, omega (arith, inside bytes (i + 2) 10 return.1 (omega arith)))
    ]

-- a front ends inside the bytes
pub closes_within : (bytes : List ℕ) (n : ℕ) → Closes bytes n → n ≤ length bytes
closes_within bytes n closes = (empty_within bytes closes.0 n closes.1).1

-- what stands behind the line feed of an empty line
abbrev IsClosed : List ℕ → ℕ → ℕ → Type 0
IsClosed bytes i n =
    ((get_or bytes (i + 1) 0 ≡ 10) × (n ≡ i + 2))
    ⊎ ((get_or bytes (i + 1) 0 ≡ 13) × (get_or bytes (i + 2) 0 ≡ 10) × (n ≡ i + 3))

empty_append : (bytes more : List ℕ) (i n : ℕ) → IsEmptyLine bytes i n → IsEmptyLine (bytes ++ more) i n
empty_append bytes more i n line = (
  reads_append bytes more i 10 line.0 (omega arith),
  elim line.1 as (λ _. IsClosed (bytes ++ more) i n) [
    | inl feed ↦ inl (reads_append bytes more (i + 1) 10 feed.0 (omega arith), feed.1)
    | inr return ↦ inr (
      reads_append bytes more (i + 1) 13 return.0 (omega arith),
      reads_append bytes more (i + 2) 10 return.1 (omega arith),
      return.2,
    )
  ],
)

empty_back : (bytes more : List ℕ) (i n : ℕ) → n ≤ length bytes → IsEmptyLine (bytes ++ more) i n → IsEmptyLine bytes i n
empty_back bytes more i n within line =
    let order : i < n = (empty_within (bytes ++ more) i n line).0 in (
      reads_back bytes more i 10 (omega arith) line.0,
      elim line.1 as (λ _. IsClosed bytes i n) [
        | inl feed ↦ inl (reads_back bytes more (i + 1) 10 (omega arith) feed.0, feed.1)
        | inr return ↦ inr (
          reads_back bytes more (i + 1) 13 (omega arith) return.0,
          reads_back bytes more (i + 2) 10 (omega arith) return.1,
          return.2,
        )
      ],
    )

behind_append : (bytes more : List ℕ) (i : ℕ) → i ≤ length bytes → IsBehindText bytes i → IsBehindText (bytes ++ more) i
behind_append bytes more i within text = (
  text.0,
  text.1,
  λ e. text.2 (reads_back bytes more text.0 13 (omega arith) e),
  λ e. text.3 (reads_back bytes more text.0 10 (omega arith) e),
)

behind_back : (bytes more : List ℕ) (i : ℕ) → i ≤ length bytes → IsBehindText (bytes ++ more) i → IsBehindText bytes i
behind_back bytes more i within text =
    let same : get_or (bytes ++ more) text.0 0 ≡ get_or bytes text.0 0 =
    get_or_append_left bytes more 0 text.0 (omega arith) in
    (text.0, text.1, λ e. text.2 (same ∙ e), λ e. text.3 (same ∙ e))

-- bytes that follow leave the end of a front
pub closes_append : (bytes more : List ℕ) (n : ℕ) → Closes bytes n → Closes (bytes ++ more) n
closes_append bytes more n closes =
    let within : (closes.0 < n) × (n ≤ length bytes) = empty_within bytes closes.0 n closes.1 in (
      closes.0,
      empty_append bytes more closes.0 n closes.1,
      behind_append bytes more closes.0 (omega arith) closes.2,
    )

-- and they make none inside the bytes before them
pub closes_back : (bytes more : List ℕ) (n : ℕ) → n ≤ length bytes → Closes (bytes ++ more) n → Closes bytes n
closes_back bytes more n within closes =
    let order : closes.0 < n = (empty_within (bytes ++ more) closes.0 n closes.1).0 in (
      closes.0,
      empty_back bytes more closes.0 n within closes.1,
      behind_back bytes more closes.0 (omega arith) closes.2,
    )

-- the first place at which a front ends is its end
pub front_here : (bytes : List ℕ) (at : ℕ) → ((n : ℕ) → n ≤ at → ¬ (Closes bytes n)) → Closes bytes (at + 1)
    → IsFront bytes (at + 1)
front_here bytes at none closes = record {
  closes = closes;
  first = λ m other. elim (cases_lt at m) as (λ _. at + 1 ≤ m) [
    | inl above ↦ omega arith
    | inr below ↦ absurd (none m below other)
  ];
}

-- no front ends up to the next place either
pub none_yet : (bytes : List ℕ) (at : ℕ) → ((n : ℕ) → n ≤ at → ¬ (Closes bytes n)) → ¬ (Closes bytes (at + 1))
    → (n : ℕ) → n ≤ at + 1 → ¬ (Closes bytes n)
none_yet bytes at none here n within closes =
    elim (cases_lt at n) as (λ _. ⊥) [
      | inl above ↦ (let same : n ≡ at + 1 = omega arith in here (subst (Closes bytes) same closes))
      | inr below ↦ none n below closes
    ]

-- bytes that follow leave the front
pub front_append : (bytes more : List ℕ) (n : ℕ) → IsFront bytes n → IsFront (bytes ++ more) n
front_append bytes more n front = record {
  closes = closes_append bytes more n front.closes;
  first = λ m other. elim (cases_lt m n) as (λ _. n ≤ m) [
    | inl below ↦ (let within : n ≤ length bytes = closes_within bytes n front.closes in
        front.first m (closes_back bytes more m (omega arith) other))
    | inr above ↦ above
  ];
}

-- bytes have one front at most
pub front_is_one : (bytes : List ℕ) (n m : ℕ) → IsFront bytes n → IsFront bytes m → n ≡ m
front_is_one bytes n m a b =
    let up : n ≤ m = a.first m b.closes in
    let down : m ≤ n = b.first n a.closes in
    omega arith
