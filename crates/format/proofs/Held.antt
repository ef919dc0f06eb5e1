-- The record that a line holds, from the numbers read.
use Prim.Native.Nat.{ℕ, zero, suc, ◌+◌, ◌≤◌, ◌<◌}
use native.Mathlib.Omega.{arith}
use mathlib.Core.Bool.{Bool, true, false}
use mathlib.Core.List.{List}
use mathlib.Core.Path.{◌≡◌, refl, ap, ◌∙◌}
use lib.ListN.{length, get_or}
use Rattle.format.specs.Lines.{value_at, header_at, storey_at, case_at, cases_at, member_at}
use Rattle.records.specs.Records.{fields, last_field, in_cases, storey_kind, member_kind, header_by, storey_by, case_by, old_cases, member_by}
use Rattle.records.specs.declared.Header.{Header}
use Rattle.records.specs.declared.Storey.{Storey}
use Rattle.records.specs.declared.LoadCase.{LoadCase}
use Rattle.records.specs.declared.Member.{Member}
use Rattle.records.specs.declared.Kind.{Kind}
use Rattle.records.specs.declared.Kind.TheVariants.{B, M, D}
use Rattle.records.proofs.Lines.{numbers}

-- ---- records of the same numbers
pub header-same : (form : ℕ) (f g : ℕ → ℕ) → ((j : ℕ) → j < fields B → f j ≡ g j) → header_by form f ≡ header_by form g
header-same form f g h = rw (h 0 (omega arith), h 1 (omega arith), h 2 (omega arith), h 3 (omega arith), h 4 (omega arith), h 5 (omega arith))

storey-by : (t : Bool) (form : ℕ) (f g : ℕ → ℕ) → in_cases form ≡ t → ((j : ℕ) → j < fields (storey_kind form) → f j ≡ g j) → storey_by form f ≡ storey_by form g
storey-by true form f g e h =
    let k = rw e at h in
    rw (e, k 0 (omega arith), k 1 (omega arith), k 2 (omega arith), k 3 (omega arith), k 4 (omega arith), k 5 (omega arith))
storey-by false form f g e h = let k = rw e at h in rw (e, k 0 (omega arith), k 1 (omega arith), k 2 (omega arith))

pub storey-same : (form : ℕ) (f g : ℕ → ℕ) → ((j : ℕ) → j < fields (storey_kind form) → f j ≡ g j) → storey_by form f ≡ storey_by form g
storey-same form f g h = storey-by (in_cases form) form f g refl h

-- a load case has eight numbers
pub case_same : (f g : ℕ → ℕ) (k : ℕ) → ((j : ℕ) → j < 8 → f (k + j) ≡ g (k + j)) → case_by f k ≡ case_by g k
case_same f g k h =
    let z : k + 0 ≡ k = omega arith in
    rw (
      rw z at (h 0 (omega arith)),
      h 1 (omega arith),
      h 2 (omega arith),
      h 3 (omega arith),
      h 4 (omega arith),
      h 5 (omega arith),
      h 6 (omega arith),
      h 7 (omega arith),
    )

pub member-same : (f g : ℕ → ℕ) (annex_e : ℕ) (cases : List LoadCase) → ((j : ℕ) → j < 18 → f j ≡ g j) → member_by f annex_e cases ≡ member_by g annex_e cases
member-same f g annex_e cases h =
    rw (
      h 0 (omega arith),
      h 1 (omega arith),
      h 2 (omega arith),
      h 3 (omega arith),
      h 4 (omega arith),
      h 5 (omega arith),
      h 6 (omega arith),
      h 7 (omega arith),
      h 8 (omega arith),
      h 9 (omega arith),
      h 10 (omega arith),
      h 11 (omega arith),
      h 12 (omega arith),
      h 13 (omega arith),
      h 14 (omega arith),
      h 15 (omega arith),
      h 16 (omega arith),
      h 17 (omega arith),
    )

-- the M lines of both forms have them, and one more
first-fields : (t : Bool) (form : ℕ) → in_cases form ≡ t → 19 ≤ fields (member_kind form)
first-fields true form e = rw e (omega arith)
first-fields false form e = rw e (omega arith)

-- ---- the records that lines hold
module _ (s : List ℕ) (at : ℕ) (vs : List ℕ) where
  -- vs are the numbers of a line's fields
  abbrev Values : Kind → Type 0
  Values kind = (j : ℕ) → j < fields kind → get_or vs j 0 ≡ value_at kind s at j

  pub header-held : (form : ℕ) (h : Header) → Values B → h ≡ header_by form (λ (j : ℕ). get_or vs j 0) → h ≡ header_at form s at
  unfolding header_at
  header-held form h o e = e ∙ header-same form (λ (j : ℕ). get_or vs j 0) (value_at B s at) o

  pub storey-held : (form : ℕ) (h : Storey) → Values (storey_kind form) → h ≡ storey_by form (λ (j : ℕ). get_or vs j 0) → h ≡ storey_at form s at
  unfolding storey_at
  storey-held form h o e = e ∙ storey-same form (λ (j : ℕ). get_or vs j 0) (value_at (storey_kind form) s at) o

  pub case-held : (h : LoadCase) → Values D → h ≡ case_by (λ (j : ℕ). get_or vs j 0) 1 → h ≡ case_at s at
  unfolding case_at
  case-held h o e = e ∙ case_same (λ (j : ℕ). get_or vs j 0) (value_at D s at) 1 (λ j l. o (1 + j) (omega arith))

  -- an M line of the old form has its case
  pub old-cases-held : (form : ℕ) → in_cases form ≡ false → Values (member_kind form) → old_cases (λ (j : ℕ). get_or vs j 0) ≡ cases_at form s at
  old-cases-held form q o =
      let k = rw q at o in
      rw (q, case_same (λ (j : ℕ). get_or vs j 0) (value_at M s at) 18 (λ j l. k (18 + j) (omega arith)))

  pub member-held : (form : ℕ) (h : Member) (cases : List LoadCase) → Values (member_kind form) → cases ≡ cases_at form s at → h ≡ member_by (λ (j : ℕ). get_or vs j 0) (get_or vs (last_field (member_kind form)) 0) cases → h ≡ member_at form s at
  unfolding member_at
  member-held form h cases o q e =
      let n = first-fields (in_cases form) form refl in
      let last = last_field (member_kind form) in
      e
      ∙ ap (λ d. member_by (λ (j : ℕ). get_or vs j 0) d cases) (o last (omega (arith, n)))
      ∙ rw q (member-same (λ (j : ℕ). get_or vs j 0) (value_at (member_kind form) s at) (value_at (member_kind form) s at last) (cases_at form s at) (λ j l. o j (omega (arith, n))))

-- ---- how many numbers there are
pub length-numbers : (f : ℕ → ℕ) (k n : ℕ) → length (numbers f k n) ≡ n
length-numbers f k zero = refl
length-numbers f k (suc n) = ap suc (length-numbers f (suc k) n)
