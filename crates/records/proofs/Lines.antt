-- The lines of a good record are in their ranges, and lines in their ranges make a good record.
use Prim.Native.Nat.{ℕ, zero, suc, ◌+◌, ◌≤◌, ◌<◌}
use native.Mathlib.Omega.{arith}
use native.Mathlib.Nat.{le_of_suc-le-suc, not-suc-le-zero}
use mathlib.Core.Bool.{Bool, true, false, ◌&&◌, and-true, and-false}
use mathlib.Core.List.{List, [], ◌∷◌, ◌++◌}
use mathlib.Core.Path.{◌≡◌, refl, sym, ap, ◌∙◌}
use lib.Dec.{leb, ltb, eqb}
use lib.ListN.{length, get_or, get_or-append}
use lib.Seq.{get_or-append-add}
use borrow.Author.Tests.{le-leb, lt-ltb, eq-eqb}
use Rattle.records.specs.Notation.{pick, every_below}
use Rattle.records.specs.declared.{LoadCase.LoadCase, Member.Member, Kind.Kind, Kind.TheVariants.B, Kind.TheVariants.S, Kind.TheVariants.M, Kind.TheVariants.S4, Kind.TheVariants.M4, Kind.TheVariants.D}
use Rattle.records.specs.Records.{never, allows, ranges, fields, in_range, line_in_range, in_cases, known_form, case_count, storey_kind, member_kind, case_of, with_case, in_case, member_values, case_values, member_case_values, header_values, storey_values, header_by, storey_by, case_by, member_by, old_member, sides_fault, case_fits, header_fault, storey_fault, member_fault, is_blank}
use Rattle.records.proofs.Allowing.{member-field, case-field, three-fields}
use Rattle.records.proofs.Below.{both_ways, every-at, every_of, every_more, every-add, every-fails, every-same}
use Rattle.records.proofs.Cases.{blank_none, cases-least, cases-most}
use Rattle.records.proofs.Validity.{Ranged, case-in-range}

-- the first 18 numbers of a member
abbrev shared_values : Member → List ℕ
shared_values m =
    m.number ∷ m.long ∷ m.short ∷ m.area ∷ m.fcm ∷ m.fctm ∷ m.fyw ∷ m.depth ∷ m.height ∷ m.spacing ∷ m.core ∷ m.hoops
    ∷ m.hooks ∷ m.zone ∷ m.strengthened ∷ m.factor ∷ m.damage ∷ m.nd ∷ []

-- ---- the line of a member in one case, beside its M line and its D line in the form of four cases
module _ (m : Member) (k : LoadCase) where
  first-fields : (j : ℕ) → j < 18 → in_range M (member_case_values (with_case m k)) j ≡ in_range M4 (member_values m) j
  first-fields j h =
      ap (λ r. allows r (get_or (member_case_values (with_case m k)) j 0)) (member-field j h)
      ∙ ap (allows (get_or (ranges M4 0) j never)) (get_or-append (shared_values m) (case_values k ++ (m.annex_e ∷ [])) 0 j h ∙ sym (get_or-append (shared_values m) (m.annex_e ∷ []) 0 j h))

  case-fields : (n i : ℕ) → i < 8 → in_range M (member_case_values (with_case m k)) (18 + i) ≡ in_range D (n ∷ case_values k) (suc i)
  case-fields n i h =
      ap (λ r. allows r (get_or (member_case_values (with_case m k)) (18 + i) 0)) (case-field i h)
      ∙ ap (allows (get_or (ranges D 0) (suc i) never)) (get_or-append-add (shared_values m) (case_values k ++ (m.annex_e ∷ [])) i 0 ∙ get_or-append (case_values k) (m.annex_e ∷ []) 0 i h)

  member-line : Ranged M (member_case_values (with_case m k)) → Ranged M4 (member_values m)
  member-line r =
      let at : (j : ℕ) → j < fields M → in_range M (member_case_values (with_case m k)) j ≡ true = λ j h. every-at (in_range M (member_case_values (with_case m k))) (fields M) j r h in
      every_more (in_range M4 (member_values m)) 18 (every_of (in_range M4 (member_values m)) 18 (λ j h. sym (first-fields j h) ∙ at j (omega arith))) (at 26 (omega arith))

  case-line : (n : ℕ) → 1 ≤ n → n ≤ 4 → Ranged M (member_case_values (with_case m k)) → Ranged D (n ∷ case_values k)
  case-line n a b r = every_of (in_range D (n ∷ case_values k)) (fields D) at
    where
      at : (j : ℕ) → j < fields D → in_range D (n ∷ case_values k) j ≡ true
      at zero h = rw (le-leb 1 n a, le-leb n 4 b)
      at (suc i) h = sym (case-fields n i (le_of_suc-le-suc h)) ∙ every-at (in_range M (member_case_values (with_case m k))) (fields M) (18 + i) r (omega arith)

  lines_join : (n : ℕ) → Ranged M4 (member_values m) → Ranged D (n ∷ case_values k) → Ranged M (member_case_values (with_case m k))
  lines_join n r q =
      every_more (in_range M (member_case_values (with_case m k))) 26
      (every-add (in_range M (member_case_values (with_case m k))) 18 8
      (every_of (in_range M (member_case_values (with_case m k))) 18 (λ j h. first-fields j h ∙ every-at (in_range M4 (member_values m)) 19 j r (omega arith)))
      (λ i h. case-fields n i h ∙ every-at (in_range D (n ∷ case_values k)) 9 (suc i) q (omega arith)))
      (every-at (in_range M4 (member_values m)) 19 18 r (omega arith))

line_of : (t : Bool) (m : Member) → Ranged M (member_case_values (in_case 0 m)) → Ranged (pick t M4 M) (pick t (member_values m) (member_case_values (in_case 0 m)))
line_of true m r = member-line m (case_of 0 m) r
line_of false m r = r

-- the M line of a good member
pub member-ranged : (form : ℕ) (m : Member) → member_fault form m ≡ 0 → Ranged (member_kind form) (pick (in_cases form) (member_values m) (member_case_values (in_case 0 m)))
member-ranged form m e = line_of (in_cases form) m (case-in-range form m 0 e (cases-least form))

-- its D lines
pub case-ranged : (form : ℕ) (m : Member) (c : ℕ) → member_fault form m ≡ 0 → c < case_count form → Ranged D ((c + 1) ∷ case_values (case_of c m))
case-ranged form m c e h = case-line m (case_of c m) (c + 1) (omega arith) (omega (arith, cases-most form)) (case-in-range form m c e h)

-- ---- lines in their ranges: f tells the number of each field
abbrev pub InRanges : Kind → (ℕ → ℕ) → Type 0
InRanges kind f = (j : ℕ) → j < fields kind → allows (get_or (ranges kind (f 2)) j never) (f j) ≡ true

-- f j, f (j + 1), ..: n numbers
abbrev pub numbers : (ℕ → ℕ) → ℕ → ℕ → List ℕ
numbers f j zero = []
numbers f j (suc n) = f j ∷ numbers f (suc j) n

at-numbers : (f : ℕ → ℕ) (n k j : ℕ) → j < n → get_or (numbers f k n) j 0 ≡ f (k + j)
at-numbers f zero k j h = absurd (not-suc-le-zero h)
at-numbers f (suc n) k zero h = let e : k + 0 ≡ k = omega arith in rw e
at-numbers f (suc n) k (suc j) h = let e : k + suc j ≡ suc k + j = omega arith in rw e (at-numbers f n (suc k) j (le_of_suc-le-suc h))

pub from_first : (f : ℕ → ℕ) (n j : ℕ) → j < n → get_or (numbers f 0 n) j 0 ≡ f j
from_first f n j h = let e : 0 + j ≡ j = omega arith in at-numbers f n 0 j h ∙ ap f e

ranged : (kind : Kind) (f : ℕ → ℕ) → InRanges kind f → Ranged kind (numbers f 0 (fields kind))
ranged kind f r = every_of (in_range kind (numbers f 0 (fields kind))) (fields kind) (λ j h. rw (from_first f (fields kind) 2 (three-fields kind), from_first f (fields kind) j h) (r j h))

-- a header: what is left is refusal 7
pub header-good : (form : ℕ) (f : ℕ → ℕ) → InRanges B f → known_form form ≡ true → header_fault (header_by form f) ≡ pick (leb (f 1) 30_000 && leb (f 2) 10) 0 7
unfolding header_fault
header-good form f r k = let e : line_in_range B (header_values (header_by form f)) ≡ true = ranged B f r in rw (e, k)

-- a storey
storey-by : (form : ℕ) (f : ℕ → ℕ) (t : Bool) → in_cases form ≡ t → InRanges (pick t S4 S) f → storey_fault form (storey_by form f) ≡ 0
unfolding storey_fault
storey-by form f true e r = let q : line_in_range S4 (storey_values 2 (storey_by 2 f)) ≡ true = ranged S4 f r in rw (e, q)
storey-by form f false e r = let q : line_in_range S (storey_values 1 (storey_by 1 f)) ≡ true = ranged S f r in rw (e, q)

pub storey-good : (form : ℕ) (f : ℕ → ℕ) → InRanges (storey_kind form) f → storey_fault form (storey_by form f) ≡ 0
storey-good form f r = storey-by form f (in_cases form) refl r

-- a member: what is left is refusal 4
fits_all : (form : ℕ) (m : Member) → length m.cases ≡ 4 → ((c : ℕ) → c < 4 → case_fits form m c ≡ true) → member_fault form m ≡ sides_fault m.short m.long
unfolding member_fault
fits_all form m e h = rw (eq-eqb (length m.cases) 4 e, every_of (case_fits form m) 4 h)

pub member-good : (form : ℕ) (f : ℕ → ℕ) → in_cases form ≡ false → InRanges M f → member_fault form (old_member f) ≡ sides_fault (f 2) (f 1)
member-good form f e r = fits_all form m refl fits
  where
    m : Member
    m = old_member f

    fits : (c : ℕ) → c < 4 → case_fits form (old_member f) c ≡ true
    fits zero h = rw e (ranged M f r)
    fits (suc zero) h = rw e blank_none
    fits (suc (suc zero)) h = rw e blank_none
    fits (suc (suc (suc zero))) h = rw e blank_none
    fits (suc (suc (suc (suc c)))) h = let z : ⊥ = omega arith in absurd z

-- in the form of four cases: g c tells the numbers of the D line of case c
pub member-cases-good : (form : ℕ) (f : ℕ → ℕ) (g : ℕ → ℕ → ℕ) → in_cases form ≡ true → InRanges M4 f → ((c : ℕ) → c < 4 → InRanges D (g c)) → member_fault form (member_by f (f 18) (case_by (g 0) 1 ∷ case_by (g 1) 1 ∷ case_by (g 2) 1 ∷ case_by (g 3) 1 ∷ [])) ≡ sides_fault (f 2) (f 1)
member-cases-good form f g e r q = fits_all form m refl fits
  where
    m : Member
    m = member_by f (f 18) (case_by (g 0) 1 ∷ case_by (g 1) 1 ∷ case_by (g 2) 1 ∷ case_by (g 3) 1 ∷ [])

    line : (c : ℕ) → c < 4 → Ranged M (member_case_values (with_case m (case_by (g c) 1)))
    line c h = lines_join m (case_by (g c) 1) (g c 0) (ranged M4 f r) (ranged D (g c) (q c h))

    fits : (c : ℕ) → c < 4 → case_fits form m c ≡ true
    fits zero h = rw e (line 0 h)
    fits (suc zero) h = rw e (line 1 h)
    fits (suc (suc zero)) h = rw e (line 2 h)
    fits (suc (suc (suc zero))) h = rw e (line 3 h)
    fits (suc (suc (suc (suc c)))) h = let z : ⊥ = omega arith in absurd z

-- ---- the check of a member by the fields that are the same in each case, and by each case's own
abbrev pub own_fits : ℕ → Member → ℕ → Bool
own_fits form m c = pick (ltb c (case_count form)) (line_in_range D (1 ∷ case_values (case_of c m))) (is_blank (case_of c m))

not-true : (t : Bool) → (t ≡ true → ⊥) → t ≡ false
not-true true f = absurd (f refl)
not-true false f = refl

module _ (form : ℕ) (m : Member) where
  fits-alone : (c : ℕ) → Ranged M4 (member_values m) → case_fits form m c ≡ own_fits form m c
  fits-alone c r =
      let e : line_in_range M (member_case_values (in_case c m)) ≡ line_in_range D (1 ∷ case_values (case_of c m)) = both_ways _ _ (case-line m (case_of c m) 1 (omega arith) (omega arith)) (lines_join m (case_of c m) 1 r) in
      ap (λ b. pick (ltb c (case_count form)) b (is_blank (case_of c m))) e

  shared-unfit : line_in_range M4 (member_values m) ≡ false → every_below (case_fits form m) 4 ≡ false
  shared-unfit e =
      let n : line_in_range M (member_case_values (in_case 0 m)) ≡ false = not-true _ (λ r. false_true (sym e ∙ member-line m (case_of 0 m) r)) in
      let f : case_fits form m 0 ≡ false = rw (lt-ltb 0 (case_count form) (cases-least form)) n in
      every-fails (case_fits form m) 4 0 (omega arith) f
    where
      false_true : ◌≡◌ {A = Bool} false true → ⊥
      false_true h = let z : ◌≡◌ {A = ℕ} 0 1 = cc in absurd (omega arith)

  -- both together, by what each comes to
  pub fits-both : length m.cases ≡ 4 → (s t : Bool) → s ≡ every_below (own_fits form m) 4 → t ≡ line_in_range M4 (member_values m) → (s && t) ≡ (eqb (length m.cases) 4 && every_below (case_fits form m) 4)
  fits-both four s true e f = rw (eq-eqb (length m.cases) 4 four, every-same (case_fits form m) (own_fits form m) 4 (λ c h. fits-alone c (sym f))) (and-true s ∙ e)
  fits-both four s false e f = and-false s ∙ sym (rw (eq-eqb (length m.cases) 4 four) (shared-unfit (sym f)))
