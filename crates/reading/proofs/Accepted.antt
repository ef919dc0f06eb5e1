-- What an accepted file has: lines within the file, small counts, a row for each record; and the rows after it was read.
use Prim.Native.Nat.{ℕ, zero, suc, ◌+◌, ◌≤◌, ◌<◌}
use native.Mathlib.Omega.{arith}
use native.Mathlib.Numerals.{add-one}
use mathlib.Core.Bool.{Bool, true, false}
use mathlib.Core.List.{List, [], ◌∷◌, ◌++◌}
use mathlib.Core.Path.{◌≡◌, refl, ap, sym, ◌∙◌}
use lib.Dec.{ltb, eqb}
use lib.ListN.{length, drop, length-append, length-drop}
use lib.Seq.{take_at, drop-drop, drop-append-add}
use borrow.Author.Tests.{eqb-true, ltb-true, ltb-false}
use Rattle.records.specs.Notation.{pick, listed}
use Rattle.records.specs.Records.{storey_kind, member_kind, header_fault, sides_fault, repeated}
use Rattle.format.specs.Lines.{line_size, shaped, value_at, fields_fault, header_at, case_start, case_lines}
use Rattle.reading.specs.Survey.{form_of, line_start, line_number, members_before, storey, member_start, member, shape, unheld, header_line_fault, storey_line_fault, member_line_fault, case_number_fault, case_line_fault, no_fault, at-line, first_fault, cases_fault, member_lines_fault, members_fault, storeys_fault, trailing, lines_fault, survey_fault, first_members, survey}
use Rattle.reading.specs.Filling.{filled_members}
use Rattle.reading.specs.Checks.{Sound, MemberSound, Fits}
use Rattle.reading.specs.Answer.{filled, refusal, told, form_told, storeys_told, storeys_after_call, members_after_call}
use Rattle.records.specs.declared.Header.{Header}
use Rattle.records.specs.declared.Storey.{Storey}
use Rattle.records.specs.declared.Member.{Member}
use Rattle.records.specs.declared.Kind.{Kind}
use Rattle.records.specs.declared.Kind.TheVariants.{B, D}
use Rattle.records.proofs.Firsts.{first-clear}
use Rattle.records.proofs.Validity.{clear, count_most}
use Rattle.checks.proofs.Refusals.{None, in-order-clear, one, rest}
use Rattle.format.proofs.LineText.{Clean, MemberClean, clean-fits}
use Rattle.reading.proofs.Lines.{storey-good}
use Rattle.reading.proofs.Turns.{line_clear, else-clear}
use Rattle.reading.proofs.Placed.{placed-listed}
use Rattle.reading.proofs.Filling.{before-suc}
use Rattle.reading.proofs.Numbers.{form-is, length-listed, length-members, ten-storeys}

-- ---- a line without a refusal
is-clean : (kind : Kind) (s : List ℕ) (at : ℕ) → shape kind s at ≡ 0 → fields_fault kind s at ≡ 0 → Clean kind s at
is-clean kind s at a b = record { form = (clear (shaped kind (drop at s)) 0 1 a (omega arith)).0; written = b }

has-row : (k rows : ℕ) → unheld k rows ≡ 0 → k < rows
has-row k rows e = ltb-true k rows (clear (ltb k rows) 0 8 e (omega arith)).0

module _ (form : ℕ) (s : List ℕ) (rows i : ℕ) where
  pub storey-checks : storey_line_fault form s rows i ≡ 0 → None (shape (storey_kind form) s (line_start form i (members_before form s i)) ∷ unheld i rows ∷ fields_fault (storey_kind form) s (line_start form i (members_before form s i)) ∷ repeated (λ e. (storey form s e).number) i ∷ [])
  unfolding storey_line_fault
  storey-checks e = in-order-clear _ e

  pub member-checks : (j : ℕ) → member_line_fault form s rows i j ≡ 0 → None (shape (member_kind form) s (member_start form s i j) ∷ unheld (members_before form s i + j) rows ∷ fields_fault (member_kind form) s (member_start form s i j) ∷ sides_fault (member form s i j).short (member form s i j).long ∷ repeated (λ e. (member form s i e).number) j ∷ [])
  unfolding member_line_fault
  member-checks j e = in-order-clear _ e

case-checks : (s : List ℕ) (at c : ℕ) → case_line_fault s at c ≡ 0 → None (shape D s at ∷ fields_fault D s at ∷ case_number_fault (value_at D s at 0) c ∷ [])
unfolding case_line_fault
case-checks s at c e = in-order-clear _ e

pub header-checks : (s : List ℕ) → header_line_fault s ≡ 0 → None (shape B s 0 ∷ fields_fault B s 0 ∷ header_fault (header_at (form_of s) s 0) ∷ [])
unfolding header_line_fault
header-checks s e = in-order-clear _ e

sound-line : {kind : Kind} {s : List ℕ} {at : ℕ} → Clean kind s at → Sound kind s at
sound-line c = record { lies = clean-fits c; written = c.written }

-- ---- a storey without a refusal
module _ (form : ℕ) (s : List ℕ) (srows mrows i : ℕ) (e : (storeys_fault form s srows mrows i).number ≡ 0) where
  both : (storey_line_fault form s srows i ≡ 0) × ((members_fault form s mrows i).number ≡ 0)
  unfolding storeys_fault
  both =
      let line = line_number form i (members_before form s i) in
      let c = else-clear (at-line line (storey_line_fault form s srows i)) (members_fault form s mrows i) e in
      (line_clear line (storey_line_fault form s srows i) c.0, c.1)

  storey-none : storey_line_fault form s srows i ≡ 0
  storey-none = both.0

  storey-is-clean : Clean (storey_kind form) s (line_start form i (members_before form s i))
  storey-is-clean = let c = storey-checks form s srows i storey-none in is-clean (storey_kind form) s _ (one c) (one (rest (rest c)))

  storey-is-sound : Sound (storey_kind form) s (line_start form i (members_before form s i))
  storey-is-sound = sound-line storey-is-clean

  pub storey-held : (line_start form i (members_before form s i) + line_size (storey_kind form) ≤ length s) × (i < srows) × ((storey form s i).count ≤ 200)
  storey-held =
      let c = storey-checks form s srows i storey-none in
      (clean-fits storey-is-clean, has-row i srows (one (rest c)), count_most form (storey form s i) (storey-good form s _ (one (rest (rest c)))))

  module _ (j : ℕ) (h : j < (storey form s i).count) where
    abbrev place : ℕ
    place = member_start form s i j

    abbrev line : ℕ
    line = line_number form (i + 1) (members_before form s i + j)

    lines_none : (member_lines_fault form s mrows i j).number ≡ 0
    unfolding members_fault
    lines_none = first-clear no_fault (λ f. f.number) (member_lines_fault form s mrows i) (storey form s i).count j both.1 h

    member-and-cases : (member_line_fault form s mrows i j ≡ 0) × ((cases_fault form s place line).number ≡ 0)
    unfolding member_lines_fault
    member-and-cases =
        let c = else-clear (at-line line (member_line_fault form s mrows i j)) (cases_fault form s place line) lines_none in
        (line_clear line (member_line_fault form s mrows i j) c.0, c.1)

    member-none : member_line_fault form s mrows i j ≡ 0
    member-none = member-and-cases.0

    case-none : (c : ℕ) → c < case_lines form → case_line_fault s (case_start place c) c ≡ 0
    unfolding cases_fault
    case-none c l =
        line_clear (line + 1 + c) (case_line_fault s (case_start place c) c)
        (first-clear no_fault (λ f. f.number) (λ c. at-line (line + 1 + c) (case_line_fault s (case_start place c) c)) (case_lines form) c member-and-cases.1 l)

    member-is-clean : MemberClean form s place
    member-is-clean =
        let k : (c : ℕ) → c < case_lines form → None (shape D s (case_start place c) ∷ fields_fault D s (case_start place c) ∷ case_number_fault (value_at D s (case_start place c) 0) c ∷ []) = λ c l. case-checks s (case_start place c) c (case-none c l) in
        let m = member-checks form s mrows i j member-none in
        record {
          line = is-clean (member_kind form) s place (one m) (one (rest (rest m)));
          cases = λ c l. is-clean D s (case_start place c) (one (k c l)) (one (rest (k c l)));
          numbered = λ c l. eqb-true (value_at D s (case_start place c) 0) (c + 1) (clear _ 0 12 (one (rest (rest (k c l)))) (omega arith)).0;
        }

    member-is-sound : MemberSound form s place
    member-is-sound = record { line = sound-line member-is-clean.line; cases = λ c l. sound-line (member-is-clean.cases c l) }

    member-held : members_before form s i + j < mrows
    member-held = has-row (members_before form s i + j) mrows (one (rest (member-checks form s mrows i j member-none)))

  last-member : (c : ℕ) → c ≡ (storey form s i).count → members_before form s i ≤ mrows → members_before form s i + c ≤ mrows
  last-member zero q h = omega arith
  last-member (suc c) q h = omega (arith, member-held c (omega arith))

  members-held : members_before form s i ≤ mrows → members_before form s (i + 1) ≤ mrows
  members-held h = rw (before-suc form s i) (last-member (storey form s i).count refl h)

-- ---- the lines after the B line of a file with n storeys, without a refusal
module _ (form : ℕ) (s : List ℕ) (srows mrows : ℕ) where
  abbrev Clear : ℕ → Type 0
  Clear n = (i : ℕ) → i < n → (storeys_fault form s srows mrows i).number ≡ 0

  fits : (n : ℕ) → n ≤ 10 → Clear n → Fits form s n
  fits n h e = record { storeys = h; counts = λ i l. (storey-held form s srows mrows i (e i l)).2; lines = λ i l. storey-is-sound form s srows mrows i (e i l); members = λ i l. member-is-sound form s srows mrows i (e i l) }

  storeys-enough : (n : ℕ) → Clear n → n ≤ srows
  storeys-enough zero e = omega arith
  storeys-enough (suc n) e = (storey-held form s srows mrows n (e n (omega arith))).1

  members-enough : (n : ℕ) → Clear n → members_before form s n ≤ mrows
  unfolding members_before
  members-enough zero e = omega arith
  members-enough (suc n) e =
      let k = members-held form s srows mrows n (e n (omega arith)) (members-enough n (λ i l. e i (omega arith))) in
      rw (add-one n) at k

no-trail : (t : Bool) (l : ℕ) → (pick t (record { number = 6; line = l }) no_fault).number ≡ 0 → t ≡ false
no-trail true l e = let z : ⊥ = omega (arith, e) in absurd z
no-trail false l e = refl

module _ (form : ℕ) (s : List ℕ) (srows mrows n : ℕ) (z : (lines_fault form s srows mrows n).number ≡ 0) where
  pub all-clear : (i : ℕ) → i < n → (storeys_fault form s srows mrows i).number ≡ 0
  all-clear i l =
      first-clear no_fault (λ f. f.number) (storeys_fault form s srows mrows) n i
      (else-clear (first_fault (storeys_fault form s srows mrows) n) (trailing form s n) z).0 l

  pub nothing-after : length s ≤ line_start form n (members_before form s n)
  nothing-after =
      ltb-false (line_start form n (members_before form s n)) (length s)
      (no-trail _ (line_number form n (members_before form s n)) (else-clear (first_fault (storeys_fault form s srows mrows) n) (trailing form s n) z).1)

  module _ (i : ℕ) (h : i < n) where
    pub storey-line : storey_line_fault form s srows i ≡ 0
    storey-line = storey-none form s srows mrows i (all-clear i h)

    pub storey-clean : Clean (storey_kind form) s (line_start form i (members_before form s i))
    storey-clean = storey-is-clean form s srows mrows i (all-clear i h)

    pub member-line : (j : ℕ) → j < (storey form s i).count → member_line_fault form s mrows i j ≡ 0
    member-line = member-none form s srows mrows i (all-clear i h)

    pub member-clean : (j : ℕ) → j < (storey form s i).count → MemberClean form s (member_start form s i j)
    member-clean = member-is-clean form s srows mrows i (all-clear i h)

-- ---- a file without a refusal: of its B line, and of the lines after it
module _ (s : List ℕ) (srows mrows : ℕ) (z : (survey_fault s srows mrows).number ≡ 0) where
  file-clear : ((at-line 1 (header_line_fault s)).number ≡ 0) × ((lines_fault (form_of s) s srows mrows (header_at (form_of s) s 0).count).number ≡ 0)
  unfolding survey_fault
  file-clear = else-clear (at-line 1 (header_line_fault s)) (lines_fault (form_of s) s srows mrows (header_at (form_of s) s 0).count) z

  pub header-line : header_line_fault s ≡ 0
  header-line = line_clear 1 (header_line_fault s) file-clear.0

  pub header-clean : Clean B s 0
  header-clean = let c = header-checks s header-line in is-clean B s 0 (one c) (one (rest c))

  pub lines_clear : (lines_fault (form_of s) s srows mrows (header_at (form_of s) s 0).count).number ≡ 0
  lines_clear = file-clear.1

  accepted-fits : Fits (form_of s) s (header_at (form_of s) s 0).count × ((header_at (form_of s) s 0).count ≤ srows) × (members_before (form_of s) s (header_at (form_of s) s 0).count ≤ mrows)
  accepted-fits =
      let n = (header_at (form_of s) s 0).count in
      let c = all-clear (form_of s) s srows mrows n lines_clear in
      (fits (form_of s) s srows mrows n (ten-storeys s header-line) c, storeys-enough (form_of s) s srows mrows n c, members-enough (form_of s) s srows mrows n c)

no-storeys : (form : ℕ) (s : List ℕ) → Fits form s 0
no-storeys form s =
    record { storeys = omega arith; counts = λ i l. let z : ⊥ = omega arith in absurd z; lines = λ i l. let z : ⊥ = omega arith in absurd z; members = λ i l. let z : ⊥ = omega arith in absurd z }

-- ---- the rows afterwards
drop_past : {A : Type 0} (xs ys : List A) (m c : ℕ) → length xs ≡ m → drop (m + c) (xs ++ ys) ≡ drop c ys
drop_past xs ys m c p = rw (← p) (drop-append-add xs ys c)

filled-listed : (form : ℕ) (s : List ℕ) (d : Member) (n : ℕ) (rows : List Member) → members_before form s n ≤ length rows → filled_members form s n rows ≡ first_members form s n ++ drop (members_before form s n) rows
unfolding filled_members first_members members_before
filled-listed form s d zero rows h = refl
filled-listed form s d (suc i) rows h =
    let m = members_before form s i in
    let c = (storey form s i).count in
    let front = first_members form s i in
    let back = drop (members_before form s i) rows in
    let p : length front ≡ m = length-members form s i in
    let q : m + c ≤ length (front ++ back) = rw (length-append front back, p, length-drop m rows) (omega arith) in
    let e : drop (m + c) (front ++ back) ≡ drop (m + c) rows = drop_past front back m c p ∙ drop-drop c m rows in
    rw (filled-listed form s d i rows (omega arith), placed-listed (member form s i) d m c (front ++ back) q, take_at front back m p, e)

-- an accepted file is read in its form
form-by : (t : Bool) (s : List ℕ) (srows mrows : ℕ) (h : Header) (n m : ℕ) → eqb (survey_fault s srows mrows).number 0 ≡ t → filled h n m ≡ told (survey s srows mrows) → form_of s ≡ form_told (told (survey s srows mrows))
unfolding survey
form-by true s srows mrows h n m e q = rw e (sym (form-is (form_of s) s 0))
form-by false s srows mrows h n m e q =
    let k : filled h n m ≡ refusal (survey_fault s srows mrows).number (survey_fault s srows mrows).line = rw e at q in
    let z : ◌≡◌ {A = ℕ} 0 1 = cc in absurd (omega arith)

told-form : (s : List ℕ) (srows mrows : ℕ) (h : Header) (n m : ℕ) → filled h n m ≡ told (survey s srows mrows) → form_of s ≡ form_told (told (survey s srows mrows))
told-form s srows mrows h n m = form-by (eqb (survey_fault s srows mrows).number 0) s srows mrows h n m refl

-- what an answer tells of the form and the storeys of a file
module _ (s : List ℕ) (srows mrows form n : ℕ) where
  abbrev Told : Type 0
  Told = (form ≡ form_told (told (survey s srows mrows))) × (n ≡ storeys_told (told (survey s srows mrows)))

  pub told-is : (h : Header) (m : ℕ) → form ≡ form_of s → filled h n m ≡ told (survey s srows mrows) → Told
  told-is h m f e = (f ∙ told-form s srows mrows h n m e, ap storeys_told e)

  of-file : eqb (survey_fault s srows mrows).number 0 ≡ true → Told → (form ≡ form_of s) × (n ≡ (header_at (form_of s) s 0).count)
  unfolding survey
  of-file e q = (q.0 ∙ rw e (form-is (form_of s) s 0), q.1 ∙ rw e (length-listed (storey (form_of s) s) (header_at (form_of s) s 0).count))

  of-refusal : eqb (survey_fault s srows mrows).number 0 ≡ false → Told → n ≡ 0
  unfolding survey
  of-refusal e q = q.1 ∙ rw e

  by-fault : (t : Bool) → eqb (survey_fault s srows mrows).number 0 ≡ t → Told → Fits form s n × (n ≤ srows) × (members_before form s n ≤ mrows)
  unfolding members_before
  by-fault true e q = let k = of-file e q in rw (k.0, k.1) (accepted-fits s srows mrows (eqb-true _ 0 e))
  by-fault false e q = rw (of-refusal e q) (no-storeys form s, omega arith, omega arith)

  -- what filling the rows asks
  pub lies : Told → Fits form s n × (n ≤ srows) × (members_before form s n ≤ mrows)
  lies = by-fault (eqb (survey_fault s srows mrows).number 0) refl

  storeys-by : (t : Bool) (rows : List Storey) → eqb (survey_fault s srows mrows).number 0 ≡ t → Told → listed (storey form s) n ++ drop n rows ≡ storeys_after_call (survey s srows mrows) rows
  unfolding survey listed
  storeys-by true rows e q = let k = of-file e q in rw (e, k.0, k.1, length-listed (storey (form_of s) s) (header_at (form_of s) s 0).count)
  storeys-by false rows e q = rw (of-refusal e q, e)

  members-by : (t : Bool) (d : Member) (rows : List Member) → eqb (survey_fault s srows mrows).number 0 ≡ t → Told → mrows ≡ length rows → filled_members form s n rows ≡ members_after_call (survey s srows mrows) rows
  unfolding survey filled_members
  members-by true d rows e q l =
      let k = of-file e q in
      let h : members_before form s n ≤ length rows = omega (arith, (lies q).2) in
      filled-listed form s d n rows h ∙ rw (e, k.0, k.1, length-members (form_of s) s (header_at (form_of s) s 0).count)
  members-by false d rows e q l = rw (of-refusal e q, e)

  -- the rows after an answer
  pub storeys-are : (rows : List Storey) → Told → listed (storey form s) n ++ drop n rows ≡ storeys_after_call (survey s srows mrows) rows
  storeys-are rows = storeys-by (eqb (survey_fault s srows mrows).number 0) rows refl

  pub members-are : (d : Member) (rows : List Member) → Told → mrows ≡ length rows → filled_members form s n rows ≡ members_after_call (survey s srows mrows) rows
  members-are d rows = members-by (eqb (survey_fault s srows mrows).number 0) d rows refl
