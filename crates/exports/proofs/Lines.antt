-- The number of a file's refusal and its line are small: before the line stand storeys and members that were counted by good lines.
use Prim.Native.Nat.{ℕ, zero, suc, ◌+◌, ◌*◌, ◌≤◌, ◌<◌}
use native.Mathlib.Omega.{arith}
use mathlib.Core.Bool.{Bool, true, false}
use mathlib.Core.List.{List}
use mathlib.Core.Path.{◌≡◌, refl}
use lib.Dec.{ltb, eqb}
use lib.ListN.{length}
use borrow.Author.Tests.{eqb-true}
use Rattle.records.specs.Notation.{pick, first}
use Rattle.format.specs.Lines.{header_at, case_start, case_lines}
use Rattle.reading.specs.Survey.{Fault, form_of, line_start, line_number, members_before, storey, member_start, header_line_fault, storey_line_fault, member_line_fault, case_line_fault, no_fault, at-line, first_fault, cases_fault, member_lines_fault, members_fault, storeys_fault, trailing, lines_fault, survey_fault, survey}
use Rattle.reading.specs.Answer.{told}
use Rattle.records.proofs.Firsts.{step_clear}
use Rattle.records.proofs.Validity.{count_most}
use Rattle.checks.proofs.Refusals.{one, rest}
use Rattle.reading.proofs.Places.{case-lines-most, number_small}
use Rattle.reading.proofs.Lines.{storey-good}
use Rattle.reading.proofs.Turns.{line_clear}
use Rattle.reading.proofs.Accepted.{storey-checks, storey-held}
use Rattle.reading.proofs.Numbers.{ten-storeys}
use Rattle.reading.proofs.Numbered as Numbered
use Rattle.exports.specs.Calls.{reading_returned}

either : (t : Bool) (f g : Fault) (n : ℕ) → (t ≡ true → f.line ≤ n) → g.line ≤ n → (pick t f g).line ≤ n
either true f g n h k = h refl
either false f g n h k = k

at_most : (line r : ℕ) → (at-line line r).line ≤ line
at_most line r = either (eqb r 0) no_fault (record { number = r; line = line }) line (λ e. omega arith) (omega arith)

first-most : (f : ℕ → Fault) (n k : ℕ) → ((j : ℕ) → j < k → (f j).line ≤ n) → (first_fault f k).line ≤ n
unfolding first
first-most f n zero h = omega arith
first-most f n (suc k) h = either (eqb (first_fault f k).number 0) (f k) (first_fault f k) n (λ e. h k (omega arith)) (first-most f n k (λ j l. h j (omega arith)))

-- the D lines of an M line
cases-most : (form : ℕ) (s : List ℕ) (at line : ℕ) → (cases_fault form s at line).line ≤ line + 4
unfolding cases_fault
cases-most form s at line =
    first-most (λ c. at-line (line + 1 + c) (case_line_fault s (case_start at c) c)) (line + 4) (case_lines form)
    (λ c l. omega (arith, at_most (line + 1 + c) (case_line_fault s (case_start at c) c), case-lines-most form))

-- the lines of storey i
module _ (form : ℕ) (s : List ℕ) (srows mrows i : ℕ) (few : i ≤ 10) (fewer : members_before form s i ≤ 2_000) where
  storey-most : storey_line_fault form s srows i ≡ 0 → (storey form s i).count ≤ 200
  storey-most e = count_most form (storey form s i) (storey-good form s _ (one (rest (rest (storey-checks form s srows i e)))))

  member-most : (j : ℕ) → j < 200 → (member_lines_fault form s mrows i j).line ≤ 20_004
  unfolding member_lines_fault
  member-most j l =
      let line = line_number form (i + 1) (members_before form s i + j) in
      let small = number_small form (i + 1) (members_before form s i + j) (omega arith) (omega arith) in
      let own = at-line line (member_line_fault form s mrows i j) in
      either (eqb own.number 0) (cases_fault form s (member_start form s i j) line) own 20_004
      (λ e. omega (arith, cases-most form s (member_start form s i j) line))
      (omega (arith, at_most line (member_line_fault form s mrows i j)))

  members-most : (storey form s i).count ≤ 200 → (members_fault form s mrows i).line ≤ 20_004
  unfolding members_fault
  members-most h = first-most (member_lines_fault form s mrows i) 20_004 (storey form s i).count (λ j l. member-most j (omega arith))

  storeys-most : (storeys_fault form s srows mrows i).line ≤ 20_004
  unfolding storeys_fault
  storeys-most =
      let line = line_number form i (members_before form s i) in
      let small = number_small form i (members_before form s i) (omega arith) (omega arith) in
      let own = at-line line (storey_line_fault form s srows i) in
      either (eqb own.number 0) (members_fault form s mrows i) own 20_004
      (λ e. members-most (storey-most (line_clear line (storey_line_fault form s srows i) (eqb-true own.number 0 e))))
      (omega (arith, at_most line (storey_line_fault form s srows i)))

module _ (form : ℕ) (s : List ℕ) (srows mrows : ℕ) where
  before-most : (n : ℕ) → (first_fault (storeys_fault form s srows mrows) n).number ≡ 0 → members_before form s n ≤ 200 * n
  unfolding first members_before
  before-most zero e = omega arith
  before-most (suc n) e =
      let f = first_fault (storeys_fault form s srows mrows) n in
      let c = step_clear (λ (f : Fault). f.number) (eqb f.number 0) (storeys_fault form s srows mrows n) f refl e in
      omega (arith, before-most n c.1, (storey-held form s srows mrows n c.0).2)

  all_most : (n : ℕ) → n ≤ 10 → (first_fault (storeys_fault form s srows mrows) n).line ≤ 20_004
  unfolding first
  all_most zero h = omega arith
  all_most (suc n) h =
      let f = first_fault (storeys_fault form s srows mrows) n in
      either (eqb f.number 0) (storeys_fault form s srows mrows n) f 20_004
      (λ e. storeys-most form s srows mrows n (omega arith) (omega (arith, before-most n (eqb-true f.number 0 e))))
      (all_most n (omega arith))

  trailing-most : (n : ℕ) → n ≤ 10 → members_before form s n ≤ 2_000 → (trailing form s n).line ≤ 20_004
  trailing-most n h g =
      let small = number_small form n (members_before form s n) (omega arith) (omega arith) in
      either (ltb (line_start form n (members_before form s n)) (length s)) (record { number = 6; line = line_number form n (members_before form s n) }) no_fault 20_004
      (λ e. omega arith) (omega arith)

  lines-most : (n : ℕ) → n ≤ 10 → (lines_fault form s srows mrows n).line ≤ 20_004
  lines-most n h =
      let f = first_fault (storeys_fault form s srows mrows) n in
      either (eqb f.number 0) (trailing form s n) f 20_004
      (λ e. trailing-most n h (omega (arith, before-most n (eqb-true f.number 0 e)))) (all_most n h)

module _ (s : List ℕ) (srows mrows : ℕ) where
  fault-most : (survey_fault s srows mrows).line ≤ 20_004
  unfolding survey_fault
  fault-most =
      let n = (header_at (form_of s) s 0).count in
      let own = at-line 1 (header_line_fault s) in
      either (eqb own.number 0) (lines_fault (form_of s) s srows mrows n) own 20_004
      (λ e. lines-most (form_of s) s srows mrows n (ten-storeys s (line_clear 1 (header_line_fault s) (eqb-true own.number 0 e))))
      (omega (arith, at_most 1 (header_line_fault s)))

  refusal-by : (t : Bool) → eqb (survey_fault s srows mrows).number 0 ≡ t → (reading_returned (told (survey s srows mrows))).refusal ≤ 12
  unfolding survey
  refusal-by true e = rw e (omega arith)
  refusal-by false e = rw e (omega (arith, Numbered.fault-most s srows mrows))

  pub refusal-most : (reading_returned (told (survey s srows mrows))).refusal ≤ 12
  refusal-most = refusal-by (eqb (survey_fault s srows mrows).number 0) refl

  told-most : (t : Bool) → eqb (survey_fault s srows mrows).number 0 ≡ t → (reading_returned (told (survey s srows mrows))).line ≤ 65_536
  unfolding survey
  told-most true e = rw e (omega arith)
  told-most false e = rw e (omega (arith, fault-most))

  pub line-most : (reading_returned (told (survey s srows mrows))).line ≤ 65_536
  line-most = told-most (eqb (survey_fault s srows mrows).number 0) refl
