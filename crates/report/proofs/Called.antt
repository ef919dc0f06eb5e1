-- The report call: its refusals in their order, the sheet's length, and the buffer afterwards.
use Prim.Native.Nat.{ℕ, zero, suc, ◌+◌, ◌*◌, ◌≤◌, ◌<◌}
use native.Mathlib.Omega.{arith}
use mathlib.Core.Bool.{Bool, false, ◌||◌}
use mathlib.Core.List.{List, [], ◌∷◌, ◌++◌}
use mathlib.Core.Path.{◌≡◌, refl, sym}
use lib.Dec.{leb, eqb}
use lib.ListN.{length, drop, length-append}
use borrow.Author.Tests.{ne_eqb, le-leb, lt-leb, leb-true}
use Rattle.std.specs.Prelude.{Ok, Err}
use Rattle.records.specs.Refusals.{refusal_number}
use Rattle.records.specs.declared.refusal.Refusal.{Refusal}
use Rattle.records.specs.Records.{Survey, case_count, survey_of}
use Rattle.records.specs.declared.Header.{Header}
use Rattle.records.specs.declared.Storey.{Storey}
use Rattle.records.specs.declared.Member.{Member}
use Rattle.records.proofs.Validity.{clear}
use Rattle.records.proofs.Refusals.{number-positive, refused-first}
use Rattle.storeys.specs.Storey.{published_rules}
use Rattle.storeys.specs.Building.{some_risky, tilted, building_risky}
use Rattle.checks.specs.Rows.{storey_in, members_before, members_of, records_fault}
use Rattle.checks.proofs.Refusals.{one, rest, in-order-clear}
use Rattle.checks.proofs.RowLaws.{members-counted, total-counted, before-end, storeys-most, members-most}
use Rattle.checks.specs.RowChecks.{records_of}
use Rattle.checks.specs.declared.Survey.{Survey as Handed}
use Rattle.report.specs.Sheet.{storey_lines, storeys_lines, building_line, sheet, length_fault, report_fault, report_answer, buffer_after}
use Rattle.report.specs.Printing.{sheet_storeys, case_size, sheet_size}
use Rattle.report.proofs.Rows.{length-building-line, length-cases-lines}

-- ---- the sheet's length: in each case member_line_size bytes for each member, storey_line_size for each storey; building_line_size for the building
module _ (h : Header) (ss : List Storey) (ms : List Member) (none : records_fault (survey_of h ss ms) ≡ 0) where
  part_length : (i : ℕ) → length (members_of ss ms i) ≡ (storey_in ss i).count
  part_length i = sym (members-counted ss ms i (total-counted h ss ms none))

  length-storeys : (k i n : ℕ) → length (storeys_lines h.form k ss ms i n) + case_count h.form * case_size h.form 0 (members_before ss i) ≡ case_count h.form * case_size h.form n (members_before ss (i + n))
  unfolding storeys_lines members_before
  length-storeys k i zero = let e : i + 0 ≡ i = omega arith in rw e (omega arith)
  length-storeys k i (suc n) =
      let e : i + suc n ≡ suc i + n = omega arith in
      let s = storey_in ss i in
      let part = members_of ss ms i in
      rw e
      (omega (
        arith,
        length-append (storey_lines h.form k s part) (storeys_lines h.form k ss ms (suc i) n),
        rw (part_length i) at (length-cases-lines h.form k s part 0 (case_count h.form)),
        length-storeys k (suc i) n,
      ))

  length-printed : length (storeys_lines h.form h.knowledge ss ms 0 (length ss)) ≡ case_count h.form * case_size h.form (length ss) (length ms)
  unfolding members_before
  length-printed =
      let e : 0 + length ss ≡ length ss = omega arith in
      omega (arith, (rw (e, before-end h ss ms none) at (length-storeys h.knowledge 0 (length ss))))

  pub length-sheet : length (sheet (survey_of h ss ms)) ≡ sheet_size h.form (length ss) (length ms)
  unfolding sheet
  length-sheet =
      let b = building_line (tilted h) (building_risky published_rules (survey_of h ss ms)) in
      omega (arith, length-append (storeys_lines h.form h.knowledge ss ms 0 (length ss)) b, length-printed, length-building-line (tilted h) (building_risky published_rules (survey_of h ss ms)))

pub few_rows : (s : Handed) → records_fault (records_of s) ≡ 0 → (length s.storeys.now ≤ 10) × (length s.members.now ≤ 2_000)
few_rows s none = (storeys-most s.header s.storeys.now s.members.now none, members-most s.header s.storeys.now s.members.now none)

pub size_is : (s : Handed) → records_fault (records_of s) ≡ 0 → length (sheet (records_of s)) ≡ sheet_size s.header.form (length s.storeys.now) (length s.members.now)
size_is s none = length-sheet s.header s.storeys.now s.members.now none

-- the storeys' lines, then the building's
pub sheet-parts : (a : Survey) (risky : Bool) → risky ≡ some_risky published_rules a → sheet a ≡ sheet_storeys a ++ building_line (tilted a.header) (risky || tilted a.header)
unfolding sheet building_risky
sheet-parts a risky e = rw e refl

-- ---- a refusal
module _ (a : Survey) (r : Refusal) where
  pub records-refused : (room : ℕ) → refusal_number r ≡ records_fault a → refusal_number r ≡ report_fault a room
  unfolding report_fault
  records-refused room e = refused-first r (records_fault a) (length_fault (length (sheet a)) room ∷ []) e

  pub answer-refused : (room : ℕ) → refusal_number r ≡ report_fault a room → Err (refusal_number r) ≡ report_answer a room
  unfolding report_answer
  answer-refused room e =
      let n : eqb (refusal_number r) 0 ≡ false = ne_eqb (refusal_number r) 0 (λ z. let w : ⊥ = omega (arith, number-positive r) in absurd w) in
      rw (← e, n) refl

  pub buffer-refused : (before : List ℕ) → refusal_number r ≡ report_fault a (length before) → before ≡ buffer_after a before
  unfolding buffer_after
  buffer-refused before e =
      let n : eqb (refusal_number r) 0 ≡ false = ne_eqb (refusal_number r) 0 (λ z. let w : ⊥ = omega (arith, number-positive r) in absurd w) in
      rw (← e, n) refl

-- ---- where the records are not refused
module _ (a : Survey) (room : ℕ) (none : 0 ≡ records_fault a) where
  pub too-long : room < length (sheet a) → 9 ≡ report_fault a room
  unfolding report_fault
  too-long h = rw (← none, lt-leb (length (sheet a)) room h) refl

  pub no-fault : length (sheet a) ≤ room → report_fault a room ≡ 0
  unfolding report_fault
  no-fault h = rw (← none, le-leb (length (sheet a)) room h) refl

-- ---- the sheet
module _ (a : Survey) where
  pub sheet-fits : (room : ℕ) → report_fault a room ≡ 0 → length (sheet a) ≤ room
  unfolding report_fault
  sheet-fits room e = leb-true (length (sheet a)) room (clear (leb (length (sheet a)) room) 0 9 (one (rest (in-order-clear (records_fault a ∷ length_fault (length (sheet a)) room ∷ []) e))) (omega arith)).0

  pub answer-written : (room n : ℕ) → report_fault a room ≡ 0 → n ≡ length (sheet a) → Ok n ≡ report_answer a room
  unfolding report_answer
  answer-written room n e q = rw (e, q) refl

  pub buffer-written : (before : List ℕ) → report_fault a (length before) ≡ 0 → sheet a ++ drop (length (sheet a)) before ≡ buffer_after a before
  unfolding buffer_after
  buffer-written before e = rw e refl
