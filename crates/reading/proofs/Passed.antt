-- An accepted file's records pass the checks of the calls on records.
use Prim.Native.Nat.{ℕ, zero, suc, ◌+◌, ◌≤◌, ◌<◌}
use native.Mathlib.Omega.{arith}
use native.Mathlib.Nat.{not-suc-le-zero, eq-or-lt_of_le, le_of_suc-le-suc}
use mathlib.Core.Bool.{Bool, true, false}
use mathlib.Core.List.{List, [], ◌∷◌, ◌++◌}
use mathlib.Core.Logic.{⊎_elim}
use mathlib.Core.Path.{◌≡◌, refl, ap, sym, ◌∙◌}
use lib.Dec.{eqb}
use lib.ListN.{length, take, drop, get_or, length-drop, get_or-append}
use lib.Seq.{take_all, take-append-le, drop-append-le, drop-append-add}
use borrow.Author.Tests.{eqb-true, eq-eqb}
use Rattle.records.specs.Blank.{no_storey, no_member}
use Rattle.records.specs.Notation.{pick, first, total, listed}
use Rattle.records.specs.Records.{Survey, storey_fault, member_fault, repeated}
use Rattle.checks.specs.Rows.{storey_in, member_in, members_of, count_fault, counts_fault, row_fault, member_rows_fault, storey_rows_fault, records_fault}
use Rattle.checks.specs.Rows as Rows
use Rattle.records.specs.declared.Storey.{Storey}
use Rattle.records.specs.declared.Member.{Member}
use Rattle.records.proofs.Firsts.{first-zero}
use Rattle.checks.proofs.Refusals.{end, also, one, rest, in-order-none}
use Rattle.format.specs.Lines.{header_at}
use Rattle.reading.specs.Survey.{form_of, members_before, storey, member, lines_fault, survey_fault, first_members, survey_in, accepted, refused, survey}
use Rattle.reading.specs.Passed.{AcceptedPass}
use Rattle.reading.proofs.Lines.{storey-good, member-good}
use Rattle.reading.proofs.Accepted.{header-checks, storey-checks, member-checks, header-line, lines_clear, storey-line, member-line, member-clean}
use Rattle.reading.proofs.Numbers.{form-is, length-listed, length-members}
use Rattle.reading.proofs.Filling.{before-suc, before-rises}
use Rattle.reading.proofs.Storeys.{any_same}

-- ---- lists by their elements
at-end : {A : Type 0} (xs : List A) (x d : A) → get_or (xs ++ (x ∷ [])) (length xs) d ≡ x
at-end [] x d = refl
at-end (y ∷ xs) x d = at-end xs x d

listed_at : {A : Type 0} (f : ℕ → A) (d : A) (n j : ℕ) → j < n → get_or (listed f n) j d ≡ f j
unfolding listed
listed_at f d zero j h = absurd (not-suc-le-zero h)
listed_at f d (suc n) j h =
    ⊎_elim (λ (q : j ≡ n). rw q (ap (λ (k : ℕ). get_or (listed f n ++ (f n ∷ [])) k d) (sym (length-listed f n)) ∙ at-end (listed f n) (f n) d))
    (λ (l : j < n). get_or-append (listed f n) (f n ∷ []) d j (omega (arith, length-listed f n)) ∙ listed_at f d n j l) (eq-or-lt_of_le (le_of_suc-le-suc h))

-- a number is not repeated where those before it and its own are the same
pub repeated-same : (f g : ℕ → ℕ) (k : ℕ) → ((e : ℕ) → e ≤ k → f e ≡ g e) → repeated f k ≡ repeated g k
repeated-same f g k h =
    ap (λ (t : Bool). pick t 5 0)
    (any_same (λ e. eqb (f e) (f k)) (λ e. eqb (g e) (g k)) k (λ e l. rw (h e (omega arith), h k (omega arith))))

-- ---- how many members the storeys count
pub total-more : (ss : List Storey) (st : Storey) → total (λ (t : Storey). t.count) (ss ++ (st ∷ [])) ≡ total (λ (t : Storey). t.count) ss + st.count
unfolding total
total-more [] st = omega arith
total-more (x ∷ ss) st = omega (arith, total-more ss st)

pub total-all : (form : ℕ) (s : List ℕ) (i : ℕ) → total (λ (t : Storey). t.count) (listed (storey form s) i) ≡ members_before form s i
unfolding listed members_before total
total-all form s zero = refl
total-all form s (suc i) = total-more (listed (storey form s) i) (storey form s i) ∙ rw (total-all form s i)

-- ---- the members of a storey among all
part : (form : ℕ) (s : List ℕ) (n i : ℕ) → i < n → take (storey form s i).count (drop (members_before form s i) (first_members form s n)) ≡ listed (member form s i) (storey form s i).count
unfolding first_members
part form s zero i h = absurd (not-suc-le-zero h)
part form s (suc n) i h =
    let xs = first_members form s n in
    let ys = listed (member form s n) (storey form s n).count in
    let l = length-members form s n in
    ⊎_elim
    (λ (q : i ≡ n).
    let z : members_before form s n ≡ length xs + 0 = omega (arith, l) in
    let d : drop (members_before form s n) (xs ++ ys) ≡ ys = ap (λ (k : ℕ). drop k (xs ++ ys)) z ∙ drop-append-add xs ys 0 in
    rw (q, d) (take_all (storey form s n).count ys (omega (arith, length-listed (member form s n) (storey form s n).count))))
    (λ (g : i < n).
    let r = before-rises form s (i + 1) n (omega arith) in
    let k : members_before form s i + (storey form s i).count ≤ length xs = omega (arith, before-suc form s i, l, r) in
    rw (drop-append-le (members_before form s i) xs ys (omega arith), take-append-le (storey form s i).count (drop (members_before form s i) xs) ys (omega (arith, length-drop (members_before form s i) xs)))
    (part form s n i g)) (eq-or-lt_of_le (le_of_suc-le-suc h))

-- ---- the lines after the B line of a file with n storeys, without a refusal
module _ (form : ℕ) (s : List ℕ) (srows mrows n : ℕ) (z : (lines_fault form s srows mrows n).number ≡ 0) where
  abbrev ss : List Storey
  ss = listed (storey form s) n

  abbrev ms : List Member
  ms = first_members form s n

  storey-at : (i : ℕ) → i < n → storey_in ss i ≡ storey form s i
  storey-at i h = listed_at (storey form s) no_storey n i h

  before_same : (i : ℕ) → i ≤ n → Rows.members_before ss i ≡ members_before form s i
  unfolding Rows.members_before members_before
  before_same zero h = refl
  before_same (suc i) h = rw (before_same i (omega arith), storey-at i h)

  part-is : (i : ℕ) → i < n → members_of ss ms i ≡ listed (member form s i) (storey form s i).count
  unfolding members_of
  part-is i h = rw (storey-at i h, before_same i (omega arith)) (part form s n i h)

  row-none : (i : ℕ) → i < n → (j : ℕ) → j < (storey form s i).count → row_fault form (listed (member form s i) (storey form s i).count) j ≡ 0
  unfolding row_fault
  row-none i h j l =
      let c = member-checks form s mrows i j (member-line form s srows mrows n z i h j l) in
      let xs = listed (member form s i) (storey form s i).count in
      let same : (e : ℕ) → e ≤ j → (member_in xs e).number ≡ (member form s i e).number = λ e g. ap (λ (m : Member). m.number) (listed_at (member form s i) no_member (storey form s i).count e (omega arith)) in
      let good : member_fault form (member form s i j) ≡ 0 = member-good form s _ (member-clean form s srows mrows n z i h j l) (one (rest (rest (rest c)))) in
      let own : member_fault form (member_in xs j) ≡ 0 = ap (member_fault form) (listed_at (member form s i) no_member (storey form s i).count j l) ∙ good in
      in-order-none (also own (also (repeated-same (λ e. (member_in xs e).number) (λ e. (member form s i e).number) j same ∙ one (rest (rest (rest (rest c))))) end))

  members-none : (i : ℕ) → i < n → member_rows_fault form (listed (member form s i) (storey form s i).count) ≡ 0
  unfolding member_rows_fault
  members-none i h =
      first-zero 0 (λ r. r) (row_fault form (listed (member form s i) (storey form s i).count)) (length (listed (member form s i) (storey form s i).count)) refl
      (λ j l. row-none i h j (omega (arith, length-listed (member form s i) (storey form s i).count)))

  storey-none : (i : ℕ) → i < n → storey_rows_fault form ss ms i ≡ 0
  unfolding storey_rows_fault
  storey-none i h =
      let c = storey-checks form s srows i (storey-line form s srows mrows n z i h) in
      let same : (e : ℕ) → e ≤ i → (storey_in ss e).number ≡ (storey form s e).number = λ e g. ap (λ (t : Storey). t.number) (storey-at e (omega arith)) in
      let own : storey_fault form (storey_in ss i) ≡ 0 = ap (storey_fault form) (storey-at i h) ∙ storey-good form s _ (one (rest (rest c))) in
      in-order-none
      (also own (also (repeated-same (λ e. (storey_in ss e).number) (λ e. (storey form s e).number) i same ∙ one (rest (rest (rest c))))
      (also (ap (member_rows_fault form) (part-is i h) ∙ members-none i h) end)))

  rows_none : first 0 (λ r. r) (storey_rows_fault form ss ms) (length ss) ≡ 0
  rows_none = first-zero 0 (λ r. r) (storey_rows_fault form ss ms) (length ss) refl (λ i l. storey-none i (omega (arith, length-listed (storey form s) n)))

count_none : (a b : ℕ) → a ≡ b → count_fault a b ≡ 0
count_none a b e = rw (eq-eqb a b e)

counts-none : (form : ℕ) (s : List ℕ) (n : ℕ) → (header_at form s 0).count ≡ n → counts_fault (survey_in form s n) ≡ 0
unfolding counts_fault
counts-none form s n e =
    let ss = listed (storey form s) n in
    in-order-none
    (also (count_none (header_at form s 0).count (length ss) (e ∙ sym (length-listed (storey form s) n)))
    (also (count_none (total (λ t. t.count) ss) (length (first_members form s n)) (total-all form s n ∙ sym (length-members form s n))) end))

-- ---- a file without a refusal
module _ (s : List ℕ) (srows mrows : ℕ) (z : (survey_fault s srows mrows).number ≡ 0) where
  abbrev form : ℕ
  form = form_of s

  abbrev n : ℕ
  n = (header_at (form_of s) s 0).count

  records-pass : records_fault (survey_in form s n) ≡ 0
  unfolding records_fault
  records-pass =
      let a = survey_in form s n in
      let rows : first 0 (λ r. r) (storey_rows_fault a.header.form a.storeys a.members) (length a.storeys) ≡ 0 = rw (form-is form s 0) (rows_none form s srows mrows n (lines_clear s srows mrows z)) in
      in-order-none (also (counts-none form s n refl) (also (one (rest (rest (header-checks s (header-line s srows mrows z))))) (also rows end)))

-- ---- an accepted file has no refusal, and its records are those that stand in its lines
pub of-accepted : (t : Bool) (a b : Survey) (r l : ℕ) → pick t (accepted a) (refused r l) ≡ accepted b → (t ≡ true) × (a ≡ b)
of-accepted true a b r l e = (refl, cc)
of-accepted false a b r l e = let z : ◌≡◌ {A = ℕ} 0 1 = cc in absurd (omega arith)

pub accepted-pass : AcceptedPass
unfolding survey
accepted-pass s srows mrows b e =
    let q = of-accepted (eqb (survey_fault s srows mrows).number 0) _ b _ _ e in
    rw q.1 at (records-pass s srows mrows (eqb-true _ 0 q.0))
