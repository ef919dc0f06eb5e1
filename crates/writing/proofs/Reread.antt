-- Reading what was written gives the records.
use Prim.Native.Nat.{ℕ, zero, suc, ◌+◌, ◌*◌, ◌≤◌, ◌<◌}
use native.Mathlib.Omega.{arith}
use native.Mathlib.Nat.{not-suc-le-zero, le_of_suc-le-suc, le_refl}
use mathlib.Core.List.{List, [], ◌∷◌, ◌++◌, append_assoc}
use mathlib.Core.Path.{◌≡◌, refl, ap, sym, ◌∙◌}
use lib.Dec.{leb}
use lib.ListN.{length, take, drop, get_or, length-drop}
use lib.Seq.{drop-cons, drop-drop, drop_at, take-suc, take-add, take_all, take-length, drop-length}
use borrow.Author.Tests.{leb-true, le-leb, lt-ltb, le-ltb, eq-eqb}
use Rattle.records.specs.Blank.{no_storey, no_member}
use Rattle.records.specs.Notation.{in_order, listed}
use Rattle.records.specs.Records.{in_range, storey_kind, header_values, storey_values, sides_fault, storey_fault, member_fault, repeated, survey_of}
use Rattle.records.specs.declared.Header.{Header}
use Rattle.records.specs.declared.Storey.{Storey}
use Rattle.records.specs.declared.Member.{Member}
use Rattle.records.specs.declared.Kind.{Kind}
use Rattle.records.specs.declared.Kind.TheVariants.{B}
use Rattle.records.proofs.Below.{and_left, every-at}
use Rattle.records.proofs.Firsts.{first-zero}
use Rattle.records.proofs.Validity.{header-ranged, known-form, sides}
use Rattle.checks.specs.Rows.{member_in, storey_in, members_of, records_fault}
use Rattle.checks.specs.Rows as Rows
use Rattle.checks.proofs.Refusals.{None, one, rest}
use Rattle.checks.proofs.RowLaws.{before-within, members-counted, storeys-counted, total-counted, header-good, rows, row-good, before-end}
use Rattle.format.specs.Lines.{line_size, member_size, header_at, storey_at}
use Rattle.format.specs.Text.{line_text, member_text}
use Rattle.format.proofs.LineText.{Clean, MemberClean}
use Rattle.format.proofs.Typed.{length-line, length-storey-line, length-member-text, drop_past, header-typed, storey-typed, member-typed}
use Rattle.reading.specs.Survey.{form_of, line_start, line_number, members_before, storey, member_start, member, shape, unheld, header_line_fault, storey_line_fault, member_line_fault, no_fault, first_fault, member_lines_fault, members_fault, storeys_fault, survey_fault, first_members, accepted, survey}
use Rattle.reading.proofs.Cases.{cases_none}
use Rattle.reading.proofs.Numbers.{form-found}
use Rattle.reading.proofs.Passed.{repeated-same}
use Rattle.writing.specs.File.{members_text, storey_text, storeys_text, file_text}
use Rattle.writing.proofs.Lengths.{length-members}

-- ---- lists
listed-take : {A : Type 0} (f : ℕ → A) (l : List A) (d : A) (n : ℕ) → n ≤ length l → ((i : ℕ) → i < n → f i ≡ get_or l i d) → listed f n ≡ take n l
unfolding listed
listed-take f l d zero h g = refl
listed-take f l d (suc n) h g = rw (listed-take f l d n (omega arith) (λ i k. g i (omega arith)), g n (omega arith)) (sym (take-suc l n d h))

listed-all : {A : Type 0} (f : ℕ → A) (l : List A) (d : A) (n : ℕ) → n ≡ length l → ((i : ℕ) → i < n → f i ≡ get_or l i d) → listed f n ≡ l
listed-all f l d n e g = listed-take f l d n (omega (arith, e)) g ∙ take_all n l (omega (arith, e))

drop-members : (form j : ℕ) (xs : List Member) (r : List ℕ) → j ≤ length xs → drop (member_size form * j) (members_text form xs ++ r) ≡ members_text form (drop j xs) ++ r
unfolding members_text
drop-members form zero xs r h = let p : member_size form * 0 ≡ 0 = omega arith in rw p
drop-members form (suc j) [] r h = absurd (not-suc-le-zero h)
drop-members form (suc j) (x ∷ xs) r h =
    let p : member_size form * suc j ≡ member_size form + member_size form * j = omega arith in
    rw (p, append_assoc (member_text form x) (members_text form xs) r, drop_past (member_text form x) (members_text form xs ++ r) (member_size form) (member_size form * j) (length-member-text form x))
    (drop-members form j xs r (le_of_suc-le-suc h))

-- ---- refusals that are none
four-zero : (a b c x : ℕ) → a ≡ 0 → b ≡ 0 → c ≡ 0 → x ≡ 0 → in_order (a ∷ b ∷ c ∷ x ∷ []) ≡ 0
four-zero a b c x p q r t = rw (p, q, r, t)

five-zero : (a b c x y : ℕ) → a ≡ 0 → b ≡ 0 → c ≡ 0 → x ≡ 0 → y ≡ 0 → in_order (a ∷ b ∷ c ∷ x ∷ y ∷ []) ≡ 0
five-zero a b c x y p q r t u = rw (p, q, r, t, u)

shape-none : {kind : Kind} {s : List ℕ} {at : ℕ} → Clean kind s at → shape kind s at ≡ 0
shape-none c = rw c.form

held_none : (k rows : ℕ) → k < rows → unheld k rows ≡ 0
held_none k rows l = rw (lt-ltb k rows l)

sides-none : (form : ℕ) (m : Member) → member_fault form m ≡ 0 → sides_fault m.short m.long ≡ 0
sides-none form m e = rw (le-leb m.short m.long (sides form m e))

-- ---- the lines of a written file
module _ (s : List ℕ) (h : Header) (ss : List Storey) (ms : List Member) (f : s ≡ file_text (survey_of h ss ms)) (none : records_fault (survey_of h ss ms) ≡ 0) where
  abbrev form : ℕ
  form = h.form

  header_is : Clean B s 0 × (h ≡ header_at form s 0)
  unfolding file_text
  header_is = header-typed s 0 (storeys_text form ss ms) h (header-good h ss ms none) f

  -- the members before those of storey i, its own, and the lines after them
  abbrev before : ℕ → ℕ
  before i = Rows.members_before ss i

  abbrev own : ℕ → List Member
  own i = members_of ss ms i

  abbrev later : ℕ → List ℕ
  later i = storeys_text form (drop (suc i) ss) (drop (before (suc i)) ms)

  -- S line i
  abbrev line : ℕ → List ℕ
  line i = line_text (storey_kind form) (storey_values form (storey_in ss i))

  -- from the place of S line i on stand the lines of storey i and those after it
  abbrev From : ℕ → Type 0
  From i = drop (line_start form i (before i)) s ≡ storeys_text form (drop i ss) (drop (before i) ms)

  -- there stand S line i, the lines of its members, and the lines after them
  abbrev Opens : ℕ → Type 0
  Opens i = drop (line_start form i (before i)) s ≡ line i ++ (members_text form (own i) ++ later i)

  before_more : (i : ℕ) → before (suc i) ≡ before i + (storey_in ss i).count
  unfolding Rows.members_before
  before_more i = refl

  enough : (i : ℕ) → before i + (storey_in ss i).count ≤ length ms
  enough i = omega (arith, before_more i, before-within ss (suc i), total-counted h ss ms none)

  length-own : (i : ℕ) → length (own i) ≡ (storey_in ss i).count
  length-own i = sym (members-counted ss ms i (total-counted h ss ms none))

  opens : (i : ℕ) → i < length ss → From i → Opens i
  unfolding storeys_text storey_text members_of
  opens i l q =
      let k : drop (storey_in ss i).count (drop (before i) ms) ≡ drop (before (suc i)) ms = drop-drop (storey_in ss i).count (before i) ms ∙ ap (λ (n : ℕ). drop n ms) (sym (before_more i)) in
      q ∙ rw (drop-cons ss i no_storey l, k) (append_assoc (line i) (members_text form (take (storey_in ss i).count (drop (before i) ms))) (later i))

  passes : (i : ℕ) → Opens i → From (suc i)
  passes i q =
      let k : line_start form (suc i) (before (suc i)) ≡ line_start form i (before i) + (line_size (storey_kind form) + member_size form * (storey_in ss i).count) = rw (before_more i) (omega arith) in
      rw (
        k,
        ← drop-drop (line_size (storey_kind form) + member_size form * (storey_in ss i).count) (line_start form i (before i)) s,
        q,
        drop_past (line i) (members_text form (own i) ++ later i) (line_size (storey_kind form)) (member_size form * (storey_in ss i).count) (length-storey-line form (storey_in ss i)),
      )
      (drop_at (members_text form (own i)) (later i) (member_size form * (storey_in ss i).count) (length-members form (own i) ∙ ap (λ (n : ℕ). member_size form * n) (length-own i)))

  from : (i : ℕ) → i ≤ length ss → From i
  unfolding file_text Rows.members_before
  from zero l =
      let k : line_start form 0 0 ≡ line_size B = omega arith in
      rw (k, f) (drop_at (line_text B (header_values h)) (storeys_text form ss ms) (line_size B) (length-line B (header_values h)))
  from (suc i) l = passes i (opens i l (from i (omega arith)))

  at-storey : (i : ℕ) → i < length ss → Opens i
  at-storey i l = opens i l (from i (omega arith))

  storey-good : (i : ℕ) → i < length ss → storey_fault form (storey_in ss i) ≡ 0
  storey-good i l = one (rows h ss ms none i l)

  typed-storey : (i : ℕ) → i < length ss → Clean (storey_kind form) s (line_start form i (before i)) × (storey_in ss i ≡ storey_at form s (line_start form i (before i)))
  typed-storey i l = storey-typed s (line_start form i (before i)) (members_text form (own i) ++ later i) form (storey_in ss i) (storey-good i l) (at-storey i l)

  before-is : (i : ℕ) → i ≤ length ss → members_before form s i ≡ before i
  unfolding members_before Rows.members_before
  before-is zero l = refl
  before-is (suc i) l = rw (before-is i (omega arith), ← (typed-storey i l).1)

  storey-is : (i : ℕ) → i < length ss → storey form s i ≡ storey_in ss i
  storey-is i l = rw (before-is i (omega arith)) (sym (typed-storey i l).1)

  storey-clean : (i : ℕ) → i < length ss → Clean (storey_kind form) s (line_start form i (members_before form s i))
  storey-clean i l = rw (before-is i (omega arith)) (typed-storey i l).0

  -- its form: a good header counts a storey
  some-storey : 0 < length ss
  some-storey =
      let c = every-at (in_range B (header_values h)) 6 5 (header-ranged h (header-good h ss ms none)) (omega arith) in
      omega (arith, storeys-counted h ss ms none, leb-true 1 h.count (and_left (leb 1 h.count) _ c))

  form-is : form_of s ≡ form
  unfolding Rows.members_before
  form-is =
      let k : line_start form 0 0 ≡ line_size B = omega arith in
      form-found form s (known-form h (header-good h ss ms none)) (rw k at (typed-storey 0 some-storey).0)

  -- member j of storey i
  member-good : (i : ℕ) → i < length ss → (j : ℕ) → j < (storey_in ss i).count → None (member_fault form (member_in (own i) j) ∷ repeated (λ e. (member_in (own i) e).number) j ∷ [])
  member-good i l j k = row-good form (own i) (one (rest (rest (rows h ss ms none i l)))) j (omega (arith, length-own i))

  module _ (i j : ℕ) (l : i < length ss) (k : j < (storey_in ss i).count) where
    at-member : drop (member_start form s i j) s ≡ member_text form (member_in (own i) j) ++ (members_text form (drop (suc j) (own i)) ++ later i)
    unfolding members_text
    at-member =
        let q : member_start form s i j ≡ line_start form i (before i) + (line_size (storey_kind form) + member_size form * j) = rw (before-is i (omega arith)) (omega arith) in
        let n : j < length (own i) = omega (arith, length-own i) in
        rw (
          q,
          ← drop-drop (line_size (storey_kind form) + member_size form * j) (line_start form i (before i)) s,
          at-storey i l,
          drop_past (line i) (members_text form (own i) ++ later i) (line_size (storey_kind form)) (member_size form * j) (length-storey-line form (storey_in ss i)),
          drop-members form j (own i) (later i) (omega arith),
          drop-cons (own i) j no_member n,
        )
        (append_assoc (member_text form (member_in (own i) j)) (members_text form (drop (suc j) (own i))) (later i))

    typed-member : MemberClean form s (member_start form s i j) × (member_in (own i) j ≡ member form s i j)
    typed-member = member-typed s (member_start form s i j) (members_text form (drop (suc j) (own i)) ++ later i) form (member_in (own i) j) (one (member-good i l j k)) at-member

  -- ---- no line is refused
  header-none : header_line_fault s ≡ 0
  unfolding header_line_fault
  header-none = rw (form-is, shape-none header_is.0, header_is.0.written, ← header_is.1, header-good h ss ms none)

  module _ (srows mrows : ℕ) (a : length ss ≤ srows) (b : length ms ≤ mrows) where
    storey-none : (i : ℕ) → i < length ss → storey_line_fault form s srows i ≡ 0
    unfolding storey_line_fault
    storey-none i l =
        let c = storey-clean i l in
        let same : (e : ℕ) → e ≤ i → (storey form s e).number ≡ (storey_in ss e).number = λ e m. ap (λ (t : Storey). t.number) (storey-is e (omega arith)) in
        four-zero _ _ _ _ (shape-none c) (held_none i srows (omega arith)) c.written
        (repeated-same (λ e. (storey form s e).number) (λ e. (storey_in ss e).number) i same ∙ one (rest (rows h ss ms none i l)))

    member-none : (i j : ℕ) → i < length ss → j < (storey_in ss i).count → member_line_fault form s mrows i j ≡ 0
    unfolding member_line_fault
    member-none i j l n =
        let t = typed-member i j l n in
        let c = t.0.line in
        let g : sides_fault (member form s i j).short (member form s i j).long ≡ 0 = rw (← t.1) (sides-none form (member_in (own i) j) (one (member-good i l j n))) in
        let same : (e : ℕ) → e ≤ j → (member form s i e).number ≡ (member_in (own i) e).number = λ e m. ap (λ (x : Member). x.number) (sym (typed-member i e l (omega arith)).1) in
        five-zero _ _ _ _ _ (shape-none c) (held_none (members_before form s i + j) mrows (omega (arith, enough i, before-is i (omega arith)))) c.written g
        (repeated-same (λ e. (member form s i e).number) (λ e. (member_in (own i) e).number) j same ∙ one (rest (member-good i l j n)))

    member-lines-none : (i j : ℕ) → i < length ss → j < (storey form s i).count → (member_lines_fault form s mrows i j).number ≡ 0
    unfolding member_lines_fault
    member-lines-none i j l k =
        let n : j < (storey_in ss i).count = rw (storey-is i l) at k in
        rw (member-none i j l n) (cases_none form s (member_start form s i j) (line_number form (i + 1) (members_before form s i + j)) (typed-member i j l n).0)

    storeys-none : (i : ℕ) → i < length ss → (storeys_fault form s srows mrows i).number ≡ 0
    unfolding storeys_fault members_fault
    storeys-none i l =
        rw (storey-none i l)
        (first-zero no_fault (λ f. f.number) _ (storey form s i).count refl (λ j k. member-lines-none i j l k))

    count-is : (header_at form s 0).count ≡ length ss
    count-is = rw (← header_is.1) (storeys-counted h ss ms none)

    nothing-after : length s ≤ line_start form (length ss) (members_before form s (length ss))
    unfolding storeys_text
    nothing-after =
        let q : drop (line_start form (length ss) (before (length ss))) s ≡ [] = from (length ss) (le_refl _) ∙ rw (drop-length ss) in
        rw (before-is (length ss) (le_refl _)) (omega (arith, length-drop (line_start form (length ss) (before (length ss))) s, ap length q))

    file-none : (survey_fault s srows mrows).number ≡ 0
    unfolding survey_fault
    file-none =
        let k : (first_fault (storeys_fault form s srows mrows) (length ss)).number ≡ 0 = first-zero no_fault (λ f. f.number) (storeys_fault form s srows mrows) (length ss) refl storeys-none in
        rw (header-none, form-is, count-is, le-ltb (line_start form (length ss) (members_before form s (length ss))) (length s) nothing-after, eq-eqb _ _ k)

    -- ---- what it holds
    storeys-are : listed (storey form s) (length ss) ≡ ss
    storeys-are = listed-all (storey form s) ss no_storey (length ss) refl storey-is

    members-are : (i : ℕ) → i ≤ length ss → first_members form s i ≡ take (before i) ms
    unfolding first_members Rows.members_before members_of
    members-are zero l = refl
    members-are (suc i) l =
        let k : listed (member form s i) (storey_in ss i).count ≡ own i = listed-all (member form s i) (own i) no_member (storey_in ss i).count (sym (length-own i)) (λ j k. sym (typed-member i j l k).1) in
        rw (members-are i (omega arith), storey-is i l, k) (sym (take-add (before i) (storey_in ss i).count ms))

    all-members : first_members form s (length ss) ≡ ms
    all-members = members-are (length ss) (le_refl _) ∙ rw (before-end h ss ms none) (take-length ms)

    pub read_is : survey s srows mrows ≡ accepted (survey_of h ss ms)
    unfolding survey
    read_is =
        let p : listed (storey form s) (header_at form s 0).count ≡ ss = rw count-is storeys-are in
        let q : first_members form s (header_at form s 0).count ≡ ms = rw count-is all-members in
        rw (eq-eqb _ _ file-none, form-is, p, q, ← header_is.1)
