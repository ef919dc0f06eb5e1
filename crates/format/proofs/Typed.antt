-- A written line as reading takes it: it has its shape, its fields hold its numbers, and none is refused.
use Prim.Native.Nat.{ℕ, zero, suc, ◌+◌, ◌*◌, ◌-◌, ◌/◌, ◌≤◌, ◌<◌}
use native.Mathlib.Omega.{arith}
use native.Mathlib.Nat.{not-suc-le-zero, le_of_suc-le-suc}
use mathlib.Core.Bool.{Bool, true, false, ◌&&◌, ◌||◌}
use mathlib.Core.List.{List, [], ◌∷◌, ◌++◌, append_assoc}
use mathlib.Core.Path.{◌≡◌, refl, ap, sym, ◌∙◌}
use lib.Dec.{leb, ltb, eqb}
use lib.ListN.{length, take, drop, get_or, length-append}
use lib.Seq.{drop-drop, drop_at, take_at, drop-append-add}
use borrow.Author.Tests.{leb-true, le-leb, eqb-true, eq-eqb, ne_eqb, lt-ltb}
use Rattle.std.specs.Prelude.{Option, Some, unwrap_or}
use Rattle.records.specs.Notation.{pick, every_below}
use Rattle.records.specs.Records.{Allowed, between, either, allows, never, zero_force, ranges, fields, in_range, in_cases, storey_kind, member_kind, header_values, storey_values, no_case, case_of, header_fault, storey_fault, member_fault}
use Rattle.format.specs.Spelling.{column, spelled}
use Rattle.format.specs.Lines.{tag_byte, line_size, line_end, shaped, is_force, field_at, value_at, field_fault, header_at, storey_at, case_start, case_lines, member_size, case_at, cases_at, member_at}
use Rattle.format.specs.Text.{field_text, fields_text, line_text, member_line, case_line, cases_text, member_text}
use Rattle.format.specs.Steps.{Spellable}
use Rattle.records.specs.declared.Header.{Header}
use Rattle.records.specs.declared.Storey.{Storey}
use Rattle.records.specs.declared.Member.{Member}
use Rattle.records.specs.declared.Kind.{Kind}
use Rattle.records.specs.declared.Kind.TheVariants.{B, S, M, S4, M4, D}
use Rattle.records.proofs.Below.{and_left, and_right, every-at, every_more}
use Rattle.format.proofs.LineText.{Clean, MemberClean, has-cases}
use Rattle.records.proofs.Firsts.{first-zero}
use Rattle.records.proofs.Validity.{Ranged, has-four, old-cases, header-ranged, storey-ranged}
use Rattle.records.proofs.Cases.{four}
use Rattle.records.proofs.Lines.{member-ranged, case-ranged}
use Rattle.format.proofs.Held.{header-held, storey-held, case-held, old-cases-held, member-held}
use Rattle.format.proofs.Remade.{storey-remade, member-remade}
use Rattle.records.proofs.Allowing.{three-fields}
use Rattle.format.proofs.Spelt.{read-field}

-- ---- numbers in range can be written
abbrev within : Allowed → Bool → Bool
within (between a b) false = leb b 9_999_999
within (between a b) true = leb (zero_force - 999_999) a && leb b (zero_force + 9_999_999)
within (either a b) false = leb a 9_999_999 && leb b 9_999_999
within (either a b) true = false

one_of : (s t : Bool) (v a b : ℕ) → eqb v a ≡ s → eqb v b ≡ t → (s || t) ≡ true → a ≤ 9_999_999 → b ≤ 9_999_999 → v ≤ 9_999_999
one_of true t v a b p q e h g = omega (arith, eqb-true v a p)
one_of false true v a b p q e h g = omega (arith, eqb-true v b q)
one_of false false v a b p q e h g = let z : ◌≡◌ {A = ℕ} 0 1 = cc in absurd (omega arith)

within-spells : (r : Allowed) (force : Bool) (v : ℕ) → within r force ≡ true → allows r v ≡ true → Spellable force v
within-spells (between a b) false v w e = omega (arith, leb-true b 9_999_999 w, leb-true v b (and_right (leb a v) (leb v b) e))
within-spells (between a b) true v w e =
    let p = leb-true (zero_force - 999_999) a (and_left (leb (zero_force - 999_999) a) _ w) in
    let q = leb-true b (zero_force + 9_999_999) (and_right (leb (zero_force - 999_999) a) _ w) in
    (omega (arith, leb-true a v (and_left (leb a v) (leb v b) e)), omega (arith, leb-true v b (and_right (leb a v) (leb v b) e)))
within-spells (either a b) false v w e =
    one_of (eqb v a) (eqb v b) v a b refl refl e (leb-true a 9_999_999 (and_left (leb a 9_999_999) _ w)) (leb-true b 9_999_999 (and_right (leb a 9_999_999) _ w))
within-spells (either a b) true v w e = let z : ◌≡◌ {A = ℕ} 0 1 = cc in absurd (omega arith)

all-within : (kind : Kind) (vs : List ℕ) → Ranged kind vs → every_below (λ j. within (get_or (ranges kind (get_or vs 2 0)) j never) (is_force kind j)) (fields kind) ≡ true
unfolding every_below
all-within B vs e =
    let n = get_or vs 2 0 in
    let l = leb-true n 99 (and_right (leb 1 n) (leb n 99) (every-at (in_range B vs) 6 2 e (omega arith))) in
    every_more (λ j. within (get_or (ranges B (get_or vs 2 0)) j never) (is_force B j)) 5 refl (le-leb n 9_999_999 (omega arith))
all-within S vs e = refl
all-within M vs e = refl
all-within S4 vs e = refl
all-within M4 vs e = refl
all-within D vs e = refl

spellable : (kind : Kind) (vs : List ℕ) → Ranged kind vs → (j : ℕ) → j < fields kind → Spellable (is_force kind j) (get_or vs j 0)
spellable kind vs e j h =
    within-spells (get_or (ranges kind (get_or vs 2 0)) j never) (is_force kind j) (get_or vs j 0)
    (every-at (λ j. within (get_or (ranges kind (get_or vs 2 0)) j never) (is_force kind j)) (fields kind) j (all-within kind vs e) h)
    (every-at (in_range kind vs) (fields kind) j e h)

-- ---- lengths
pub length-spelled : (w sign n : ℕ) → length (spelled w sign n) ≡ w
unfolding spelled
length-spelled zero sign n = refl
length-spelled (suc w) sign n = ap suc (length-spelled w sign n)

length-either : (t : Bool) (m n : ℕ) → length (pick t (spelled 8 32 m) (spelled 8 45 n)) ≡ 8
length-either true m n = length-spelled 8 32 m
length-either false m n = length-spelled 8 45 n

pub length-field : (force : Bool) (v : ℕ) → length (field_text force v) ≡ 8
unfolding field_text
length-field false v = length-spelled 8 32 v
length-field true v = length-either (leb zero_force v) (v - zero_force) (zero_force - v)

pub length_fields : (kind : Kind) (j : ℕ) (vs : List ℕ) → length (fields_text kind j vs) ≡ 8 * length vs
unfolding fields_text
length_fields kind j [] = refl
length_fields kind j (v ∷ vs) =
    length-append (field_text (is_force kind j) v) (fields_text kind (suc j) vs) ∙ omega (arith, length-field (is_force kind j) v, length_fields kind (suc j) vs)

pub length-line : (kind : Kind) (vs : List ℕ) → length (line_text kind vs) ≡ 2 + 8 * length vs
unfolding line_text
length-line kind vs = omega (arith, length-append (fields_text kind 0 vs) (10 ∷ []), length_fields kind 0 vs)

-- ---- the first LF is the line's own
byte-other : (t : Bool) (a b : ℕ) → (a ≡ 10 → ⊥) → (b ≡ 10 → ⊥) → pick t a b ≡ 10 → ⊥
byte-other true a b f g = f
byte-other false a b f g = g

column-other : (sign n j : ℕ) → (sign ≡ 10 → ⊥) → column sign n j ≡ 10 → ⊥
unfolding column
column-other sign n zero f e = omega (arith, e)
column-other sign n (suc j) f e = byte-other (ltb n 10) _ _ (byte-other (eqb j 0) sign 32 f (λ q. omega (arith, q))) (column-other sign (n / 10) j f) e

module _ (ys : List ℕ) where
  end-spelled : (w sign n : ℕ) → (sign ≡ 10 → ⊥) → line_end (spelled w sign n ++ ys) ≡ w + line_end ys
  unfolding spelled line_end
  end-spelled zero sign n f = omega arith
  end-spelled (suc w) sign n f = rw (ne_eqb (column sign n w) 10 (column-other sign n w f)) (omega (arith, end-spelled w sign n f))

  end-either : (t : Bool) (m n : ℕ) → line_end (pick t (spelled 8 32 m) (spelled 8 45 n) ++ ys) ≡ 8 + line_end ys
  end-either true m n = end-spelled 8 32 m (λ q. omega (arith, q))
  end-either false m n = end-spelled 8 45 n (λ q. omega (arith, q))

  end-field : (force : Bool) (v : ℕ) → line_end (field_text force v ++ ys) ≡ 8 + line_end ys
  unfolding field_text
  end-field false v = end-spelled 8 32 v (λ q. omega (arith, q))
  end-field true v = end-either (leb zero_force v) (v - zero_force) (zero_force - v)

pub end-fields : (kind : Kind) (j : ℕ) (vs ys : List ℕ) → line_end (fields_text kind j vs ++ ys) ≡ 8 * length vs + line_end ys
unfolding fields_text
end-fields kind j [] ys = omega arith
end-fields kind j (v ∷ vs) ys =
    rw (append_assoc (field_text (is_force kind j) v) (fields_text kind (suc j) vs) ys, end-field (fields_text kind (suc j) vs ++ ys) (is_force kind j) v, end-fields kind (suc j) vs ys)
    (omega arith)

pub tag-other : (kind : Kind) → eqb (tag_byte kind) 10 ≡ false
tag-other B = refl
tag-other S = refl
tag-other M = refl
tag-other S4 = refl
tag-other M4 = refl
tag-other D = refl

pub drop_past : {A : Type 0} (xs ys : List A) (m c : ℕ) → length xs ≡ m → drop (m + c) (xs ++ ys) ≡ drop c ys
drop_past xs ys m c p = rw (← p) (drop-append-add xs ys c)

fields_at : (kind : Kind) (vs rest : List ℕ) (k j : ℕ) → j < length vs → take 8 (drop (8 * j) (fields_text kind k vs ++ rest)) ≡ field_text (is_force kind (k + j)) (get_or vs j 0)
unfolding fields_text
fields_at kind [] rest k j h = absurd (not-suc-le-zero h)
fields_at kind (v ∷ vs) rest k zero h =
    let z : k + 0 ≡ k = omega arith in
    rw (append_assoc (field_text (is_force kind k) v) (fields_text kind (suc k) vs) rest, z)
    (take_at (field_text (is_force kind k) v) (fields_text kind (suc k) vs ++ rest) 8 (length-field (is_force kind k) v))
fields_at kind (v ∷ vs) rest k (suc j) h =
    let p : 8 * suc j ≡ 8 + 8 * j = omega arith in
    let q : k + suc j ≡ suc k + j = omega arith in
    rw (
      append_assoc (field_text (is_force kind k) v) (fields_text kind (suc k) vs) rest,
      p,
      q,
      drop_past (field_text (is_force kind k) v) (fields_text kind (suc k) vs ++ rest) 8 (8 * j) (length-field (is_force kind k) v),
    )
    (fields_at kind vs rest (suc k) j (le_of_suc-le-suc h))

module _ (kind : Kind) (vs rest : List ℕ) where
  end_line : line_end (line_text kind vs ++ rest) ≡ 8 * length vs + 1
  unfolding line_text line_end
  end_line =
      rw (tag-other kind, append_assoc (fields_text kind 0 vs) (10 ∷ []) rest, end-fields kind 0 vs (10 ∷ rest)) (omega arith)

  head-line : get_or (line_text kind vs ++ rest) 0 0 ≡ tag_byte kind
  unfolding line_text
  head-line = refl

  shaped-line : length vs ≡ fields kind → shaped kind (line_text kind vs ++ rest) ≡ true
  unfolding shaped
  shaped-line e =
      let l : length (line_text kind vs ++ rest) ≡ (2 + 8 * length vs) + length rest = length-append (line_text kind vs) rest ∙ ap (λ (k : ℕ). k + length rest) (length-line kind vs) in
      rw (
        head-line,
        eq-eqb (tag_byte kind) (tag_byte kind) refl,
        eq-eqb (line_end (line_text kind vs ++ rest)) (8 * fields kind + 1) (omega (arith, end_line)),
        lt-ltb (8 * fields kind + 1) (length (line_text kind vs ++ rest)) (omega arith),
      )

  -- field j of the line
  line-field : (j : ℕ) → j < length vs → take 8 (drop (1 + 8 * j) (line_text kind vs ++ rest)) ≡ field_text (is_force kind j) (get_or vs j 0)
  unfolding line_text
  line-field j h =
      let e : 1 + 8 * j ≡ suc (8 * j) = omega arith in
      let z : 0 + j ≡ j = omega arith in
      rw (e, append_assoc (fields_text kind 0 vs) (10 ∷ []) rest) (rw z at (fields_at kind vs (10 ∷ rest) 0 j h))

-- a line written at place `at` of a file
module _ (kind : Kind) (s : List ℕ) (at : ℕ) (vs rest : List ℕ) (p : drop at s ≡ line_text kind vs ++ rest) (l : length vs ≡ fields kind) (r : Ranged kind vs) where
  field_is : (j : ℕ) → j < fields kind → field_at kind s at j ≡ Some (get_or vs j 0)
  unfolding field_at
  field_is j h =
      let q : at + 1 + 8 * j ≡ at + (1 + 8 * j) = omega arith in
      rw (q, ← drop-drop (1 + 8 * j) at s, p, line-field kind vs rest j (omega arith)) (read-field (is_force kind j) (get_or vs j 0) (spellable kind vs r j h))

  value-is : (j : ℕ) → j < fields kind → value_at kind s at j ≡ get_or vs j 0
  value-is j h = ap (λ (o : Option ℕ). unwrap_or o 0) (field_is j h)

  fault-none : (j : ℕ) → j < fields kind → field_fault kind s at j ≡ 0
  unfolding field_fault
  fault-none j h = rw (field_is j h, value-is 2 (three-fields kind), every-at (in_range kind vs) (fields kind) j r h)

  line_clean : Clean kind s at
  line_clean =
      record { form = rw p (shaped-line kind vs rest l); written = first-zero 0 (λ r. r) (field_fault kind s at) (fields kind) refl fault-none }

  line-holds : (j : ℕ) → j < fields kind → get_or vs j 0 ≡ value_at kind s at j
  line-holds j h = sym (value-is j h)

-- ---- the lines of records
length-storey : (t : Bool) (form : ℕ) (st : Storey) → in_cases form ≡ t → length (storey_values form st) ≡ fields (storey_kind form)
length-storey true form st e = rw e
length-storey false form st e = rw e

length-member : (t : Bool) (form : ℕ) (m : Member) → in_cases form ≡ t → length (member_line form m) ≡ fields (member_kind form)
length-member true form m e = rw e
length-member false form m e = rw e

pub length-storey-line : (form : ℕ) (st : Storey) → length (line_text (storey_kind form) (storey_values form st)) ≡ line_size (storey_kind form)
length-storey-line form st = length-line (storey_kind form) (storey_values form st) ∙ ap (λ (n : ℕ). 2 + 8 * n) (length-storey (in_cases form) form st refl)

length-member-line : (form : ℕ) (m : Member) → length (line_text (member_kind form) (member_line form m)) ≡ line_size (member_kind form)
length-member-line form m = length-line (member_kind form) (member_line form m) ∙ ap (λ (n : ℕ). 2 + 8 * n) (length-member (in_cases form) form m refl)

length-cases : (m : Member) (c n : ℕ) → length (cases_text m c n) ≡ line_size D * n
unfolding cases_text
length-cases m c zero = refl
length-cases m c (suc n) = length-append (line_text D (case_line m c)) (cases_text m (suc c) n) ∙ omega (arith, length-line D (case_line m c), length-cases m (suc c) n)

pub length-member-text : (form : ℕ) (m : Member) → length (member_text form m) ≡ member_size form
unfolding member_text
length-member-text form m =
    length-append (line_text (member_kind form) (member_line form m)) (cases_text m 0 (case_lines form)) ∙ omega (arith, length-member-line form m, length-cases m 0 (case_lines form))

-- past j of them
cases-past : (m : Member) (rest : List ℕ) (j c n : ℕ) → drop (line_size D * j) (cases_text m c (j + n) ++ rest) ≡ cases_text m (c + j) n ++ rest
unfolding cases_text
cases-past m rest zero c n = let p : c + 0 ≡ c = omega arith in let q : 0 + n ≡ n = omega arith in rw (p, q)
cases-past m rest (suc j) c n =
    let p : line_size D * suc j ≡ line_size D + line_size D * j = omega arith in
    let q : suc j + n ≡ suc (j + n) = omega arith in
    let r : c + suc j ≡ suc c + j = omega arith in
    rw (
      p,
      q,
      r,
      append_assoc (line_text D (case_line m c)) (cases_text m (suc c) (j + n)) rest,
      drop_past (line_text D (case_line m c)) (cases_text m (suc c) (j + n) ++ rest) (line_size D) (line_size D * j) (length-line D (case_line m c)),
    )
    (cases-past m rest j (suc c) n)

module _ (s : List ℕ) (at : ℕ) (rest : List ℕ) where
  pub header-typed : (h : Header) → header_fault h ≡ 0 → drop at s ≡ line_text B (header_values h) ++ rest → Clean B s at × (h ≡ header_at h.form s at)
  header-typed h e p =
      let r = header-ranged h e in
      (line_clean B s at (header_values h) rest p refl r, header-held s at (header_values h) h.form h (line-holds B s at (header_values h) rest p refl r) refl)

  pub storey-typed : (form : ℕ) (st : Storey) → storey_fault form st ≡ 0 → drop at s ≡ line_text (storey_kind form) (storey_values form st) ++ rest → Clean (storey_kind form) s at × (st ≡ storey_at form s at)
  storey-typed form st e p =
      let r = storey-ranged form st e in
      let l = length-storey (in_cases form) form st refl in
      (line_clean (storey_kind form) s at (storey_values form st) rest p l r, storey-held s at (storey_values form st) form st (line-holds (storey_kind form) s at (storey_values form st) rest p l r) (storey-remade form st e))

  module _ (form : ℕ) (m : Member) (e : member_fault form m ≡ 0) (p : drop at s ≡ member_text form m ++ rest) where
    member-opens : drop at s ≡ line_text (member_kind form) (member_line form m) ++ (cases_text m 0 (case_lines form) ++ rest)
    unfolding member_text
    member-opens = p ∙ append_assoc (line_text (member_kind form) (member_line form m)) (cases_text m 0 (case_lines form)) rest

    -- where the D lines begin
    cases-open : in_cases form ≡ true → drop (case_start at 0) s ≡ cases_text m 0 (case_lines form) ++ rest
    cases-open q =
        let k : case_start at 0 ≡ at + line_size (member_kind form) = rw q (omega arith) in
        rw (k, ← drop-drop (line_size (member_kind form)) at s, member-opens)
        (drop_at (line_text (member_kind form) (member_line form m)) (cases_text m 0 (case_lines form) ++ rest) (line_size (member_kind form)) (length-member-line form m))

    case-opens : (c : ℕ) → c < case_lines form → drop (case_start at c) s ≡ line_text D (case_line m c) ++ (cases_text m (suc c) (case_lines form - suc c) ++ rest)
    unfolding cases_text
    case-opens c h =
        let n = case_lines form - suc c in
        let k : case_start at c ≡ case_start at 0 + line_size D * c = omega arith in
        let q : case_lines form ≡ c + suc (case_lines form - suc c) = omega arith in
        let z : 0 + c ≡ c = omega arith in
        let o = cases-open (has-cases (in_cases form) form c refl h).0 in
        let d = rw z at (cases-past m rest c 0 (suc (case_lines form - suc c))) in
        rw (k, ← drop-drop (line_size D * c) (case_start at 0) s) (ap (drop (line_size D * c)) o ∙ ap (λ (i : ℕ). drop (line_size D * c) (cases_text m 0 i ++ rest)) q ∙ d ∙ append_assoc (line_text D (case_line m c)) (cases_text m (suc c) n) rest)

    member-values : (j : ℕ) → j < fields (member_kind form) → get_or (member_line form m) j 0 ≡ value_at (member_kind form) s at j
    member-values = line-holds (member_kind form) s at (member_line form m) _ member-opens (length-member (in_cases form) form m refl) (member-ranged form m e)

    module _ (c : ℕ) (h : c < case_lines form) where
      case-good : Ranged D (case_line m c)
      case-good = let t = has-cases (in_cases form) form c refl h in case-ranged form m c e (rw t.0 t.1)

      case-clean : Clean D s (case_start at c)
      case-clean = line_clean D s (case_start at c) (case_line m c) _ (case-opens c h) refl case-good

      case-values : (j : ℕ) → j < fields D → get_or (case_line m c) j 0 ≡ value_at D s (case_start at c) j
      case-values = line-holds D s (case_start at c) (case_line m c) _ (case-opens c h) refl case-good

      case-is : case_of c m ≡ case_at s (case_start at c)
      case-is = case-held s (case_start at c) (case_line m c) (case_of c m) case-values refl

    cases-are : (t : Bool) → in_cases form ≡ t → m.cases ≡ cases_at form s at
    cases-are true q =
        let f : (c : ℕ) → c < 4 → case_of c m ≡ case_at s (case_start at c) = rw q at case-is in
        four no_case m.cases (has-four form m e) ∙ rw (q, f 0 (omega arith), f 1 (omega arith), f 2 (omega arith), f 3 (omega arith))
    cases-are false q = old-cases form m e q ∙ rw q (rw q at (old-cases-held s at (member_line form m) form q member-values))

    pub member-typed : MemberClean form s at × (m ≡ member_at form s at)
    member-typed = (
      record {
        line = line_clean (member_kind form) s at (member_line form m) _ member-opens (length-member (in_cases form) form m refl) (member-ranged form m e);
        cases = case-clean;
        numbered = λ c h. sym (case-values c h 0 (omega arith));
      },
      member-held s at (member_line form m) form m m.cases member-values (cases-are (in_cases form) refl) (member-remade (in_cases form) form m refl),
    )
