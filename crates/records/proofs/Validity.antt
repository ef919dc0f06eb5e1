-- The facts of a record that its check refuses nothing of.
use Prim.Native.Nat.{ℕ, zero, suc, ◌≤◌, ◌<◌}
use native.Mathlib.Omega.{arith}
use mathlib.Core.Bool.{Bool, true, false, ◌&&◌, ◌||◌}
use mathlib.Core.List.{List, [], ◌∷◌}
use mathlib.Core.Path.{◌≡◌, refl, ◌∙◌}
use lib.Dec.{leb, eqb}
use lib.ListN.{length}
use borrow.Author.Tests.{leb-true, eqb-true, lt-ltb, le-ltb}
use Rattle.records.specs.Notation.{pick, every_below}
use Rattle.records.specs.declared.{Header.Header, Storey.Storey, Member.Member, MemberCase.MemberCase, Kind.Kind, Kind.TheVariants.B, Kind.TheVariants.S, Kind.TheVariants.M, Kind.TheVariants.S4}
use Rattle.records.specs.Records.{allows, shear_range, count_range, fields, in_range, line_in_range, in_cases, known_form, case_count, storey_kind, no_case, shear_of, case_of, in_case, header_values, storey_values, member_case_values, shears_fit, sides_fault, case_fits, header_fault, storey_fault, member_case_fault, member_fault}
use Rattle.records.specs.Valid.{Valid}
use Rattle.records.proofs.Below.{and_left, and_right, every-at}
use Rattle.records.proofs.Cases.{blank-is, four, cases-most}

-- a choice between refusals gives none only on its first side
pub clear : (t : Bool) (a b : ℕ) → pick t a b ≡ 0 → 0 < b → (t ≡ true) × (a ≡ 0)
clear true a b e h = (refl, e)
clear false a b e h = let z : ⊥ = omega (arith, e) in absurd z

most : (a b v : ℕ) → (leb a v && leb v b) ≡ true → v ≤ b
most a b v e = leb-true v b (and_right (leb a v) (leb v b) e)

least : (a b v : ℕ) → (leb a v && leb v b) ≡ true → a ≤ v
least a b v e = leb-true a v (and_left (leb a v) (leb v b) e)

pub sides-fit : (short long : ℕ) → sides_fault short long ≡ 0 → short ≤ long
sides-fit short long e = leb-true short long (clear (leb short long) 0 4 e (omega arith)).0

pub valid : (m : MemberCase) → member_case_fault m ≡ 0 → Valid m
unfolding member_case_fault
valid m e =
    let o = clear (line_in_range M (member_case_values m)) _ 3 e (omega arith) in
    let f : (j : ℕ) → j < fields M → in_range M (member_case_values m) j ≡ true = λ j h. every-at (in_range M (member_case_values m)) (fields M) j o.0 h in
    record {
      number = most _ _ _ (f 0 (omega arith));
      long = most _ _ _ (f 1 (omega arith));
      long-least = least _ _ _ (f 1 (omega arith));
      short = most _ _ _ (f 2 (omega arith));
      short-least = least _ _ _ (f 2 (omega arith));
      area = most _ _ _ (f 3 (omega arith));
      area-least = least _ _ _ (f 3 (omega arith));
      fcm = most _ _ _ (f 4 (omega arith));
      fcm-least = least _ _ _ (f 4 (omega arith));
      fctm = most _ _ _ (f 5 (omega arith));
      fctm-least = least _ _ _ (f 5 (omega arith));
      fyw = most _ _ _ (f 6 (omega arith));
      fyw-least = least _ _ _ (f 6 (omega arith));
      depth = most _ _ _ (f 7 (omega arith));
      depth-least = least _ _ _ (f 7 (omega arith));
      height = most _ _ _ (f 8 (omega arith));
      spacing = most _ _ _ (f 9 (omega arith));
      spacing-least = least _ _ _ (f 9 (omega arith));
      core = most _ _ _ (f 10 (omega arith));
      core-least = least _ _ _ (f 10 (omega arith));
      hoops = most _ _ _ (f 11 (omega arith));
      hooks = most _ _ _ (f 12 (omega arith));
      zone = most _ _ _ (f 13 (omega arith));
      strengthened = most _ _ _ (f 14 (omega arith));
      factor = most _ _ _ (f 15 (omega arith));
      damage = most _ _ _ (f 16 (omega arith));
      nd = most _ _ _ (f 17 (omega arith));
      nk = most _ _ _ (f 18 (omega arith));
      me = most _ _ _ (f 19 (omega arith));
      mp = most _ _ _ (f 20 (omega arith));
      mp-least = least _ _ _ (f 20 (omega arith));
      ve = most _ _ _ (f 21 (omega arith));
      vr = most _ _ _ (f 22 (omega arith));
      vr-least = least _ _ _ (f 22 (omega arith));
      shear = most _ _ _ (f 23 (omega arith));
      rotation = most _ _ _ (f 24 (omega arith));
      drift = most _ _ _ (f 25 (omega arith));
      annex-e = most _ _ _ (f 26 (omega arith));
      sides = sides-fit m.short m.long o.1;
    }

-- every field of a line is in its range
abbrev pub Ranged : Kind → List ℕ → Type 0
Ranged kind vs = line_in_range kind vs ≡ true

-- ---- a header
header-parts : (h : Header) → header_fault h ≡ 0 → ((line_in_range B (header_values h) && known_form h.form) ≡ true) × ((leb h.height 30_000 && leb h.storeys 10) ≡ true)
unfolding header_fault
header-parts h e =
    let o = clear (line_in_range B (header_values h) && known_form h.form) _ 3 e (omega arith) in
    (o.0, (clear (leb h.height 30_000 && leb h.storeys 10) 0 7 o.1 (omega arith)).0)

pub header-ranged : (h : Header) → header_fault h ≡ 0 → Ranged B (header_values h)
header-ranged h e = and_left (line_in_range B (header_values h)) (known_form h.form) (header-parts h e).0

pub known-form : (h : Header) → header_fault h ≡ 0 → known_form h.form ≡ true
known-form h e = and_right (line_in_range B (header_values h)) (known_form h.form) (header-parts h e).0

-- a good header announces at most ten storeys
pub ten-storeys : (h : Header) → header_fault h ≡ 0 → h.count ≤ 10
ten-storeys h e =
    let a = leb-true h.storeys 10 (and_right (leb h.height 30_000) (leb h.storeys 10) (header-parts h e).1) in
    omega (arith, a, most 1 h.storeys h.count (every-at (in_range B (header_values h)) 6 5 (header-ranged h e) (omega arith)))

-- ---- a storey of a form
storey-parts : (form : ℕ) (s : Storey) → storey_fault form s ≡ 0 → (line_in_range (storey_kind form) (storey_values form s) && shears_fit form s) ≡ true
unfolding storey_fault
storey-parts form s e = (clear (line_in_range (storey_kind form) (storey_values form s) && shears_fit form s) 0 3 e (omega arith)).0

pub storey-ranged : (form : ℕ) (s : Storey) → storey_fault form s ≡ 0 → Ranged (storey_kind form) (storey_values form s)
storey-ranged form s e = and_left (line_in_range (storey_kind form) (storey_values form s)) (shears_fit form s) (storey-parts form s e)

shears-fit : (form : ℕ) (s : Storey) → storey_fault form s ≡ 0 → shears_fit form s ≡ true
shears-fit form s e = and_right (line_in_range (storey_kind form) (storey_values form s)) (shears_fit form s) (storey-parts form s e)

pub has-four-shears : (form : ℕ) (s : Storey) → storey_fault form s ≡ 0 → length s.shears ≡ 4
has-four-shears form s e = eqb-true _ _ (and_left (eqb (length s.shears) 4) _ (shears-fit form s e))

-- the shears that the old form lacks are 0
lacking : (t a b c d : Bool) → (d && (t || (a && (b && c)))) ≡ true → t ≡ false → (a ≡ true) × (b ≡ true) × (c ≡ true)
lacking true a b c d e f = let z : ◌≡◌ {A = ℕ} 0 1 = cc in absurd (omega arith)
lacking false a b c d e f = let o = and_right d (a && (b && c)) e in let u = and_right a (b && c) o in (and_left a (b && c) o, and_left b c u, and_right b c u)

pub old-shears : (form : ℕ) (s : Storey) → storey_fault form s ≡ 0 → in_cases form ≡ false → s.shears ≡ shear_of 0 s ∷ 0 ∷ 0 ∷ 0 ∷ []
old-shears form s e f =
    let o = lacking (in_cases form) (eqb (shear_of 1 s) 0) (eqb (shear_of 2 s) 0) (eqb (shear_of 3 s) 0) (eqb (length s.shears) 4) (shears-fit form s e) f in
    four 0 s.shears (has-four-shears form s e) ∙ rw (eqb-true (shear_of 1 s) 0 o.0, eqb-true (shear_of 2 s) 0 o.1, eqb-true (shear_of 3 s) 0 o.2)

-- its shears and its count are in their ranges
shear-at : (t : Bool) (s : Storey) (c : ℕ) → Ranged (pick t S4 S) (pick t (s.number ∷ shear_of 0 s ∷ shear_of 1 s ∷ shear_of 2 s ∷ shear_of 3 s ∷ s.count ∷ []) (s.number ∷ shear_of 0 s ∷ s.count ∷ [])) → c < pick t 4 1 → allows shear_range (shear_of c s) ≡ true
shear-at true s zero r h = every-at (in_range S4 (storey_values 2 s)) 6 1 r (omega arith)
shear-at true s (suc zero) r h = every-at (in_range S4 (storey_values 2 s)) 6 2 r (omega arith)
shear-at true s (suc (suc zero)) r h = every-at (in_range S4 (storey_values 2 s)) 6 3 r (omega arith)
shear-at true s (suc (suc (suc zero))) r h = every-at (in_range S4 (storey_values 2 s)) 6 4 r (omega arith)
shear-at true s (suc (suc (suc (suc c)))) r h = let z : ⊥ = omega arith in absurd z
shear-at false s zero r h = every-at (in_range S (storey_values 1 s)) 3 1 r (omega arith)
shear-at false s (suc c) r h = let z : ⊥ = omega arith in absurd z

pub shear-most : (form : ℕ) (s : Storey) (c : ℕ) → storey_fault form s ≡ 0 → c < case_count form → shear_of c s ≤ 9_999_999
shear-most form s c e h = most 1 9_999_999 (shear_of c s) (shear-at (in_cases form) s c (storey-ranged form s e) h)

pub shear-least : (form : ℕ) (s : Storey) (c : ℕ) → storey_fault form s ≡ 0 → c < case_count form → 1 ≤ shear_of c s
shear-least form s c e h = least 1 9_999_999 (shear_of c s) (shear-at (in_cases form) s c (storey-ranged form s e) h)

count_at : (t : Bool) (s : Storey) → Ranged (pick t S4 S) (pick t (s.number ∷ shear_of 0 s ∷ shear_of 1 s ∷ shear_of 2 s ∷ shear_of 3 s ∷ s.count ∷ []) (s.number ∷ shear_of 0 s ∷ s.count ∷ [])) → allows count_range s.count ≡ true
count_at true s r = every-at (in_range S4 (storey_values 2 s)) 6 5 r (omega arith)
count_at false s r = every-at (in_range S (storey_values 1 s)) 3 2 r (omega arith)

-- a good storey has 1 to 200 members
pub count_most : (form : ℕ) (s : Storey) → storey_fault form s ≡ 0 → s.count ≤ 200
count_most form s e = most 1 200 s.count (count_at (in_cases form) s (storey-ranged form s e))

pub count-least : (form : ℕ) (s : Storey) → storey_fault form s ≡ 0 → 1 ≤ s.count
count-least form s e = least 1 200 s.count (count_at (in_cases form) s (storey-ranged form s e))

-- ---- a member of a form
member-parts : (form : ℕ) (m : Member) → member_fault form m ≡ 0 → ((eqb (length m.cases) 4 && every_below (case_fits form m) 4) ≡ true) × (sides_fault m.short m.long ≡ 0)
unfolding member_fault
member-parts form m e = clear (eqb (length m.cases) 4 && every_below (case_fits form m) 4) (sides_fault m.short m.long) 3 e (omega arith)

pub sides : (form : ℕ) (m : Member) → member_fault form m ≡ 0 → m.short ≤ m.long
sides form m e = sides-fit m.short m.long (member-parts form m e).1

pub has-four : (form : ℕ) (m : Member) → member_fault form m ≡ 0 → length m.cases ≡ 4
has-four form m e = eqb-true _ _ (and_left (eqb (length m.cases) 4) _ (member-parts form m e).0)

case-fits : (form : ℕ) (m : Member) → member_fault form m ≡ 0 → (c : ℕ) → c < 4 → case_fits form m c ≡ true
case-fits form m e c h = every-at (case_fits form m) 4 c (and_right (eqb (length m.cases) 4) _ (member-parts form m e).0) h

-- the fields of its cases are in their ranges
pub case-in-range : (form : ℕ) (m : Member) (c : ℕ) → member_fault form m ≡ 0 → c < case_count form → Ranged M (member_case_values (in_case c m))
case-in-range form m c e h = rw (lt-ltb c (case_count form) h) at (case-fits form m e c (omega (arith, cases-most form)))

pub case-good : (form c : ℕ) (m : Member) → member_fault form m ≡ 0 → c < case_count form → member_case_fault (in_case c m) ≡ 0
unfolding member_case_fault
case-good form c m e h = rw (case-in-range form m c e h) (member-parts form m e).1

-- the cases that the old form lacks hold 0
pub blank-case : (form : ℕ) (m : Member) → member_fault form m ≡ 0 → in_cases form ≡ false → (c : ℕ) → 0 < c → c < 4 → case_of c m ≡ no_case
blank-case form m e f c h l = blank-is (case_of c m) (rw (f, le-ltb c 1 h) at (case-fits form m e c l))

pub old-cases : (form : ℕ) (m : Member) → member_fault form m ≡ 0 → in_cases form ≡ false → m.cases ≡ case_of 0 m ∷ no_case ∷ no_case ∷ no_case ∷ []
old-cases form m e f =
    let b : (c : ℕ) → 0 < c → c < 4 → case_of c m ≡ no_case = blank-case form m e f in
    four no_case m.cases (has-four form m e) ∙ rw (b 1 (omega arith) (omega arith), b 2 (omega arith) (omega arith), b 3 (omega arith) (omega arith))
