-- A line of any kind: its checks, and that a line without a refusal holds a good record.
use Prim.Native.Nat.{ℕ}
use native.Mathlib.Omega.{arith}
use mathlib.Core.Bool.{Bool, true, false}
use mathlib.Core.List.{List, [], ◌∷◌, ◌++◌}
use mathlib.Core.Path.{◌≡◌, refl, ap, sym, ◌∙◌}
use lib.ListN.{drop, get_or}
use borrow.Author.Tests.{ne_eqb}
use Rattle.std.specs.Prelude.{Result, Ok, Err, IsOk}
use Rattle.records.specs.Notation.{pick, in_order}
use Rattle.records.specs.Records.{line_in_range, in_cases, storey_kind, storey_fault, header_by, header_fault, member_fault, sides_fault}
use Rattle.records.specs.Refusals.{refusal_number, fault_of}
use Rattle.records.specs.declared.refusal.Refusal.{Refusal}
use Rattle.format.specs.Lines.{shaped, value_at, fields_fault, framed, holds_fields, written_fault, Holds, header_at, storey_at, case_start, case_at, member_at}
use Rattle.format.proofs.Fields.{all-clear, in-ranges, fault-held, read-fits, written-clear, clear-written}
use Rattle.format.proofs.Shape.{shaped-fits}
use Rattle.format.proofs.Held.{header-held}
use Rattle.format.proofs.LineText.{MemberClean}
use Rattle.format.proofs.Framed.{framed-shaped}
use Rattle.records.specs.declared.Header.{Header}
use Rattle.records.specs.declared.Kind.{Kind}
use Rattle.records.specs.declared.Kind.TheVariants.{B, M, M4, D}
use Rattle.records.proofs.Firsts.{last_of, pick-clear, pick-both, in-order-both}
use Rattle.records.proofs.Refusals.{number-positive}
use Rattle.records.proofs.Validity.{clear}
use Rattle.records.proofs.Lines as Lines
use Rattle.reading.specs.Survey.{form_of, shape, header_line_fault}
use Rattle.reading.specs.Checks.{line_first, Sound}
use Rattle.reading.specs.Answer.{lined}
use Rattle.reading.specs.declared.survey.LineRefusal.{LineRefusal}

-- ---- some checks, and others after them
pub refused : (r : Refusal) (xs ys : List ℕ) → refusal_number r ≡ in_order xs → refusal_number r ≡ in_order (xs ++ ys)
refused r xs ys e =
    let p = number-positive r in
    sym (in-order-both xs ys ∙ rw (← e, ne_eqb (refusal_number r) 0 (λ z. omega arith)))

pub passed : (xs ys : List ℕ) → 0 ≡ in_order xs → in_order (xs ++ ys) ≡ in_order ys
passed xs ys e = in-order-both xs ys ∙ rw (← e)

-- one more
pub then-last : (xs : List ℕ) (x y : ℕ) → 0 ≡ in_order xs → y ≡ x → y ≡ in_order (xs ++ (x ∷ []))
then-last xs x y e h = h ∙ sym (passed xs (x ∷ []) e ∙ last_of x)

-- ---- an outcome with the line
pub lined-refused : {A : Type 0} (l : ℕ) (o : Result A Refusal) (r : LineRefusal) → lined l o ≡ Err r → (fault_of o ≡ refusal_number r.refusal) × (l ≡ r.line)
lined-refused l (Ok a) r e = let z : ◌≡◌ {A = ℕ} 0 1 = cc in absurd (omega arith)
lined-refused l (Err x) r e =
    let p : record { refusal = x; line = l } ≡ r = cc in
    (ap (λ (r : LineRefusal). refusal_number r.refusal) p, ap (λ (r : LineRefusal). r.line) p)

pub lined-passed : {A : Type 0} (l : ℕ) (o : Result A Refusal) (a : A) → lined l o ≡ Ok a → o ≡ Ok a
lined-passed l (Ok b) a e = cc
lined-passed l (Err x) a e = let z : ◌≡◌ {A = ℕ} 0 1 = cc in absurd (omega arith)

pub found-number : (r : LineRefusal) → refusal_number r.refusal ≡ 0 → ⊥
found-number r e = let p = number-positive r.refusal in omega (arith, p, e)

-- ---- a line of any kind
pub clear-fields : (kind : Kind) (s : List ℕ) (at : ℕ) (held : Bool) → line_first kind s at held ≡ 0 → fields_fault kind s at ≡ 0
clear-fields kind s at held e = pick-clear (fields_fault kind s at) 0 (pick-both (pick held 0 8) _ (pick-both (shape kind s at) _ e))

ok-of : {A : Type 0} (r : Result A Refusal) → fault_of r ≡ 0 → IsOk r
ok-of (Ok a) e = refl
ok-of (Err x) e = let z : ⊥ = omega (arith, e, number-positive x) in absurd z

module _ (kind : Kind) (s : List ℕ) (at : ℕ) where
  -- what reading its fields told: none missed, and where their numbers are in their ranges none refused
  pub line-whole : (vs : List ℕ) → framed kind (drop at s) ≡ true → 0 ≡ pick (holds_fields kind s at) (written_fault kind s at) 1 → Holds kind s at vs → line_in_range kind vs ≡ true → 0 ≡ line_first kind s at true
  line-whole vs e q h r =
      let o = clear (holds_fields kind s at) (written_fault kind s at) 1 (sym q) (omega arith) in
      let w = all-clear kind s at vs h r (clear-written kind s at o.1) in
      rw (framed-shaped kind s at w e, w)

  -- one check after another
  pub by-fields : (held : Bool) (y : ℕ) → shaped kind (drop at s) ≡ true → held ≡ true → y ≡ pick (holds_fields kind s at) (fields_fault kind s at) 1 → y ≡ line_first kind s at held
  by-fields held y e q d =
      let i = shaped-fits kind s at e in
      fault-held kind s at y d (omega arith) ∙ rw (e, q) (sym (last_of (fields_fault kind s at)))

  -- no check refused it, so its fields are read
  pub line-read : (held : Bool) (y : ℕ) → 0 ≡ line_first kind s at held → y ≡ pick (holds_fields kind s at) (written_fault kind s at) 1 → y ≡ line_first kind s at held
  line-read held y z d =
      let i = shaped-fits kind s at (clear (shaped kind (drop at s)) 0 1 (pick-clear (shape kind s at) _ (sym z)) (omega arith)).0 in
      read-fits kind s at y d (omega arith) ∙ written-clear kind s at (clear-fields kind s at held (sym z)) ∙ z

  -- of a line within the file without a refusal, its fields are read
  pub sound-read : Sound kind s at → (r : Result (List ℕ) Refusal) → fault_of r ≡ pick (holds_fields kind s at) (written_fault kind s at) 1 → IsOk r
  sound-read o r e = ok-of r (read-fits kind s at (fault_of r) e (omega (arith, o.lies)) ∙ written-clear kind s at o.written)

-- ---- the B line by its checks
module _ (s : List ℕ) where
  pub header-refused : (r : Refusal) → refusal_number r ≡ line_first B s 0 true → refusal_number r ≡ header_line_fault s
  unfolding header_line_fault
  header-refused r e = refused r (shape B s 0 ∷ fields_fault B s 0 ∷ []) (header_fault (header_at (form_of s) s 0) ∷ []) e

  module _ (vs : List ℕ) (h : Header) (z : 0 ≡ line_first B s 0 true) (o : Holds B s 0 vs) (form : ℕ) (f : form ≡ form_of s) (e : h ≡ header_by form (λ (j : ℕ). get_or vs j 0)) where
    pub header-is : h ≡ header_at (form_of s) s 0
    header-is = rw (← f) (header-held s 0 vs form h o e)

    pub header-checked : (y : ℕ) → y ≡ header_fault h → y ≡ header_line_fault s
    unfolding header_line_fault
    header-checked y g =
        let k = rw header-is at g in
        k ∙ sym (passed (shape B s 0 ∷ fields_fault B s 0 ∷ []) (header_fault (header_at (form_of s) s 0) ∷ []) z ∙ last_of (header_fault (header_at (form_of s) s 0)))

-- ---- a line without a refusal
pub storey-good : (form : ℕ) (s : List ℕ) (at : ℕ) → fields_fault (storey_kind form) s at ≡ 0 → storey_fault form (storey_at form s at) ≡ 0
unfolding storey_at
storey-good form s at e = Lines.storey-good form (value_at (storey_kind form) s at) (in-ranges (storey_kind form) s at e)

member-by : (t : Bool) (form : ℕ) (s : List ℕ) (at : ℕ) → in_cases form ≡ t → MemberClean form s at → member_fault form (member_at form s at) ≡ sides_fault (member_at form s at).short (member_at form s at).long
unfolding member_at case_at
member-by true form s at q c =
    let l = rw q at c.line.written in
    let d = rw q at c.cases in
    rw q (Lines.member-cases-good form (value_at M4 s at) (λ i. value_at D s (case_start at i)) q (in-ranges M4 s at l) (λ i h. in-ranges D s (case_start at i) (d i h).written))
member-by false form s at q c = let l = rw q at c.line.written in rw q (Lines.member-good form (value_at M s at) q (in-ranges M s at l))

pub member-good : (form : ℕ) (s : List ℕ) (at : ℕ) → MemberClean form s at → sides_fault (member_at form s at).short (member_at form s at).long ≡ 0 → member_fault form (member_at form s at) ≡ 0
member-good form s at c e = member-by (in_cases form) form s at refl c ∙ e
