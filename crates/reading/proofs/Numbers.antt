-- A good header announces ten storeys at most; how many records a file has; its form; and what is told of it.
use Prim.Native.Nat.{ℕ, zero, suc, ◌≤◌}
use native.Mathlib.Omega.{arith}
use mathlib.Core.Bool.{Bool, true, false, ◌||◌}
use mathlib.Core.List.{List, [], ◌∷◌}
use mathlib.Core.Path.{◌≡◌, refl, sym, ◌∙◌}
use lib.Dec.{eqb}
use lib.ListN.{length, length-append}
use borrow.Author.Tests.{eqb-true, eq-eqb, ne_eqb}
use Rattle.records.specs.Notation.{listed}
use Rattle.records.specs.Records.{in_cases, known_form, storey_kind, header_fault}
use Rattle.format.specs.Lines.{line_size, fields_fault, header_at}
use Rattle.format.proofs.Shape.{shaped-end}
use Rattle.format.proofs.LineText.{Clean}
use Rattle.reading.specs.Survey.{Fault, form_of, members_before, storey, member, shape, header_line_fault, lines_fault, survey_fault, first_members, survey}
use Rattle.reading.specs.Answer.{told, filled, refusal}
use Rattle.records.specs.declared.Header.{Header}
use Rattle.records.specs.declared.Kind.TheVariants.{B}
use Rattle.records.specs.declared.refusal.Refusal.{Refusal}
use Rattle.records.specs.Refusals.{refusal_number}
use Rattle.records.proofs.Firsts.{pick-clear, pick-both}
use Rattle.records.proofs.Refusals.{number-positive}
use Rattle.records.proofs.Validity as Validity

pub ten-storeys : (s : List ℕ) → header_line_fault s ≡ 0 → (header_at (form_of s) s 0).count ≤ 10
unfolding header_line_fault
ten-storeys s e =
    let h = header_at (form_of s) s 0 in
    Validity.ten-storeys h (pick-clear (header_fault h) 0 (pick-both (fields_fault B s 0) _ (pick-both (shape B s 0) _ e)))

-- ---- what is told of a file
pub length-listed : {A : Type 0} (f : ℕ → A) (n : ℕ) → length (listed f n) ≡ n
unfolding listed
length-listed f zero = refl
length-listed f (suc n) = length-append (listed f n) (f n ∷ []) ∙ omega (arith, length-listed f n)

pub length-members : (form : ℕ) (s : List ℕ) (n : ℕ) → length (first_members form s n) ≡ members_before form s n
unfolding first_members members_before
length-members form s zero = refl
length-members form s (suc i) =
    length-append (first_members form s i) (listed (member form s i) (storey form s i).count) ∙ omega (arith, length-members form s i, length-listed (member form s i) (storey form s i).count)

-- the header of a file tells its form
pub form-is : (form : ℕ) (s : List ℕ) (at : ℕ) → (header_at form s at).form ≡ form
unfolding header_at
form-is form s at = refl

-- and so does the length of its first S line
one_form : (a b : Bool) → (a || b) ≡ true → b ≡ false → a ≡ true
one_form true b e f = refl
one_form false b e f = let z : ◌≡◌ {A = ℕ} 0 1 = cc in absurd (omega arith)

form-by : (t : Bool) (form : ℕ) (s : List ℕ) → in_cases form ≡ t → known_form form ≡ true → Clean (storey_kind form) s (line_size B) → form_of s ≡ form
unfolding form_of
form-by true form s q k c =
    let e = rw q at (shaped-end (storey_kind form) s (line_size B) c.form) in
    let f = eqb-true form 2 q in
    rw (e, f)
form-by false form s q k c =
    let e = rw q at (shaped-end (storey_kind form) s (line_size B) c.form) in
    let f = eqb-true form 1 (one_form (eqb form 1) (eqb form 2) k q) in
    rw (e, f)

pub form-found : (form : ℕ) (s : List ℕ) → known_form form ≡ true → Clean (storey_kind form) s (line_size B) → form_of s ≡ form
form-found form s k c = form-by (in_cases form) form s refl k c

module _ (s : List ℕ) (srows mrows : ℕ) where
  pub told-header : (r : Refusal) → refusal_number r ≡ header_line_fault s → refusal (refusal_number r) 1 ≡ told (survey s srows mrows)
  unfolding survey survey_fault
  told-header r e = let p = number-positive r in rw (← e) (simp (ne_eqb (refusal_number r) 0 (λ z. omega (arith, p, z))))

  module _ (form n : ℕ) (z : 0 ≡ header_line_fault s) (f : form ≡ form_of s) (q : n ≡ (header_at (form_of s) s 0).count) (x : Fault) (o : x ≡ lines_fault form s srows mrows n) where
    fault-is : survey_fault s srows mrows ≡ x
    unfolding survey_fault
    fault-is = rw (← z) (sym (rw (f, q) at o))

    pub told-later : (x.number ≡ 0 → ⊥) → refusal x.number x.line ≡ told (survey s srows mrows)
    unfolding survey
    told-later ne = rw fault-is (simp (ne_eqb x.number 0 ne))

    pub told-accepted : (h : Header) (m : ℕ) → h ≡ header_at (form_of s) s 0 → m ≡ members_before form s n → x.number ≡ 0 → filled h n m ≡ told (survey s srows mrows)
    unfolding survey
    told-accepted h m g k y =
        rw (fault-is, eq-eqb _ _ y, g, k, f, q, length-listed (storey (form_of s) s) (header_at (form_of s) s 0).count, length-members (form_of s) s (header_at (form_of s) s 0).count)
