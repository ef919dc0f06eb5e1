-- The loop over the D lines of an M line: what holds after c of them, and one turn.
use Prim.Native.Nat.{ℕ, ◌+◌, ◌<◌}
use native.Mathlib.Omega.{arith}
use mathlib.Core.Bool.{true}
use mathlib.Core.List.{List, [], ◌∷◌}
use mathlib.Core.Path.{◌≡◌, refl, ap, sym, ◌∙◌}
use lib.ListN.{get_or}
use borrow.Author.Tests.{eq-eqb, ne_eqb}
use Rattle.records.specs.declared.Kind.TheVariants.{D}
use Rattle.records.specs.declared.refusal.Refusal.{Refusal}
use Rattle.records.specs.Refusals.{refusal_number}
use Rattle.records.proofs.Firsts.{first-zero, last_of}
use Rattle.records.proofs.Refusals.{number-positive}
use Rattle.format.specs.Lines.{value_at, fields_fault, Holds, case_start, case_lines}
use Rattle.format.proofs.LineText.{Clean, MemberClean}
use Rattle.reading.specs.Survey.{shape, no_fault, at-line, first_fault, case_number_fault, case_line_fault, cases_fault}
use Rattle.reading.specs.Checks.{line_first}
use Rattle.reading.proofs.Lines.{refused, passed}
use Rattle.reading.specs.Survey.{Fault}
use Rattle.reading.proofs.Turns.{Plain, line_plain, begins, goes_on, stops, first_plain}

abbrev case_fault : List ℕ → ℕ → ℕ → ℕ → Fault
case_fault s at line c = at-line (line + 1 + c) (case_line_fault s (case_start at c) c)

pub record Cased (form : ℕ) (s : List ℕ) (at line c : ℕ) : Type 0 where
  pub clear : (first_fault (case_fault s at line) c).number ≡ 0

module _ (form : ℕ) (s : List ℕ) (at line : ℕ) where
  pub cases-first : Cased form s at line 0
  cases-first = record { clear = begins (case_fault s at line) }

  pub cases-plain : Plain (cases_fault form s at line)
  unfolding cases_fault
  cases-plain = first_plain (case_fault s at line) (λ c. line_plain (line + 1 + c) (case_line_fault s (case_start at c) c)) (case_lines form)

  module _ (c : ℕ) (u : Cased form s at line c) where
    pub cases-stop : (r : Refusal) → c < case_lines form → refusal_number r ≡ case_line_fault s (case_start at c) c → record { number = refusal_number r; line = line + 1 + c } ≡ cases_fault form s at line
    unfolding cases_fault
    cases-stop r h e =
        let p = number-positive r in
        stops (case_fault s at line) c u.clear (case_lines form) (record { number = refusal_number r; line = line + 1 + c }) h
        (rw (← e) (simp (ne_eqb (refusal_number r) 0 (λ z. omega (arith, p))))) (λ z. omega (arith, p, z))

    pub cases_next : 0 ≡ case_line_fault s (case_start at c) c → Cased form s at line (c + 1)
    cases_next e = record { clear = goes_on (case_fault s at line) c u.clear (rw (← e)) }

    pub cases_last : c ≡ case_lines form → no_fault ≡ cases_fault form s at line
    unfolding cases_fault
    cases_last k =
        sym (first_plain (case_fault s at line) (λ e. line_plain (line + 1 + e) (case_line_fault s (case_start at e) e)) (case_lines form) (rw k at u.clear))

-- D lines without a refusal
case-none : (s : List ℕ) (at c : ℕ) → Clean D s at → value_at D s at 0 ≡ c + 1 → case_line_fault s at c ≡ 0
unfolding case_line_fault
case-none s at c l e = rw (l.form, l.written, eq-eqb (value_at D s at 0) (c + 1) e)

pub cases_none : (form : ℕ) (s : List ℕ) (at line : ℕ) → MemberClean form s at → (cases_fault form s at line).number ≡ 0
unfolding cases_fault
cases_none form s at line l =
    first-zero no_fault (λ f. f.number) (case_fault s at line) (case_lines form) refl
    (λ c h. ap (λ (r : ℕ). (at-line (line + 1 + c) r).number) (case-none s (case_start at c) c (l.cases c h) (l.numbered c h)))

-- ---- a D line by its checks
module _ (s : List ℕ) (at c : ℕ) where
  pub case-refused : (r : Refusal) → refusal_number r ≡ line_first D s at true → refusal_number r ≡ case_line_fault s at c
  unfolding case_line_fault
  case-refused r e = refused r (shape D s at ∷ fields_fault D s at ∷ []) (case_number_fault (value_at D s at 0) c ∷ []) e

  pub case-passed : (vs : List ℕ) → 0 ≡ line_first D s at true → Holds D s at vs → (y : ℕ) → y ≡ case_number_fault (get_or vs 0 0) c → y ≡ case_line_fault s at c
  unfolding case_line_fault
  case-passed vs e h y f =
      let k = rw (h 0 (omega arith)) at f in
      k ∙ sym (passed (shape D s at ∷ fields_fault D s at ∷ []) (case_number_fault (value_at D s at 0) c ∷ []) e ∙ last_of (case_number_fault (value_at D s at 0) c))
