-- A line without a refusal is the text of what it holds.
use Prim.Native.Nat.{ℕ, zero, suc, ◌+◌, ◌*◌, ◌≤◌, ◌<◌}
use native.Mathlib.Omega.{arith}
use native.Mathlib.Nat.{not-suc-le-zero}
use mathlib.Core.Bool.{Bool, true, false}
use mathlib.Core.List.{List, [], ◌∷◌, ◌++◌, append_assoc}
use mathlib.Core.Path.{◌≡◌, refl, ap, sym, ◌∙◌}
use lib.Dec.{eqb}
use lib.ListN.{length, take, drop, get_or, length-drop, take-append-drop}
use lib.Seq.{drop-cons, drop-drop, get_or-drop}
use borrow.Author.Tests.{eqb-true}
use Rattle.std.specs.Prelude.{Option, Some, None, unwrap_or}
use Rattle.records.specs.Notation.{pick}
use Rattle.records.specs.Records.{Allowed, fields, in_cases, storey_kind, member_kind, header_values, storey_values, storey_by, case_of}
use Rattle.format.specs.Lines.{tag_byte, line_size, line_end, shaped, is_force, field_at, value_at, fault_in, field_fault, fields_fault, header_at, storey_at, case_start, case_lines, member_size, case_at, member_at}
use Rattle.format.specs.Text.{field_text, fields_text, line_text, member_line, case_line, cases_text, member_text}
use Rattle.records.specs.declared.Kind.{Kind}
use Rattle.records.specs.declared.Kind.TheVariants.{B, M4, D}
use Rattle.records.proofs.Below.{and_left}
use Rattle.records.proofs.Firsts.{first-clear}
use Rattle.format.proofs.Shape.{shaped-fits, shaped-end}
use Rattle.records.proofs.Lines.{numbers}
use Rattle.format.proofs.Spelt.{write-field}

-- a line of its shape, of which no field is refused
pub record Clean (kind : Kind) (s : List ℕ) (at : ℕ) : Type 0 where
  pub form : shaped kind (drop at s) ≡ true
  pub written : fields_fault kind s at ≡ 0

-- an M line of a form with its D lines, numbered 1, 2, 3, 4
pub record MemberClean (form : ℕ) (s : List ℕ) (at : ℕ) : Type 0 where
  pub line : Clean (member_kind form) s at
  pub cases : (c : ℕ) → c < case_lines form → Clean D s (case_start at c)
  pub numbered : (c : ℕ) → c < case_lines form → value_at D s (case_start at c) 0 ≡ c + 1

by_byte : (t : Bool) (b e : ℕ) (l : List ℕ) → eqb b 10 ≡ t → (e < length l → get_or l e 0 ≡ 10) → pick t 0 (suc e) < suc (length l) → get_or (b ∷ l) (pick t 0 (suc e)) 0 ≡ 10
by_byte true b e l q f h = eqb-true b 10 q
by_byte false b e l q f h = f (omega arith)

-- the byte at a line's end is the LF
end-byte : (l : List ℕ) → line_end l < length l → get_or l (line_end l) 0 ≡ 10
unfolding line_end
end-byte [] h = absurd (not-suc-le-zero h)
end-byte (b ∷ l) h = by_byte (eqb b 10) b (line_end l) l refl (end-byte l) h

held : (o : Option ℕ) (a : Allowed) → fault_in o a ≡ 0 → o ≡ Some (unwrap_or o 0)
held (Some v) a e = refl
held None a e = let z : ⊥ = omega (arith, e) in absurd z

module _ (kind : Kind) (s : List ℕ) (at : ℕ) (w : fields_fault kind s at ≡ 0) where
  field-text : (j : ℕ) → j < fields kind → take 8 (drop (at + 1 + 8 * j) s) ≡ field_text (is_force kind j) (value_at kind s at j)
  unfolding field_fault field_at
  field-text j h =
      (write-field (is_force kind j) (take 8 (drop (at + 1 + 8 * j) s)) (value_at kind s at j)
      (held (field_at kind s at j) _ (first-clear 0 (λ r. r) (field_fault kind s at) (fields kind) j w h))).text

  pub fields-text : (n j : ℕ) → j + n ≤ fields kind → drop (at + 1 + 8 * j) s ≡ fields_text kind j (numbers (value_at kind s at) j n) ++ drop (at + 1 + 8 * (j + n)) s
  unfolding fields_text
  fields-text zero j h = let e : j + 0 ≡ j = omega arith in rw e
  fields-text (suc n) j h =
      let p : (at + 1 + 8 * j) + 8 ≡ at + 1 + 8 * suc j = omega arith in
      let q : j + suc n ≡ suc j + n = omega arith in
      sym (take-append-drop 8 (drop (at + 1 + 8 * j) s))
      ∙ rw (field-text j (omega arith), drop-drop 8 (at + 1 + 8 * j) s, p, fields-text n (suc j) (omega arith), q) (sym (append_assoc (field_text (is_force kind j) (value_at kind s at j)) _ _))

module _ (kind : Kind) (s : List ℕ) (at : ℕ) (c : Clean kind s at) where
  line-text : drop at s ≡ line_text kind (numbers (value_at kind s at) 0 (fields kind)) ++ drop (at + line_size kind) s
  unfolding shaped line_text
  line-text =
      let f = shaped-fits kind s at c.form in
      let e = shaped-end kind s at c.form in
      let o : at + 0 ≡ at = omega arith in
      let g : get_or s at 0 ≡ tag_byte kind = sym (get_or-drop at s 0 0 ∙ ap (λ (k : ℕ). get_or s k 0) o) ∙ eqb-true (get_or (drop at s) 0 0) (tag_byte kind) (and_left (eqb (get_or (drop at s) 0 0) (tag_byte kind)) _ c.form) in
      let q : at + 1 + 8 * fields kind ≡ at + (8 * fields kind + 1) = omega arith in
      let b = end-byte (drop at s) (omega (arith, length-drop at s)) in
      let k : get_or s (at + 1 + 8 * fields kind) 0 ≡ 10 = ap (λ (k : ℕ). get_or s k 0) q ∙ sym (get_or-drop at s (8 * fields kind + 1) 0) ∙ (rw e at b) in
      let i : suc at ≡ at + 1 + 8 * 0 = omega arith in
      let z : 0 + fields kind ≡ fields kind = omega arith in
      let r : suc (at + 1 + 8 * fields kind) ≡ at + line_size kind = omega arith in
      drop-cons s at 0 (omega arith)
      ∙ rw (g, i, fields-text kind s at c.written (fields kind) 0 (omega arith), z, drop-cons s (at + 1 + 8 * fields kind) 0 (omega arith), k, r) (simp append_assoc)

-- ---- where they lie
pub clean-fits : {kind : Kind} {s : List ℕ} {at : ℕ} → Clean kind s at → at + line_size kind ≤ length s
clean-fits {kind} {s} {at} c = omega (arith, shaped-fits kind s at c.form)

-- ---- the lines of records
pub header-text : (form : ℕ) (s : List ℕ) (at : ℕ) → Clean B s at → drop at s ≡ line_text B (header_values (header_at form s at)) ++ drop (at + line_size B) s
unfolding header_at
header-text form s at c = line-text B s at c

storey-numbers : (t : Bool) (form : ℕ) (f : ℕ → ℕ) → in_cases form ≡ t → storey_values form (storey_by form f) ≡ numbers f 0 (fields (storey_kind form))
storey-numbers true form f e = rw e
storey-numbers false form f e = rw e

pub storey-text : (form : ℕ) (s : List ℕ) (at : ℕ) → Clean (storey_kind form) s at → drop at s ≡ line_text (storey_kind form) (storey_values form (storey_at form s at)) ++ drop (at + line_size (storey_kind form)) s
unfolding storey_at
storey-text form s at c = rw (storey-numbers (in_cases form) form (value_at (storey_kind form) s at) refl) (line-text (storey_kind form) s at c)

member-numbers : (t : Bool) (form : ℕ) (s : List ℕ) (at : ℕ) → in_cases form ≡ t → member_line form (member_at form s at) ≡ numbers (value_at (member_kind form) s at) 0 (fields (member_kind form))
unfolding member_at
member-numbers true form s at e = rw e
member-numbers false form s at e = rw e

-- D line c is there in the form of four cases alone
pub has-cases : (t : Bool) (form c : ℕ) → in_cases form ≡ t → c < case_lines form → (t ≡ true) × (c < 4)
has-cases true form c e h = (refl, rw e at h)
has-cases false form c e h = absurd (not-suc-le-zero (rw e at h))

-- what it holds
case-at : (form : ℕ) (s : List ℕ) (at c : ℕ) → in_cases form ≡ true → c < 4 → case_of c (member_at form s at) ≡ case_at s (case_start at c)
unfolding member_at
case-at form s at zero e h = rw e
case-at form s at (suc zero) e h = rw e
case-at form s at (suc (suc zero)) e h = rw e
case-at form s at (suc (suc (suc zero))) e h = rw e
case-at form s at (suc (suc (suc (suc c)))) e h = let z : ⊥ = omega arith in absurd z

module _ (form : ℕ) (s : List ℕ) (at : ℕ) (l : MemberClean form s at) where
  case-numbers : (c : ℕ) → c < case_lines form → case_line (member_at form s at) c ≡ numbers (value_at D s (case_start at c)) 0 (fields D)
  unfolding case_at
  case-numbers c h =
      let t = has-cases (in_cases form) form c refl h in
      rw (case-at form s at c t.0 t.1, ← l.numbered c h)

  cases-text : (n c : ℕ) → c + n ≤ case_lines form → drop (case_start at c) s ≡ cases_text (member_at form s at) c n ++ drop (case_start at (c + n)) s
  unfolding cases_text
  cases-text zero c h = let e : c + 0 ≡ c = omega arith in rw e
  cases-text (suc n) c h =
      let p : case_start at c + line_size D ≡ case_start at (suc c) = omega arith in
      let q : c + suc n ≡ suc c + n = omega arith in
      line-text D s (case_start at c) (l.cases c (omega arith))
      ∙ rw (← case-numbers c (omega arith), p, cases-text n (suc c) (omega arith), q) (sym (append_assoc (line_text D (case_line (member_at form s at) c)) _ _))

  later-text : (t : Bool) → in_cases form ≡ t → drop (at + line_size (member_kind form)) s ≡ cases_text (member_at form s at) 0 (case_lines form) ++ drop (at + member_size form) s
  unfolding cases_text
  later-text true e =
      let k = rw e at (cases-text (case_lines form) 0 (omega arith)) in
      let p : at + line_size M4 ≡ case_start at 0 = omega arith in
      let q : at + (line_size M4 + line_size D * 4) ≡ case_start at (0 + 4) = omega arith in
      rw (e, p, q) k
  later-text false e = rw e

  pub member-text : drop at s ≡ member_text form (member_at form s at) ++ drop (at + member_size form) s
  unfolding member_text
  member-text =
      line-text (member_kind form) s at l.line
      ∙ rw (← member-numbers (in_cases form) form s at refl, later-text (in_cases form) refl)
      (sym (append_assoc (line_text (member_kind form) (member_line form (member_at form s at))) _ _))
