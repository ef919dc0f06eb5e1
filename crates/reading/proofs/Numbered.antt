-- The refusals of a file are numbered 1 to 8, and 12.
use Prim.Native.Nat.{ℕ, zero, suc, ◌+◌, ◌≤◌}
use native.Mathlib.Omega.{arith}
use mathlib.Core.Bool.{Bool, true, false, ◌&&◌}
use mathlib.Core.List.{List, [], ◌∷◌}
use lib.Dec.{leb, ltb, eqb}
use lib.ListN.{length, drop}
use Rattle.std.specs.Prelude.{Option, Some, None}
use Rattle.records.specs.Notation.{pick, any_below, in_order, first}
use Rattle.records.specs.Records.{Allowed, allows, fields, line_in_range, known_form, storey_kind, member_kind, header_values, header_fault, sides_fault, repeated}
use Rattle.format.specs.Lines.{shaped, fault_in, field_at, value_at, field_fault, fields_fault, header_at, case_start, case_lines}
use Rattle.reading.specs.Survey.{Fault, form_of, line_start, line_number, members_before, storey, member_start, member, shape, unheld, header_line_fault, storey_line_fault, member_line_fault, case_number_fault, case_line_fault, no_fault, at-line, or_else, first_fault, cases_fault, member_lines_fault, members_fault, storeys_fault, trailing, lines_fault, survey_fault}
use Rattle.records.specs.declared.Header.{Header}
use Rattle.records.specs.declared.Kind.{Kind}
use Rattle.records.specs.declared.Kind.TheVariants.{B, D}

pick-most : (t : Bool) (a b n : ℕ) → a ≤ n → b ≤ n → pick t a b ≤ n
pick-most true a b n h g = h
pick-most false a b n h g = g

data Most (n : ℕ) : List ℕ → Type 0 where
  no : Most n []
  and : {a : ℕ} {l : List ℕ} → a ≤ n → Most n l → Most n (a ∷ l)

order-most : (n : ℕ) {l : List ℕ} → Most n l → in_order l ≤ n
order-most n no = omega arith
order-most n (and {a} {l} h m) = pick-most (eqb a 0) (in_order l) a n (order-most n m) h

either-most : {A : Type 0} (number : A → ℕ) (n : ℕ) (t : Bool) (a b : A) → number a ≤ n → number b ≤ n → number (pick t a b) ≤ n
either-most number n true a b h g = h
either-most number n false a b h g = g

first-most : {A : Type 0} (n : ℕ) (nil : A) (number : A → ℕ) (f : ℕ → A) (k : ℕ) → number nil ≤ n → ((j : ℕ) → number (f j) ≤ n) → number (first nil number f k) ≤ n
unfolding first
first-most n nil number f zero h g = h
first-most n nil number f (suc k) h g = either-most number n (eqb (number (first nil number f k)) 0) (f k) (first nil number f k) (g k) (first-most n nil number f k h g)

-- ---- of each check
in-most : (o : Option ℕ) (a : Allowed) → fault_in o a ≤ 12
in-most (Some v) a = pick-most (allows a v) 0 3 12 (omega arith) (omega arith)
in-most None a = omega arith

fields-most : (kind : Kind) (s : List ℕ) (at : ℕ) → fields_fault kind s at ≤ 12
unfolding field_fault
fields-most kind s at = first-most 12 0 (λ r. r) (field_fault kind s at) (fields kind) (omega arith) (λ j. in-most (field_at kind s at j) _)

shape-most : (kind : Kind) (s : List ℕ) (at : ℕ) → shape kind s at ≤ 12
shape-most kind s at = pick-most (shaped kind (drop at s)) 0 1 12 (omega arith) (omega arith)

header-most : (h : Header) → header_fault h ≤ 12
unfolding header_fault
header-most h =
    pick-most (line_in_range B (header_values h) && known_form h.form) _ 3 12 (pick-most (leb h.height 30_000 && leb h.storeys 10) 0 7 12 (omega arith) (omega arith)) (omega arith)

row-most : (k rows : ℕ) → unheld k rows ≤ 12
row-most k rows = pick-most (ltb k rows) 0 8 12 (omega arith) (omega arith)

sides-most : (short long : ℕ) → sides_fault short long ≤ 12
sides-most short long = pick-most (leb short long) 0 4 12 (omega arith) (omega arith)

repeated-most : (number : ℕ → ℕ) (k : ℕ) → repeated number k ≤ 12
repeated-most number k = pick-most (any_below (λ e. eqb (number e) (number k)) k) 5 0 12 (omega arith) (omega arith)

case-number-most : (number c : ℕ) → case_number_fault number c ≤ 12
case-number-most number c = pick-most (eqb number (c + 1)) 0 12 12 (omega arith) (omega arith)

-- ---- of each line
header-line-most : (s : List ℕ) → header_line_fault s ≤ 12
unfolding header_line_fault
header-line-most s = order-most 12 (and (shape-most B s 0) (and (fields-most B s 0) (and (header-most (header_at (form_of s) s 0)) no)))

case-line-most : (s : List ℕ) (at c : ℕ) → case_line_fault s at c ≤ 12
unfolding case_line_fault
case-line-most s at c = order-most 12 (and (shape-most D s at) (and (fields-most D s at) (and (case-number-most (value_at D s at 0) c) no)))

module _ (form : ℕ) (s : List ℕ) where
  storey-line-most : (rows i : ℕ) → storey_line_fault form s rows i ≤ 12
  unfolding storey_line_fault
  storey-line-most rows i =
      let at = line_start form i (members_before form s i) in
      order-most 12 (and (shape-most (storey_kind form) s at) (and (row-most i rows) (and (fields-most (storey_kind form) s at) (and (repeated-most (λ e. (storey form s e).number) i) no))))

  member-line-most : (rows i j : ℕ) → member_line_fault form s rows i j ≤ 12
  unfolding member_line_fault
  member-line-most rows i j =
      let at = member_start form s i j in
      order-most 12
      (and (shape-most (member_kind form) s at) (and (row-most (members_before form s i + j) rows) (and (fields-most (member_kind form) s at)
      (and (sides-most (member form s i j).short (member form s i j).long) (and (repeated-most (λ e. (member form s i e).number) j) no)))))

line-most : (l r : ℕ) → r ≤ 12 → (at-line l r).number ≤ 12
line-most l r h = either-most (λ (f : Fault). f.number) 12 (eqb r 0) no_fault (record { number = r; line = l }) (omega arith) h

else-most : (f g : Fault) → f.number ≤ 12 → g.number ≤ 12 → (or_else f g).number ≤ 12
else-most f g h k = either-most (λ (f : Fault). f.number) 12 (eqb f.number 0) g f k h

faults-most : (f : ℕ → Fault) (n : ℕ) → ((j : ℕ) → (f j).number ≤ 12) → (first_fault f n).number ≤ 12
faults-most f n h = first-most 12 no_fault (λ f. f.number) f n (omega arith) h

-- ---- of the lines after the B line
module _ (form : ℕ) (s : List ℕ) (srows mrows : ℕ) where
  cases-most : (at line : ℕ) → (cases_fault form s at line).number ≤ 12
  unfolding cases_fault
  cases-most at line = faults-most _ (case_lines form) (λ c. line-most (line + 1 + c) _ (case-line-most s (case_start at c) c))

  member-lines-most : (i j : ℕ) → (member_lines_fault form s mrows i j).number ≤ 12
  unfolding member_lines_fault
  member-lines-most i j = else-most _ _ (line-most _ _ (member-line-most form s mrows i j)) (cases-most (member_start form s i j) _)

  storeys-most : (i : ℕ) → (storeys_fault form s srows mrows i).number ≤ 12
  unfolding storeys_fault members_fault
  storeys-most i = else-most _ _ (line-most _ _ (storey-line-most form s srows i)) (faults-most _ (storey form s i).count (member-lines-most i))

  lines-most : (n : ℕ) → (lines_fault form s srows mrows n).number ≤ 12
  lines-most n =
      else-most _ (trailing form s n) (faults-most (storeys_fault form s srows mrows) n storeys-most)
      (either-most (λ (f : Fault). f.number) 12 (ltb (line_start form n (members_before form s n)) (length s)) (record { number = 6; line = line_number form n (members_before form s n) }) no_fault (omega arith) (omega arith))

-- ---- of a file
pub fault-most : (s : List ℕ) (srows mrows : ℕ) → (survey_fault s srows mrows).number ≤ 12
unfolding survey_fault
fault-most s srows mrows =
    else-most (at-line 1 (header_line_fault s)) _ (line-most 1 (header_line_fault s) (header-line-most s)) (lines-most (form_of s) s srows mrows (header_at (form_of s) s 0).count)
