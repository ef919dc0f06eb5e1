-- The lines of a storey in one load case: how long they are, one member after another, and the storey's own line after them.
use Prim.Native.Nat.{ℕ, zero, suc, ◌+◌, ◌*◌, ◌≤◌, ◌<◌}
use native.Mathlib.Omega.{arith}
use native.Mathlib.Nat.{mul-le-mul_left}
use mathlib.Core.Bool.{Bool, true, false}
use mathlib.Core.List.{List, [], ◌∷◌, ◌++◌}
use mathlib.Core.Path.{◌≡◌, refl, ◌∙◌}
use lib.ListN.{length, drop, length-append, length-drop, drop_of_length-le}
use Rattle.std.proofs.lemmas.List.{drop_more}
use Rattle.records.specs.Notation.{pick}
use Rattle.records.specs.Blank.{no_member}
use Rattle.records.specs.Records.{in_cases, case_count, shear_of, storey_fault, in_case}
use Rattle.records.specs.declared.Storey.{Storey}
use Rattle.records.specs.declared.Member.{Member}
use Rattle.members.specs.Finding.{finding}
use Rattle.members.specs.declared.finding.Finding.{Finding}
use Rattle.totals.specs.declared.StoreyFinding.{StoreyFinding}
use Rattle.storeys.specs.Storey.{published_rules, meets_wall_share, finding_in}
use Rattle.storeys.specs.Rows.{Rows}
use Rattle.storeys.specs.Tally.{walls_suffice_of}
use Rattle.storeys.proofs.Called.{walls-are}
use Rattle.checks.specs.Rows.{member_in}
use Rattle.columns.specs.Line.{line, sheet_line_size}
use Rattle.columns.proofs.Stamps.{length-line}
use Rattle.columns.proofs.Written.{same_room}
use Rattle.columns.specs.Writer.{HasRoom, Written}
use Rattle.columns.specs.declared.writer.ColumnWriter.{ColumnWriter}
use Rattle.report.specs.Sheet.{member_line, storey_line, building_line, member_lines, case_lines, cases_lines}
use Rattle.report.specs.Printing.{member_line_size, storey_line_size, building_line_size, case_size}

-- ---- lengths
length-first : (t : Bool) (tag : ℕ) (a b : List ℕ) → length (line (tag ∷ []) (pick t a b)) ≡ sheet_line_size (pick t (length a) (length b))
length-first true tag a b = omega (arith, length-line (tag ∷ []) a)
length-first false tag a b = omega (arith, length-line (tag ∷ []) b)

length-member-line : (form c number : ℕ) (f : Finding) → length (member_line form c number f) ≡ member_line_size form
unfolding member_line
length-member-line form c number f = length-first (in_cases form) 77 _ _

length-storey-line : (form c number : ℕ) (f : StoreyFinding) → length (storey_line form c number f) ≡ storey_line_size form
unfolding storey_line
length-storey-line form c number f = length-first (in_cases form) 83 _ _

pub length-building-line : (tilt risky : Bool) → length (building_line tilt risky) ≡ building_line_size
unfolding building_line
length-building-line tilt risky = length-line (66 ∷ []) _

length-member-lines : (form k : ℕ) (met : Bool) (c : ℕ) (ms : List Member) → length (member_lines form k met c ms) ≡ member_line_size form * length ms
unfolding member_lines
length-member-lines form k met c [] = omega arith
length-member-lines form k met c (m ∷ ms) =
    let f = finding k met (in_case c m) in
    omega (arith, length-append (member_line form c m.number f) (member_lines form k met c ms), length-member-line form c m.number f, length-member-lines form k met c ms)

module _ (form k : ℕ) (s : Storey) (ms : List Member) where
  length-case-lines : (c : ℕ) → length (case_lines form k s ms c) ≡ case_size form 1 (length ms)
  unfolding case_lines
  length-case-lines c = omega (arith, length-append {A = ℕ}, length-member-lines, length-storey-line)

  pub length-cases-lines : (c n : ℕ) → length (cases_lines form k s ms c n) ≡ n * case_size form 1 (length ms)
  unfolding cases_lines
  length-cases-lines c zero = omega arith
  length-cases-lines c (suc n) =
      omega (arith, length-append (case_lines form k s ms c) (cases_lines form k s ms (suc c) n), length-case-lines c, length-cases-lines (suc c) n)

-- ---- room by these lengths, whatever is found: for a member's line, for the members' lines, and for the storey's line after them
pub member-room : (form k : ℕ) (met : Bool) (c : ℕ) (rows : List Member) (j number : ℕ) (f : Finding) (w : ColumnWriter) → j < length rows
    → HasRoom (length (member_lines form k met c (drop j rows))) w → HasRoom (length (member_line form c number f)) w
member-room form k met c rows j number f w h room =
    let l : 1 ≤ length (drop j rows) = omega (arith, length-drop j rows) in
    omega (arith, room, length-member-lines form k met c (drop j rows), length-member-line form c number f, mul-le-mul_left (member_line_size form) l)

module _ (form k : ℕ) (s : Storey) (rows : List Member) (met : Bool) (c : ℕ) (a : ColumnWriter) (room : HasRoom (length (case_lines form k s rows c)) a) where
  pub members-room : HasRoom (length (member_lines form k met c rows)) a
  members-room = omega (arith, room, length-case-lines form k s rows c, length-member-lines form k met c rows)

  pub storey-room : (number : ℕ) (f : StoreyFinding) (b : ColumnWriter) → Written (member_lines form k met c rows) a b → HasRoom (length (storey_line form c number f)) b
  storey-room number f b w =
      omega (arith, room, w.at, same_room _ a b w, length-case-lines form k s rows c, length-member-lines form k met c rows, length-storey-line form c number f)

-- ---- the lines of the members from the one at j on
module _ (form k : ℕ) (met : Bool) (c : ℕ) (rows : List Member) (j : ℕ) where
  pub members-left : (m : Member) (f : Finding) → j < length rows → m ≡ member_in rows j → f ≡ finding k met (in_case c m)
      → member_lines form k met c (drop j rows) ≡ member_line form c m.number f ++ member_lines form k met c (drop (j + 1) rows)
  unfolding member_lines
  members-left m f h d e = rw (drop_more rows j no_member h, ← d, ← e) refl

  pub members-end : length rows ≤ j → member_lines form k met c (drop j rows) ≡ []
  unfolding member_lines
  members-end h = rw (drop_of_length-le rows h) refl

-- ---- a good storey in a case: its members' lines, then its own
pub case-parts : (form k : ℕ) (s : Storey) (rows : List Member) (c x : ℕ) (met : Bool) → storey_fault form s ≡ 0 → Rows form rows → c < case_count form → x ≡ shear_of c s → met ≡ walls_suffice_of c x rows
    → case_lines form k s rows c ≡ member_lines form k met c rows ++ storey_line form c s.number (finding_in published_rules k s rows c)
unfolding case_lines
case-parts form k s rows c x met good held i p w =
    let e : met ≡ meets_wall_share c (shear_of c s) rows = (rw p at w) ∙ walls-are form c i rows held s good in
    rw e refl
