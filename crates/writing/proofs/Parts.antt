-- The texts of a survey file part by part, as they are put.
use Prim.Native.Nat.{ℕ, suc, ◌+◌, ◌-◌, ◌≤◌, ◌<◌}
use native.Mathlib.Omega.{arith}
use native.Mathlib.Numerals.{add-one}
use mathlib.Core.Bool.{Bool, true, false}
use mathlib.Core.List.{List, [], ◌∷◌, ◌++◌, append_assoc, append-nil}
use mathlib.Core.Path.{◌≡◌, refl}
use lib.ListN.{length, drop, get_or, drop_of_length-le}
use borrow.Author.Tests.{le-leb, lt-leb}
use Rattle.std.proofs.lemmas.List.{drop_more}
use Rattle.records.specs.Forms.{form_number}
use Rattle.records.specs.declared.form.Form.{Form, TheVariants.Old, TheVariants.FourCases}
use Rattle.records.specs.Blank.{no_member}
use Rattle.records.specs.Records.{Survey, zero_force, storey_kind, header_values, storey_values, member_values}
use Rattle.records.specs.declared.Member.{Member}
use Rattle.records.specs.declared.Kind.{Kind}
use Rattle.records.specs.declared.Kind.TheVariants.{B, M, M4, D}
use Rattle.checks.specs.Rows.{member_in}
use Rattle.checks.specs.RowsInTurn.{storeys_left, members_left, GivesStorey}
use Rattle.checks.specs.declared.storey_rows.StoreyRows.{StoreyRows}
use Rattle.checks.proofs.RowsInTurn.{Given}
use Rattle.std.specs.Prelude.{Some}
use Rattle.format.specs.Spelling.{spelled}
use Rattle.format.specs.Lines.{tag_byte, is_force}
use Rattle.format.specs.Text.{field_text, fields_text, line_text, member_line, case_line, cases_text, member_text}
use Rattle.columns.specs.Writer.{HasRoom, Written, WrittenIfRoom}
use Rattle.columns.specs.declared.writer.ColumnWriter.{ColumnWriter}
use Rattle.columns.proofs.Written.{Remaining, has-room, both-written, part-put, part-fits, first-fits, after-fits}
use Rattle.writing.specs.File.{members_text, storey_text, storeys_text, file_text}

-- ---- a number in its 8 columns
module _ (force : Bool) (v : ℕ) (a b : ColumnWriter) (room : HasRoom (length (field_text force v)) a) where
  field-by : (text : List ℕ) → field_text force v ≡ text → WrittenIfRoom text a b → Written (field_text force v) a b
  field-by text e w = rw e (has-room text a b (rw e at room) w)

  pub number_put : force ≡ false → WrittenIfRoom (spelled 8 32 v) a b → Written (field_text force v) a b
  unfolding field_text
  number_put e w = field-by (spelled 8 32 v) (rw e) w

  pub compression-put : force ≡ true → zero_force ≤ v → WrittenIfRoom (spelled 8 32 (v - zero_force)) a b → Written (field_text force v) a b
  unfolding field_text
  compression-put e h w = field-by (spelled 8 32 (v - zero_force)) (rw (e, le-leb zero_force v h)) w

  pub tension-put : force ≡ true → v < zero_force → WrittenIfRoom (spelled 8 45 (zero_force - v)) a b → Written (field_text force v) a b
  unfolding field_text
  tension-put e h w = field-by (spelled 8 45 (zero_force - v)) (rw (e, lt-leb zero_force v h)) w

-- ---- the fields of a line, one by one
pub fields-next : (kind : Kind) (vs : List ℕ) (j : ℕ) → j < length vs → fields_text kind j (drop j vs) ≡ field_text (is_force kind j) (get_or vs j 0) ++ fields_text kind (j + 1) (drop (j + 1) vs)
unfolding fields_text
fields-next kind vs j h = rw (drop_more vs j 0 h, add-one j)

pub fields-end : (kind : Kind) (vs : List ℕ) (j : ℕ) → length vs ≤ j → fields_text kind j (drop j vs) ≡ []
unfolding fields_text
fields-end kind vs j h = rw (drop_of_length-le vs h)

-- ---- tag, fields and LF are a line
module _ (kind : Kind) (vs : List ℕ) (a b : ColumnWriter) (room : HasRoom (length (line_text kind vs)) a) (tag : ℕ) (is : tag ≡ tag_byte kind) (put : WrittenIfRoom (tag ∷ []) a b) where
  tag-room : HasRoom (length ((tag ∷ []) ++ (fields_text kind 0 vs ++ (10 ∷ [])))) a
  unfolding line_text
  tag-room = room

  tag-put : Written (tag ∷ []) a b
  tag-put = has-room (tag ∷ []) a b (part-fits (tag ∷ []) (fields_text kind 0 vs ++ (10 ∷ [])) a tag-room) put

  after-tag : HasRoom (length (fields_text kind 0 vs ++ (10 ∷ []))) b
  after-tag = after-fits (tag ∷ []) (fields_text kind 0 vs ++ (10 ∷ [])) a b tag-room tag-put

  pub fields-fit : HasRoom (length (fields_text kind 0 vs)) b
  fields-fit = part-fits (fields_text kind 0 vs) (10 ∷ []) b after-tag

  pub line-put : (c d : ColumnWriter) → Written (fields_text kind 0 vs) b c → WrittenIfRoom (10 ∷ []) c d → Written (line_text kind vs) a d
  unfolding line_text
  line-put c d f e =
      rw is at
      (both-written (tag ∷ []) (fields_text kind 0 vs ++ (10 ∷ [])) a b d tag-put
      (both-written (fields_text kind 0 vs) (10 ∷ []) b c d f (has-room (10 ∷ []) c d (after-fits (fields_text kind 0 vs) (10 ∷ []) b c after-tag f) e)))

-- ---- the D lines of a member, one by one
module _ (m : Member) where
  pub cases_next : (n c : ℕ) → c < n → cases_text m c (n - c) ≡ line_text D (case_line m c) ++ cases_text m (c + 1) (n - (c + 1))
  unfolding cases_text
  cases_next n c h = let less : n - c ≡ suc (n - (c + 1)) = omega arith in rw (less, add-one c)

  pub cases_end : (n c : ℕ) → n ≤ c → cases_text m c (n - c) ≡ []
  unfolding cases_text
  cases_end n c h = let none : n - c ≡ 0 = omega arith in rw none

  -- ---- the lines of a member, in each form
  pub old-parts : (form : Form) → form ≡ Old → member_text (form_number form) m ≡ line_text M (member_line 1 m)
  unfolding member_text cases_text
  old-parts form e = rw e (append-nil (line_text M (member_line 1 m)))

  pub four-parts : (form : Form) → form ≡ FourCases → member_text (form_number form) m ≡ line_text M4 (member_values m) ++ cases_text m 0 4
  unfolding member_text
  four-parts form e = rw e

-- ---- the members, one by one
module _ (form : ℕ) where
  pub members-next : (ms : List Member) (j : ℕ) → j < length ms → members_text form (drop j ms) ≡ member_text form (member_in ms j) ++ members_text form (drop (j + 1) ms)
  unfolding members_text
  members-next ms j h = rw (drop_more ms j no_member h)

  pub members-end : (ms : List Member) (j : ℕ) → length ms ≤ j → members_text form (drop j ms) ≡ []
  unfolding members_text
  members-end ms j h = rw (drop_of_length-le ms h)

-- ---- no storey is left
pub storeys-end : (form : ℕ) (rows : StoreyRows) → storeys_left rows ≡ [] → storeys_text form (storeys_left rows) (members_left rows) ≡ []
unfolding storeys_text
storeys-end form rows e = rw e

-- ---- a storey and its members, of the storeys whose text is left
module _ (form : ℕ) (rows later : StoreyRows) (given : Given) (gives : GivesStorey rows (Some given) later) where
  abbrev first_line : List ℕ
  first_line = line_text (storey_kind form) (storey_values form given.0.now)

  abbrev own : List ℕ
  own = members_text form given.1.now

  abbrev others : List ℕ
  others = storeys_text form (storeys_left later) (members_left later)

  storeys-next : storeys_text form (storeys_left rows) (members_left rows) ≡ first_line ++ (own ++ others)
  unfolding storeys_text storey_text
  storeys-next = rw (gives.0, gives.1, gives.2) (simp append_assoc)

  module _ (whole : List ℕ) (a b : ColumnWriter) (room : HasRoom (length whole) a) (now : Remaining (storeys_text form (storeys_left rows) (members_left rows)) whole a b) where
    storey-left : Remaining (first_line ++ (own ++ others)) whole a b
    storey-left = rw storeys-next at now

    pub storey-fits : HasRoom (length first_line) b
    storey-fits = first-fits first_line (own ++ others) whole a b room storey-left

    module _ (c : ColumnWriter) (put : Written first_line b c) where
      members-left : Remaining (own ++ others) whole a c
      members-left = part-put first_line (own ++ others) whole a b c storey-left put

      pub members-fit : HasRoom (length own) c
      members-fit = first-fits own others whole a c room members-left

      pub storey-put : (d : ColumnWriter) → Written own c d → Remaining others whole a d
      storey-put d w = part-put own others whole a c d members-left w

-- ---- the file
pub file-parts : (a : Survey) → file_text a ≡ line_text B (header_values a.header) ++ storeys_text a.header.form a.storeys a.members
unfolding file_text
file-parts a = refl
