-- What the fields of a line give, one after another.
use Rattle.std.specs.Prelude.{ℕ, ◌≡◌, ◌+◌, ◌-◌, ◌<◌, ◌≤◌, Option, Some, None, Result, ok_or}
use Rattle.records.specs.Records.{fields}
use Rattle.records.specs.declared.refusal.Refusal.{Refusal, TheVariants.Spelling}
use Rattle.format.specs.Lines.{field_at}
use Rattle.format.specs.declared.line_fields.Fields.{Fields}

abbrev pub fields_left : Fields → ℕ
fields_left f = fields f.held.line.kind - f.j

-- the next field with its place, or none
abbrev pub GivesField : Fields → Option (ℕ × Result ℕ Refusal) → Fields → Type 0
GivesField old None new = (fields old.held.line.kind ≤ old.j) × (new ≡ old)
GivesField old (Some item) new =
    (old.j < fields old.held.line.kind) × (item.0 ≡ old.j) × (item.1 ≡ ok_or (field_at old.held.line.kind old.held.line.file.now old.held.line.at old.j) Spelling)
    × (new.held.line ≡ old.held.line) × (new.j ≡ old.j + 1)
