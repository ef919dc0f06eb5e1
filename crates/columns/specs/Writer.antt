-- What the methods of a writer of columns promise of its bytes and its place.
use Rattle.std.specs.Prelude.{ℕ, ◌+◌, ◌≤◌, List, ◌≡◌, length}
use Rattle.columns.specs.Bytes.{stamped, put_at, place_after}
use Rattle.columns.specs.declared.writer.ColumnWriter.{ColumnWriter}

-- so many bytes fit from the place on
abbrev pub HasRoom : ℕ → ColumnWriter → Type 0
HasRoom size w = w.at + size ≤ length w.bytes.now

-- a text is put from the place on, into the same lent bytes, and the place is after it
pub record Written (text : List ℕ) (before after : ColumnWriter) : Type 0 where
  pub same_bytes : after.bytes.ghost_name ≡ before.bytes.ghost_name
  pub bytes : after.bytes.now ≡ stamped before.bytes.now before.at text
  pub at : after.at ≡ before.at + length text

-- the same where the text fits; else bytes and place are as they were
pub record WrittenIfRoom (text : List ℕ) (before after : ColumnWriter) : Type 0 where
  pub same_bytes : after.bytes.ghost_name ≡ before.bytes.ghost_name
  pub bytes : after.bytes.now ≡ put_at text before.at before.bytes.now
  pub at : after.at ≡ place_after text before.at (length before.bytes.now)
