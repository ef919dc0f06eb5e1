-- The line of one record, put where it has room.
use Prim.Native.Nat.{ℕ}
use mathlib.Core.Bool.{Bool, true, false}
use mathlib.Core.List.{List}
use mathlib.Core.Path.{◌≡◌, refl}
use lib.ListN.{length}
use Rattle.std.specs.Int.{from_bool}
use Rattle.members.specs.Finding.{flag}
use Rattle.columns.specs.Writer.{HasRoom, Written, WrittenIfRoom}
use Rattle.columns.specs.declared.writer.ColumnWriter.{ColumnWriter}
use Rattle.columns.proofs.Written.{has-room}

pub flag_is : (b : Bool) → from_bool b ≡ flag b
flag_is true = refl
flag_is false = refl

pub line_put : (t text : List ℕ) (a b : ColumnWriter) → t ≡ text → HasRoom (length text) a → WrittenIfRoom t a b → Written text a b
line_put t text a b e h w = has-room text a b h (rw e at w)
