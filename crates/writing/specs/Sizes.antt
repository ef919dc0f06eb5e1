-- A file's size by its rows: for the proofs of inner functions.
use Rattle.std.specs.Prelude.{ℕ, ◌+◌, ◌*◌}
use Rattle.records.specs.declared.Kind.TheVariants.{B}
use Rattle.records.specs.Records.{storey_kind}
use Rattle.format.specs.Lines.{line_size, member_size}

-- the size of a file of a form, of so many storeys and members
abbrev pub file_size : ℕ → ℕ → ℕ → ℕ
file_size form storeys members = line_size B + line_size (storey_kind form) * storeys + member_size form * members
