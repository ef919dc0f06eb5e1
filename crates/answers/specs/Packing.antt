-- The refusal of an answer as a number, for other languages.
use Rattle.std.specs.Prelude.{ℕ, ◌+◌, ◌*◌}
use Rattle.members.specs.Finding.{Returned}

-- refusal and line in one number
abbrev pub packing : ℕ → ℕ → ℕ
packing number line = number + 256 * line

-- of an answer; 0 where accepted
abbrev pub packed : Returned → ℕ
packed r = packing r.refusal r.line
