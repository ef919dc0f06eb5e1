-- A line of the printed sheet (document 01, "The printed sheet": "Tag, then fields of 12 columns written likewise"), and a text put from the front of some bytes. A number
-- wider than its field shows its last 12 digits.
use Rattle.std.specs.Prelude.{◌+◌, ◌*◌, ◌∷◌, ◌++◌}
use Rattle.records.specs.Notation.{ℕ, List, [], leb, length, drop, pick}
use Rattle.format.specs.Spelling.{spelled}

-- numbers in fields of 12 columns, one after another
unfoldable pub printed_numbers : List ℕ → List ℕ
printed_numbers [] = []
printed_numbers (n ∷ ns) = spelled 12 32 n ++ printed_numbers ns

-- a line: its tag, its fields, LF
unfoldable pub line : List ℕ → List ℕ → List ℕ
line tag ns = tag ++ (printed_numbers ns ++ (10 ∷ []))

-- how many bytes a line of n fields takes whose tag is one byte
abbrev pub sheet_line_size : ℕ → ℕ
sheet_line_size n = 2 + 12 * n

-- a text put from the front of some bytes, those after it as they were; where it does not fit, all as they were
abbrev pub at_front : List ℕ → List ℕ → List ℕ
at_front text bytes = pick (leb (length text) (length bytes)) (text ++ drop (length text) bytes) bytes

-- how many bytes are put then
abbrev pub put_length : List ℕ → ℕ → ℕ
put_length text room = pick (leb (length text) room) (length text) 0
