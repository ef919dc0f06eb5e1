-- Bytes put in the place of others: what a writer of columns promises of the bytes lent to it.
use Rattle.std.specs.Prelude.{ℕ, ◌+◌, List, [], ◌∷◌, ◌≡◌, leb, length, take, drop, set}
use Rattle.records.specs.Notation.{pick}

-- the bytes with others in the place of those from `at` on
unfoldable pub stamped : List ℕ → ℕ → List ℕ → List ℕ
stamped bytes at [] = bytes
stamped bytes at (x ∷ xs) = stamped (set bytes at x) (at + 1) xs

-- a text put into some bytes from `at` on; where it does not fit, all as they were
abbrev pub put_at : List ℕ → ℕ → List ℕ → List ℕ
put_at text at bytes = pick (leb (at + length text) (length bytes)) (stamped bytes at text) bytes

-- the place after it; where it does not fit, the same place
abbrev pub place_after : List ℕ → ℕ → ℕ → ℕ
place_after text at room = pick (leb (at + length text) room) (at + length text) at

-- every byte before the columns from `at` on, and every byte after them, is as it was
pub record KeptOutside (at width : ℕ) (before after : List ℕ) : Type 0 where
  pub left : take at after ≡ take at before
  pub right : drop (at + width) after ≡ drop (at + width) before
