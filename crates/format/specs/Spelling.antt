-- The spelling of a number in columns (document 01, "The survey record": right-justified, blanks to its left, no leading zero).
-- A byte is its number: 32 is the blank, 45 the minus, 48 to 57 the digits, 10 the LF.
use Rattle.std.specs.Prelude.{◌+◌, ◌-◌, ◌*◌, ◌/◌, ◌%◌, ◌&&◌, ◌∷◌, Option, Some, None}
use Rattle.records.specs.Notation.{ℕ, zero, suc, Bool, true, false, List, [], leb, ltb, eqb, get_or, pick}
use Rattle.records.specs.Records.{zero_force}

-- column j of n, counted from the right: the last holds the units; a number below ten has its sign directly before it and blanks
-- before that; any other goes on with its tenth
unfoldable pub column : ℕ → ℕ → ℕ → ℕ
column sign n zero = 48 + n % 10
column sign n (suc j) = pick (ltb n 10) (pick (eqb j 0) sign 32) (column sign (n / 10) j)

-- n in w columns. The sign is 32 or 45
unfoldable pub spelled : ℕ → ℕ → ℕ → List ℕ
spelled zero sign n = []
spelled (suc w) sign n = column sign n w ∷ spelled w sign n

-- two lists of bytes are the same
unfoldable pub same : List ℕ → List ℕ → Bool
same [] [] = true
same [] (b ∷ bs) = false
same (a ∷ as') [] = false
same (a ∷ as') (b ∷ bs) = eqb a b && same as' bs

-- the number that the digits among some bytes make, after the number v. Other bytes are passed over here: `written` spells the number again and compares
abbrev pub pushed : ℕ → ℕ → ℕ
pushed v b = pick (leb 48 b && leb b 57) (v * 10 + (b - 48)) v

unfoldable pub value : ℕ → List ℕ → ℕ
value v [] = v
value v (b ∷ bs) = value (pushed v b) bs

-- a field's eight columns are the spelling of a number with this sign, the first column blank
unfoldable pub written : ℕ → List ℕ → Bool
written sign t = eqb (get_or t 0 0) 32 && same t (spelled 8 sign (value 0 t))

-- a number with a minus, counted from zero_force: "never before 0"
unfoldable pub minus_of : List ℕ → Option ℕ
minus_of t = pick (written 45 t && ltb 0 (value 0 t)) (Some (zero_force - value 0 t)) None

-- the number that a field holds, if it is written as it must be. A minus may stand only in N_D and N_K
unfoldable pub field_of : Bool → List ℕ → Option ℕ
field_of false t = pick (written 32 t) (Some (value 0 t)) None
field_of true t = pick (written 32 t) (Some (zero_force + value 0 t)) (minus_of t)
