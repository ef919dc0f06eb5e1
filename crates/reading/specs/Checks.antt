-- What the checks of a line answer, and what a file's lines are while they are checked and read: for the proofs of inner functions.
use Rattle.std.specs.Prelude.{ℕ, ◌+◌, ◌≤◌, ◌<◌, length, get_or, eqb, Bool, List, [], ◌∷◌, ◌++◌, ◌≡◌}
use Rattle.records.specs.Notation.{pick, in_order, any_below}
use Rattle.records.specs.Records.{storey_kind, member_kind, sides_fault}
use Rattle.format.specs.Lines.{value_at, fields_fault, line_size, storey_at, case_start, case_lines}
use Rattle.reading.specs.Survey.{line_start, members_before, storey, shape}
use Rattle.records.specs.declared.Kind.{Kind}
use Rattle.reading.specs.declared.place.Place.{Place}
use Rattle.records.specs.declared.Kind.TheVariants.{D}

-- where the line at a place begins
abbrev pub start_of : ℕ → Place → ℕ
start_of form place = line_start form place.storeys place.members

-- the refusals of a line by its shape, its row and its fields, and the first of them
abbrev pub line_faults : Kind → List ℕ → ℕ → Bool → List ℕ
line_faults kind s at held = shape kind s at ∷ pick held 0 8 ∷ fields_fault kind s at ∷ []

abbrev pub line_first : Kind → List ℕ → ℕ → Bool → ℕ
line_first kind s at held = in_order (line_faults kind s at held)

-- 5 where a number is one of those before it
abbrev pub repeats : List ℕ → ℕ → ℕ
repeats before number = pick (any_below (λ e. eqb (get_or before e 0) number) (length before)) 5 0

-- the first refusal of an S line and of an M line, after lines that have the numbers `before`
abbrev pub storey_first : ℕ → List ℕ → ℕ → Bool → List ℕ → ℕ
storey_first form s at held before = in_order (line_faults (storey_kind form) s at held ++ (repeats before (storey_at form s at).number ∷ []))

abbrev pub member_first : ℕ → List ℕ → ℕ → Bool → List ℕ → ℕ
member_first form s at held before =
    in_order
    (line_faults (member_kind form) s at held
    ++ (sides_fault (value_at (member_kind form) s at 2) (value_at (member_kind form) s at 1) ∷ repeats before (value_at (member_kind form) s at 0) ∷ []))

-- m M lines stand before storey i, which has `count` members
pub record MembersDue (form : ℕ) (s : List ℕ) (i m count : ℕ) : Type 0 where
  pub storeys : i < 10
  pub before : m ≡ members_before form s i
  pub most : m + count ≤ 2_000
  pub held : count ≡ (storey form s i).count
  pub count_most : count ≤ 200

-- a line lies within the file, and no field of it is refused
pub record Sound (kind : Kind) (s : List ℕ) (at : ℕ) : Type 0 where
  pub lies : at + line_size kind ≤ length s
  pub written : fields_fault kind s at ≡ 0

-- so do an M line and its D lines
pub record MemberSound (form : ℕ) (s : List ℕ) (at : ℕ) : Type 0 where
  pub line : Sound (member_kind form) s at
  pub cases : (c : ℕ) → c < case_lines form → Sound D s (case_start at c)

-- so do the first `count` M lines of storey i, before which stand m
abbrev pub MembersSound : ℕ → List ℕ → ℕ → ℕ → ℕ → Type 0
MembersSound form s i m count = (j : ℕ) → j < count → MemberSound form s (line_start form (i + 1) (m + j))

-- the lines of the first n storeys are so, and their counts are small
pub record Fits (form : ℕ) (s : List ℕ) (n : ℕ) : Type 0 where
  pub storeys : n ≤ 10
  pub counts : (i : ℕ) → i < n → (storey form s i).count ≤ 200
  pub lines : (i : ℕ) → i < n → Sound (storey_kind form) s (line_start form i (members_before form s i))
  pub members : (i : ℕ) → i < n → MembersSound form s i (members_before form s i) (storey form s i).count
