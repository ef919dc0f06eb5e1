-- A survey as a file (document 02, N1: "Write a loaded survey as a file in the house columns"; N3: in the form that its header tells; document 01, "The survey record").
use Rattle.std.specs.Prelude.{◌∷◌, ◌++◌}
use Rattle.records.specs.Notation.{ℕ, List, [], take, drop}
use Rattle.records.specs.declared.Kind.TheVariants.{B}
use Rattle.records.specs.Records.{storey_kind, header_values, storey_values}
use Rattle.checks.specs.Rows.{Storey, Member, Survey}
use Rattle.format.specs.Text.{line_text, member_text}

-- the lines of some members
unfoldable pub members_text : ℕ → List Member → List ℕ
members_text form [] = []
members_text form (m ∷ ms) = member_text form m ++ members_text form ms

-- a storey's S line, followed by the lines of its members
unfoldable pub storey_text : ℕ → Storey → List Member → List ℕ
storey_text form st ms = line_text (storey_kind form) (storey_values form st) ++ members_text form ms

-- the storeys in turn, each with as many as it counts from the front of the members that are left
unfoldable pub storeys_text : ℕ → List Storey → List Member → List ℕ
storeys_text form [] ms = []
storeys_text form (st ∷ ss) ms = storey_text form st (take st.count ms) ++ storeys_text form ss (drop st.count ms)

-- "one B, then each S followed by its M lines, then nothing"
unfoldable pub file_text : Survey → List ℕ
file_text a = line_text B (header_values a.header) ++ storeys_text a.header.form a.storeys a.members
