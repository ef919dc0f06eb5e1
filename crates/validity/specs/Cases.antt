-- The cases of a member, each by its own fields: for the proofs of inner functions.
use Rattle.std.specs.Prelude.{◌∷◌}
use Rattle.records.specs.Notation.{ℕ, Bool, List, ltb, get_or, pick}
use Rattle.records.specs.declared.{LoadCase.LoadCase, Kind.TheVariants.D}
use Rattle.records.specs.Records.{case_count, line_in_range, case_values, is_blank, no_case}

-- case c of a form, counted from 0: its fields are in their ranges, as those of a D line, or it holds what a case does that the form lacks
abbrev pub case_good : ℕ → ℕ → LoadCase → Bool
case_good form c k = pick (ltb c (case_count form)) (line_in_range D (1 ∷ case_values k)) (is_blank k)

abbrev pub case_alone : ℕ → List LoadCase → ℕ → Bool
case_alone form ks c = case_good form c (get_or ks c no_case)
