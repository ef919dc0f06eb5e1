-- The number that the generator computes from the columns of a table: those at and after the place, each weighed by the distance to the other.
use Rattle.std.specs.Prelude.{◌+◌, ◌-◌, ◌*◌, ◌/◌}
use Rattle.records.specs.Notation.{ℕ, min, List, [], get_or}

unfoldable pub weighed : List (List ℕ) → ℕ → ℕ → ℕ → ℕ
weighed rows gap row past =
    let column = min 4 (past / gap) in
    let at = get_or rows row [] in
    let beyond = past - column * gap in
    (get_or at column 0 * (gap - beyond) + get_or at (column + 1) 0 * beyond) * 100 / gap
