-- What makes a set of limits good whatever its figures: tests on its rows, on which demand 3 stands.
use Rattle.std.specs.Prelude.{ℕ, zero, suc, slice_index, ◌+◌, Bool, true, ◌&&◌, List, [], ◌∷◌, ◌++◌, leb, ltb}
use Rattle.members.specs.declared.tables.Places.{Places}
use Rattle.members.specs.declared.tables.Table.{Table}
use Rattle.members.specs.declared.tables.LimitSet.{LimitSet}
use Rattle.members.specs.Tables.{two}

-- every test of a list holds
unfoldable pub all_hold : List Bool → Bool
all_hold [] = true
all_hold (b ∷ bs) = b && all_hold bs

-- the test holds of row i and the next, so many times from row i on
abbrev pub each_step : (ℕ → ℕ → Bool) → List ℕ → ℕ → ℕ → List Bool
each_step test f i zero = []
each_step test f i (suc k) = test (slice_index f i) (slice_index f (i + 1)) ∷ each_step test f (i + 1) k

-- a number rises in so many steps from row to row, or never rises
abbrev pub rising : ℕ → List ℕ → List Bool
rising k f = each_step (λ a b. ltb a b) f 0 k

abbrev pub falling : ℕ → List ℕ → List Bool
falling k f = each_step (λ a b. leb b a) f 0 k

-- one number is nowhere above the other, in so many rows from row i on
abbrev pub under_from : ℕ → ℕ → List ℕ → List ℕ → List Bool
under_from i zero f g = []
under_from i (suc k) f g = leb (slice_index f i) (slice_index g i) ∷ under_from (i + 1) k f g

abbrev pub under : ℕ → List ℕ → List ℕ → List Bool
under n f g = under_from 0 n f g

-- the rows stand at rising places
unfoldable pub places_rise : Places → Bool
places_rise p = all_hold (rising 3 p.axial ++ rising 1 p.hoops ++ rising 1 p.walls ++ rising 1 p.stress)

-- limits never rise with n or v and never fall with ρ; class A of columns is nowhere below B, nor B below C
unfoldable pub ordered : Table → Bool
ordered t =
    all_hold
    (falling 3 t.a
    ++ falling 3 t.b1
    ++ falling 3 t.b2
    ++ falling 1 t.c
    ++ under 4 t.b1 t.b2
    ++ under 4 t.b2 t.a
    ++ under 2 t.c (two (slice_index t.b1 2) (slice_index t.b1 3))
    ++ falling 1 t.zone1
    ++ falling 1 t.zone2
    ++ under 2 t.zone2 t.zone1
    ++ falling 1 t.plain1
    ++ falling 1 t.plain2
    ++ under 2 t.plain2 t.plain1
    ++ falling 1 t.wall)

abbrev pub ordered_set : LimitSet → Bool
ordered_set s = places_rise s.places && (ordered s.m && ordered s.rotation)
