-- The numbers weighed between the columns are those of the published tables: computed at all places.
use Prim.Native.Nat.{ℕ, ◌+◌, ◌-◌, ◌/◌, ◌%◌, ◌<◌, ◌≤◌}
use native.Mathlib.Omega.{arith}
use mathlib.Core.Bool.{Bool, true}
use mathlib.Core.List.{List, [], ◌∷◌}
use mathlib.Core.Path.{◌≡◌, refl, ◌∙◌}
use lib.Dec.{eqb}
use borrow.Author.Tests.{eqb-true}
use Rattle.records.specs.Notation.{every_below}
use Rattle.records.proofs.Below.{every-at}
use Rattle.members.specs.Limits.{interp}
use Rattle.hazard.specs.Tables.{Six, short_period, one_second}
use Rattle.hazard.specs.Site.{between, entry_exact, entry_of}
use Rattle.hazard.specs.Entries.{Entry}
use Rattle.hazard.proofs.Entries.{entry-exact}
use Rattle.site_table.specs.Weighed.{weighed}

-- the rows of a table
unfoldable pub listed : List Six → List (List ℕ)
listed [] = []
listed (r ∷ rs) = (r.c1 ∷ r.c2 ∷ r.c3 ∷ r.c4 ∷ r.c5 ∷ r.c6 ∷ []) ∷ listed rs

abbrev short_at : ℕ → Bool
short_at k = eqb (weighed (listed short_period.rows) 25 (k / 126) (k % 126)) (entry_of k)

abbrev long_at : ℕ → Bool
long_at k = eqb (weighed (listed one_second.rows) 10 ((630 + k - 630) / 51) ((630 + k - 630) % 51)) (entry_of (630 + k))

all_short : every_below short_at 630 ≡ true
unfolding every_below weighed listed interp between entry_exact
all_short = refl

all-long : every_below long_at 255 ≡ true
unfolding every_below weighed listed interp between entry_exact
all-long = refl

short-computed : (k : ℕ) → k < 630 → weighed (listed short_period.rows) 25 (k / 126) (k % 126) ≡ entry_of k
short-computed k h = eqb-true _ _ (every-at short_at 630 k all_short h)

long-computed : (k : ℕ) → 630 ≤ k → k < 885 → weighed (listed one_second.rows) 10 ((k - 630) / 51) ((k - 630) % 51) ≡ entry_of k
long-computed k h l =
    let z : 630 + (k - 630) ≡ k = omega arith in
    rw z at (eqb-true (weighed (listed one_second.rows) 10 ((630 + (k - 630) - 630) / 51) ((630 + (k - 630) - 630) % 51)) (entry_of (630 + (k - 630))) (every-at long_at 255 (k - 630) all-long (omega arith)))

-- so what is computed meets the promise of the library's entry
entry : (k x : ℕ) → k < 885 → x ≡ entry_of k → Entry k x
entry k x h e = record { value = e; exact = rw e (entry-exact k h) }

pub short-entry : (k x : ℕ) → k < 630 → x ≡ weighed (listed short_period.rows) 25 (k / 126) (k % 126) → Entry k x
short-entry k x h e = entry k x (omega arith) (e ∙ short-computed k h)

pub long-entry : (k x : ℕ) → 630 ≤ k → k < 885 → x ≡ weighed (listed one_second.rows) 10 ((k - 630) / 51) ((k - 630) % 51) → Entry k x
long-entry k x h l e = entry k x l (e ∙ long-computed k h l)
