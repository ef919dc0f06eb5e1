-- The linear values are whole thousandths: one test, computed at all 885 numbers.
use Prim.Native.Nat.{ℕ, zero, suc, ◌+◌, ◌*◌, ◌<◌}
use native.Mathlib.Nat.{add-zero, zero-add, add-suc, suc-add, le_of_suc-le-suc, not-suc-le-zero}
use mathlib.Core.Bool.{Bool, true}
use mathlib.Core.List.{List, [], ◌∷◌}
use mathlib.Core.Path.{◌≡◌, refl, sym, ◌∙◌, ap}
use lib.Dec.{eqb}
use lib.ListN.{get_or}
use borrow.Author.Tests.{eqb-true}
use Rattle.records.specs.Notation.{every_below}
use Rattle.records.proofs.Below.{every-at}
use Rattle.members.specs.Limits.{interp}
use Rattle.hazard.specs.Site.{between, entry_exact, entry_of}
use Rattle.hazard.specs.Entries.{Entry}

-- n numbers from number i on
unfoldable pub numbers : ℕ → ℕ → List ℕ
numbers zero i = []
numbers (suc n) i = entry_of i ∷ numbers n (suc i)

numbers-at : (n i k : ℕ) → k < n → get_or (numbers n i) k 0 ≡ entry_of (i + k)
unfolding numbers
numbers-at zero i k h = absurd (not-suc-le-zero h)
numbers-at (suc n) i zero h = ap entry_of (sym (add-zero i))
numbers-at (suc n) i (suc k) h = numbers-at n (suc i) k (le_of_suc-le-suc h) ∙ ap entry_of (suc-add i k ∙ sym (add-suc i k))

abbrev exact_at : ℕ → Bool
exact_at k = eqb (entry_of k * (entry_exact k).den) ((entry_exact k).num * 100)

all-exact : every_below exact_at 885 ≡ true
unfolding every_below interp between entry_exact
all-exact = refl

pub entry-exact : (k : ℕ) → k < 885 → entry_of k * (entry_exact k).den ≡ (entry_exact k).num * 100
entry-exact k h = eqb-true _ _ (every-at exact_at 885 k all-exact h)

pub entry-is : (k x : ℕ) → k < 885 → x ≡ get_or (numbers 885 0) k 0 → Entry k x
entry-is k x h p =
    let e : x ≡ entry_of k = p ∙ numbers-at 885 0 k h ∙ ap entry_of (zero-add k) in
    record { value = e; exact = rw e (entry-exact k h) }
