-- What an answer on a member in a load case returns tells the answer: no two answers return the same.
use Prim.Native.Nat.{ℕ}
use mathlib.Core.Bool.{Bool, true, false}
use mathlib.Core.List.{List, [], ◌∷◌}
use mathlib.Core.Path.{◌≡◌, refl, ap, sym, ◌∙◌}
use lib.Dec.{eqb}
use lib.ListN.{get_or}
use Rattle.records.specs.Notation.{pick}
use Rattle.records.specs.Refusals.{numbered}
use Rattle.records.specs.declared.refusal.Refusal.{Refusal}
use Rattle.records.proofs.Refusals.{numbered-is}
use Rattle.members.specs.declared.class.Class.{Class}
use Rattle.members.specs.declared.class.Class.TheVariants.{ColumnA, ColumnB, ColumnC, WallA, WallB}
use Rattle.members.specs.declared.finding.Finding.{Finding}
use Rattle.std.specs.Prelude.{Result, Ok, Err}
use Rattle.members.proofs.Rounding.{ratio, microradians}
use Rattle.members.specs.Class.{code}
use Rattle.members.specs.Finding.{Returned, flag, finding_values, returned_case}

abbrev class_of : ℕ → Class
class_of n = pick (eqb n 1) ColumnA (pick (eqb n 2) ColumnB (pick (eqb n 3) ColumnC (pick (eqb n 4) WallA WallB)))

class-told : (c : Class) → class_of (code c) ≡ c
class-told ColumnA = refl
class-told ColumnB = refl
class-told ColumnC = refl
class-told WallA = refl
class-told WallB = refl

pub flag-told : (b : Bool) → eqb (flag b) 1 ≡ b
flag-told true = refl
flag-told false = refl

abbrev finding-of : List ℕ → Finding
finding-of vs =
    record {
      class = class_of (get_or vs 0 0);
      m = ratio (get_or vs 1 0);
      m_limit = ratio (get_or vs 2 0);
      rotation = microradians (get_or vs 3 0);
      rotation_limit = microradians (get_or vs 4 0);
      over = eqb (get_or vs 5 0) 1;
      nd = ratio (get_or vs 6 0);
      m_dropped = eqb (get_or vs 7 0) 1;
      over_m = eqb (get_or vs 8 0) 1;
      over_rotation = eqb (get_or vs 9 0) 1;
    }

finding-told : (f : Finding) → finding-of (finding_values f) ≡ f
finding-told f = rw (class-told f.class, flag-told f.over, flag-told f.m_dropped, flag-told f.over_m, flag-told f.over_rotation)

abbrev answer-by : ℕ → List ℕ → Result Finding ℕ
answer-by n [] = Err n
answer-by n (v ∷ vs) = Ok (finding-of (v ∷ vs))

answer-told : (a : Result Finding ℕ) → answer-by (returned_case a).refusal (returned_case a).values ≡ a
answer-told (Ok f) = ap Ok (finding-told f)
answer-told (Err n) = refl

pub case-answer-is : (a b : Result Finding ℕ) → returned_case a ≡ returned_case b → a ≡ b
case-answer-is a b e = sym (answer-told a) ∙ ap (λ (r : Returned). answer-by r.refusal r.values) e ∙ answer-told b

-- so of what the call itself gives, which has the refusal
pub case-outcome-is : (a b : Result Finding Refusal) → returned_case (numbered a) ≡ returned_case (numbered b) → a ≡ b
case-outcome-is a b e = numbered-is a b (case-answer-is (numbered a) (numbered b) e)
