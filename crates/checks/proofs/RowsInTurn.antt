-- The storeys of a survey in turn, each with its own members: which are given, and how many.
use Prim.Native.Nat.{ℕ, suc, ◌<◌}
use native.Mathlib.Omega.{arith}
use mathlib.Core.List.{List, [], ◌∷◌}
use mathlib.Core.Path.{◌≡◌, refl, ◌∙◌}
use lib.ListN.{length, drop}
use denote.Ref.{Bor}
use Rattle.std.specs.Prelude.{None, Some}
use Rattle.std.specs.Iterator.{Yields}
use Rattle.std.specs.Iterator.Adapters.{enumerate_source, enumerate_count, enumerate_steps}
use Rattle.std.specs.declared.iter.Enumerate.{Enumerate}
use Rattle.std.proofs.lemmas.List.{drop-drop}
use Rattle.records.specs.declared.Storey.{Storey}
use Rattle.records.specs.declared.Member.{Member}
use Rattle.checks.specs.Rows.{storey_in, members_before, members_of}
use Rattle.checks.specs.RowsInTurn.{storeys_left, members_left, GivesStorey}
use Rattle.checks.specs.declared.storey_rows.StoreyRows.{StoreyRows}
use Rattle.checks.proofs.RowLaws.{before-next}
use Rattle.checks.proofs.Numbered.{numbered-next, numbered-end}

abbrev pub Given : Type 0
Given = Bor Storey × Bor (List Member)

-- what is given is storey i of some storeys with its members
pub record IsStorey (ss : List Storey) (ms : List Member) (i : ℕ) (given : Given) : Type 0 where
  pub within : i < length ss
  pub storey : given.0.now ≡ storey_in ss i
  pub own : given.1.now ≡ members_of ss ms i

-- the members of a storey after the first
pub members-later : (s : Storey) (ss : List Storey) (ms : List Member) (i : ℕ) → members_of ss (drop s.count ms) i ≡ members_of (s ∷ ss) ms (suc i)
unfolding members_of
members-later s ss ms i = rw (before-next s ss i, drop-drop (members_before ss i) s.count ms)

first-given : (s t : StoreyRows) (x : Given) → GivesStorey s (Some x) t → IsStorey (storeys_left s) (members_left s) 0 x
unfolding members_of members_before
first-given s t x g = rw g.0 (record { within = omega arith; storey = refl; own = g.1 })

-- after calls that gave so many, the next gives the storey of that place
pub turn : (given : List Given) (s t u : StoreyRows) (x : Given) → Yields GivesStorey s given t → GivesStorey t (Some x) u → IsStorey (storeys_left s) (members_left s) (length given) x
turn [] s t u x y g = rw y (first-given t u x g)
turn (z ∷ given) s t u x y g =
    let r = turn given y.0 t u x y.2 g in
    rw y.1.0 (record { within = omega (arith, r.within); storey = r.storey; own = r.own ∙ rw y.1.2 (members-later z.0.now (storeys_left y.0) (members_left s) (length given)) })

-- where none is given any more, all were given
pub all-given : (given : List Given) (s t u : StoreyRows) → Yields GivesStorey s given t → GivesStorey t None u → length given ≡ length (storeys_left s)
all-given [] s t u y g = rw (y, g.0) refl
all-given (z ∷ given) s t u y g = rw y.1.0 (omega (arith, all-given given y.0 t u y.2 g))

-- ---- the same with numbers from 0
abbrev pub Numbered : Type 0
Numbered = ℕ × Given

module _ (given : List Numbered) (s t u : Enumerate StoreyRows) (y : Yields (enumerate_steps GivesStorey) s given t) (e : enumerate_count s ≡ 0) where
  pub numbered-turn : (x : Numbered) → enumerate_steps GivesStorey t (Some x) u → IsStorey (storeys_left (enumerate_source s)) (members_left (enumerate_source s)) x.0 x.1
  numbered-turn =
      numbered-next GivesStorey given s t u y e (IsStorey (storeys_left (enumerate_source s)) (members_left (enumerate_source s))) (λ given' t' u' x'. turn given' (enumerate_source s) t' u' x')

  pub numbered-all : enumerate_steps GivesStorey t None u → enumerate_count t ≡ length (storeys_left (enumerate_source s))
  numbered-all = numbered-end GivesStorey given s t u y e (length (storeys_left (enumerate_source s))) (λ given' t' u'. all-given given' (enumerate_source s) t' u')
