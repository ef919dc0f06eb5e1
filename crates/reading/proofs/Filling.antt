-- The loops that fill the rows of an accepted file: what a turn needs, and what it leaves.
use Prim.Native.Nat.{ℕ, zero, suc, ◌+◌, ◌*◌, ◌≤◌, ◌<◌}
use native.Mathlib.Omega.{arith}
use native.Mathlib.Nat.{le_refl, eq-or-lt_of_le, le_of_suc-le-suc}
use native.Mathlib.Numerals.{add-one}
use mathlib.Core.List.{List}
use mathlib.Core.Logic.{⊎_elim}
use mathlib.Core.Path.{◌≡◌, refl, ap, sym, ◌∙◌}
use Rattle.format.specs.Lines.{storey_at, member_at}
use Rattle.reading.specs.Survey.{line_start, members_before, storey, member}
use Rattle.reading.specs.Filling.{placed, filled_members}
use Rattle.reading.specs.Checks.{MembersSound, Fits}
use Rattle.records.specs.declared.Storey.{Storey}
use Rattle.records.specs.declared.Member.{Member}

pub before-suc : (form : ℕ) (s : List ℕ) (i : ℕ) → members_before form s (i + 1) ≡ members_before form s i + (storey form s i).count
unfolding members_before
before-suc form s i = rw add-one

pub before-none : (form : ℕ) (s : List ℕ) → 0 ≡ members_before form s 0
unfolding members_before
before-none form s = refl

-- more storeys, more members
pub before-rises : (form : ℕ) (s : List ℕ) (i n : ℕ) → i ≤ n → members_before form s i ≤ members_before form s n
unfolding members_before
before-rises form s i zero h = let e : i ≡ 0 = omega arith in rw e (le_refl _)
before-rises form s i (suc n) h =
    ⊎_elim (λ (e : i ≡ suc n). rw e (le_refl _)) (λ (l : i < suc n). omega (arith, before-rises form s i n (le_of_suc-le-suc l))) (eq-or-lt_of_le h)

filled-suc : (form : ℕ) (s : List ℕ) (i : ℕ) (rows : List Member) → filled_members form s (i + 1) rows ≡ placed (member form s i) (members_before form s i) (storey form s i).count (filled_members form s i rows)
unfolding filled_members
filled-suc form s i rows = ap (λ (k : ℕ). filled_members form s k rows) (add-one i)

module _ (form : ℕ) (s : List ℕ) (n : ℕ) (f : Fits form s n) where
  before_small : (i : ℕ) → i ≤ n → members_before form s i ≤ 200 * i
  unfolding members_before
  before_small zero h = omega arith
  before_small (suc i) h = omega (arith, before_small i (omega arith), f.counts i h)

  module _ (i m : ℕ) (h : i < n) (e : m ≡ members_before form s i) where
    pub storey-small : (i ≤ 9) × (m ≤ 2000)
    storey-small = let b = before_small i (omega arith) in (omega (arith, f.storeys), omega (arith, f.storeys))

    module _ (r : Storey) (c : ℕ) (g : r ≡ storey_at form s (line_start form i m)) (k : c ≡ r.count) where
      pub storey-is : r ≡ storey form s i
      storey-is = rw (← e) g

      pub count-is : c ≡ (storey form s i).count
      count-is = k ∙ ap (λ (x : Storey). x.count) storey-is

      pub before-next : m + c ≡ members_before form s (i + 1)
      before-next = omega (arith, before-suc form s i, count-is)

      pub members-small : m + c ≤ 2000
      members-small = let b = before_small i (omega arith) in let d = f.counts i h in omega (arith, count-is, f.storeys)

      pub members-held : (rows : ℕ) → members_before form s n ≤ rows → m + c ≤ rows
      members-held rows t = let u = before-rises form s (i + 1) n (omega arith) in omega (arith, before-next)

      pub members-sound : MembersSound form s i m c
      members-sound = rw (e, count-is) (f.members i h)

      pub filled_next : (rows now after : List Member) → now ≡ filled_members form s i rows → after ≡ placed (λ (j : ℕ). member_at form s (line_start form (i + 1) (m + j))) m c now → after ≡ filled_members form s (i + 1) rows
      filled_next rows now after p q = q ∙ rw (p, e, count-is) (sym (filled-suc form s i rows))

pub filled_none : (form : ℕ) (s : List ℕ) (rows : List Member) → rows ≡ filled_members form s 0 rows
unfolding filled_members
filled_none form s rows = refl
