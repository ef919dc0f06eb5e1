-- The first of some numbers of which a test holds; so the storey and the case that the verdict names.
use Prim.Native.Nat.{ℕ, zero, suc, ◌+◌, ◌-◌, ◌≤◌, ◌<◌}
use native.Mathlib.Omega.{arith}
use native.Mathlib.Nat.{eq-or-lt_of_le, not-suc-le-zero}
use native.Mathlib.Numerals.{add-one}
use mathlib.Core.Bool.{Bool, true, false}
use mathlib.Core.Logic.{⊎_elim}
use mathlib.Core.List.{List}
use mathlib.Core.Path.{◌≡◌, refl, sym, ap, ◌∙◌}
use lib.Dec.{ltb, eqb}
use lib.ListN.{length, get_or}
use borrow.Author.Tests.{ne_eqb, lt-ltb, ltb-true, ltb-false}
use Rattle.std.specs.Prelude.{None, Some}
use Rattle.std.specs.List.{AllWithin, HoldsAt, range_with_len}
use Rattle.std.proofs.lemmas.List.FromFn.{length-range_with_len, get_or-range_with_len}
use Rattle.records.specs.Notation.{pick, any_below}
use Rattle.records.specs.Records.{case_count, shear_of}
use Rattle.records.specs.declared.{Storey.Storey, Member.Member}
use Rattle.records.proofs.Firsts.{first_fault, first-none, first_more, first_next, first-kept, first-zero, first-stops, first-goes_on}
use Rattle.records.proofs.Below.{any_none, any-more, any-holds}
use Rattle.checks.specs.Rows.{Survey, storey_in, members_of}
use Rattle.storeys.specs.Storey.{Rules, case_risky, storey_risky, lowest_risky_case}
use Rattle.storeys.specs.Building.{risky_at, some_risky, first_risky, lowest_case_at, first_risky_case}
use Rattle.storeys.specs.Place.{case_numbered}
use Rattle.storeys.specs.FirstRisky.{risky_in, case_risky_at, FirstNamed, LowestNamed, OldNamed, NoneNamed}

-- ---- the first of the numbers below n of which a test holds, counted from 1; 0 where there is none
pub data Seen (p : ℕ → Bool) (n : ℕ) : ℕ → Type 0 where
  nothing : any_below p n ≡ false → ((j : ℕ) → j < n → p j ≡ false) → Seen p n 0
  first-at : (i : ℕ) → i < n → p i ≡ true → ((j : ℕ) → j < i → p j ≡ false) → Seen p n (i + 1)

module _ (p : ℕ → Bool) where
  abbrev pub numbered_if : ℕ → ℕ
  numbered_if i = pick (p i) (i + 1) 0

  abbrev pub first_of : ℕ → ℕ
  first_of = first_fault numbered_if

  -- of numbers of which it holds of none, and of those of which it holds of number i first
  pub none-of : (n : ℕ) → ((j : ℕ) → j < n → p j ≡ false) → first_of n ≡ 0
  none-of n h = first-zero 0 (λ r. r) numbered_if n refl (λ j l. rw (h j l))

  pub one-of : (n i : ℕ) → i < n → p i ≡ true → ((j : ℕ) → j < i → p j ≡ false) → first_of n ≡ i + 1
  one-of n i l t h =
      let k : first_of (i + 1) ≡ i + 1 = first_next 0 (λ r. r) numbered_if i (none-of i h) ∙ rw t refl in
      first-kept 0 (λ r. r) numbered_if (i + 1) n (omega arith) (λ z. let w : ⊥ = omega (arith, k, z) in absurd w) ∙ k

  -- the numbers below n, listed
  at-range : (n j d : ℕ) → j < n → get_or (range_with_len 0 n) j d ≡ j
  at-range n j d h = let z : 0 + j ≡ j = omega arith in get_or-range_with_len 0 n j d h ∙ z

  pub listed-none : (n : ℕ) → AllWithin (λ i. p i ≡ false) (range_with_len 0 n) 0 (length (range_with_len 0 n)) → first_of n ≡ 0
  listed-none n w = none-of n (λ j h. rw (at-range n j 0 h) at (w j 0 (omega arith) (omega (arith, length-range_with_len 0 n))))

  pub listed-one : (n i : ℕ) → (i < length (range_with_len 0 n)) × HoldsAt (λ j. p j ≡ true) (range_with_len 0 n) i × AllWithin (λ j. p j ≡ false) (range_with_len 0 n) 0 i → first_of n ≡ i + 1
  listed-one n i w =
      let l : i < n = omega (arith, w.0, length-range_with_len 0 n) in
      one-of n i l (rw (at-range n i 0 l) at (w.1 0)) (λ j h. rw (at-range n j 0 (omega arith)) at (w.2 j 0 (omega arith) h))

  none-more : (n : ℕ) → ((j : ℕ) → j < n → p j ≡ false) → p n ≡ false → (j : ℕ) → j < n + 1 → p j ≡ false
  none-more n b e j h = let l : j ≤ n = omega arith in ⊎_elim (λ (q : j ≡ n). rw q e) (λ (m : j < n). b j m) (eq-or-lt_of_le l)

  seen-next : (t : Bool) (n x : ℕ) → p n ≡ t → Seen p n x → Seen p (n + 1) (pick (eqb x 0) (pick t (n + 1) 0) x)
  seen-next true n x e (nothing a b) = first-at n (omega arith) e b
  seen-next false n x e (nothing a b) = nothing (any-more p n a e) (none-more n b e)
  seen-next t n x e (first-at i h q b) = rw (ne_eqb (i + 1) 0 (λ z. let w : ⊥ = omega arith in absurd w)) (first-at i (omega arith) q b)

  pub seen : (n : ℕ) → Seen p n (first_of n)
  seen zero = rw (first-none 0 (λ r. r) numbered_if) (nothing (any_none p) (λ j h. absurd (not-suc-le-zero h)))
  seen (suc n) = rw (← add-one n) (rw (first_more 0 (λ r. r) numbered_if n) (seen-next (p n) n (first_of n) refl (seen n)))

  -- some number below n has it exactly where one is named
  some-named : (n x : ℕ) → Seen p n x → ltb 0 x ≡ any_below p n
  some-named n x (nothing a b) = sym a
  some-named n x (first-at i h q b) = lt-ltb 0 (i + 1) (omega arith) ∙ sym (any-holds p n i h q)

  named-at : (n x i : ℕ) → Seen p n x → x ≡ i + 1 → (i < n) × (p i ≡ true) × ((j : ℕ) → j < i → p j ≡ false)
  named-at n x i (nothing a b) e = let z : ⊥ = omega (arith, e) in absurd z
  named-at n x i (first-at k h q b) e =
      let d : k ≡ i = omega (arith, e) in
      let t : (k < n) × (p k ≡ true) × ((j : ℕ) → j < k → p j ≡ false) = (h, q, b) in
      rw d at t

-- ---- a case by its number, where there is one and where there is none
pub case-is : (x c : ℕ) → Some c ≡ case_numbered x → (c ≡ x) × (0 < c)
case-is zero c e = absurd (some-or-none e)
  where
    some-or-none : Some c ≡ None → ⊥
    some-or-none e = let z : ◌≡◌ {A = ℕ} 0 1 = cc in omega arith
case-is (suc x) c e = let n : c ≡ suc x = cc in (n, omega (arith, n))

pub case-none : (x : ℕ) → None ≡ case_numbered x → 0 ≡ x
case-none zero e = refl
case-none (suc x) e = let z : ◌≡◌ {A = ℕ} 0 1 = cc in absurd (omega arith)

pub case-next : (x c : ℕ) → x ≡ c + 1 → Some (c + 1) ≡ case_numbered x
case-next zero c e = absurd (omega (arith, e))
case-next (suc x) c e = ap Some (sym e)

-- ---- a storey is Risky exactly where it has a lowest numbered Risky case
pub risky-case : (rules : Rules) (form k : ℕ) (s : Storey) (ms : List Member) → storey_risky rules form k s ms ≡ ltb 0 (lowest_risky_case rules form k s ms)
unfolding storey_risky lowest_risky_case
risky-case rules form k s ms =
    let p : ℕ → Bool = λ l. case_risky rules k l (shear_of l s) ms in
    sym (some-named p (case_count form) (first_of p (case_count form)) (seen p (case_count form)))

module _ (rules : Rules) (a : Survey) where
  first-seen : Seen (risky_in rules a) (length a.storeys) (first_risky rules a)
  unfolding first_risky
  first-seen = seen (risky_in rules a) (length a.storeys)

  pub some-first : ltb 0 (first_risky rules a) ≡ some_risky rules a
  unfolding some_risky
  some-first = some-named (risky_in rules a) (length a.storeys) (first_risky rules a) first-seen

  -- storey i with its lowest numbered Risky case
  pub risky-there : (i : ℕ) → risky_in rules a i ≡ ltb 0 (lowest_case_at rules a.header.form a.header.knowledge a.storeys a.members i)
  unfolding risky_at lowest_case_at
  risky-there i = risky-case rules a.header.form a.header.knowledge (storey_in a.storeys i) (members_of a.storeys a.members i)

  -- at storey i, before which none is Risky: it is named with its case, where it has one; else the next may be
  pub named-here : (i c : ℕ) → i < length a.storeys → first_of (risky_in rules a) i ≡ 0 → c ≡ lowest_case_at rules a.header.form a.header.knowledge a.storeys a.members i → 0 < c → first_risky rules a ≡ i + 1
  unfolding first_risky
  named-here i c l before e h =
      let t : risky_in rules a i ≡ true = risky-there i ∙ ap (ltb 0) (sym e) ∙ lt-ltb 0 c h in
      sym (first-stops (numbered_if (risky_in rules a)) (length a.storeys) i (i + 1) before l (rw t refl) (omega arith))

  pub passed-here : (i : ℕ) → first_of (risky_in rules a) i ≡ 0 → 0 ≡ lowest_case_at rules a.header.form a.header.knowledge a.storeys a.members i → first_of (risky_in rules a) (i + 1) ≡ 0
  passed-here i before e =
      let t : risky_in rules a i ≡ false = risky-there i ∙ ap (ltb 0) (sym e) in
      first-goes_on (numbered_if (risky_in rules a)) i before (rw t refl)

  pub none-named-yet : first_of (risky_in rules a) (length a.storeys) ≡ 0 → first_risky rules a ≡ 0
  unfolding first_risky
  none-named-yet e = e

  -- the case named is that of the storey named
  pub case-of-first : (i : ℕ) → first_risky rules a ≡ i + 1 → first_risky_case rules a ≡ lowest_case_at rules a.header.form a.header.knowledge a.storeys a.members i
  unfolding first_risky_case
  case-of-first i e = let z : (i + 1) - 1 ≡ i = omega arith in rw (e, ne_eqb (i + 1) 0 (λ q. let w : ⊥ = omega arith in absurd w), z)

  pub no-case : first_risky rules a ≡ 0 → first_risky_case rules a ≡ 0
  unfolding first_risky_case
  no-case e = rw e

  lowest-positive : (i : ℕ) → first_risky rules a ≡ i + 1 → ltb 0 (first_risky_case rules a) ≡ true
  lowest-positive i e =
      ap (ltb 0) (case-of-first i e) ∙ sym (risky-there i) ∙ (named-at (risky_in rules a) (length a.storeys) (first_risky rules a) i first-seen e).1

  module _ (i : ℕ) where
    lowest-seen : Seen (case_risky_at rules a i) (case_count a.header.form) (lowest_case_at rules a.header.form a.header.knowledge a.storeys a.members i)
    unfolding lowest_case_at lowest_risky_case
    lowest-seen = seen (case_risky_at rules a i) (case_count a.header.form)

pub first-named : FirstNamed
first-named rules a i e = named-at (risky_in rules a) (length a.storeys) (first_risky rules a) i (first-seen rules a) e

pub lowest-named : LowestNamed
lowest-named rules a i e l f = named-at (case_risky_at rules a i) (case_count a.header.form) _ l (lowest-seen rules a i) (sym (case-of-first rules a i e) ∙ f)

-- a number that is not 0, and one that is
positive : (x : ℕ) → ltb 0 x ≡ true → x ≡ 0 → ⊥
positive x t e = let z : ⊥ = omega (arith, ltb-true 0 x t, e) in z

none : (x : ℕ) → ltb 0 x ≡ false → x ≡ 0
none x t = let l = ltb-false 0 x t in omega (arith, l)

pub old-named : OldNamed
old-named rules a i o e = case (first_risky_case rules a) refl (ltb-true 0 (first_risky_case rules a) (lowest-positive rules a i e))
  where
    case : (x : ℕ) → first_risky_case rules a ≡ x → 0 < first_risky_case rules a → first_risky_case rules a ≡ 1
    case zero q h = let z : ⊥ = omega (arith, q, h) in absurd z
    case (suc x) q h =
        let f : first_risky_case rules a ≡ x + 1 = omega (arith, q) in
        let l = (lowest-named rules a i e x f).0 in
        let n : case_count a.header.form ≡ 1 = rw o in
        omega (arith, f, l, n)

-- the first Risky storey by its place
by-place : (rules : Rules) (a : Survey) (x : ℕ) → first_risky rules a ≡ x → some_risky rules a ≡ true → (first_risky rules a ≡ 0 → ⊥) × (first_risky_case rules a ≡ 0 → ⊥)
by-place rules a zero q t = let z : ⊥ = positive (first_risky rules a) (some-first rules a ∙ t) q in absurd z
by-place rules a (suc x) q t =
    let f : first_risky rules a ≡ x + 1 = omega (arith, q) in
    (positive (first_risky rules a) (some-first rules a ∙ t), positive (first_risky_case rules a) (lowest-positive rules a x f))

pub none-named : NoneNamed
none-named rules a =
    (λ e. let z = none (first_risky rules a) (some-first rules a ∙ e) in (z, no-case rules a z), λ t. by-place rules a (first_risky rules a) refl t)
