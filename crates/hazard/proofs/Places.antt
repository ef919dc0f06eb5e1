-- Where a coefficient stands in the table: outside the columns it is that of the end column.
use Prim.Native.Nat.{ℕ, ◌+◌, ◌-◌, ◌*◌, ◌/◌, ◌%◌, ◌<◌, ◌≤◌, min, max}
use native.Mathlib.Decide.{dec_le}
use native.Mathlib.Nat.{mul-div_cancel, div-one}
use native.Mathlib.Omega.{arith}
use mathlib.Core.Bool.{true, false}
use mathlib.Core.List.{[], ◌∷◌}
use mathlib.Core.Path.{◌≡◌, refl, sym, ◌∙◌, ap}
use lib.Dec.{ltb}
use borrow.Author.Tests.{lt-ltb, le-ltb}
use Rattle.members.specs.declared.limits.{Row.Row, Fraction.Fraction}
use Rattle.members.specs.Limits.{row, interp, row_limit, segment}
use Rattle.members.proofs.Interpolation.{up_to, inside, past, alone}
use Rattle.hazard.specs.Tables.{Six, short_period, one_second}
use Rattle.hazard.specs.Site.{between, row_at, exactly, thousandths, factor, entry_exact, entry_of}

-- columns at rising places
pub record Rising (at : Six) : Type 0 where
  pub first : at.c1 < at.c2
  pub second : at.c2 < at.c3
  pub third : at.c3 < at.c4
  pub fourth : at.c4 < at.c5
  pub fifth : at.c5 < at.c6

abbrev pub held : Six → ℕ → ℕ
held at x = min at.c6 (max at.c1 x)

module _ (at f : Six) (r : Rising at) where
  r1 : Row
  r1 = row at.c1 f.c1

  r2 : Row
  r2 = row at.c2 f.c2

  r3 : Row
  r3 = row at.c3 f.c3

  r4 : Row
  r4 = row at.c4 f.c4

  r5 : Row
  r5 = row at.c5 f.c5

  r6 : Row
  r6 = row at.c6 f.c6

  up-to-first : (x : ℕ) → x ≤ at.c1 → between at f x ≡ row_limit r1
  unfolding between r1 r2 r3 r4 r5 r6
  up-to-first x h = up_to r1 r2 _ x h

  past-fourth : (x : ℕ) → at.c5 < x → between at f x ≡ interp r5 (r6 ∷ []) x
  unfolding between r1 r2 r3 r4 r5 r6
  past-fourth x h =
      past r1 r2 _ x (omega arith) (omega arith) ∙ past r2 r3 _ x (omega arith) (omega arith) ∙ past r3 r4 _ x (omega arith) (omega arith)
      ∙ past r4 r5 _ x (omega arith) (omega arith)

  at_last : thousandths (between at f at.c6) ≡ f.c6 * 100
  unfolding r5 r6
  at_last =
      let z : at.c6 - at.c6 ≡ 0 = omega arith in
      let e : thousandths (segment r5 r6 at.c6) ≡ f.c6 * 100 * (at.c6 - at.c5) / (at.c6 - at.c5) = rw z (ap (λ (n : ℕ). n / (at.c6 - at.c5)) (omega arith)) in
      ap thousandths (past-fourth at.c6 (omega arith) ∙ inside r5 r6 [] at.c6 (omega arith) (omega arith)) ∙ e ∙ mul-div_cancel (f.c6 * 100) (omega arith)

  beyond-last : (x : ℕ) → at.c6 < x → between at f x ≡ row_limit r6
  unfolding r5 r6
  beyond-last x h = past-fourth x (omega arith) ∙ past r5 r6 [] x (omega arith) h ∙ alone r6 x

  past-last : (x : ℕ) → at.c6 < x → thousandths (between at f x) ≡ f.c6 * 100
  unfolding r6
  past-last x h = ap thousandths (beyond-last x h) ∙ div-one (f.c6 * 100)

  -- up to the first column and past the last the value is the column's own
  pub own-low : (x : ℕ) → x ≤ at.c1 → (between at f x).den ≡ 1
  own-low x h = ap (λ (g : Fraction). g.den) (up-to-first x h)

  pub own-high : (x : ℕ) → at.c6 < x → (between at f x).den ≡ 1
  own-high x h = ap (λ (g : Fraction). g.den) (beyond-last x h)

  pub is_held : (x : ℕ) → thousandths (between at f x) ≡ thousandths (between at f (held at x))
  is_held x = go (dec_le x at.c1) (dec_le x at.c6)
    where
      low : x ≤ at.c1 → held at x ≡ at.c1
      low h = omega arith

      within : at.c1 < x → x ≤ at.c6 → held at x ≡ x
      within h k = omega arith

      high : at.c6 < x → held at x ≡ at.c6
      high h = omega arith

      go : Dec (x ≤ at.c1) → Dec (x ≤ at.c6) → thousandths (between at f x) ≡ thousandths (between at f (held at x))
      go (yes h) k = rw (low h, up-to-first x h, up-to-first at.c1 (omega arith)) refl
      go (no h) (yes k) = rw (within (omega arith) k) refl
      go (no h) (no k) = rw (high (omega arith)) (past-last x (omega arith) ∙ sym at_last)

pub short-rising : Rising short_period.columns
short-rising = record { first = omega arith; second = omega arith; third = omega arith; fourth = omega arith; fifth = omega arith }

pub long-rising : Rising one_second.columns
long-rising = record { first = omega arith; second = omega arith; third = omega arith; fourth = omega arith; fifth = omega arith }

row-short : (j x : ℕ) → x < 126 → (j * 126 + x) / 126 ≡ j
row-short j x h = omega arith

past-short : (j x : ℕ) → x < 126 → (j * 126 + x) % 126 ≡ x
past-short j x h = omega arith

row-long : (j x : ℕ) → x < 51 → (630 + j * 51 + x - 630) / 51 ≡ j
row-long j x h = omega arith

past-long : (j x : ℕ) → x < 51 → (630 + j * 51 + x - 630) % 51 ≡ x
past-long j x h = omega arith

-- outside the columns the end columns hold
pub short-held : (j x : ℕ) → factor short_period j x ≡ factor short_period j (held short_period.columns x)
unfolding factor
short-held j x = is_held short_period.columns (row_at short_period j) short-rising x

pub long-held : (j x : ℕ) → factor one_second j x ≡ factor one_second j (held one_second.columns x)
unfolding factor
long-held j x = is_held one_second.columns (row_at one_second j) long-rising x

-- the numbers of a class in the table
pub short-at : (j p : ℕ) → j < 5 → p < 126 → entry_exact (j * 126 + p) ≡ exactly short_period j (25 + p)
unfolding entry_exact
short-at j p h l =
    let e : ltb (j * 126 + p) 630 ≡ true = lt-ltb (j * 126 + p) 630 (omega arith) in
    rw (e, row-short j p l, past-short j p l)

pub long-at : (j p : ℕ) → j < 5 → p < 51 → entry_exact (630 + j * 51 + p) ≡ exactly one_second j (10 + p)
unfolding entry_exact
long-at j p h l =
    let e : ltb (630 + j * 51 + p) 630 ≡ false = le-ltb (630 + j * 51 + p) 630 (omega arith) in
    rw (e, row-long j p l, past-long j p l)

-- F_S and F_1 are numbers of the table
pub short-place : (j x : ℕ) → j < 5 → factor short_period j x ≡ entry_of (j * 126 + (held short_period.columns x - 25))
unfolding factor
short-place j x h =
    let p = held short_period.columns x - 25 in
    let z : 25 + p ≡ held short_period.columns x = omega arith in
    rw (short-at j p h (omega arith), z) (short-held j x)

pub long-place : (j x : ℕ) → j < 5 → factor one_second j x ≡ entry_of (630 + j * 51 + (held one_second.columns x - 10))
unfolding factor
long-place j x h =
    let p = held one_second.columns x - 10 in
    let z : 10 + p ≡ held one_second.columns x = omega arith in
    rw (long-at j p h (omega arith), z) (long-held j x)
