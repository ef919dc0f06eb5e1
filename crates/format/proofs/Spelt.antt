-- Reading what was written gives the number, and writing what was read gives the bytes.
use Prim.Native.Nat.{ℕ, zero, suc, ◌+◌, ◌-◌, ◌*◌, ◌/◌, ◌%◌, ◌^◌, ◌≤◌, ◌<◌}
use native.Mathlib.Omega.{arith}
use native.Mathlib.Nat.{pow-suc, pow-succ', div-div-eq-div-mul, div-lt_iff_lt-mul, div-eq_of_lt, pow-le-pow_right, not-suc-le-zero, eq-or-lt_of_le, le_of_suc-le-suc}
use mathlib.Core.Bool.{Bool, true, false, ◌&&◌, and-false}
use mathlib.Core.List.{List, [], ◌∷◌}
use mathlib.Core.Logic.{⊎_elim}
use mathlib.Core.Path.{◌≡◌, refl, ap, sym, ◌∙◌}
use lib.Dec.{leb, ltb, eqb, eqb-suc-zero}
use lib.ListN.{get_or}
use borrow.Author.Tests.{eqb-true, leb-true, leb-false, ltb-true, ltb-false, lt-ltb, le-ltb, eq-eqb, le-leb, lt-leb}
use Rattle.std.specs.Prelude.{Some, None}
use Rattle.records.specs.Notation.{pick}
use Rattle.records.specs.Records.{zero_force}
use Rattle.format.specs.Spelling.{column, spelled, same, pushed, value, written, minus_of, field_of}
use Rattle.format.specs.Text.{field_text}
use Rattle.format.specs.Steps.{Spellable}
use Rattle.records.proofs.Below.{and_left, and_right}
use Rattle.format.proofs.Columns.{same-eq, blank-digits}
use Rattle.format.proofs.Written.{written-small}

-- ---- the digits of a spelling make the number
push-digit : (v d : ℕ) → d ≤ 9 → pushed v (48 + d) ≡ v * 10 + d
push-digit v d h =
    let e : (48 + d) - 48 ≡ d = omega arith in
    rw (le-leb 48 (48 + d) (omega arith), le-leb (48 + d) 57 (omega arith), e)

-- a byte that is no digit
abbrev Plain : ℕ → Type 0
Plain b = (leb 48 b && leb b 57) ≡ false

ten-more : (n j : ℕ) → n / 10 / 10 ^ j ≡ n / 10 ^ suc j
ten-more n j = rw (pow-succ' 10 j) (div-div-eq-div-mul n 10 (10 ^ j))

tenth-small : (n j : ℕ) → n < 10 → n / 10 ^ suc j ≡ 0
tenth-small n j h = div-eq_of_lt (omega (arith, pow-le-pow_right {n = 10} (omega arith) {i = 1} {j = suc j} (omega arith)))

push-plain : (v b : ℕ) → Plain b → pushed v b ≡ v
push-plain v b p = rw p

module _ (sign : ℕ) (p : Plain sign) where
  push-edge : (j v : ℕ) → pushed v (pick (eqb j 0) sign 32) ≡ v
  push-edge zero v = push-plain v sign p
  push-edge (suc j) v = simp eqb-suc-zero

  push-tenth : (t : Bool) (j n : ℕ) → (t ≡ true → n < 10) → pushed (n / 10 / 10 ^ suc j) (column sign (n / 10) j) ≡ n / 10 / 10 ^ j → pushed (n / 10 ^ suc (suc j)) (pick t (pick (eqb j 0) sign 32) (column sign (n / 10) j)) ≡ n / 10 ^ suc j
  push-tenth true j n h e = rw (tenth-small n (suc j) (h refl), tenth-small n j (h refl)) (push-edge j 0)
  push-tenth false j n h e = rw (ten-more n (suc j), ten-more n j) at e

  -- column w adds its digit to the number that the columns before it make
  pub push-column : (w n : ℕ) → pushed (n / 10 ^ suc w) (column sign n w) ≡ n / 10 ^ w
  unfolding column
  push-column zero n = push-digit (n / 10) (n % 10) (omega arith) ∙ omega arith
  push-column (suc j) n = push-tenth (ltb n 10) j n (ltb-true n 10) (push-column j (n / 10))

  value-columns : (w n : ℕ) → value (n / 10 ^ w) (spelled w sign n) ≡ n
  unfolding value spelled
  value-columns zero n = omega arith
  value-columns (suc w) n = ap (λ (v : ℕ). value v (spelled w sign n)) (push-column w n) ∙ value-columns w n

  pub value-spelled : (w n : ℕ) → n < 10 ^ w → value 0 (spelled w sign n) ≡ n
  value-spelled w n h = let e : n / 10 ^ w ≡ 0 = div-eq_of_lt h in rw e at (value-columns w n)

-- ---- the first column is blank
tenth-below : (n j : ℕ) → n < 10 ^ suc j → n / 10 < 10 ^ j
tenth-below n j g = (div-lt_iff_lt-mul {k = 10} {x = n} {y = 10 ^ j} (omega arith)).1 (rw pow-suc at g)

by-tenth : (t : Bool) (n a b x : ℕ) → ltb n 10 ≡ t → (n < 10 → a ≡ x) → (10 ≤ n → b ≡ x) → pick t a b ≡ x
by-tenth true n a b x e f g = f (ltb-true n 10 e)
by-tenth false n a b x e f g = g (ltb-false n 10 e)

-- a number of w digits at most, without a minus, has a blank left of them
pub plain-blank : (w n : ℕ) → 0 < w → n < 10 ^ w → column 32 n w ≡ 32
unfolding column
plain-blank zero n p h = absurd (not-suc-le-zero p)
plain-blank (suc zero) n p h = by-tenth (ltb n 10) n _ _ 32 refl (λ l. refl) (λ l. let z : ⊥ = omega arith in absurd z)
plain-blank (suc (suc j)) n p h = by-tenth (ltb n 10) n _ _ 32 refl (λ l. simp eqb-suc-zero) (λ l. plain-blank (suc j) (n / 10) (omega arith) (tenth-below n (suc j) h))

-- one of w digits with a minus has a blank left of that
minus-blank : (w n : ℕ) → 0 < w → n < 10 ^ w → column 45 n (suc w) ≡ 32
unfolding column
minus-blank zero n p h = absurd (not-suc-le-zero p)
minus-blank (suc zero) n p h = by-tenth (ltb n 10) n _ _ 32 refl (λ l. refl) (λ l. let z : ⊥ = omega arith in absurd z)
minus-blank (suc (suc j)) n p h = by-tenth (ltb n 10) n _ _ 32 refl (λ l. simp eqb-suc-zero) (λ l. minus-blank (suc j) (n / 10) (omega arith) (tenth-below n (suc j) h))

-- ---- reading what was written
same_refl : (l : List ℕ) → same l l ≡ true
unfolding same
same_refl [] = refl
same_refl (b ∷ l) = rw (eq-eqb b b refl, same_refl l)

head-spelled : (sign n : ℕ) → get_or (spelled 8 sign n) 0 0 ≡ column sign n 7
unfolding spelled
head-spelled sign n = refl

written-spelled : (sign n : ℕ) → Plain sign → n < 10 ^ 8 → column sign n 7 ≡ 32 → written sign (spelled 8 sign n) ≡ true
unfolding written
written-spelled sign n p h e = rw (value-spelled sign p 8 n h, same_refl (spelled 8 sign n), head-spelled sign n, e)

-- with a minus and without, a number is spelled in two ways
tail-same : (w n a b : ℕ) → spelled (suc w) a n ≡ spelled (suc w) b n → (column a n w ≡ column b n w) × (spelled w a n ≡ spelled w b n)
unfolding spelled
tail-same w n a b e = (cc, cc)

columns-same : (w n a b j : ℕ) → spelled w a n ≡ spelled w b n → j < w → column a n j ≡ column b n j
columns-same zero n a b j e h = absurd (not-suc-le-zero h)
columns-same (suc w) n a b j e h =
    let t = tail-same w n a b e in
    ⊎_elim (λ (q : j ≡ w). rw q t.0) (λ (l : j < w). columns-same w n a b j t.1 l) (eq-or-lt_of_le (le_of_suc-le-suc h))

signs-tenth : (t : Bool) (n : ℕ) → ltb n 10 ≡ t → pick t 45 (column 45 (n / 10) 0) ≡ pick t 32 (column 32 (n / 10) 0) → (10 ≤ n → ⊥) → ⊥
signs-tenth true n e q f = omega (arith, q)
signs-tenth false n e q f = f (ltb-false n 10 e)

tenth-same : (t : Bool) (a b x y : ℕ) → t ≡ false → pick t a x ≡ pick t b y → x ≡ y
tenth-same true a b x y e q = let z : ◌≡◌ {A = ℕ} 0 1 = cc in absurd (omega arith)
tenth-same false a b x y e q = q

signs-differ : (w n : ℕ) → n < 10 ^ suc w → ((j : ℕ) → j ≤ suc w → column 45 n j ≡ column 32 n j) → ⊥
unfolding column
signs-differ zero n h f = signs-tenth (ltb n 10) n refl (f 1 (omega arith)) (λ l. omega arith)
signs-differ (suc w) n h f =
    signs-tenth (ltb n 10) n refl (f 1 (omega arith))
    (λ l. signs-differ w (n / 10) (tenth-below n (suc w) h) (λ j k. tenth-same (ltb n 10) _ _ _ _ (le-ltb n 10 l) (f (suc j) (omega arith))))

never_true : (t : Bool) → (t ≡ true → ⊥) → t ≡ false
never_true true f = absurd (f refl)
never_true false f = refl

unlike : (n : ℕ) → n < 10 ^ 7 → same (spelled 8 45 n) (spelled 8 32 n) ≡ false
unlike n h =
    never_true _ (λ e. signs-differ 6 n h (λ j l. columns-same 8 n 45 32 j (same-eq (spelled 8 45 n) (spelled 8 32 n) e) (omega arith)))

not_plain : (n : ℕ) → n < 10 ^ 7 → written 32 (spelled 8 45 n) ≡ false
unfolding written
not_plain n h = rw (value-spelled 45 refl 8 n (omega arith), unlike n h) (simp and-false)

written-plain : (n : ℕ) → n ≤ 9_999_999 → written 32 (spelled 8 32 n) ≡ true
written-plain n h = written-spelled 32 n refl (omega arith) (plain-blank 7 n (omega arith) (omega arith))

by-force : (t : Bool) (v : ℕ) → leb zero_force v ≡ t → Spellable true v → field_of true (pick t (spelled 8 32 (v - zero_force)) (spelled 8 45 (zero_force - v))) ≡ Some v
unfolding field_of minus_of
by-force true v e h =
    let l = leb-true zero_force v e in
    let q : zero_force + (v - zero_force) ≡ v = omega arith in
    rw (written-plain (v - zero_force) (omega arith), value-spelled 32 refl 8 (v - zero_force) (omega arith), q)
by-force false v e h =
    let l = leb-false zero_force v e in
    let q : zero_force - (zero_force - v) ≡ v = omega arith in
    rw (not_plain (zero_force - v) (omega arith), written-spelled 45 (zero_force - v) refl (omega arith) (minus-blank 6 (zero_force - v) (omega arith) (omega arith)), value-spelled 45 refl 8 (zero_force - v) (omega arith), lt-ltb 0 (zero_force - v) (omega arith), q)

-- reading what was written gives the number
pub read-field : (force : Bool) (v : ℕ) → Spellable force v → field_of force (field_text force v) ≡ Some v
unfolding field_of field_text
read-field false v h = rw (written-plain v h, value-spelled 32 refl 8 v (omega arith))
read-field true v h = by-force (leb zero_force v) v refl h

-- ---- writing what was read
written_is : (sign : ℕ) (t : List ℕ) → written sign t ≡ true → t ≡ spelled 8 sign (value 0 t)
unfolding written
written_is sign t w = same-eq t (spelled 8 sign (value 0 t)) (and_right (eqb (get_or t 0 0) 32) _ w)

pub written_small : (t : List ℕ) → written 32 t ≡ true → value 0 t ≤ 9_999_999
unfolding written
written_small t w =
    let h = eqb-true (get_or t 0 0) 32 (and_left (eqb (get_or t 0 0) 32) _ w) in
    let e = written_is 32 t w in
    let g = blank-digits (value 0 t) 7 (sym (head-spelled 32 (value 0 t)) ∙ ap (λ (l : List ℕ). get_or l 0 0) (sym e) ∙ h) in
    omega arith

-- the number of a choice between one and none
some_of : (t : Bool) (a v : ℕ) → pick t (Some a) None ≡ Some v → (t ≡ true) × (a ≡ v)
some_of true a v e = (refl, cc)
some_of false a v e = let z : ◌≡◌ {A = ℕ} 0 1 = cc in absurd (omega arith)

pub record Spells (force : Bool) (t : List ℕ) (v : ℕ) : Type 0 where
  pub text : t ≡ field_text force v
  pub spellable : Spellable force v

wrote-plain : (t : List ℕ) (v : ℕ) → (written 32 t ≡ true) × (value 0 t ≡ v) → Spells false t v
unfolding field_text
wrote-plain t v h = record { text = rw h.1 at (written_is 32 t h.0); spellable = rw h.1 at (written_small t h.0) }

wrote-above : (t : List ℕ) (n v : ℕ) → t ≡ spelled 8 32 n → n ≤ 9_999_999 → zero_force + n ≡ v → Spells true t v
unfolding field_text
wrote-above t n v e h q =
    let k : v - zero_force ≡ n = omega arith in
    record { text = rw (le-leb zero_force v (omega arith), k) e; spellable = (omega arith, omega arith) }

wrote-below : (t : List ℕ) (n v : ℕ) → t ≡ spelled 8 45 n → n ≤ 999_999 → 0 < n → zero_force - n ≡ v → Spells true t v
unfolding field_text
wrote-below t n v e h p q =
    let k : zero_force - v ≡ n = omega arith in
    record { text = rw (lt-leb zero_force v (omega arith), k) e; spellable = (omega arith, omega arith) }

wrote-minus : (t : List ℕ) (v : ℕ) → ((written 45 t && ltb 0 (value 0 t)) ≡ true) × (zero_force - value 0 t ≡ v) → Spells true t v
wrote-minus t v h =
    let w = and_left (written 45 t) (ltb 0 (value 0 t)) h.0 in
    wrote-below t (value 0 t) v (written_is 45 t w) (omega (arith, written-small t w)) (ltb-true 0 (value 0 t) (and_right (written 45 t) (ltb 0 (value 0 t)) h.0)) h.1

wrote-force : (b : Bool) (t : List ℕ) (v : ℕ) → written 32 t ≡ b → pick b (Some (zero_force + value 0 t)) (pick (written 45 t && ltb 0 (value 0 t)) (Some (zero_force - value 0 t)) None) ≡ Some v → Spells true t v
wrote-force true t v w e = wrote-above t (value 0 t) v (written_is 32 t w) (written_small t w) (cc)
wrote-force false t v w e = wrote-minus t v (some_of (written 45 t && ltb 0 (value 0 t)) (zero_force - value 0 t) v e)

-- writing what was read gives the bytes
pub write-field : (force : Bool) (t : List ℕ) (v : ℕ) → field_of force t ≡ Some v → Spells force t v
unfolding field_of minus_of
write-field false t v e = wrote-plain t v (some_of (written 32 t) (value 0 t) v e)
write-field true t v e = wrote-force (written 32 t) t v refl e
