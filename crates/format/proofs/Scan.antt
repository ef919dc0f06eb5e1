-- A field's columns taken from the left, each by what the ones before it make: that agrees with the spelling of the number.
use Prim.Native.Nat.{ℕ, zero, suc, ◌+◌, ◌-◌, ◌*◌, ◌/◌, ◌^◌, ◌≤◌, ◌<◌}
use native.Mathlib.Omega.{arith}
use native.Mathlib.Numerals.{add-one}
use native.Mathlib.Nat.{pow-suc, div-div-eq-div-mul, div-lt_iff_lt-mul, div-eq_of_lt, pow-le-pow_right}
use mathlib.Core.Bool.{Bool, true, false, not, ◌&&◌, ◌||◌, and-true, and-false}
use mathlib.Core.List.{List, [], ◌∷◌}
use mathlib.Core.Logic.{◌⊎◌, inl, inr, ⊎_elim}
use mathlib.Core.Path.{◌≡◌, refl, ap, sym, ◌∙◌}
use lib.Dec.{leb, ltb, eqb}
use lib.ListN.{length, take, drop, get_or, length-drop, drop_of_length-le}
use lib.Seq.{drop-cons}
use borrow.Author.Tests.{ltb-true, leb-true, eqb-true, eqb-false, lt-ltb, le-leb, eq-eqb, ne_eqb, not-true}
use Rattle.std.specs.Prelude.{Option, Some, None}
use Rattle.std.proofs.lemmas.List.{length-take-le, get_or-take, get_or-drop}
use Rattle.records.specs.Notation.{pick}
use Rattle.format.specs.Steps.{continues}
use Rattle.records.specs.Records.{zero_force}
use Rattle.format.specs.Spelling.{column, spelled, same, pushed, value, written, minus_of, field_of}
use Rattle.records.proofs.Below.{and_left, and_right}
use Rattle.format.proofs.Columns.{blank-digits}
use Rattle.format.proofs.Spelt.{push-column, plain-blank, written_small}

iff : (a b : Bool) → (a ≡ true → b ≡ true) → (b ≡ true → a ≡ true) → a ≡ b
iff true true f g = refl
iff true false f g = sym (f refl)
iff false true f g = g refl
iff false false f g = refl

both : (a b : Bool) → a ≡ true → b ≡ true → (a && b) ≡ true
both a b e f = rw (e, f)

-- ---- a column of a number without a minus is a blank before its digits, or a digit
kind-by : (t : Bool) (j a c : ℕ) → a ≡ 32 → ((c ≡ 32) × (0 < j)) ⊎ ((48 ≤ c) × (c ≤ 57)) → ((pick t a c ≡ 32) × (0 < suc j)) ⊎ ((48 ≤ pick t a c) × (pick t a c ≤ 57))
kind-by true j a c e k = inl (e, omega arith)
kind-by false j a c e (inl k) = inl (k.0, omega arith)
kind-by false j a c e (inr k) = inr k

same-pick : (t : Bool) (a : ℕ) → pick t a a ≡ a
same-pick true a = refl
same-pick false a = refl

kind : (n w : ℕ) → ((column 32 n w ≡ 32) × (0 < w)) ⊎ ((48 ≤ column 32 n w) × (column 32 n w ≤ 57))
unfolding column
kind n zero = inr (omega arith, omega arith)
kind n (suc j) = kind-by (ltb n 10) j (pick (eqb j 0) 32 32) (column 32 (n / 10) j) (same-pick (eqb j 0) 32) (kind (n / 10) j)

-- ---- whether a column goes on
goes-digit : (v b : ℕ) (last : Bool) → 48 ≤ b → b ≤ 57 → (last ≡ false → v ≡ 0 → 48 < b) → continues v b last ≡ true
goes-digit v b true h g f = rw (ne_eqb b 32 (λ e. omega arith), le-leb 48 b h, le-leb b 57 g)
goes-digit zero b false h g f = rw (ne_eqb b 32 (λ e. omega arith), le-leb 48 b h, le-leb b 57 g, lt-ltb 48 b (f refl refl))
goes-digit (suc v) b false h g f = rw (ne_eqb b 32 (λ e. omega arith), le-leb 48 b h, le-leb b 57 g, lt-ltb 0 (suc v) (omega arith))

goes_blank : (v b : ℕ) (last : Bool) → v ≡ 0 → b ≡ 32 → last ≡ false → continues v b last ≡ true
goes_blank v b last e f g = rw (e, f, g)

first-digit : (v b : ℕ) (last : Bool) → (last || (ltb 0 v || ltb 48 b)) ≡ true → last ≡ false → v ≡ 0 → 48 < b
first-digit v b last h e f = ltb-true 48 b (rw (e, f) at h)

goes_by : (t : Bool) (v b : ℕ) (last : Bool) → eqb b 32 ≡ t → pick t (not last && eqb v 0) ((leb 48 b && leb b 57) && (last || (ltb 0 v || ltb 48 b))) ≡ true → ((b ≡ 32) × (v ≡ 0) × (last ≡ false)) ⊎ ((48 ≤ b) × (b ≤ 57) × (last ≡ false → v ≡ 0 → 48 < b))
goes_by true v b last e h = inl (eqb-true b 32 e, eqb-true v 0 (and_right (not last) (eqb v 0) h), not-true last (and_left (not last) (eqb v 0) h))
goes_by false v b last e h =
    let d = and_left (leb 48 b && leb b 57) _ h in
    inr (leb-true 48 b (and_left (leb 48 b) (leb b 57) d), leb-true b 57 (and_right (leb 48 b) (leb b 57) d), first-digit v b last (and_right (leb 48 b && leb b 57) _ h))

push-one : (v b : ℕ) → 48 ≤ b → b ≤ 57 → pushed v b ≡ v * 10 + (b - 48)
push-one v b h g = rw (le-leb 48 b h, le-leb b 57 g)

-- ---- powers of ten
tenth-of : (n w : ℕ) → n / 10 ^ suc w ≡ n / 10 ^ w / 10
tenth-of n w = rw pow-suc (sym (div-div-eq-div-mul n (10 ^ w) 10))

none_above : (n w : ℕ) → n / 10 ^ w ≡ 0 → n < 10 ^ w
none_above n w e =
    let p = pow-le-pow_right {n = 10} (omega arith) {i = 0} {j = w} (omega arith) in
    let l : n / 10 ^ w < 1 = rw e (omega arith) in
    omega (arith, (div-lt_iff_lt-mul {k = 10 ^ w} {x = n} {y = 1} (omega (arith, p))).0 l)

above-too : (n w : ℕ) → n < 10 ^ w → n / 10 ^ suc w ≡ 0
above-too n w h = div-eq_of_lt (omega (arith, h, pow-le-pow_right {n = 10} (omega arith) {i = w} {j = suc w} (omega arith)))

-- ---- one column: the one of the spelling, with the digits before it, is the one that goes on, with the digits up to it
module _ (n w : ℕ) where
  column-pushes : pushed (n / 10 ^ suc w) (column 32 n w) ≡ n / 10 ^ w
  column-pushes = push-column 32 refl w n

  no-first-zero : 48 ≤ column 32 n w → (w ≡ 0 → ⊥) → n / 10 ^ suc w ≡ 0 → column 32 n w ≡ 48 → ⊥
  no-first-zero h p z e =
      let q : n / 10 ^ w ≡ 0 = sym column-pushes ∙ rw (z, e) in
      omega (arith, h, plain-blank w n (omega (arith, p)) (none_above n w q))

  column-goes : continues (n / 10 ^ suc w) (column 32 n w) (eqb w 0) ≡ true
  column-goes =
      ⊎_elim (λ (k : (column 32 n w ≡ 32) × (0 < w)). goes_blank _ _ _ (above-too n w (blank-digits n w k.0)) k.0 (ne_eqb w 0 (λ e. omega (arith, k.1))))
      (λ (k : (48 ≤ column 32 n w) × (column 32 n w ≤ 57)). goes-digit _ _ _ k.0 k.1 (λ e z. omega (arith, k.0, no-first-zero k.0 (eqb-false w 0 e) z))) (kind n w)

  blank-is : (v b : ℕ) → b ≡ 32 → v ≡ 0 → eqb w 0 ≡ false → n / 10 ^ w ≡ pushed v b → (b ≡ column 32 n w) × (n / 10 ^ suc w ≡ v)
  blank-is v b e z l q =
      let h = none_above n w (q ∙ rw (e, z)) in
      (e ∙ sym (plain-blank w n (omega (arith, eqb-false w 0 l)) h), above-too n w h ∙ sym z)

  digit-is : (v b : ℕ) → 48 ≤ b → b ≤ 57 → (eqb w 0 ≡ false → v ≡ 0 → 48 < b) → n / 10 ^ w ≡ pushed v b → (b ≡ column 32 n w) × (n / 10 ^ suc w ≡ v)
  digit-is v b h g f q =
      let d : n / 10 ^ w ≡ v * 10 + (b - 48) = q ∙ push-one v b h g in
      let t : n / 10 ^ suc w ≡ v = tenth-of n w ∙ rw d (omega arith) in
      let p : pushed v (column 32 n w) ≡ v * 10 + (b - 48) = ap (λ (x : ℕ). pushed x (column 32 n w)) (sym t) ∙ column-pushes ∙ d in (
        ⊎_elim (λ (k : (column 32 n w ≡ 32) × (0 < w)). let y : v ≡ v * 10 + (b - 48) = rw k.0 at p in let z : ⊥ = omega (arith, y, f (ne_eqb w 0 (λ e. omega (arith, k.1))) (omega (arith, y))) in absurd z)
            (λ (k : (48 ≤ column 32 n w) × (column 32 n w ≤ 57)). omega (arith, p, push-one v (column 32 n w) k.0 k.1, k)) (kind n w),
        t,
      )

  one-column : (v b : ℕ) → (eqb b (column 32 n w) && eqb (n / 10 ^ suc w) v) ≡ (continues v b (eqb w 0) && eqb (n / 10 ^ w) (pushed v b))
  one-column v b =
      iff (eqb b (column 32 n w) && eqb (n / 10 ^ suc w) v) (continues v b (eqb w 0) && eqb (n / 10 ^ w) (pushed v b)) (λ h.
      let e = eqb-true b (column 32 n w) (and_left (eqb b (column 32 n w)) _ h) in
      let z = eqb-true (n / 10 ^ suc w) v (and_right (eqb b (column 32 n w)) _ h) in
      both (continues v b (eqb w 0)) (eqb (n / 10 ^ w) (pushed v b)) (rw (e, ← z) column-goes) (eq-eqb (n / 10 ^ w) (pushed v b) (rw (e, ← z) (sym column-pushes))))
      (λ h.
      let q = eqb-true (n / 10 ^ w) (pushed v b) (and_right (continues v b (eqb w 0)) _ h) in
      let r = ⊎_elim (λ (k : (b ≡ 32) × (v ≡ 0) × (eqb w 0 ≡ false)). blank-is v b k.0 k.1 k.2 q) (λ (k : (48 ≤ b) × (b ≤ 57) × (eqb w 0 ≡ false → v ≡ 0 → 48 < b)). digit-is v b k.0 k.1 k.2 q) (goes_by (eqb b 32) v b (eqb w 0) refl (and_left (continues v b (eqb w 0)) _ h)) in
      both (eqb b (column 32 n w)) (eqb (n / 10 ^ suc w) v) (eq-eqb b (column 32 n w) r.0) (eq-eqb (n / 10 ^ suc w) v r.1))

-- ---- all the columns
unfoldable pub scanned : ℕ → List ℕ → Option ℕ
scanned v [] = Some v
scanned v (b ∷ t) = pick (continues v b (eqb (length t) 0)) (scanned (pushed v b) t) None

pick-none : (g : Bool) → pick {A = Option ℕ} g None None ≡ None
pick-none true = refl
pick-none false = refl

pick-both : (g e : Bool) (n : ℕ) → pick g (pick e (Some n) None) None ≡ pick (g && e) (Some n) None
pick-both true e n = refl
pick-both false e n = refl

picks : (a b g e x : Bool) (n : ℕ) → (a && b) ≡ (g && e) → pick g (pick (x && e) (Some n) None) None ≡ pick ((a && x) && b) (Some n) None
picks a b g e true n h = pick-both g e n ∙ rw (← h, and-true a)
picks a b g e false n h = pick-none g ∙ rw (and-false a)

pub scanned-is : (t : List ℕ) (v : ℕ) → scanned v t ≡ pick (same t (spelled (length t) 32 (value v t)) && eqb (value v t / 10 ^ length t) v) (Some (value v t)) None
unfolding scanned same spelled value
scanned-is [] v = let e : v / 10 ^ 0 ≡ v = omega arith in rw (e, eq-eqb v v refl)
scanned-is (b ∷ t) v =
    let n = value (pushed v b) t in
    rw (scanned-is t (pushed v b)) (picks (eqb b (column 32 n (length t))) (eqb (n / 10 ^ suc (length t)) v) (continues v b (eqb (length t) 0)) (eqb (n / 10 ^ length t) (pushed v b)) (same t (spelled (length t) 32 n)) n (one-column n (length t) v b))

-- ---- a field's eight columns: a blank, and seven
blank-or-none : (n : ℕ) → eqb 32 (column 32 n 7) ≡ eqb (n / 10 ^ 7) 0
blank-or-none n =
    iff (eqb 32 (column 32 n 7)) (eqb (n / 10 ^ 7) 0) (λ h. eq-eqb (n / 10 ^ 7) 0 (div-eq_of_lt (blank-digits n 7 (sym (eqb-true 32 (column 32 n 7) h)))))
    (λ h. eq-eqb 32 (column 32 n 7) (sym (plain-blank 7 n (omega arith) (none_above n 7 (eqb-true (n / 10 ^ 7) 0 h)))))

and-swap : (a b : Bool) → (a && b) ≡ (b && a)
and-swap true b = sym (and-true b)
and-swap false b = sym (and-false b)

by-blank : (q : Bool) (b : ℕ) (t : List ℕ) → eqb b 32 ≡ q → length t ≡ 7 → field_of false (b ∷ t) ≡ pick q (scanned 0 t) None
unfolding field_of written same spelled value
by-blank true b t e h =
    let f = eqb-true b 32 e in
    rw (f, scanned-is t 0, h, blank-or-none (value 0 t), and-swap (eqb (value 0 t / 10 ^ 7) 0) (same t (spelled 7 32 (value 0 t))))
by-blank false b t e h = rw e

-- ---- a field's columns from the second on
module _ (l : List ℕ) (h : length l ≡ 8) where
  rest-length : (i : ℕ) → i < 8 → length (drop (suc i) l) ≡ 8 - (i + 1)
  rest-length i g = length-drop (suc i) l ∙ rw h (omega arith)

  parts : l ≡ get_or l 0 0 ∷ drop 1 l
  parts = drop-cons l 0 0 (omega (arith, h))

  pub no-blank-first : (get_or l 0 0 ≡ 32 → ⊥) → None ≡ field_of false l
  no-blank-first ne = sym (ap (field_of false) parts ∙ by-blank false (get_or l 0 0) (drop 1 l) (ne_eqb _ _ ne) (rest-length 0 (omega arith)))

  pub scan-starts : get_or l 0 0 ≡ 32 → scanned 0 (drop 1 l) ≡ field_of false l
  scan-starts e = sym (ap (field_of false) parts ∙ by-blank true (get_or l 0 0) (drop 1 l) (eq-eqb _ _ e) (rest-length 0 (omega arith)))

  -- column i, which is b; it is the last where i is 7
  module _ (i v b : ℕ) (last : Bool) (x : Option ℕ) (g : i < 8) (p : b ≡ get_or l i 0) (q : eqb (8 - (i + 1)) 0 ≡ last) (e : scanned v (drop i l) ≡ x) where
    turn : pick (continues v b last) (scanned (pushed v b) (drop (i + 1) l)) None ≡ x
    unfolding scanned
    turn = rw (p, add-one) (rw (drop-cons l i 0 (omega (arith, h, g)), rest-length i g, q) at e)

    pub scan-stops : continues v b last ≡ false → None ≡ x
    scan-stops f = rw f at turn

    pub scan-goes : continues v b last ≡ true → scanned (pushed v b) (drop (i + 1) l) ≡ x
    scan-goes f = rw f at turn

  -- the last
  pub scan-ends : (v b : ℕ) (x : Option ℕ) → b ≡ get_or l 7 0 → scanned v (drop 7 l) ≡ x → pick (continues v b true) (Some (pushed v b)) None ≡ x
  unfolding scanned
  scan-ends v b x p e =
      let k : length l ≤ 8 = omega (arith, h) in
      rw (drop_of_length-le l k) at (turn 7 v b true x (omega arith) p refl e)

  -- the columns between the first and the last, of a slice of all
  module _ (s : List ℕ) (e : s ≡ l) where
    pub middle-long : length (take (length s - 1 - 1) (drop 1 s)) ≡ 6
    middle-long = rw (e, h) (length-take-le 6 (drop 1 l) (omega (arith, length-drop 1 l, h)))

    pub middle-at : (i : ℕ) → i < 6 → get_or (take (length s - 1 - 1) (drop 1 s)) i 0 ≡ get_or l (i + 1) 0
    middle-at i g =
        let z : 1 + i ≡ i + 1 = omega arith in
        rw (e, h) (get_or-take 6 (drop 1 l) i 0 g ∙ get_or-drop 1 l i 0 ∙ ap (λ k. get_or l k 0) z)

    pub last-at : get_or s (length s - 1) 0 ≡ get_or l 7 0
    last-at = rw (e, h) refl

-- what one more column makes
pub column_stops : (t : Bool) (x : ℕ) → pick {A = Option ℕ} t (Some x) None ≡ None → t ≡ false
column_stops true x e = let z : ◌≡◌ {A = ℕ} 0 1 = cc in absurd (omega arith)
column_stops false x e = refl

pub column_goes : (t : Bool) (x n : ℕ) → pick {A = Option ℕ} t (Some x) None ≡ Some n → (t ≡ true) × (n ≡ x)
column_goes true x n e = (refl, cc)
column_goes false x n e = let z : ◌≡◌ {A = ℕ} 0 1 = cc in absurd (omega arith)

-- ---- N_D and N_K without a minus, and then with one
small_plain : (q : Bool) (t : List ℕ) (n : ℕ) → written 32 t ≡ q → Some n ≡ pick q (Some (value 0 t)) None → n ≤ 9_999_999
small_plain true t n w e = let f : n ≡ value 0 t = cc in rw f (written_small t w)
small_plain false t n w e = let z : ◌≡◌ {A = ℕ} 0 1 = cc in absurd (omega arith)

plain-force : (q : Bool) (t : List ℕ) (n : ℕ) → Some n ≡ pick q (Some (value 0 t)) None → Some (zero_force + n) ≡ pick q (Some (zero_force + value 0 t)) (minus_of t)
plain-force true t n e = cc
plain-force false t n e = let z : ◌≡◌ {A = ℕ} 0 1 = cc in absurd (omega arith)

minus-force : (q : Bool) (t : List ℕ) → None ≡ pick q (Some (value 0 t)) None → minus_of t ≡ pick q (Some (zero_force + value 0 t)) (minus_of t)
minus-force true t e = let z : ◌≡◌ {A = ℕ} 0 1 = cc in absurd (omega arith)
minus-force false t e = refl

module _ (t : List ℕ) where
  pub force-small : (n : ℕ) → Some n ≡ field_of false t → n ≤ 9_999_999
  unfolding field_of
  force-small n e = small_plain (written 32 t) t n refl e

  pub force-number : (n : ℕ) → Some n ≡ field_of false t → Some (zero_force + n) ≡ field_of true t
  unfolding field_of
  force-number n e = plain-force (written 32 t) t n e

  pub force-else : None ≡ field_of false t → minus_of t ≡ field_of true t
  unfolding field_of
  force-else e = minus-force (written 32 t) t e
