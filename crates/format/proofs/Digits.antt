-- A number's digits over blanks are its spelling.
use Prim.Native.Nat.{ℕ, zero, suc, ◌+◌, ◌-◌, ◌/◌, ◌%◌, ◌≤◌, ◌<◌}
use native.Mathlib.Omega.{arith}
use native.Mathlib.Nat.{not-suc-le-zero}
use mathlib.Core.List.{List, [], ◌∷◌, ◌++◌, append_assoc}
use mathlib.Core.Path.{◌≡◌, refl, ap, sym, ◌∙◌}
use lib.ListN.{drop, set, replicate, length-replicate}
use lib.Seq.{drop_at}
use borrow.Author.Tests.{lt-ltb, le-ltb, ne_eqb}
use Rattle.format.specs.Spelling.{column, spelled}

-- ---- a spelling from its end

-- the blanks, the sign and the one digit of a number below ten
unfoldable small : ℕ → ℕ → ℕ → List ℕ
small zero sign v = v ∷ []
small (suc w) sign v = replicate w 32 ++ (sign ∷ v ∷ [])

column-blank : (w sign n : ℕ) → n < 10 → column sign n (suc (suc w)) ≡ 32
unfolding column
column-blank w sign n h = rw (lt-ltb n 10 h, ne_eqb (suc w) 0 (λ e. let z : ⊥ = omega (arith, e) in z))

spelled-small : (w sign n : ℕ) → n < 10 → spelled (suc w) sign n ≡ small w sign (48 + n % 10)
unfolding spelled column small
spelled-small zero sign n h = refl
spelled-small (suc zero) sign n h = rw (lt-ltb n 10 h)
spelled-small (suc (suc w)) sign n h = ap (λ (b : ℕ). b ∷ spelled (suc (suc w)) sign n) (column-blank w sign n h) ∙ ap (λ (xs : List ℕ). 32 ∷ xs) (spelled-small (suc w) sign n h)

spelled-large : (w sign n : ℕ) → 10 ≤ n → spelled (suc w) sign n ≡ spelled w sign (n / 10) ++ ((48 + n % 10) ∷ [])
unfolding spelled column
spelled-large zero sign n h = refl
spelled-large (suc w) sign n h = rw (le-ltb n 10 h, spelled-large w sign n h)

-- ---- a byte over the last of some blanks
blank-set : (w v : ℕ) (xs : List ℕ) → set (replicate (suc w) 32 ++ xs) w v ≡ replicate w 32 ++ (v ∷ xs)
blank-set zero v xs = refl
blank-set (suc w) v xs = ap (λ (ys : List ℕ). 32 ∷ ys) (blank-set w v xs)

-- ---- a turn of the loop: the last of the columns that are blank still, under the number that is left
module _ (n : ℕ) where
  abbrev digit : ℕ
  digit = 48 + n % 10

  set-last : (w : ℕ) (columns : List ℕ) → columns ≡ replicate (suc w) 32 ++ drop (suc w) columns → set columns w digit ≡ replicate w 32 ++ (digit ∷ drop (suc w) columns)
  set-last w columns b = ap (λ (xs : List ℕ). set xs w digit) b ∙ blank-set w digit (drop (suc w) columns)

  drop-last : (w : ℕ) (columns : List ℕ) → columns ≡ replicate (suc w) 32 ++ drop (suc w) columns → drop w (set columns w digit) ≡ digit ∷ drop (suc w) columns
  drop-last w columns b = ap (drop w) (set-last w columns b) ∙ drop_at (replicate w 32) (digit ∷ drop (suc w) columns) w (length-replicate w 32)

  pub blanks-left : (i : ℕ) (columns : List ℕ) → 0 < i → columns ≡ replicate i 32 ++ drop i columns → set columns (i - 1) digit ≡ replicate (i - 1) 32 ++ drop (i - 1) (set columns (i - 1) digit)
  blanks-left zero columns h b = absurd (not-suc-le-zero h)
  blanks-left (suc w) columns h b = let e : suc w - 1 ≡ w = omega arith in rw (e, drop-last w columns b) (set-last w columns b)

  pub digits-more : (sign i : ℕ) (columns whole : List ℕ) → 0 < i → 10 ≤ n → columns ≡ replicate i 32 ++ drop i columns → whole ≡ spelled i sign n ++ drop i columns → whole ≡ spelled (i - 1) sign (n / 10) ++ drop (i - 1) (set columns (i - 1) digit)
  digits-more sign zero columns whole h l b d = absurd (not-suc-le-zero h)
  digits-more sign (suc w) columns whole h l b d =
      let e : suc w - 1 ≡ w = omega arith in
      rw (e, drop-last w columns b) (d ∙ ap (λ (xs : List ℕ). xs ++ drop (suc w) columns) (spelled-large w sign n l) ∙ append_assoc (spelled w sign (n / 10)) (digit ∷ []) (drop (suc w) columns))

  pub last-signed : (sign i : ℕ) (columns whole : List ℕ) → 0 < i - 1 → n < 10 → columns ≡ replicate i 32 ++ drop i columns → whole ≡ spelled i sign n ++ drop i columns → set (set columns (i - 1) digit) (i - 1 - 1) sign ≡ whole
  unfolding small
  last-signed sign zero columns whole h l b d = absurd (omega arith)
  last-signed sign (suc zero) columns whole h l b d = absurd (omega arith)
  last-signed sign (suc (suc w)) columns whole h l b d =
      let e : suc (suc w) - 1 ≡ suc w = omega arith in
      let f : suc w - 1 ≡ w = omega arith in
      rw (e, f, set-last (suc w) columns b, blank-set w sign (digit ∷ drop (suc (suc w)) columns))
      (sym (d ∙ ap (λ (xs : List ℕ). xs ++ drop (suc (suc w)) columns) (spelled-small (suc w) sign n l) ∙ append_assoc (replicate w 32) (sign ∷ digit ∷ []) (drop (suc (suc w)) columns)))

  pub last-unsigned : (sign i : ℕ) (columns whole : List ℕ) → 0 < i → i - 1 ≤ 0 → n < 10 → columns ≡ replicate i 32 ++ drop i columns → whole ≡ spelled i sign n ++ drop i columns → set columns (i - 1) digit ≡ whole
  unfolding small
  last-unsigned sign zero columns whole h z l b d = absurd (not-suc-le-zero h)
  last-unsigned sign (suc zero) columns whole h z l b d = set-last 0 columns b ∙ sym (d ∙ ap (λ (xs : List ℕ). xs ++ drop 1 columns) (spelled-small 0 sign n l))
  last-unsigned sign (suc (suc w)) columns whole h z l b d = absurd (omega arith)

-- no column is left
pub digits-end : (columns whole : List ℕ) (i sign n : ℕ) → i ≤ 0 → whole ≡ spelled i sign n ++ drop i columns → columns ≡ whole
unfolding spelled
digits-end columns whole zero sign n h d = sym d
digits-end columns whole (suc i) sign n h d = absurd (omega arith)
