-- Laws of tests, and of `every` and `any`: tests over the numbers below a bound.
use Prim.Native.Nat.{ℕ, zero, suc, ◌+◌, ◌≤◌, ◌<◌}
use native.Mathlib.Omega.{arith}
use native.Mathlib.Nat.{not-suc-le-zero, eq-or-lt_of_le, le_of_suc-le-suc}
use native.Mathlib.Numerals.{add-one}
use mathlib.Core.Bool.{Bool, true, false, ◌&&◌, and-true, and-false, and_assoc, or-true}
use mathlib.Core.Logic.{⊎_elim}
use mathlib.Core.List.{List}
use mathlib.Core.Path.{◌≡◌, refl, ap, sym, ◌∙◌}
use lib.ListN.{length, take, get_or}
use lib.Seq.{take-length}
use Rattle.std.specs.List.{list_all, range_with_len}
use Rattle.std.proofs.lemmas.List.Folds.{list_all_more}
use Rattle.std.proofs.lemmas.List.FromFn.{length-range_with_len, get_or-range_with_len}
use Rattle.records.specs.Notation.{every_below, any_below}

pub and_left : (a b : Bool) → (a && b) ≡ true → a ≡ true
and_left true b e = refl
and_left false b e = e

pub and_right : (a b : Bool) → (a && b) ≡ true → b ≡ true
and_right true b e = e
and_right false b e = let z : ◌≡◌ {A = ℕ} 0 1 = cc in absurd (omega arith)

pub both_ways : (t u : Bool) → (t ≡ true → u ≡ true) → (u ≡ true → t ≡ true) → t ≡ u
both_ways true u f g = sym (f refl)
both_ways false true f g = g refl
both_ways false false f g = refl

module _ (p : ℕ → Bool) where
  pub every-none : every_below p 0 ≡ true
  unfolding every_below
  every-none = refl

  pub every_more : (n : ℕ) → every_below p n ≡ true → p n ≡ true → every_below p (n + 1) ≡ true
  unfolding every_below
  every_more n e f = rw (add-one, e, f)

  pub every-fails : (n j : ℕ) → j < n → p j ≡ false → every_below p n ≡ false
  unfolding every_below
  every-fails zero j h e = absurd (not-suc-le-zero h)
  every-fails (suc n) j h e =
      ⊎_elim (λ (q : j ≡ n). rw (← q, e) (and-false (every_below p j))) (λ (l : j < n). rw (every-fails n j l e)) (eq-or-lt_of_le (le_of_suc-le-suc h))

  pub every-at : (n j : ℕ) → every_below p n ≡ true → j < n → p j ≡ true
  unfolding every_below
  every-at zero j e h = absurd (not-suc-le-zero h)
  every-at (suc n) j e h =
      ⊎_elim (λ (q : j ≡ n). rw q (and_right (every_below p n) (p n) e)) (λ (l : j < n). every-at n j (and_left (every_below p n) (p n) e) l) (eq-or-lt_of_le (le_of_suc-le-suc h))

  pub every_of : (n : ℕ) → ((j : ℕ) → j < n → p j ≡ true) → every_below p n ≡ true
  every_of zero h = every-none
  every_of (suc n) h = rw add-one at (every_more n (every_of n (λ j l. h j (omega arith))) (h n (omega arith)))

  -- of the numbers below n, and of so many more
  pub every-add : (n k : ℕ) → every_below p n ≡ true → ((i : ℕ) → i < k → p (n + i) ≡ true) → every_below p (n + k) ≡ true
  every-add n zero e h = let z : n + 0 ≡ n = omega arith in rw z e
  every-add n (suc k) e h =
      let z : n + suc k ≡ (n + k) + 1 = omega arith in
      rw z (every_more (n + k) (every-add n k e (λ i l. h i (omega arith))) (h k (omega arith)))

  -- of n numbers and of the k after them
  pub every-split : (n k : ℕ) → every_below p (n + k) ≡ (every_below p n && every_below (λ j. p (n + j)) k)
  unfolding every_below
  every-split n zero = let z : n + 0 ≡ n = omega arith in rw z (sym (and-true (every_below p n)))
  every-split n (suc k) =
      let z : n + suc k ≡ suc (n + k) = omega arith in
      rw (z, every-split n k) (and_assoc (every_below p n) (every_below (λ j. p (n + j)) k) (p (n + k)))

  -- of the first k elements of a list, whose j-th the test q takes as p does j
  every-taken : {A : Type 0} (q : A → Bool) (xs : List A) (d : A) → ((j : ℕ) → j < length xs → q (get_or xs j d) ≡ p j) → (k : ℕ) → k ≤ length xs → list_all q (take k xs) ≡ every_below p k
  unfolding every_below
  every-taken q xs d same zero h = refl
  every-taken q xs d same (suc k) h =
      rw add-one at (list_all_more q xs k d (omega arith)) ∙ rw (every-taken q xs d same k (omega arith), same k (omega arith)) refl

  -- of all of them
  pub every-element : {A : Type 0} (q : A → Bool) (xs : List A) (d : A) (n : ℕ) → length xs ≡ n → ((j : ℕ) → j < n → q (get_or xs j d) ≡ p j) → list_all q xs ≡ every_below p n
  every-element q xs d n e same =
      rw (take-length xs, e) at (every-taken q xs d (λ j h. same j (omega arith)) (length xs) (omega arith))

  -- of the numbers of a range
  pub every-listed : (n : ℕ) → list_all p (range_with_len 0 n) ≡ every_below p n
  every-listed n = every-element p (range_with_len 0 n) 0 n (length-range_with_len 0 n) (λ j h. rw (get_or-range_with_len 0 n j 0 h) (ap p (omega arith)))

  -- two tests that say the same of each number
  pub every-same : (q : ℕ → Bool) (n : ℕ) → ((j : ℕ) → j < n → p j ≡ q j) → every_below p n ≡ every_below q n
  unfolding every_below
  every-same q zero h = refl
  every-same q (suc n) h = rw (every-same q n (λ j l. h j (omega arith)), h n (omega arith))

  pub any_none : any_below p 0 ≡ false
  unfolding any_below
  any_none = refl

  pub any-more : (n : ℕ) → any_below p n ≡ false → p n ≡ false → any_below p (n + 1) ≡ false
  unfolding any_below
  any-more n e f = rw (add-one, e, f)

  pub any-holds : (n j : ℕ) → j < n → p j ≡ true → any_below p n ≡ true
  unfolding any_below
  any-holds zero j h e = absurd (not-suc-le-zero h)
  any-holds (suc n) j h e =
      ⊎_elim (λ (q : j ≡ n). rw (← q, e) (or-true (any_below p j))) (λ (l : j < n). rw (any-holds n j l e)) (eq-or-lt_of_le (le_of_suc-le-suc h))
