-- Any way of pairing off is a pairing: a map of the places of one list to those of another, one to one and onto, in whatever order. Its pairs are those
-- of the map.
use Prim.Native.Nat.{ℕ, zero, suc, ◌-◌, ◌≤◌, zero-le, suc-le-suc, ◌<◌}
use native.Mathlib.Omega.{arith}
use native.Mathlib.Bridge.{le_prop}
use mathlib.Core.List.{List, [], ◌∷◌, ◌++◌}
use mathlib.Core.Path.{◌≡◌, sym, ap, subst, subst_refl, transport, transport⁻¹, path_j}
use lib.Dec.{ltb}
use lib.ListN.{length, get_or, take, drop}
use Rattle.std.proofs.Math.Seq.{drop-cons}
use Rattle.std.proofs.lemmas.List.{take-append-drop}
use Rattle.std.proofs.lemmas.Grind.{common_steps}
use Rattle.std.proofs.lemmas.Bool.Decides.{nat_tests}
use Rattle.records.specs.Notation.{pick}
use Rattle.comparison.specs.Pairing.{Pairing, none, pair, EveryPair}

-- places below n go to places below n, no two to the same
pub record OneToOne (n : ℕ) (σ : ℕ → ℕ) : Type 0 where
  pub within : (i : ℕ) → i < n → σ i < n
  pub apart : (i j : ℕ) → i < n → j < n → σ i ≡ σ j → i ≡ j

-- place t in a list from which place j was taken out
abbrev skip : ℕ → ℕ → ℕ
skip j t = pick (ltb t j) t (t - 1)

module _ {B : Type 0} (d : B) where
  abbrev without : ℕ → List B → List B
  without j ys = take j ys ++ drop (suc j) ys

  split : (ys : List B) (j : ℕ) → j < length ys → take j ys ++ (get_or ys j d ∷ drop (suc j) ys) ≡ ys
  split ys j h = rw (← drop-cons ys j d h) (take-append-drop j ys)

  length_without : (ys : List B) (j : ℕ) → j < length ys → suc (length (without j ys)) ≡ length ys
  length_without ys j h = grind (arith, common_steps)

  kept-before : (ys : List B) (j t : ℕ) → t < j → get_or (without j ys) t d ≡ get_or ys t d
  kept-before ys j t h = grind (arith, common_steps)

  kept-after : (ys : List B) (j t : ℕ) → j ≤ t → get_or (without j ys) t d ≡ get_or ys (suc t) d
  kept-after ys j t h = grind (arith, common_steps)

  kept : (ys : List B) (j t : ℕ) → (t ≡ j → ⊥) → get_or (without j ys) (skip j t) d ≡ get_or ys t d
  kept ys j t ne = grind (arith, nat_tests, kept-before ys j t, kept-after ys j (t - 1))

skip-within : (n j t : ℕ) → j < suc n → t < suc n → (t ≡ j → ⊥) → skip j t < n
skip-within n j t hj ht ne = grind (arith, nat_tests)

skip-apart : (j t u : ℕ) → (t ≡ j → ⊥) → (u ≡ j → ⊥) → skip j t ≡ skip j u → t ≡ u
skip-apart j t u nt nu e = grind (arith, nat_tests)

-- what holds of a value holds of it along an equation
along : {B : Type 0} (P : B → Type 0) (R : (y : B) → P y → Type 0) {y z : B} (e : y ≡ z) (p : P y) → R y p ≡ R z (subst P e p)
along P R {y} e p = path_j (λ z f. R y p ≡ R z (subst P f p)) (ap (R y) (sym (subst_refl P p))) e

-- the places after the first, where the first's partner is taken out
abbrev after : (ℕ → ℕ) → ℕ → ℕ
after σ i = skip (σ 0) (σ (suc i))

later-places : (n : ℕ) (σ : ℕ → ℕ) → OneToOne (suc n) σ → OneToOne n (after σ)
later-places n σ o =
    record {
      within = λ i h. skip-within n (σ 0) (σ (suc i)) (o.within 0 (omega arith)) (o.within (suc i) (omega arith)) (other i h);
      apart = λ i j h l e. omega (arith, o.apart (suc i) (suc j) (omega arith) (omega arith) (skip-apart (σ 0) (σ (suc i)) (σ (suc j)) (other i h) (other j l) e));
    }
  where
    other : (i : ℕ) → i < n → σ (suc i) ≡ σ 0 → ⊥
    other i h e = omega (arith, o.apart (suc i) 0 (omega arith) (omega arith) e)

module _ {A B : Type 0} (Q : A → B → Type 0) (c : A) (d : B) where
  -- place i of xs goes to place σ i of ys, and what belongs to the pair
  pub record Matching (xs : List A) (ys : List B) (σ : ℕ → ℕ) : Type 0 where
    pub lengths : length xs ≡ length ys
    pub one-to-one : OneToOne (length xs) σ
    pub belongs : (i : ℕ) → i < length xs → Q (get_or xs i c) (get_or ys (σ i) d)

  module _ (x : A) (xs : List A) (ys : List B) (σ : ℕ → ℕ) (w : Matching (x ∷ xs) ys σ) where
    first-within : σ 0 < length ys
    first-within = omega (arith, w.lengths, w.one-to-one.within 0 (omega arith))

    kept-place : (i : ℕ) → i < length xs → get_or ys (σ (suc i)) d ≡ get_or (without d (σ 0) ys) (after σ i) d
    kept-place i h = sym (kept d ys (σ 0) (σ (suc i)) (λ f. omega (arith, w.one-to-one.apart (suc i) 0 (omega arith) (omega arith) f)))

    abbrev later : Matching xs (without d (σ 0) ys) (after σ)
    later =
        record {
          lengths = omega (arith, w.lengths, length_without d ys (σ 0) first-within);
          one-to-one = later-places (length xs) σ w.one-to-one;
          belongs = λ i h. subst (Q (get_or xs i c)) (kept-place i h) (w.belongs (suc i) (suc-le-suc h));
        }

  pub by-places : (xs : List A) (ys : List B) (σ : ℕ → ℕ) → Matching xs ys σ → Pairing Q xs ys
  by-places [] [] σ w = none
  by-places [] (y ∷ ys) σ w = let z : ⊥ = omega (arith, w.lengths) in absurd z
  by-places (x ∷ xs) ys σ w =
      subst (Pairing Q (x ∷ xs)) (split d ys (σ 0) (first-within x xs ys σ w))
      (pair (take (σ 0) ys) (drop (suc (σ 0)) ys) (w.belongs 0 (suc-le-suc zero-le))
      (by-places xs (without d (σ 0) ys) (after σ) (later x xs ys σ w)))

  -- the pairs of `by-places` are those of the places i and σ i: what holds of these holds of every pair, and the other way round
  module _ (R : (x : A) (y : B) → Q x y → Type 0) where
    first-pair : (x : A) (xs : List A) (ys : List B) (σ : ℕ → ℕ) (w : Matching (x ∷ xs) ys σ) → (R x (get_or ys (σ 0) d) (w.belongs 0 (suc-le-suc zero-le)) × EveryPair R (by-places xs (without d (σ 0) ys) (after σ) (later x xs ys σ w))) ≡ EveryPair R (by-places (x ∷ xs) ys σ w)
    unfolding by-places EveryPair
    first-pair x xs ys σ w =
        along (Pairing Q (x ∷ xs)) (λ zs. EveryPair R) (split d ys (σ 0) (first-within x xs ys σ w))
        (pair (take (σ 0) ys) (drop (suc (σ 0)) ys) (w.belongs 0 (suc-le-suc zero-le)) (by-places xs _ _ (later x xs ys σ w)))

    pub pairs-of-places : (xs : List A) (ys : List B) (σ : ℕ → ℕ) (w : Matching xs ys σ) → ((i : ℕ) (h : i < length xs) → R (get_or xs i c) (get_or ys (σ i) d) (w.belongs i h)) → EveryPair R (by-places xs ys σ w)
    unfolding by-places EveryPair
    pairs-of-places [] [] σ w r = record {}
    pairs-of-places [] (y ∷ ys) σ w r = let z : ⊥ = omega (arith, w.lengths) in absurd z
    pairs-of-places (x ∷ xs) ys σ w r =
        transport (first-pair x xs ys σ w)
        (r 0 _, pairs-of-places xs _ _ (later x xs ys σ w) (λ i h. transport (along (Q (get_or xs i c)) (R (get_or xs i c)) (kept-place x xs ys σ w i h) _) (r (suc i) (suc-le-suc h))))

    pub places-of-pairs : (xs : List A) (ys : List B) (σ : ℕ → ℕ) (w : Matching xs ys σ) → EveryPair R (by-places xs ys σ w) → (i : ℕ) (h : i < length xs) → R (get_or xs i c) (get_or ys (σ i) d) (w.belongs i h)
    places-of-pairs [] ys σ w u i h = let z : ⊥ = omega arith in absurd z
    places-of-pairs (x ∷ xs) ys σ w u zero h =
        subst (λ l. R x (get_or ys (σ 0) d) (w.belongs 0 l)) (le_prop _ h) (transport⁻¹ (first-pair x xs ys σ w) u).0
    places-of-pairs (x ∷ xs) ys σ w u (suc i) (suc-le-suc h) =
        transport⁻¹ (along (Q (get_or xs i c)) (R (get_or xs i c)) (kept-place x xs ys σ w i h) _)
        (places-of-pairs xs _ _ (later x xs ys σ w) (transport⁻¹ (first-pair x xs ys σ w) u).1 i h)
