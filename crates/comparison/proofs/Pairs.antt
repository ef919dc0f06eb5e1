-- What a pairing carries over: totals, lengths, and that some element passes a test.
use Prim.Native.Nat.{ℕ, suc, ◌+◌, ◌≤◌, zero, ◌<◌}
use native.Mathlib.Omega.{arith}
use mathlib.Core.Bool.{Bool, true, ◌||◌}
use mathlib.Core.List.{List, [], ◌∷◌, ◌++◌}
use mathlib.Core.Path.{◌≡◌, refl, sym, ap, ◌∙◌}
use lib.ListN.{length}
use Rattle.std.specs.List.{All}
use Rattle.std.proofs.lemmas.List.Elements.{All-nil, All-cons, All-head, All-tail, All-push}
use Rattle.std.proofs.lemmas.Grind.{common_steps}
use Rattle.records.specs.Notation.{listed, total, any_of}
use Rattle.comparison.specs.Pairing.{Pairing, none, pair, EveryPair}
use Rattle.comparison.proofs.Tests.{or-carried}

-- an element counts the same wherever it stands
module _ {B : Type 0} where
  total-middle : (f : B → ℕ) (before : List B) (y : B) (after : List B) → total f (before ++ (y ∷ after)) ≡ f y + total f (before ++ after)
  unfolding total
  total-middle f [] y after = refl
  total-middle f (b ∷ before) y after = omega (arith, total-middle f before y after)

  length-middle : (before : List B) (y : B) (after : List B) → length (before ++ (y ∷ after)) ≡ suc (length (before ++ after))
  length-middle before y after = grind (arith, common_steps)

  some-middle : (p : B → Bool) (before : List B) (y : B) (after : List B) → (p y || any_of p (before ++ after)) ≡ true → any_of p (before ++ (y ∷ after)) ≡ true
  unfolding any_of
  some-middle p [] y after e = e
  some-middle p (b ∷ before) y after e = grind (arith, some-middle p before y after)

  all_middle : (P : B → Type 0) (before : List B) (y : B) (after : List B) → All P (before ++ (y ∷ after)) → P y × All P (before ++ after)
  all_middle P [] y after a = (All-head P y after a, All-tail P y after a)
  all_middle P (b ∷ before) y after a =
      let r = all_middle P before y after (All-tail P b _ a) in
      (r.0, All-cons P b _ (All-head P b _ a) r.1)

module _ {A B : Type 0} {Q : A → B → Type 0} where
  pub each : (R S : (x : A) (y : B) → Q x y → Type 0) → ((x : A) (y : B) (q : Q x y) → R x y q → S x y q) → {xs : List A} {ys : List B} (p : Pairing Q xs ys) → EveryPair R p → EveryPair S p
  unfolding EveryPair
  each R S f none u = u
  each R S f (pair {x = x} {y = y} before after q p) u = (f x y q u.0, each R S f p u.1)

  pub both : (R S : (x : A) (y : B) → Q x y → Type 0) {xs : List A} {ys : List B} (p : Pairing Q xs ys) → EveryPair R p → EveryPair S p → EveryPair (λ x y q. R x y q × S x y q) p
  unfolding EveryPair
  both R S none u v = u
  both R S (pair before after q p) u v = ((u.0, v.0), both R S p u.1 v.1)

  -- what holds of every pair for each number below n holds of every pair for all of them
  pub for-each : (n : ℕ) (R : ℕ → (x : A) (y : B) → Q x y → Type 0) {xs : List A} {ys : List B} (p : Pairing Q xs ys) → ((c : ℕ) → c < n → EveryPair (R c) p) → EveryPair (λ x y q. (c : ℕ) → c < n → R c x y q) p
  unfolding EveryPair
  for-each n R none h = record {}
  for-each n R (pair before after q p) h = (λ c l. (h c l).0, for-each n R p (λ c l. (h c l).1))

  pub total-le : (f : A → ℕ) (g : B → ℕ) {xs : List A} {ys : List B} (p : Pairing Q xs ys) → EveryPair (λ x y q. f x ≤ g y) p → total f xs ≤ total g ys
  unfolding total EveryPair
  total-le f g none u = omega arith
  total-le f g (pair {y = y} before after q p) u = omega (arith, total-middle g before y after, u.0, total-le f g p u.1)

  pub total-equal : (f : A → ℕ) (g : B → ℕ) {xs : List A} {ys : List B} (p : Pairing Q xs ys) → EveryPair (λ x y q. f x ≡ g y) p → total f xs ≡ total g ys
  unfolding total EveryPair
  total-equal f g none u = refl
  total-equal f g (pair {y = y} before after q p) u = omega (arith, total-middle g before y after, u.0, total-equal f g p u.1)

  pub length-equal : {xs : List A} {ys : List B} → Pairing Q xs ys → length xs ≡ length ys
  length-equal none = refl
  length-equal (pair {y = y} before after q p) = ap suc (length-equal p) ∙ sym (length-middle before y after)

  pub some-carried : (f : A → Bool) (g : B → Bool) {xs : List A} {ys : List B} (p : Pairing Q xs ys) → EveryPair (λ x y q. f x ≡ true → g y ≡ true) p → any_of f xs ≡ true → any_of g ys ≡ true
  unfolding any_of EveryPair
  some-carried f g none u e = e
  some-carried f g (pair {x = x} {y = y} {xs = xs} before after q p) u e =
      some-middle g before y after (or-carried (f x) (any_of f xs) (g y) (any_of g (before ++ after)) u.0 (λ h. some-carried f g p u.1 h) e)

  -- what holds of all elements of both lists holds of every pair
  pub of-all : (P : A → Type 0) (P' : B → Type 0) {xs : List A} {ys : List B} (p : Pairing Q xs ys) → All P xs → All P' ys → EveryPair (λ x y q. P x × P' y) p
  unfolding EveryPair
  of-all P P' none a b = record {}
  of-all P P' (pair {x = x} {y = y} {xs = xs} before after q p) a b =
      let r = all_middle P' before y after b in
      ((All-head P x xs a, r.0), of-all P P' p (All-tail P x xs a) r.1)

pub all_listed : {A : Type 0} (P : A → Type 0) (f : ℕ → A) (n : ℕ) → ((i : ℕ) → i < n → P (f i)) → All P (listed f n)
unfolding listed
all_listed P f zero h = All-nil P
all_listed P f (suc n) h = All-push P (listed f n) (f n) (all_listed P f n (λ i l. h i (omega arith))) (h n (omega arith))
