-- The allowed share by the place of Σ, and what the published one comes to.
use Prim.Native.Nat.{ℕ, ◌+◌, ◌-◌, ◌*◌, ◌≤◌, ◌<◌}
use native.Mathlib.Omega.{arith}
use native.Mathlib.Decide.{dec_le}
use native.Mathlib.Nat.{mul-le-mul_left, mul-pos}
use mathlib.Core.Path.{◌≡◌, sym, ◌∙◌}
use lib.Dec.{leb, ltb}
use borrow.Author.Tests.{le-leb, lt-leb, lt-ltb, le-ltb}
use Rattle.records.specs.Notation.{pick}
use Rattle.members.specs.declared.tables.Share.{Share}
use Rattle.members.specs.Limits.{row_limit, segment}
use Rattle.members.specs.Tables.{published_share}
use Rattle.members.proofs.Interpolation.{up_to, inside, past, alone}
use Rattle.totals.specs.Share.{for_members, allowed_share, exceeds_share, PublishedShare}

module _ (share : Share) (σ c : ℕ) where
  pub share-first : σ ≤ share.first.at * c → allowed_share share σ c ≡ row_limit (for_members share.first c)
  unfolding allowed_share
  share-first h = up_to _ _ _ σ h

  pub share-between : share.first.at * c < σ → σ ≤ share.second.at * c → allowed_share share σ c ≡ segment (for_members share.first c) (for_members share.second c) σ
  unfolding allowed_share
  share-between h k = inside _ _ _ σ h k

  pub share-second : share.first.at * c < σ → share.second.at * c < σ → allowed_share share σ c ≡ row_limit (for_members share.second c)
  unfolding allowed_share
  share-second h k = past _ _ _ σ h k ∙ alone _ σ

-- two tests that hold together
same_test : (a b c d : ℕ) → (a < b → c < d) → (c < d → a < b) → ltb a b ≡ ltb c d
same_test a b c d f g = go (dec_le b a) (dec_le d c)
  where
    go : Dec (b ≤ a) → Dec (d ≤ c) → ltb a b ≡ ltb c d
    go (yes h) (yes k) = le-ltb a b h ∙ sym (le-ltb c d k)
    go (yes h) (no k) = let z : a < b = g (omega arith) in let w : ⊥ = omega arith in absurd w
    go (no h) k = lt-ltb a b (omega arith) ∙ sym (lt-ltb c d (f (omega arith)))

module _ (σ c p w : ℕ) where
  -- the way between the ends
  fall : 100 * p * (65_000 * c - 10_000 * c) ≡ 5_500_000 * (p * c)
  fall = let e : 65_000 * c - 10_000 * c ≡ 55_000 * c = omega arith in rw e (omega arith)

  some-part : w * (35 * 0 + 0 * (σ - 10_000 * c)) < 100 * p * (65_000 * c - 10_000 * c) → 0 < p
  some-part h = go (dec_le p 0)
    where
      go : Dec (p ≤ 0) → 0 < p
      go (no k) = omega arith
      go (yes k) =
          let e : p ≡ 0 = omega arith in
          let z : 5_500_000 * (p * c) ≡ 0 = rw e (omega arith) in
          let f : ⊥ = omega (arith, h, fall, z) in
          absurd f

  -- "0.35 while Σ ≤ 10,000 × c"
  at_first : σ ≤ 10_000 * c → exceeds_share published_share σ c p w ≡ ltb (7 * w) (20 * p)
  unfolding exceeds_share
  at_first h = rw (share-first published_share σ c h) (same_test (w * 35) (100 * p * 1) (7 * w) (20 * p) (λ l. omega arith) (λ l. omega arith))

  -- "0 from Σ = 65,000 × c"
  at_second : 10_000 * c < σ → 65_000 * c ≤ σ → exceeds_share published_share σ c p w ≡ ltb 0 p
  unfolding exceeds_share
  at_second h k = go (dec_le σ (65_000 * c))
    where
      go : Dec (σ ≤ 65_000 * c) → exceeds_share published_share σ c p w ≡ ltb 0 p
      go (no l) = rw (share-second published_share σ c h (omega arith)) (same_test (w * 0) (100 * p * 1) 0 p (λ l. omega arith) (λ l. omega arith))
      go (yes l) =
          let e : σ ≡ 65_000 * c = omega arith in
          let z : 65_000 * c - σ ≡ 0 = omega arith in
          let pos : 0 < c = omega arith in
          rw (share-between published_share σ c h l, z)
          (same_test (w * (35 * 0 + 0 * (σ - 10_000 * c))) (100 * p * (65_000 * c - 10_000 * c)) 0 p (λ l. some-part l) (λ l. omega (arith, fall, mul-le-mul_left 5_500_000 (mul-pos l pos))))

  -- "7 × (65,000 × c − Σ) / (1,100,000 × c) between"
  between : 10_000 * c < σ → σ < 65_000 * c → exceeds_share published_share σ c p w ≡ ltb (7 * w * (65_000 * c - σ)) (1_100_000 * c * p)
  unfolding exceeds_share
  between h k =
      rw (share-between published_share σ c h (omega arith))
      (same_test (w * (35 * (65_000 * c - σ) + 0 * (σ - 10_000 * c))) (100 * p * (65_000 * c - 10_000 * c)) (7 * w * (65_000 * c - σ)) (1_100_000 * c * p) (λ l. omega (arith, l, fall)) (λ l. omega (arith, l, fall)))

pub published-share : PublishedShare
published-share σ c p w = go (dec_le σ (10_000 * c)) (dec_le (65_000 * c) σ)
  where
    go : Dec (σ ≤ 10_000 * c) → Dec (65_000 * c ≤ σ) → exceeds_share published_share σ c p w ≡ pick (leb σ (10_000 * c)) (ltb (7 * w) (20 * p)) (pick (leb (65_000 * c) σ) (ltb 0 p) (ltb (7 * w * (65_000 * c - σ)) (1_100_000 * c * p)))
    go (yes h) k = rw (le-leb _ _ h) (at_first σ c p w h)
    go (no h) (yes k) = simp (lt-leb σ (10_000 * c) (omega arith), le-leb _ _ k, at_second σ c p w (omega arith) k)
    go (no h) (no k) = simp (lt-leb σ (10_000 * c) (omega arith), lt-leb (65_000 * c) σ (omega arith), between σ c p w (omega arith) (omega arith))
