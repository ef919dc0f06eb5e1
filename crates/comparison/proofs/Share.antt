-- The allowed share of a storey does not rise with the load, and a greater part of the shear in members over exceeds it as well.
use Prim.Native.Nat.{ℕ, ◌*◌, ◌≤◌, ◌<◌}
use native.Mathlib.Omega.{arith}
use native.Mathlib.Nat.{lt_of_mul-lt-mul_right, mul-le-mul_left, mul-le-mul_right, mul-lt-mul_of_pos_right}
use mathlib.Core.Bool.{true}
use mathlib.Core.Path.{◌≡◌}
use Rattle.members.specs.declared.limits.Fraction.{Fraction}
use Rattle.members.specs.declared.tables.Share.{Share}
use Rattle.members.proofs.Fractions.{◌⊑◌}
use Rattle.members.proofs.Falling.{end, step, positive, falls}
use Rattle.totals.specs.Share.{allowed_share, exceeds_share}
use Rattle.comparison.proofs.Tests.{ltb-carried}

-- a part p / w above one value, and as great a part above a value that is no greater
above : (f g : Fraction) (p p' w : ℕ) → 0 < g.den → g ⊑ f → p ≤ p' → w * f.num < 100 * p * f.den → w * g.num < 100 * p' * g.den
above f g p p' w pos under hp h =
    lt_of_mul-lt-mul_right f.den (
    omega (arith, mul-le-mul_left w under.cross, mul-lt-mul_of_pos_right h pos, mul-le-mul_right (100 * (f.den * g.den)) hp)
    )

pub share-carried : (share : Share) (c p p' w σ σ' : ℕ) → share.first.at < share.second.at → share.second.limit ≤ share.first.limit → 0 < c → p ≤ p' → σ ≤ σ' → exceeds_share share σ c p w ≡ true → exceeds_share share σ' c p' w ≡ true
unfolding exceeds_share allowed_share
share-carried share c p p' w σ σ' rising falling pos hp hs =
    let table = step (mul-lt-mul_of_pos_right rising pos) falling end in
    ltb-carried _ _ _ _ (above _ _ p p' w (positive table σ') (falls table σ σ' hs) hp)
