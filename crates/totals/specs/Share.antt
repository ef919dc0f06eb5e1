-- The allowed share of a storey (document 01, "Storey and building").
use Rattle.std.specs.Prelude.{◌-◌, ◌*◌, ◌∷◌, ◌≡◌}
use Rattle.records.specs.Notation.{ℕ, Bool, [], leb, ltb, pick}
use Rattle.members.specs.{declared.tables.Share.Share, declared.limits.{Row.Row, Fraction.Fraction}, Tables.published_share, Limits.row, Limits.interp}

-- a row of the share for c members, whose axial ratios are added up
abbrev pub for_members : Row → ℕ → Row
for_members p c = row (p.at * c) p.limit

-- the allowed share in hundredths, at the axial ratios Σ of c members: linear between the two rows and constant outside
unfoldable pub allowed_share : Share → ℕ → ℕ → Fraction
allowed_share share σ c = interp (for_members share.first c) (for_members share.second c ∷ []) σ

-- "P / W exceeds it"
unfoldable pub exceeds_share : Share → ℕ → ℕ → ℕ → ℕ → Bool
exceeds_share share σ c p w = ltb (w * (allowed_share share σ c).num) (100 * p * (allowed_share share σ c).den)

-- "0.35 while Σ ≤ 10,000 × c, 0 from Σ = 65,000 × c, and 7 × (65,000 × c − Σ) / (1,100,000 × c) between": what the published share comes to (law `published-share`)
abbrev pub PublishedShare : Type 0
PublishedShare =
    (σ c p w : ℕ) → exceeds_share published_share σ c p w ≡ pick (leb σ (10_000 * c)) (ltb (7 * w) (20 * p)) (pick (leb (65_000 * c) σ) (ltb 0 p)
    (ltb (7 * w * (65_000 * c - σ)) (1_100_000 * c * p)))

-- the allowed share as the two numbers of which it is the quotient
abbrev pub share_of : Share → ℕ → ℕ → Fraction
share_of share σ c = record { num = (allowed_share share σ c).num; den = 100 * (allowed_share share σ c).den }
