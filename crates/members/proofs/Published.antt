-- The published set.
use Rattle.std.proofs.Common.{ℕ, rules}
use Rattle.members.specs.declared.class.Class.{Class}
use Rattle.members.specs.Tables.{published, places, moments, rotations}
use Rattle.members.specs.Limits.{exact}
use Rattle.members.specs.Sizes.{SizedSet, Mean}
use Rattle.members.proofs.Means.{exact-mean, quarters_most}

-- the published set is within the sizes that the code computes with
pub published_sized : SizedSet published
unfolding places moments rotations
published_sized = search rules

-- so its limits are means of limits of at most so much
pub m_mean : (class : Class) (zone n v ρ : ℕ) → Mean 9_999_999 (exact published.places published.m class zone n v ρ)
m_mean = exact-mean _ _ published_sized.places published_sized.m

pub rotation_mean : (class : Class) (zone n v ρ : ℕ) → Mean 999_999 (exact published.places published.rotation class zone n v ρ)
rotation_mean = exact-mean _ _ published_sized.places published_sized.rotation

pub ruleset published_limits = (published_sized, m_mean, rotation_mean, quarters_most)
