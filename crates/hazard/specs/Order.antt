-- How the answers go with the period and with the map coefficients: claims, proved in proofs/Order.antt.
use Rattle.std.specs.Prelude.{◌*◌, ◌≤◌, ◌∷◌, ◌≡◌}
use Rattle.records.specs.Notation.{ℕ, []}
use Rattle.members.specs.Finding.{found}
use Rattle.hazard.specs.Site.{Motion, site_of, site_returned}
use Rattle.hazard.specs.Spectrum.{Level, level_of, spectrum_returned}

-- T ≥ T_A
abbrev pub FromTA : Level → ℕ → Type 0
FromTA l t = 200 * l.sd1 ≤ t * l.sds

-- from T_A of the level that decides, a longer period never has the larger spectrum
abbrev pub NeverRises : Type 0
NeverRises =
    (class usage : ℕ) (dd1 dd2 : Motion) (t u a b : ℕ)
    → spectrum_returned class usage dd1 dd2 t ≡ found (a ∷ [])
    → spectrum_returned class usage dd1 dd2 u ≡ found (b ∷ [])
    → FromTA (level_of usage (site_of class dd1) (site_of class dd2)) t
    → t ≤ u
    → b ≤ a

-- a larger S_S never lowers S_DS, in the classes ZA to ZD
abbrev pub ShortRises : Type 0
ShortRises =
    (class ss ss' s1 s1' fs fs' f1 f1' sds sds' sd1 sd1' : ℕ)
    → site_returned class ss s1 ≡ found (fs ∷ f1 ∷ sds ∷ sd1 ∷ [])
    → site_returned class ss' s1' ≡ found (fs' ∷ f1' ∷ sds' ∷ sd1' ∷ [])
    → class ≤ 4
    → ss ≤ ss'
    → sds ≤ sds'

-- a larger S_1 never lowers S_D1
abbrev pub LongRises : Type 0
LongRises =
    (class ss ss' s1 s1' fs fs' f1 f1' sds sds' sd1 sd1' : ℕ)
    → site_returned class ss s1 ≡ found (fs ∷ f1 ∷ sds ∷ sd1 ∷ [])
    → site_returned class ss' s1' ≡ found (fs' ∷ f1' ∷ sds' ∷ sd1' ∷ [])
    → s1 ≤ s1'
    → sd1 ≤ sd1'

-- in ZE a larger S_S can lower S_DS: 1.12812 at 1.19, 1.12500 at 1.25
pub record ShortFalls : Type 0 where
  pub smaller : site_returned 5 119 10 ≡ found (948 ∷ 4_200 ∷ 112_812 ∷ 42_000 ∷ [])
  pub larger : site_returned 5 125 10 ≡ found (900 ∷ 4_200 ∷ 112_500 ∷ 42_000 ∷ [])
