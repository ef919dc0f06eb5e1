-- A storey and a partner that is nowhere better: the 0.40 condition is the same, over is carried member by member, and so is Risky.
use Prim.Native.Nat.{ℕ, ◌*◌, ◌≤◌, ◌<◌}
use native.Mathlib.Nat.{le_refl}
use native.Mathlib.Omega.{arith}
use mathlib.Core.Bool.{Bool, true}
use mathlib.Core.List.{List}
use mathlib.Core.Path.{◌≡◌, refl, sym, subst}
use lib.Dec.{ltb}
use lib.ListN.{length}
use Rattle.std.proofs.lemmas.Bool.Decides.{nat_tests}
use Rattle.records.specs.Records.{in_case}
use Rattle.records.specs.Notation.{pick}
use Rattle.records.specs.Valid.{Valid}
use Rattle.records.specs.declared.Member.{Member}
use Rattle.members.specs.Ordered.{ordered_set}
use Rattle.members.specs.Finding.{finding_by}
use Rattle.totals.specs.Totals.{wall_shear, weight_of}
use Rattle.storeys.specs.Storey.{Rules, meets_wall_share, member_axial, axial_total_of, over, shear_if_over, over_shear_of, some_over, case_risky}
use Rattle.comparison.specs.Orderly.{orderly, LimitsFall}
use Rattle.comparison.specs.Pairing.{EveryPair}
use Rattle.comparison.specs.Demand3.{WallCondition, MemberPairs, AtLeastAsSevereIn}
use Rattle.comparison.proofs.Tests.{and-carried, or-carried, excess-carried}
use Rattle.comparison.proofs.Partners.{wall-shear-same, shear-kept, nd-kept, over-kept}
use Rattle.comparison.proofs.Pairs.{each, total-le, total-equal, length-equal, some-carried}
use Rattle.comparison.proofs.Share.{share-carried}
use Rattle.comparison.proofs.Damage.{weight-mono, damage-carried}

-- rules that keep the order, as facts
pub record Orderly (rules : Rules) : Type 0 where
  pub limits : ordered_set rules.limits ≡ true
  pub places : rules.share.first.at < rules.share.second.at
  pub shares : rules.share.second.limit ≤ rules.share.first.limit

pub rules-ordered : (rules : Rules) → orderly rules ≡ true → Orderly rules
rules-ordered rules e = grind (arith, nat_tests)

counted : (a b : Bool) (x y : ℕ) → (a ≡ true → b ≡ true) → x ≤ y → pick a x 0 ≤ pick b y 0
counted a b x y f h = grind (arith)

-- what is known of a pair of members in case c: they are good records, and the second is nowhere better
abbrev pub Known : WallCondition → ℕ → ℕ → Member → Member → Unit {0} → Type 0
Known walls k c m n u = (Valid (in_case c m) × Valid (in_case c n)) × AtLeastAsSevereIn walls k (in_case c m) (in_case c n)

-- two storeys with the shear w in case c, whose members are paired off by p
module _ (walls : WallCondition) (rules : Rules) (good : Orderly rules) (falls : LimitsFall walls rules.limits) (k c w : ℕ) (pos : 0 < k) {ms ns : List Member} (p : MemberPairs ms ns) where
  module _ (known : EveryPair (Known walls k c) p) where
    met-same : meets_wall_share c w ms ≡ meets_wall_share c w ns
    unfolding meets_wall_share
    met-same =
        let e = total-equal (λ m. wall_shear (in_case c m)) (λ m. wall_shear (in_case c m)) p (each (Known walls k c) (λ m n u. wall_shear (in_case c m) ≡ wall_shear (in_case c n)) (λ m n u h. wall-shear-same walls k (in_case c m) (in_case c n) h.1) p known) in
        rw e

    over-pair : (met : Bool) (m n : Member) (u : Unit {0}) → Known walls k c m n u → over rules k met c m ≡ true → over rules k met c n ≡ true
    unfolding finding_by
    over-pair met m n u h e =
        over-kept walls k (in_case c m) (in_case c n) h.1 rules.limits good.limits pos h.0.0 h.0.1 falls met e

    overs-same : (met : Bool) → EveryPair (λ m n u. over rules k met c m ≡ true → over rules k met c n ≡ true) p
    overs-same met = each (Known walls k c) (λ m n u. over rules k met c m ≡ true → over rules k met c n ≡ true) (over-pair met) p known

    pub overs-carried : EveryPair (λ m n u. over rules k (meets_wall_share c w ms) c m ≡ true → over rules k (meets_wall_share c w ns) c n ≡ true) p
    overs-carried =
        subst (λ met. EveryPair (λ m n u. over rules k (meets_wall_share c w ms) c m ≡ true → over rules k met c n ≡ true) p) met-same (overs-same (meets_wall_share c w ms))

    axial-carried : axial_total_of ms ≤ axial_total_of ns
    unfolding axial_total_of
    axial-carried =
        total-le member_axial member_axial p
        (each (Known walls k c) (λ m n u. member_axial m ≤ member_axial n) (λ m n u h. nd-kept walls k (in_case c m) (in_case c n) h.1 rules.limits good.limits pos h.0.0 h.0.1) p known)

    over-shear-carried : (met : Bool) → over_shear_of rules k met c ms ≤ over_shear_of rules k met c ns
    unfolding over_shear_of
    over-shear-carried met =
        total-le (shear_if_over rules k met c) (shear_if_over rules k met c) p
        (each (Known walls k c) (λ m n u. shear_if_over rules k met c m ≤ shear_if_over rules k met c n) (λ m n u h. counted _ _ _ _ (over-pair met m n u h) (shear-kept walls k (in_case c m) (in_case c n) h.1)) p known)

    some-over-carried : (met : Bool) → some_over rules k met c ms ≡ true → some_over rules k met c ns ≡ true
    unfolding some_over
    some-over-carried met e = some-carried (over rules k met c) (over rules k met c) p (overs-same met) e

    weights-carried : EveryPair (λ m n u. weight_of m.damage ≤ weight_of n.damage) p
    weights-carried =
        each (Known walls k c) (λ m n u. weight_of m.damage ≤ weight_of n.damage) (λ m n u h. weight-mono m.damage n.damage h.1.damage h.0.1.damage) p known

    risky-carried-at : (met : Bool) → meets_wall_share c w ms ≡ met → meets_wall_share c w ns ≡ met → 0 < length ms → case_risky rules k c w ms ≡ true → case_risky rules k c w ns ≡ true
    unfolding case_risky
    risky-carried-at met e f l =
        rw (e, f, ← length-equal p)
        (or-carried _ _ _ _
        (share-carried rules.share (length ms) _ _ w _ _ good.places good.shares l (over-shear-carried met) axial-carried)
        (or-carried _ _ _ _
        (and-carried (ltb (rules.share.second.at * length ms) (axial_total_of ms)) _ (ltb (rules.share.second.at * length ms) (axial_total_of ns)) _ (excess-carried _ _ _ _ (le_refl (rules.share.second.at * length ms)) axial-carried) (some-over-carried met))
        (damage-carried p weights-carried)))

    pub risky-carried : 0 < length ms → case_risky rules k c w ms ≡ true → case_risky rules k c w ns ≡ true
    risky-carried = risky-carried-at (meets_wall_share c w ms) refl (sym met-same)
