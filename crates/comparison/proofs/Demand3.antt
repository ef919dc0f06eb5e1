-- Demand 3, proved: for every set of rules that keep the order of the load, and so for the published ones.
use Prim.Native.Nat.{ℕ, zero, suc, ◌≤◌, ◌<◌, max}
use native.Mathlib.Nat.{le_refl}
use native.Mathlib.Omega.{arith}
use mathlib.Core.Bool.{Bool, true, ◌||◌, or-false}
use mathlib.Core.List.{List, [], ◌∷◌, ◌++◌}
use mathlib.Core.Path.{◌≡◌, refl, sym, subst, ◌∙◌}
use lib.ListN.{length}
use Rattle.std.specs.List.{All}
use Rattle.records.specs.Notation.{any_below, listed, any_of}
use Rattle.records.specs.Records.{case_count, shear_of, in_case, member_fault}
use Rattle.records.proofs.Validity.{valid, case-good}
use Rattle.members.specs.Finding.{answer_by}
use Rattle.members.proofs.Order.{published-ordered}
use Rattle.storeys.specs.Storey.{Rules, published_rules, meets_wall_share, over, case_risky, storey_risky, storey_answer_by}
use Rattle.storeys.specs.Building.{risky_at, some_risky, building_risky, tilted}
use Rattle.comparison.specs.Orderly.{orderly, LimitsFall}
use Rattle.comparison.specs.Pairing.{EveryPair}
use Rattle.comparison.specs.Demand3.{BuildingAnswer, WallCondition, SameClass, Survey, StoreyMembers, storey_members_at, storeys_members, Accepted, over_in, risky_in, case_risky_in, storey_met, storey_mets, Over, Risky, CaseRisky, MemberPairs, StoreyPairs, AtLeastAsSevere, AtLeastAsSevereStorey, NowhereBetter, Carried, Demand3By, Demand3}
use Rattle.comparison.proofs.Tests.{or-carried, excess-carried, at-equals, any-carried}
use Rattle.comparison.proofs.Pairs.{each, both, for-each, of-all, some-carried}
use Rattle.comparison.proofs.Partners.{same_class}
use Rattle.comparison.proofs.Storeys.{Orderly, rules-ordered, Known, overs-carried, risky-carried}
use Rattle.comparison.proofs.Accepted.{Sound, level-positive, has-members, good-members, risky-found, case-found, over-found, verdict-found, level-known, sound-storeys}

-- two storeys of one form that are partners, judged with the level k
module _ (walls : WallCondition) (rules : Rules) (good : Orderly rules) (falls : LimitsFall walls rules.limits) (form k : ℕ) (pos : 0 < k) (f g : StoreyMembers) (ms : MemberPairs f.members g.members) (sf : Sound form k f) (sg : Sound form k g) (worse : AtLeastAsSevereStorey walls form k f g ms) where
  faultless : EveryPair (λ m n u. (member_fault form m ≡ 0) × (member_fault form n ≡ 0)) ms
  faultless = of-all (λ m. member_fault form m ≡ 0) (λ m. member_fault form m ≡ 0) ms (good-members form k f sf) (good-members form k g sg)

  -- in case c of the form
  module _ (c : ℕ) (l : c < case_count form) where
    shear-same : shear_of c f.storey ≡ shear_of c g.storey
    shear-same = omega (arith, worse.shear c l)

    known : EveryPair (Known walls k c) ms
    known =
        each (λ m n u. ((member_fault form m ≡ 0) × (member_fault form n ≡ 0)) × AtLeastAsSevere walls form k m n) (Known walls k c)
        (λ m n u h. ((valid (in_case c m) (case-good form c m h.0.0 l), valid (in_case c n) (case-good form c n h.0.1 l)), h.1 c l)) ms
        (both (λ m n u. (member_fault form m ≡ 0) × (member_fault form n ≡ 0)) (λ m n u. AtLeastAsSevere walls form k m n) ms faultless worse.members)

    overs : EveryPair (λ m n u. over rules k (storey_met f c) c m ≡ true → over rules k (storey_met g c) c n ≡ true) ms
    overs =
        subst (λ w. EveryPair (λ m n u. over rules k (storey_met f c) c m ≡ true → over rules k (meets_wall_share c w g.members) c n ≡ true) ms) shear-same
        (overs-carried walls rules good falls k c (shear_of c f.storey) pos ms known)

    members-in : EveryPair (λ m n u. over_in c (answer_by rules.limits k form (storey_mets f) m) ≡ true → over_in c (answer_by rules.limits k form (storey_mets g) n) ≡ true) ms
    members-in =
        each
        (λ m n u. ((member_fault form m ≡ 0) × (member_fault form n ≡ 0)) × (over rules k (storey_met f c) c m ≡ true → over rules k (storey_met g c) c n ≡ true))
        (λ m n u. over_in c (answer_by rules.limits k form (storey_mets f) m) ≡ true → over_in c (answer_by rules.limits k form (storey_mets g) n) ≡ true)
        (λ m n u h e. over-found form k g sg rules c l n h.0.1 ∙ h.1 (sym (over-found form k f sf rules c l m h.0.0) ∙ e)) ms
        (both (λ m n u. (member_fault form m ≡ 0) × (member_fault form n ≡ 0)) (λ m n u. over rules k (storey_met f c) c m ≡ true → over rules k (storey_met g c) c n ≡ true) ms faultless overs)

    case-kept : case_risky rules k c (shear_of c f.storey) f.members ≡ true → case_risky rules k c (shear_of c g.storey) g.members ≡ true
    case-kept e =
        subst (λ w. case_risky rules k c w g.members ≡ true) shear-same
        (risky-carried walls rules good falls k c (shear_of c f.storey) pos ms known (has-members form k f sf) e)

    case-carried : case_risky_in c (storey_answer_by rules k form f.storey f.members) ≡ true → case_risky_in c (storey_answer_by rules k form g.storey g.members) ≡ true
    case-carried e = case-found form k g sg rules c l ∙ case-kept (sym (case-found form k f sf rules c l) ∙ e)

  members-carried : EveryPair (λ m n u. (c : ℕ) → c < case_count form → over_in c (answer_by rules.limits k form (storey_mets f) m) ≡ true → over_in c (answer_by rules.limits k form (storey_mets g) n) ≡ true) ms
  members-carried =
      for-each (case_count form) (λ c m n u. over_in c (answer_by rules.limits k form (storey_mets f) m) ≡ true → over_in c (answer_by rules.limits k form (storey_mets g) n) ≡ true) ms members-in

  risky-kept : storey_risky rules form k f.storey f.members ≡ true → storey_risky rules form k g.storey g.members ≡ true
  unfolding storey_risky
  risky-kept = any-carried _ _ (case_count form) case-kept

  storey-carried : risky_in (storey_answer_by rules k form f.storey f.members) ≡ true → risky_in (storey_answer_by rules k form g.storey g.members) ≡ true
  storey-carried e = risky-found form k g sg rules ∙ risky-kept (sym (risky-found form k f sf rules) ∙ e)

-- some storey of a building is Risky: one in the list of its storeys with their members is
some_after : {A : Type 0} (p : A → Bool) (xs : List A) (x : A) → any_of p (xs ++ (x ∷ [])) ≡ (any_of p xs || p x)
unfolding any_of
some_after p [] x = or-false (p x)
some_after p (y ∷ xs) x = grind (arith, some_after p xs x)

some-listed : {A : Type 0} (p : A → Bool) (f : ℕ → A) (n : ℕ) → any_of p (listed f n) ≡ any_below (λ i. p (f i)) n
unfolding any_of listed any_below
some-listed p f zero = refl
some-listed p f (suc n) = rw (some_after p (listed f n) (f n), some-listed p f n)

-- the verdict of a storey with its members
abbrev verdict : Rules → ℕ → ℕ → StoreyMembers → Bool
verdict rules form k f = storey_risky rules form k f.storey f.members

some-storey : (rules : Rules) (a : Survey) → any_of (verdict rules a.header.form a.header.knowledge) (storeys_members a) ≡ some_risky rules a
unfolding some_risky risky_at
some-storey rules a = some-listed (verdict rules a.header.form a.header.knowledge) (storey_members_at a) (length a.storeys)

tilt-carried : (a b : Survey) → a.header.tilt1 ≤ b.header.tilt1 → a.header.tilt2 ≤ b.header.tilt2 → tilted a.header ≡ true → tilted b.header ≡ true
unfolding tilted
tilt-carried a b h l =
    excess-carried _ (max a.header.tilt1 a.header.tilt2) _ (max b.header.tilt1 b.header.tilt2) (le_refl _) (omega (arith, h, l))

module _ (walls : WallCondition) (rules : Rules) (good : Orderly rules) (falls : LimitsFall walls rules.limits) (a b : Survey) (r q : BuildingAnswer) (ra : Accepted rules a r) (rb : Accepted rules b q) (pairs : StoreyPairs a b) (worse : NowhereBetter walls a b pairs) where
  abbrev form : ℕ
  form = a.header.form

  abbrev level : ℕ
  level = a.header.knowledge

  same-level : level ≡ b.header.knowledge
  same-level = omega arith

  same-form : form ≡ b.header.form
  same-form = omega arith

  positive : 0 < level
  positive = level-positive level (level-known rules a r ra)

  abbrev Facts : (f g : StoreyMembers) → MemberPairs f.members g.members → Type 0
  Facts f g ms = (Sound form level f × Sound form level g) × AtLeastAsSevereStorey walls form level f g ms

  facts : EveryPair Facts pairs
  facts =
      both (λ f g ms. Sound form level f × Sound form level g) (λ f g ms. AtLeastAsSevereStorey walls form level f g ms) pairs
      (of-all (Sound form level) (Sound form level) pairs (sound-storeys rules a r ra)
      (at-equals (λ o k. All (Sound o k) (storeys_members b)) (sym same-form) (sym same-level) (sound-storeys rules b q rb))) worse.storeys

  verdicts : EveryPair (λ f g ms. verdict rules form level f ≡ true → verdict rules form level g ≡ true) pairs
  verdicts =
      each Facts (λ f g ms. verdict rules form level f ≡ true → verdict rules form level g ≡ true)
      (λ f g ms h. risky-kept walls rules good falls form level positive f g ms h.0.0 h.0.1 h.1) pairs facts

  some-kept : some_risky rules a ≡ true → some_risky rules b ≡ true
  some-kept e =
      let s = some-carried (verdict rules form level) (verdict rules form level) pairs verdicts (some-storey rules a ∙ e) in
      sym (some-storey rules b) ∙ at-equals (λ o k. any_of (verdict rules o k) (storeys_members b) ≡ true) same-form same-level s

  building-kept : building_risky rules a ≡ true → building_risky rules b ≡ true
  unfolding building_risky
  building-kept = or-carried _ _ _ _ some-kept (tilt-carried a b worse.tilt1 worse.tilt2)

  -- what the calls answer with the second survey's own form and level
  abbrev Told : ℕ → ℕ → Type 0
  Told o k =
      EveryPair (λ f g ms. EveryPair (λ m n u. (c : ℕ) → c < case_count form → Over rules a f c m → over_in c (answer_by rules.limits k o (storey_mets g) n) ≡ true) ms) pairs
      × EveryPair (λ f g ms. (c : ℕ) → c < case_count form → CaseRisky rules a f c → case_risky_in c (storey_answer_by rules k o g.storey g.members) ≡ true) pairs
      × EveryPair (λ f g ms. Risky rules a f → risky_in (storey_answer_by rules k o g.storey g.members) ≡ true) pairs

  told : Told b.header.form b.header.knowledge
  told =
      at-equals Told same-form same-level (
        each Facts (λ f g ms. EveryPair (λ m n u. (c : ℕ) → c < case_count form → Over rules a f c m → over_in c (answer_by rules.limits level form (storey_mets g) n) ≡ true) ms)
            (λ f g ms h. members-carried walls rules good falls form level positive f g ms h.0.0 h.0.1 h.1) pairs facts,
        each Facts (λ f g ms. (c : ℕ) → c < case_count form → CaseRisky rules a f c → case_risky_in c (storey_answer_by rules level form g.storey g.members) ≡ true)
            (λ f g ms h c l. case-carried walls rules good falls form level positive f g ms h.0.0 h.0.1 h.1 c l) pairs facts,
        each Facts (λ f g ms. Risky rules a f → risky_in (storey_answer_by rules level form g.storey g.members) ≡ true)
            (λ f g ms h. storey-carried walls rules good falls form level positive f g ms h.0.0 h.0.1 h.1) pairs facts,
      )

  carried : Carried rules a b r q pairs
  carried =
      record {
        members = told.0;
        cases = told.1;
        storeys = told.2;
        building = λ e. verdict-found rules b q rb ∙ building-kept (sym (verdict-found rules a r ra) ∙ e);
      }

-- for every set of rules in order, and every condition on walls under which their limits fall
pub demand3-by : (walls : WallCondition) (rules : Rules) → orderly rules ≡ true → LimitsFall walls rules.limits → Demand3By walls rules
demand3-by walls rules e falls a b r q ra rb pairs worse = carried walls rules (rules-ordered rules e) falls a b r q ra rb pairs worse

-- the published rules are in order
pub published-orderly : orderly published_rules ≡ true
published-orderly = rw published-ordered

-- DEMAND 3
pub demand3 : Demand3
demand3 = demand3-by SameClass published_rules published-orderly (same_class published_rules.limits published-ordered)
