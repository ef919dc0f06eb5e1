-- The call on a storey: its finding in a case from the totals, the cases together, and the order of its refusals.
use Prim.Native.Nat.{ℕ, suc, ◌+◌, ◌*◌, ◌≤◌, ◌<◌}
use native.Mathlib.Omega.{arith}
use mathlib.Core.Bool.{Bool, true, false, ◌&&◌, ◌||◌}
use mathlib.Core.List.{List, [], ◌∷◌}
use mathlib.Core.Path.{◌≡◌, refl, sym, ◌∙◌}
use lib.ListN.{length}
use borrow.Author.Tests.{ne_eqb, le-leb, le-ltb, eq-eqb}
use Rattle.records.specs.Notation.{any_below, in_order, total}
use Rattle.records.specs.Records.{case_count, known_form, shear_of, case_of, in_case, storey_fault}
use Rattle.records.specs.declared.Storey.{Storey}
use Rattle.records.specs.declared.Member.{Member}
use Rattle.records.proofs.Firsts.{pick_other, last_of}
use Rattle.records.proofs.Validity.{shear-most}
use Rattle.members.specs.Class.{is_wall}
use Rattle.checks.specs.Rows.{member_in, member_rows_fault}
use Rattle.totals.specs.declared.StoreyFinding.{StoreyFinding}
use Rattle.std.specs.Prelude.{Ok, Err}
use Rattle.totals.specs.declared.Tally.{Tally}
use Rattle.totals.specs.Totals.{wall_shear}
use Rattle.storeys.specs.Storey.{published_rules, judged_by, meets_wall_share, over_shear_of, risky_by_damage, case_risky, storey_risky, storey_finding, finding_in, storey_call_fault, storey_answer_by}
use Rattle.totals.specs.Totals.{members_most, shear_most, total_most, found_by}
use Rattle.storeys.specs.Rows.{Rows}
use Rattle.storeys.specs.Tally.{tally_of, walls_from, walls_suffice_of}
use Rattle.members.specs.Finding.{knowledge}
use Rattle.records.specs.declared.by_case.{ByForm.TheVariants.One, ByForm.TheVariants.Four}
use Rattle.storeys.proofs.Accepted.{storey-rows}
use Rattle.storeys.proofs.Loops.{row-valid, pick-most}
use Rattle.storeys.proofs.Shears.{over-shear-most}

-- the walls' V of good members, from t on
walls-from : (c t : ℕ) (ms : List Member) → ((j : ℕ) → j < length ms → (case_of c (member_in ms j)).shear ≤ shear_most) → t + shear_most * length ms ≤ total_most → walls_from t c ms ≡ t + total (λ m. wall_shear (in_case c m)) ms
unfolding walls_from total
walls-from c t [] h l = omega arith
walls-from c t (m ∷ ms) h l =
    let a : (case_of c m).shear ≤ shear_most = h 0 (omega arith) in
    let b : t ≤ total_most = omega (arith, l) in
    let d = pick-most (is_wall (in_case c m)) (case_of c m).shear shear_most a in
    rw (le-leb t total_most b, le-leb (case_of c m).shear shear_most a)
    (walls-from c (t + wall_shear (in_case c m)) ms (λ j i. h (suc j) (omega arith)) (omega (arith, l, d)) ∙ omega arith)

-- ---- a storey in case c
module _ (form c : ℕ) (i : c < case_count form) (rows : List Member) (g : Rows form rows) where
  walls-total : walls_from 0 c rows ≡ total (λ m. wall_shear (in_case c m)) rows
  walls-total = omega (arith, walls-from c 0 rows (λ j l. (row-valid form c i rows g j l).shear) (omega (arith, g.most)))

  module _ (s : Storey) (good : storey_fault form s ≡ 0) where
    abbrev w : ℕ
    w = shear_of c s

    pub walls-are : walls_suffice_of c (shear_of c s) rows ≡ meets_wall_share c (shear_of c s) rows
    unfolding walls_suffice_of meets_wall_share
    walls-are = rw (le-leb w shear_most (shear-most form s c good i), walls-total)

    -- the finding by the totals is the storey's
    found-by-totals : (k : ℕ) (met : Bool) → met ≡ meets_wall_share c w rows → found_by w met (tally_of k met c rows) ≡ finding_in published_rules k s rows c
    unfolding found_by tally_of storey_finding case_risky risky_by_damage
    found-by-totals k met e =
        let m = meets_wall_share c w rows in
        rw (e, le-ltb members_most (length rows) g.most, le-ltb total_most (over_shear_of published_rules k m c rows) (omega (arith, over-shear-most published_rules form k c m rows i g.good g.most)), le-ltb shear_most w (shear-most form s c good i))

    pub found-is : (k x : ℕ) (met : Bool) (t : Tally) (f : StoreyFinding) → x ≡ shear_of c s → met ≡ walls_suffice_of c x rows → t ≡ tally_of k met c rows → f ≡ found_by x met t → f ≡ finding_in published_rules k s rows c
    found-is k x met t f p b q d = d ∙ rw (p, q) (found-by-totals k met ((rw p at b) ∙ walls-are))

-- ---- the cases together
module _ (k : ℕ) (s : Storey) (rows : List Member) where
  abbrev pub risky-in : ℕ → Bool
  risky-in c = case_risky published_rules k c (shear_of c s) rows

  -- the judgments in one case and in four
  pub judged-one : (f : StoreyFinding) → f ≡ finding_in published_rules k s rows 0 → record { risky = f.risky; findings = One f } ≡ judged_by published_rules k 1 s rows
  unfolding storey_risky storey_finding any_below
  judged-one f e = rw e

  pub judged-four : (f g h i : StoreyFinding) → f ≡ finding_in published_rules k s rows 0 → g ≡ finding_in published_rules k s rows 1 → h ≡ finding_in published_rules k s rows 2 → i ≡ finding_in published_rules k s rows 3
      → record { risky = ((f.risky || g.risky) || h.risky) || i.risky; findings = Four (record { case1 = f; case2 = g; case3 = h; case4 = i }) } ≡ judged_by published_rules k 2 s rows
  unfolding storey_risky storey_finding any_below
  judged-four f g h i p q r t = rw (p, q, r, t)

-- ---- the order of the refusals of the call
module _ (k form : ℕ) (s : Storey) (rows : List Member) where
  refused-is : (n : ℕ) → storey_call_fault k form s rows ≡ n → (n ≡ 0 → ⊥) → Err n ≡ storey_answer_by published_rules k form s rows
  unfolding storey_answer_by
  refused-is n e ne = rw e (simp (ne_eqb n 0 ne))

  pub uncounted : (s.count ≡ length rows → ⊥) → Err 1 ≡ storey_answer_by published_rules k form s rows
  unfolding storey_call_fault
  uncounted n = refused-is 1 (rw (ne_eqb _ _ n) refl) (λ z. let q : ⊥ = omega arith in absurd q)

  module _ (c : s.count ≡ length rows) where
    pub unknown : (knowledge k && known_form form) ≡ false → Err 3 ≡ storey_answer_by published_rules k form s rows
    unfolding storey_call_fault
    unknown e = refused-is 3 (rw (eq-eqb _ _ c, e) refl) (λ z. let q : ⊥ = omega arith in absurd q)

    module _ (level : knowledge k ≡ true) (known : known_form form ≡ true) where
      after-level : storey_call_fault k form s rows ≡ in_order (storey_fault form s ∷ member_rows_fault form rows ∷ [])
      unfolding storey_call_fault
      after-level = rw (eq-eqb _ _ c, level, known) refl

      pub storey-refused : (r : ℕ) → 0 < r → r ≡ storey_fault form s → Err r ≡ storey_answer_by published_rules k form s rows
      storey-refused r p e = refused-is r (after-level ∙ rw (← e) (pick_other r _ (λ z. let q : ⊥ = omega arith in absurd q))) (λ z. let q : ⊥ = omega arith in absurd q)

      module _ (good : 0 ≡ storey_fault form s) where
        all-two : storey_call_fault k form s rows ≡ member_rows_fault form rows
        all-two = after-level ∙ rw (← good) (last_of (member_rows_fault form rows))

        pub members-refused : (r : ℕ) → 0 < r → r ≡ member_rows_fault form rows → Err r ≡ storey_answer_by published_rules k form s rows
        members-refused r p e = refused-is r (all-two ∙ sym e) (λ z. let q : ⊥ = omega arith in absurd q)

        pub judged : 0 ≡ member_rows_fault form rows → Ok (judged_by published_rules k form s rows) ≡ storey_answer_by published_rules k form s rows
        unfolding storey_answer_by
        judged e = rw (all-two, ← e) refl

        pub good-rows : 0 ≡ member_rows_fault form rows → Rows form rows
        good-rows e = storey-rows k form s rows (all-two ∙ sym e)
