-- The loops over a storey's rows: what holds after j of them, one turn, and the end.
use Prim.Native.Nat.{ℕ, zero, suc, ◌+◌, ◌*◌, ◌≤◌, ◌<◌}
use native.Mathlib.Omega.{arith}
use native.Mathlib.Numerals.{add-one}
use mathlib.Core.Bool.{Bool, true, false, ◌||◌, or-false, or_assoc}
use mathlib.Core.List.{List, [], ◌∷◌}
use mathlib.Core.Path.{◌≡◌, ap, sym, ◌∙◌}
use lib.Dec.{eqb}
use lib.ListN.{length, drop, get_or, drop_of_length-le}
use lib.Seq.{drop-cons}
use Rattle.records.specs.Notation.{pick, total, any_of}
use Rattle.records.specs.Records.{case_count, case_of, in_case, member_case_fault}
use Rattle.records.specs.Valid.{Valid}
use Rattle.records.specs.declared.Member.{Member}
use Rattle.records.proofs.Validity.{valid, case-good}
use Rattle.members.specs.Units.{ratio_cap}
use Rattle.members.specs.Finding.{knowledge, flag}
use Rattle.storeys.specs.Storey.{published_rules, member_axial, axial_total_of, over, shear_if_over, over_shear_of, some_over, damaged}
use Rattle.checks.specs.Rows.{member_in}
use Rattle.checks.proofs.Refusals.{one}
use Rattle.checks.proofs.RowLaws.{row-good as good-row}
use Rattle.records.specs.Blank.{no_member}
use Rattle.totals.specs.declared.Tally.{Tally}
use Rattle.totals.specs.Totals.{weight_of, added_wall, met_by}
use Rattle.storeys.specs.Rows.{Rows}
use Rattle.storeys.specs.Tally.{with_member, tally_of, AddsUp, walls_from, walls_suffice_of}
use Rattle.storeys.proofs.Rows.{nd-most}

-- ---- totals
module _ {A : Type 0} (f : A → ℕ) (d : A) where
  pub total-drop : (xs : List A) (j : ℕ) → j < length xs → total f (drop j xs) ≡ f (get_or xs j d) + total f (drop (j + 1) xs)
  unfolding total
  total-drop xs j h = rw (add-one j, drop-cons xs j d h)

  pub total-end : (xs : List A) (j : ℕ) → length xs ≤ j → total f (drop j xs) ≡ 0
  unfolding total
  total-end xs j h = rw (drop_of_length-le xs h)

-- a total of bounded terms
pub total-most : {A : Type 0} (f : A → ℕ) (d : A) (n : ℕ) (xs : List A) → ((j : ℕ) → j < length xs → f (get_or xs j d) ≤ n) → total f xs ≤ n * length xs
unfolding total
total-most f d n [] h = omega arith
total-most f d n (x ∷ xs) h =
    let a : f x ≤ n = h 0 (omega arith) in
    let b = total-most f d n xs (λ j l. h (suc j) (omega arith)) in
    omega arith

some-drop : {A : Type 0} (p : A → Bool) (d : A) (xs : List A) (j : ℕ) → j < length xs → any_of p (drop j xs) ≡ (p (get_or xs j d) || any_of p (drop (j + 1) xs))
unfolding any_of
some-drop p d xs j h = rw (add-one j, drop-cons xs j d h)

some_end : {A : Type 0} (p : A → Bool) (xs : List A) (j : ℕ) → length xs ≤ j → any_of p (drop j xs) ≡ false
unfolding any_of
some_end p xs j h = rw (drop_of_length-le xs h)

pub pick-most : (t : Bool) (a n : ℕ) → a ≤ n → pick t a 0 ≤ n
pick-most true a n h = h
pick-most false a n h = omega arith

-- ---- good rows
module _ (form c : ℕ) (l : c < case_count form) (rows : List Member) (g : Rows form rows) (j : ℕ) (h : j < length rows) where
  pub row-good : member_case_fault (in_case c (member_in rows j)) ≡ 0
  row-good = case-good form c (member_in rows j) (one (good-row form rows g.good j h)) l

  pub row-valid : Valid (in_case c (member_in rows j))
  row-valid = valid (in_case c (member_in rows j)) row-good

-- ---- the walls' V
module _ (c : ℕ) (rows : List Member) (t j : ℕ) (e : walls_from t c (drop j rows) ≡ walls_from 0 c rows) where
  pub wall-next : (r : ℕ) → j < length rows → r ≡ added_wall t (in_case c (member_in rows j)) → walls_from r c (drop (j + 1) rows) ≡ walls_from 0 c rows
  unfolding walls_from
  wall-next r h q = rw (q, add-one j) (rw (drop-cons rows j no_member h) at e)

  pub wall-all : length rows ≤ j → t ≡ walls_from 0 c rows
  unfolding walls_from
  wall-all h = rw (drop_of_length-le rows h) at e

pub suffice-is : (c : ℕ) (rows : List Member) (w t : ℕ) (z : Bool) → t ≡ walls_from 0 c rows → z ≡ met_by w t → z ≡ walls_suffice_of c w rows
unfolding walls_suffice_of
suffice-is c rows w t z e q = q ∙ rw e

-- ---- all the totals
abbrev pub weighed : ℕ → List Member → ℕ
weighed j ms = 20 * damaged 1 (drop j ms) + 28 * damaged 2 (drop j ms) + 35 * damaged 3 (drop j ms) + 140 * damaged 4 (drop j ms)

pub record Going (k : ℕ) (met : Bool) (c : ℕ) (rows : List Member) (t : Tally) (j : ℕ) : Type 0 where
  pub within : j ≤ length rows
  pub count : t.members ≡ j
  pub axial : t.axial_total + axial_total_of (drop j rows) ≡ axial_total_of rows
  pub shears : t.over_shear + over_shear_of published_rules k met c (drop j rows) ≡ over_shear_of published_rules k met c rows
  pub anyone : (t.some || some_over published_rules k met c (drop j rows)) ≡ some_over published_rules k met c rows
  pub damage : t.damage + weighed j rows ≡ weighed 0 rows
  pub axial-most : t.axial_total ≤ ratio_cap * j
  pub over-most : t.over_shear ≤ 9_999_999 * j
  pub damage-most : t.damage ≤ 140 * j

tally-is : (t : Tally) (n a b d : ℕ) (o : Bool) → t.members ≡ n → t.axial_total ≡ a → t.over_shear ≡ b → t.some ≡ o → t.damage ≡ d → t ≡ record { members = n; axial_total = a; over_shear = b; some = o; damage = d }
tally-is t n a b d o m e f g h = rw (← m, ← e, ← f, ← g, ← h)

module _ (k : ℕ) (met : Bool) (c : ℕ) (rows : List Member) where
  module _ (form : ℕ) (i : c < case_count form) (g : Rows form rows) (t : Tally) (j : ℕ) (u : Going k met c rows t j) (h : j < length rows) where
    pub tally-room : knowledge k ≡ true → AddsUp t k (in_case c (member_in rows j))
    tally-room l =
        record {
          knowledge-level = l;
          good = row-good form c i rows g j h;
          fewer = omega (arith, u.count, h, g.most);
          axial-total = omega (arith, u.axial-most, g.most);
          over-shear = omega (arith, u.over-most, g.most);
          damage = omega (arith, u.damage-most, g.most);
        }

    weight-most : (d : ℕ) → d ≤ 4 → weight_of d ≤ 140
    weight-most zero l = omega arith
    weight-most (suc zero) l = omega arith
    weight-most (suc (suc zero)) l = omega arith
    weight-most (suc (suc (suc zero))) l = omega arith
    weight-most (suc (suc (suc (suc zero)))) l = omega arith
    weight-most (suc (suc (suc (suc (suc d))))) l = let z : ⊥ = omega arith in absurd z

    next-axial : (t.axial_total + member_axial (member_in rows j)) + axial_total_of (drop (j + 1) rows) ≡ axial_total_of rows
    unfolding axial_total_of
    next-axial = omega (arith, u.axial, total-drop member_axial no_member rows j h)

    next-shears : (t.over_shear + shear_if_over published_rules k met c (member_in rows j)) + over_shear_of published_rules k met c (drop (j + 1) rows) ≡ over_shear_of published_rules k met c rows
    unfolding over_shear_of
    next-shears = omega (arith, u.shears, total-drop (shear_if_over published_rules k met c) no_member rows j h)

    next-anyone : ((t.some || over published_rules k met c (member_in rows j)) || some_over published_rules k met c (drop (j + 1) rows)) ≡ some_over published_rules k met c rows
    unfolding some_over
    next-anyone =
        or_assoc t.some (over published_rules k met c (member_in rows j)) (any_of (over published_rules k met c) (drop (j + 1) rows))
        ∙ ap (λ (b : Bool). t.some || b) (sym (some-drop (over published_rules k met c) no_member rows j h))
        ∙ u.anyone

    kinds : (kind : ℕ) → damaged kind (drop j rows) ≡ flag (eqb (member_in rows j).damage kind) + damaged kind (drop (j + 1) rows)
    unfolding damaged
    kinds kind = total-drop (λ m. flag (eqb m.damage kind)) no_member rows j h

    next-damage : (t.damage + weight_of (member_in rows j).damage) + weighed (j + 1) rows ≡ weighed 0 rows
    next-damage = omega (arith, u.damage, kinds 1, kinds 2, kinds 3, kinds 4)

    pub going_next : (r : Tally) → r ≡ with_member t k met (in_case c (member_in rows j)) → Going k met c rows r (j + 1)
    unfolding with_member
    going_next r e =
        rw e
        (record {
          within = omega (arith, h);
          count = omega (arith, u.count);
          axial = next-axial;
          shears = next-shears;
          anyone = next-anyone;
          damage = next-damage;
          axial-most = omega (arith, u.axial-most, nd-most (in_case c (member_in rows j)));
          over-most = omega (arith, u.over-most, pick-most (over published_rules k met c (member_in rows j)) (case_of c (member_in rows j)).shear 9_999_999 (row-valid form c i rows g j h).shear);
          damage-most = omega (arith, u.damage-most, weight-most (member_in rows j).damage (row-valid form c i rows g j h).damage);
        })

  pub going-all : (t : Tally) (j : ℕ) → Going k met c rows t j → length rows ≤ j → t ≡ tally_of k met c rows
  unfolding tally_of axial_total_of over_shear_of some_over damaged
  going-all t j u h =
      let n : t.members ≡ length rows = omega (arith, u.count, u.within) in
      let a : t.axial_total ≡ axial_total_of rows = omega (arith, u.axial, total-end member_axial no_member rows j h) in
      let b : t.over_shear ≡ over_shear_of published_rules k met c rows = omega (arith, u.shears, total-end (shear_if_over published_rules k met c) no_member rows j h) in
      let o : t.some ≡ some_over published_rules k met c rows = sym (or-false t.some) ∙ ap (λ (x : Bool). t.some || x) (sym (some_end (over published_rules k met c) rows j h)) ∙ u.anyone in
      let d : t.damage ≡ weighed 0 rows =
      omega (arith, u.damage, total-end (λ m. flag (eqb m.damage 1)) no_member rows j h, total-end (λ m. flag (eqb m.damage 2)) no_member rows j h, total-end (λ m. flag (eqb m.damage 3)) no_member rows j h, total-end (λ m. flag (eqb m.damage 4)) no_member rows j h) in
      tally-is t _ _ _ _ _ n a b o d
