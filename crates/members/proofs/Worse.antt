-- A member that is over stays over where nothing turns in its favour, for every set that meets the order conditions.
use Prim.Native.Nat.{ℕ, ◌*◌, ◌≤◌, ◌<◌}
use native.Mathlib.Nat.{mul-le-mul_left, mul-le-mul_right}
use native.Mathlib.Omega.{arith}
use mathlib.Core.Bool.{Bool, true, false, ◌&&◌, ◌||◌, not, or-true}
use mathlib.Core.Path.{◌≡◌, refl, sym, ◌∙◌}
use lib.Dec.{leb, ltb, eqb}
use borrow.Author.Tests.{leb-true, ltb-true, le-leb, lt-ltb}
use Rattle.records.proofs.Below.{and_left, and_right}
use Rattle.records.specs.Notation.{pick}
use Rattle.records.specs.Valid.{Valid}
use Rattle.records.specs.declared.MemberCase.{MemberCase}
use Rattle.members.specs.declared.class.Class.{Class}
use Rattle.members.specs.declared.class.Class.TheVariants.{ColumnA, ColumnB, ColumnC}
use Rattle.members.specs.declared.tables.LimitSet.{LimitSet}
use Rattle.members.specs.Class.{is_wall, hoops_hold, detailed, shear_below, column_class, class_of}
use Rattle.members.specs.Ordered.{ordered_set}
use Rattle.members.specs.Limits.{m_limit_at, rotation_limit_at}
use Rattle.members.specs.Finding.{axial_ratio, axial_ratio_d, wall_stress, hoop_ratio, m_limit_of, rotation_limit_of, m_dropped_of, exceeds, is_over}
use Rattle.members.proofs.Order.{Later, same, a-then-b, a-then-c, b-then-c, Ratios≤, m-falls, rotation-falls}
use Rattle.members.proofs.Rounding.{axial-mono, moment-mono, stress-mono, hoops-mono}

-- m' beside m: equal sections, hoop spacings, strengths and marks; no demand lower, no capacity, hoop area or factor higher
pub record Worse (m m' : MemberCase) : Type 0 where
  pub long : m.long ≡ m'.long
  pub short : m.short ≡ m'.short
  pub area : m.area ≡ m'.area
  pub fcm : m.fcm ≡ m'.fcm
  pub fctm : m.fctm ≡ m'.fctm
  pub fyw : m.fyw ≡ m'.fyw
  pub depth : m.depth ≡ m'.depth
  pub spacing : m.spacing ≡ m'.spacing
  pub core : m.core ≡ m'.core
  pub hooks : m.hooks ≡ m'.hooks
  pub zone : m.zone ≡ m'.zone
  pub strengthened : m.strengthened ≡ m'.strengthened
  pub annex-e : m.annex_e ≡ m'.annex_e
  pub hoops : m'.hoops ≤ m.hoops
  pub factor : m'.factor ≤ m.factor
  pub nd : m.nd ≤ m'.nd
  pub nk : m.case.nk ≤ m'.case.nk
  pub me : m.case.me ≤ m'.case.me
  pub mp : m'.case.mp ≤ m.case.mp
  pub ve : m.case.ve ≤ m'.case.ve
  pub vr : m'.case.vr ≤ m.case.vr
  pub rotation : m.case.rotation ≤ m'.case.rotation
  pub drift : m.case.drift ≤ m'.case.drift

-- tests that hold of the worse hold of the other
leb-back : {a a' b b' : ℕ} → a ≤ a' → b' ≤ b → leb a' b' ≡ true → leb a b ≡ true
leb-back {a} {a'} {b} {b'} h k e = le-leb a b (omega (arith, leb-true a' b' e))

ltb-back : {a a' b b' : ℕ} → a ≤ a' → b' ≤ b → ltb a' b' ≡ true → ltb a b ≡ true
ltb-back {a} {a'} {b} {b'} h k e = lt-ltb a b (omega (arith, ltb-true a' b' e))

and-back : (a a' b b' : Bool) → (a' ≡ true → a ≡ true) → (b' ≡ true → b ≡ true) → (a' && b') ≡ true → (a && b) ≡ true
and-back a a' b b' f g e = rw (f (and_left a' b' e), g (and_right a' b' e))

-- the class of a column by its three tests: detailed, within 7 and within 11
tests-later : (d d' s s' l l' : Bool) → (d' ≡ true → d ≡ true) → (s' ≡ true → s ≡ true) → (l' ≡ true → l ≡ true) → Later (pick s (pick d ColumnA ColumnB) (pick (d || l) ColumnB ColumnC)) (pick s' (pick d' ColumnA ColumnB) (pick (d' || l') ColumnB ColumnC))
tests-later false true s s' l l' f g h = let z : ◌≡◌ {A = ℕ} 0 1 = cc (f refl) in let w : ⊥ = omega arith in absurd w
tests-later true true false true l l' f g h = let z : ◌≡◌ {A = ℕ} 0 1 = cc (g refl) in let w : ⊥ = omega arith in absurd w
tests-later true false false true l l' f g h = let z : ◌≡◌ {A = ℕ} 0 1 = cc (g refl) in let w : ⊥ = omega arith in absurd w
tests-later false false false true l l' f g h = let z : ◌≡◌ {A = ℕ} 0 1 = cc (g refl) in let w : ⊥ = omega arith in absurd w
tests-later true true true true l l' f g h = same
tests-later true true true false l l' f g h = a-then-b
tests-later true true false false l l' f g h = same
tests-later true false true true l l' f g h = a-then-b
tests-later true false true false l true f g h = a-then-b
tests-later true false true false l false f g h = a-then-c
tests-later true false false false l true f g h = same
tests-later true false false false l false f g h = b-then-c
tests-later false false true true l l' f g h = same
tests-later false false true false l true f g h = same
tests-later false false true false l false f g h = b-then-c
tests-later false false false false true true f g h = same
tests-later false false false false true false f g h = b-then-c
tests-later false false false false false true f g h = let z : ◌≡◌ {A = ℕ} 0 1 = cc (h refl) in let w : ⊥ = omega arith in absurd w
tests-later false false false false false false f g h = same

-- "detailed" can only be lost and V_e / V_r only grow, so a column's class moves from A to B to C and never back
column-later : (d d' : Bool) (k : ℕ) {ve ve' vr vr' : ℕ} → (d' ≡ true → d ≡ true) → ve ≤ ve' → vr' ≤ vr → Later (column_class d k ve vr) (column_class d' k ve' vr')
unfolding column_class
column-later d d' k {ve} {ve'} {vr} {vr'} f h g =
    tests-later d d' (leb (1_000 * ve) (7 * k * vr)) (leb (1_000 * ve') (7 * k * vr')) (leb (1_000 * ve) (11 * k * vr)) (leb (1_000 * ve') (11 * k * vr')) f
    (leb-back (omega arith) (mul-le-mul_left (7 * k) g))
    (leb-back (omega arith) (mul-le-mul_left (11 * k) g))

module _ (m m' : MemberCase) (w : Worse m m') where
  pub detailed-lost : detailed m' ≡ true → detailed m ≡ true
  unfolding detailed
  detailed-lost e =
      let e' : (leb m.spacing 100 && (eqb m.hooks 1 && hoops_hold m'.hoops m.fyw m.fcm m.spacing m.core)) ≡ true = rw (w.spacing, w.hooks, w.fyw, w.fcm, w.core) e in
      and-back (leb m.spacing 100) (leb m.spacing 100) _ _ (λ t. t)
      (and-back (eqb m.hooks 1) (eqb m.hooks 1) (hoops_hold m.hoops m.fyw m.fcm m.spacing m.core) (hoops_hold m'.hoops m.fyw m.fcm m.spacing m.core) (λ t. t)
      (leb-back (omega arith) (mul-le-mul_right m.fyw (mul-le-mul_left 100 w.hoops))))
      e'

  wall-same : is_wall m' ≡ is_wall m
  wall-same = rw (w.short, w.long)

  shear-back : (k : ℕ) → shear_below k m'.case.ve m'.case.vr ≡ true → shear_below k m.case.ve m.case.vr ≡ true
  shear-back k e =
      ltb-back {a = 100 * m.case.ve} {a' = 100 * m'.case.ve} (mul-le-mul_left 100 w.ve) (mul-le-mul_left k w.vr) e

  -- the dropped m test can only be lost
  pub dropped-back : (k : ℕ) (met : Bool) → m_dropped_of k met m' ≡ true → m_dropped_of k met m ≡ true
  unfolding m_dropped_of
  dropped-back k met e =
      and-back met met _ _ (λ t. t)
      (and-back (is_wall m) (is_wall m') _ _ (λ t. sym wall-same ∙ t)
      (and-back (ltb m.case.drift 7_500) (ltb m'.case.drift 7_500) (shear_below k m.case.ve m.case.vr) (shear_below k m'.case.ve m'.case.vr)
      (λ t. ltb-back {b = 7_500} {b' = 7_500} w.drift (omega arith) t)
      (shear-back k)))
      e

  -- a column's class can only come later
  pub class-later : (k : ℕ) → is_wall m ≡ false → Later (class_of k m) (class_of k m')
  unfolding class_of
  class-later k e = let e' : is_wall m' ≡ false = wall-same ∙ e in simp (e, e') (column-later (detailed m) (detailed m') k detailed-lost w.ve w.vr)

-- over by tests: the m test where it is not dropped, or the rotation test
over-tests : (d d' x x' y y' : Bool) → (d' ≡ true → d ≡ true) → (x ≡ true → x' ≡ true) → (y ≡ true → y' ≡ true) → ((not d && x) || y) ≡ true → ((not d' && x') || y') ≡ true
over-tests d d' x x' true y' f g h e = rw (h refl) (or-true (not d' && x'))
over-tests true d' x x' false y' f g h e = let z : ◌≡◌ {A = ℕ} 0 1 = cc e in let w : ⊥ = omega arith in absurd w
over-tests false d' false x' false y' f g h e = let z : ◌≡◌ {A = ℕ} 0 1 = cc e in let w : ⊥ = omega arith in absurd w
over-tests false true true x' false y' f g h e = let z : ◌≡◌ {A = ℕ} 0 1 = cc (f refl) in let w : ⊥ = omega arith in absurd w
over-tests false false true x' false y' f g h e = rw (g refl)

pub exceeds-stays : (d d' : Bool) {m m' l l' r r' a a' : ℕ} → (d' ≡ true → d ≡ true) → m ≤ m' → l' ≤ l → r ≤ r' → a' ≤ a → exceeds d m l r a ≡ true → exceeds d' m' l' r' a' ≡ true
exceeds-stays d d' {m} {m'} {l} {l'} {r} {r'} {a} {a'} f hm hl hr ha e =
    over-tests d d' (ltb l m) (ltb l' m') (ltb a r) (ltb a' r') f (ltb-back hl hm) (ltb-back ha hr) e

-- both limits of the second are at most those of the first
pub record Fallen (s : LimitSet) (k : ℕ) (m m' : MemberCase) : Type 0 where
  pub moment : (m_limit_of s k m').0 ≤ (m_limit_of s k m).0
  pub rotation : (rotation_limit_of s k m').0 ≤ (rotation_limit_of s k m).0

-- limits at equal marks
module _ (s : LimitSet) (o : ordered_set s ≡ true) {n n' v v' ρ ρ' : ℕ} (r : Ratios≤ n n' v v' ρ ρ') {q q' : Class} (l : Later q q') {zone zone' st st' ae ae' : ℕ} (ez : zone ≡ zone') (es : st ≡ st') (ea : ae ≡ ae') (h : st ≡ 1 → q' ≡ ColumnC → q ≡ ColumnC) where
  m-worse : (m_limit_at s q' zone' st' ae' n' v' ρ').0 ≤ (m_limit_at s q zone st ae n v ρ).0
  m-worse = rw (← ez, ← es, ← ea) (m-falls s o r l zone st ae h)

  rotation-worse : (factor factor' : ℕ) → factor' ≤ factor → (rotation_limit_at s q' zone' st' ae' factor' n' v' ρ').0 ≤ (rotation_limit_at s q zone st ae factor n v ρ).0
  rotation-worse factor factor' f = rw (← ez, ← es, ← ea) (rotation-falls s o r l zone st ae h factor factor' f)

module _ (s : LimitSet) (o : ordered_set s ≡ true) (k : ℕ) (level : 0 < k) (m m' : MemberCase) (v : Valid m) (v' : Valid m') (w : Worse m m') where
  ratios-worse : Ratios≤ (axial_ratio m).0 (axial_ratio m').0 (wall_stress m).0 (wall_stress m').0 (hoop_ratio m).0 (hoop_ratio m').0
  ratios-worse =
      record {
        axial = rw (← w.fcm, ← w.area) (axial-mono m.fcm m.area w.nk v.fcm-least v.area-least);
        stress = rw (← w.short, ← w.depth, ← w.fctm) (stress-mono m.short m.depth m.fctm w.ve v.short-least v.depth-least v.fctm-least);
        hoops = rw (← w.spacing, ← w.core) (hoops-mono m.spacing m.core w.hoops v.spacing-least v.core-least);
      }

  -- n_D does not fall
  pub nd-worse : (axial_ratio_d m).0 ≤ (axial_ratio_d m').0
  nd-worse = rw (← w.fcm, ← w.area) (axial-mono m.fcm m.area w.nd v.fcm-least v.area-least)

  -- the limits of the second are at most those of the first, where its class comes no earlier and no strengthened column comes to C
  limits-fall : Later (class_of k m) (class_of k m') → (m'.strengthened ≡ 1 → class_of k m' ≡ ColumnC → class_of k m ≡ ColumnC) → Fallen s k m m'
  unfolding m_limit_of rotation_limit_of
  limits-fall l g =
      let h : m.strengthened ≡ 1 → class_of k m' ≡ ColumnC → class_of k m ≡ ColumnC = λ t. g (sym w.strengthened ∙ t) in
      record {
        moment = m-worse s o ratios-worse l w.zone w.strengthened w.annex-e h;
        rotation = rotation-worse s o ratios-worse l w.zone w.strengthened w.annex-e h m.factor m'.factor w.factor;
      }

  pub columns-fall : is_wall m ≡ false → (m'.strengthened ≡ 1 → class_of k m' ≡ ColumnC → class_of k m ≡ ColumnC) → Fallen s k m m'
  columns-fall e g = limits-fall (class-later m m' w k e) g

  pub same-class-falls : class_of k m ≡ class_of k m' → Fallen s k m m'
  same-class-falls e = limits-fall (rw e same) (λ t c. e ∙ c)

-- a member over in the first is over in the second, where the limits are at most as high
module _ (s : LimitSet) (k : ℕ) (level : 0 < k) (m m' : MemberCase) (v' : Valid m') (w : Worse m m') where
  pub over-stays : (met : Bool) → Fallen s k m m' → is_over s k met m ≡ true → is_over s k met m' ≡ true
  unfolding is_over
  over-stays met l e =
      exceeds-stays (m_dropped_of k met m) (m_dropped_of k met m') (dropped-back m m' w k met)
      (moment-mono k w.me w.mp level v'.mp-least)
      l.moment
      w.rotation
      l.rotation
      e
