-- Interpolation keeps order, whatever the table: over rows whose limits do not rise the value does not rise, and a table under another gives the lower value.
use Prim.Native.Nat.{ℕ, ◌+◌, ◌-◌, ◌*◌, ◌≤◌, ◌<◌}
use native.Mathlib.Nat.{mul-le-mul_right}
use native.Mathlib.Decide.{dec_le}
use native.Mathlib.Omega.{arith}
use mathlib.Core.List.{List, [], ◌∷◌}
use mathlib.Core.Path.{◌≡◌}
use Rattle.members.specs.declared.limits.Row.{Row}
use Rattle.members.specs.declared.limits.Fraction.{Fraction}
use Rattle.std.proofs.Common.{slice_index}
use Rattle.members.specs.Limits.{interp, row_limit, segment, clamp, blend}
use Rattle.members.proofs.Fractions.{◌⊑◌, ⊑_refl, ⊑_trans}
use Rattle.members.proofs.Interpolation.{up_to, inside, past, alone}

-- rows whose places rise and whose limits do not
pub data Falling : Row → List Row → Type 0 where
  end : {p : Row} → Falling p []
  step : {p q : Row} {ps : List Row} → p.at < q.at → q.limit ≤ p.limit → Falling q ps → Falling p (q ∷ ps)

-- the weights of two places between two rows: a and b, and the distance d of the places
weights : (a b d s t : ℕ) → t ≤ s → s * a + t * (b + d) ≤ s * (a + d) + t * b
weights a b d s t h = omega (arith, mul-le-mul_right d h)

module _ (p q : Row) (h : q.limit ≤ p.limit) where
  segment-falls : (x x' : ℕ) → p.at ≤ x → x ≤ x' → x' ≤ q.at → (segment p q x').num ≤ (segment p q x).num
  segment-falls x x' l m r =
      let e : q.at - x ≡ (q.at - x') + (x' - x) = omega arith in
      let f : x' - p.at ≡ (x - p.at) + (x' - x) = omega arith in
      rw (e, f) (weights (q.at - x') (x - p.at) (x' - x) p.limit q.limit h)

  segment-above : (x : ℕ) → p.at ≤ x → x ≤ q.at → row_limit q ⊑ segment p q x
  segment-above x l r =
      let e : q.at - p.at ≡ (q.at - x) + (x - p.at) = omega arith in
      record { cross = rw e (omega (arith, mul-le-mul_right (q.at - x) h)) }

  segment-below : (x : ℕ) → p.at ≤ x → x ≤ q.at → segment p q x ⊑ row_limit p
  segment-below x l r =
      let e : q.at - p.at ≡ (q.at - x) + (x - p.at) = omega arith in
      record { cross = rw e (omega (arith, mul-le-mul_right (x - p.at) h)) }

-- the first row's limit is the greatest
first : {p : Row} {ps : List Row} → Falling p ps → (x : ℕ) → interp p ps x ⊑ row_limit p
first {p} end x = rw alone (⊑_refl (row_limit p))
first {p} (step {q = q} {ps = ps} h k f) x = go (dec_le x p.at) (dec_le x q.at) (first f x)
  where
    go : Dec (x ≤ p.at) → Dec (x ≤ q.at) → interp q ps x ⊑ row_limit q → interp p (q ∷ ps) x ⊑ row_limit p
    go (yes a) b i = rw (up_to p q ps x a) (⊑_refl (row_limit p))
    go (no a) (yes b) i = rw (inside p q ps x (omega arith) b) (segment-below p q k x (omega arith) b)
    go (no a) (no b) i =
        rw (past p q ps x (omega arith) (omega arith))
        (record { cross = omega (arith, i.cross, mul-le-mul_right (interp q ps x).den k) })

pub positive : {p : Row} {ps : List Row} → Falling p ps → (x : ℕ) → 0 < (interp p ps x).den
positive {p} end x = rw alone (omega arith)
positive {p} (step {q = q} {ps = ps} h k f) x = go (dec_le x p.at) (dec_le x q.at) (positive f x)
  where
    go : Dec (x ≤ p.at) → Dec (x ≤ q.at) → 0 < (interp q ps x).den → 0 < (interp p (q ∷ ps) x).den
    go (yes a) b i = rw (up_to p q ps x a) (omega arith)
    go (no a) (yes b) i = rw (inside p q ps x (omega arith) b) (omega arith)
    go (no a) (no b) i = rw (past p q ps x (omega arith) (omega arith)) i

-- a table whose limits do not rise gives a value that does not rise
pub falls : {p : Row} {ps : List Row} → Falling p ps → (x x' : ℕ) → x ≤ x' → interp p ps x' ⊑ interp p ps x
falls {p} end x x' l = rw (alone, alone) (⊑_refl (row_limit p))
falls {p} (step {q = q} {ps = ps} h k f) x x' l =
    go (dec_le x p.at) (dec_le x q.at) (dec_le x' q.at) (falls f x x' l)
  where
    go : Dec (x ≤ p.at) → Dec (x ≤ q.at) → Dec (x' ≤ q.at) → interp q ps x' ⊑ interp q ps x → interp p (q ∷ ps) x' ⊑ interp p (q ∷ ps) x
    go (yes a) b c i = rw (up_to p q ps x a) (first (step h k f) x')
    go (no a) (yes b) (yes c) i =
        rw (inside p q ps x (omega arith) b, inside p q ps x' (omega arith) c)
        (record { cross = mul-le-mul_right (q.at - p.at) (segment-falls p q k x x' (omega arith) l c) })
    go (no a) (yes b) (no c) i =
        rw (inside p q ps x (omega arith) b, past p q ps x' (omega arith) (omega arith))
        (⊑_trans (interp q ps x') (row_limit q) (segment p q x) (omega arith) (first f x') (segment-above p q k x (omega arith) b))
    go (no a) (no b) c i = rw (past p q ps x (omega arith) (omega arith), past p q ps x' (omega arith) (omega arith)) i

-- one row is at the other's place, and g times its limit is at most h times the other's
pub record Below (g h : ℕ) (p q : Row) : Type 0 where
  pub place : p.at ≡ q.at
  pub limit : g * p.limit ≤ h * q.limit

-- table under table, row by row
pub data Under (g h : ℕ) : Row → List Row → Row → List Row → Type 0 where
  last : {p q : Row} → Below g h p q → Under g h p [] q []
  more : {p q p' q' : Row} {ps qs : List Row} → Below g h p q → Below g h p' q' → Under g h p' ps q' qs → Under g h p (p' ∷ ps) q (q' ∷ qs)

-- g times one value is at most h times the other
pub record Times (g h : ℕ) (e f : Fraction) : Type 0 where
  pub cross : g * (e.num * f.den) ≤ h * (f.num * e.den)

module _ (g h : ℕ) where
  row-limit-under : {p q : Row} → Below g h p q → Times g h (row_limit p) (row_limit q)
  row-limit-under b = record { cross = omega (arith, b.limit) }

  segment-under : {p q p' q' : Row} → Below g h p q → Below g h p' q' → (x : ℕ) → Times g h (segment p p' x) (segment q q' x)
  segment-under {p} {q} {p'} {q'} b c x =
      record {
        cross =
            rw (b.place, c.place)
            (omega (
              arith,
              mul-le-mul_right (q'.at - q.at)
                  (sum p.limit p'.limit q.limit q'.limit (q'.at - x) (x - q.at) b.limit c.limit),
            ));
      }
    where
      sum : (a a' d d' u v : ℕ) → g * a ≤ h * d → g * a' ≤ h * d' → g * (a * u + a' * v) ≤ h * (d * u + d' * v)
      sum a a' d d' u v l r = omega (arith, mul-le-mul_right u l, mul-le-mul_right v r)

  pub under : {p q : Row} {ps qs : List Row} → Under g h p ps q qs → (x : ℕ) → Times g h (interp p ps x) (interp q qs x)
  under {p} {q} (last b) x = rw (alone p x, alone q x) (row-limit-under b)
  under {p} {q} (more {p' = p'} {q' = q'} {ps = ps} {qs = qs} b c u) x = go (dec_le x p.at) (dec_le x p'.at) (under u x)
    where
      go : Dec (x ≤ p.at) → Dec (x ≤ p'.at) → Times g h (interp p' ps x) (interp q' qs x) → Times g h (interp p (p' ∷ ps) x) (interp q (q' ∷ qs) x)
      go (yes d) e i = rw (up_to p p' ps x d, up_to q q' qs x (omega (arith, b.place))) (row-limit-under b)
      go (no d) (yes e) i =
          rw (inside p p' ps x (omega arith) e, inside q q' qs x (omega (arith, b.place)) (omega (arith, c.place))) (segment-under b c x)
      go (no d) (no e) i =
          rw (past p p' ps x (omega arith) (omega arith), past q q' qs x (omega (arith, b.place)) (omega (arith, c.place))) i

-- a row of the same limit before the first changes no value
pub padded : (p q : Row) (ps : List Row) → p.at < q.at → p.limit ≡ q.limit → (x : ℕ) → interp q ps x ⊑ interp p (q ∷ ps) x
padded p q ps h e x = go (dec_le x p.at) (dec_le x q.at)
  where
    start : (ps : List Row) → x ≤ q.at → interp q ps x ≡ row_limit q
    start [] a = alone q x
    start (r ∷ rs) a = up_to q r rs x a

    go : Dec (x ≤ p.at) → Dec (x ≤ q.at) → interp q ps x ⊑ interp p (q ∷ ps) x
    go (yes a) b = rw (up_to p q ps x a, start ps (omega arith)) (record { cross = omega arith })
    go (no a) (yes b) =
        rw (inside p q ps x (omega arith) b, start ps b) (segment-above p q (omega arith) x (omega arith) b)
    go (no a) (no b) = rw (past p q ps x (omega arith) (omega arith)) (⊑_refl (interp q ps x))

-- a blend keeps the order of its two values, and falls or rises between them as they do
pub blend-values : (at y z : List ℕ) (x : ℕ) → slice_index y 0 ≤ slice_index z 0 → slice_index y 1 ≤ slice_index z 1 → blend at y x ≤ blend at z x
unfolding blend
blend-values at y z x h k =
    omega (arith, mul-le-mul_right (slice_index at 1 - clamp at x) h, mul-le-mul_right (clamp at x - slice_index at 0) k)

-- the distance from a to c, by way of b
by_way : (a b c : ℕ) → a ≤ b → b ≤ c → c - a ≡ (c - b) + (b - a)
by_way a b c h k = omega arith

clamp-rises : (at : List ℕ) (x x' : ℕ) → x ≤ x' → clamp at x ≤ clamp at x'
clamp-rises at x x' l = omega arith

module _ (at y : List ℕ) (x x' : ℕ) (r : slice_index at 0 < slice_index at 1) (l : x ≤ x') where
  to_end : slice_index at 1 - clamp at x ≡ (slice_index at 1 - clamp at x') + (clamp at x' - clamp at x)
  to_end = by_way (clamp at x) (clamp at x') (slice_index at 1) (clamp-rises at x x' l) (omega arith)

  from_start : clamp at x' - slice_index at 0 ≡ (clamp at x' - clamp at x) + (clamp at x - slice_index at 0)
  from_start = by_way (slice_index at 0) (clamp at x) (clamp at x') (omega arith) (clamp-rises at x x' l)

  pub blend-falls : slice_index y 1 ≤ slice_index y 0 → blend at y x' ≤ blend at y x
  unfolding blend
  blend-falls h = rw (to_end, from_start) (omega (arith, mul-le-mul_right (clamp at x' - clamp at x) h))

  pub blend-rises : slice_index y 0 ≤ slice_index y 1 → blend at y x ≤ blend at y x'
  unfolding blend
  blend-rises h = rw (to_end, from_start) (omega (arith, mul-le-mul_right (clamp at x' - clamp at x) h))

-- a blend is within the gap's multiple of its greater value, and reaches that of its lesser
module _ (at y : List ℕ) (x : ℕ) (r : slice_index at 0 < slice_index at 1) (h : slice_index y 0 ≤ slice_index y 1) where
  pub blend-least : (slice_index at 1 - slice_index at 0) * slice_index y 0 ≤ blend at y x
  unfolding blend
  blend-least =
      let e : slice_index at 1 - slice_index at 0 ≡ (slice_index at 1 - clamp at x) + (clamp at x - slice_index at 0) = omega arith in
      rw e (omega (arith, mul-le-mul_right (clamp at x - slice_index at 0) h))

  pub blend-most : blend at y x ≤ (slice_index at 1 - slice_index at 0) * slice_index y 1
  unfolding blend
  blend-most =
      let e : slice_index at 1 - slice_index at 0 ≡ (slice_index at 1 - clamp at x) + (clamp at x - slice_index at 0) = omega arith in
      rw e (omega (arith, mul-le-mul_right (slice_index at 1 - clamp at x) h))
