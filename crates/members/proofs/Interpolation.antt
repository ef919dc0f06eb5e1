-- Interpolation by the place of x among the rows, whatever the table. The proofs cite these laws and not the definition.
use Prim.Native.Nat.{ℕ, suc, ◌+◌, ◌-◌, ◌*◌, ◌≤◌, ◌<◌}
use native.Mathlib.Decide.{dec_le}
use native.Mathlib.Omega.{arith}
use mathlib.Core.List.{List, [], ◌∷◌}
use mathlib.Core.Path.{◌≡◌, refl}
use borrow.Author.Tests.{le-leb, lt-leb}
use Rattle.members.specs.declared.limits.Row.{Row}
use Rattle.std.proofs.Common.{slice_index}
use Rattle.members.specs.Limits.{row, row_at, rows_after, interp, row_limit, segment, clamp, blend, gap}

module _ (p q : Row) (ps : List Row) (x : ℕ) where
  pub up_to : x ≤ p.at → interp p (q ∷ ps) x ≡ row_limit p
  unfolding interp
  up_to h = simp (le-leb _ _ h)

  pub inside : p.at < x → x ≤ q.at → interp p (q ∷ ps) x ≡ segment p q x
  unfolding interp
  inside h k = simp (lt-leb _ _ h, le-leb _ _ k)

  pub past : p.at < x → q.at < x → interp p (q ∷ ps) x ≡ interp q ps x
  unfolding interp
  past h k = simp (lt-leb _ _ h, lt-leb _ _ k)

pub alone : (p : Row) (x : ℕ) → interp p [] x ≡ row_limit p
unfolding interp
alone p x = refl

pub starts : (p : Row) (ps : List Row) (x : ℕ) → x ≤ p.at → interp p ps x ≡ row_limit p
starts p [] x h = alone p x
starts p (q ∷ ps) x h = up_to p q ps x h

-- over the rows of a table after row k
module _ (places limits : List ℕ) (n k : ℕ) (h : k + 1 < n) where
  rows-next : rows_after places limits k (n - (k + 1)) ≡ row_at places limits (k + 1) ∷ rows_after places limits (k + 1) (n - (k + 1 + 1))
  rows-next = let e : n - (k + 1) ≡ suc (n - (k + 1 + 1)) = omega arith in rw e refl

  module _ (p : Row) (x : ℕ) (l : p.at < x) where
    pub inside-row : x ≤ slice_index places (k + 1) → interp p (rows_after places limits k (n - (k + 1))) x ≡ segment p (row_at places limits (k + 1)) x
    inside-row r = rw rows-next (inside p _ _ x l r)

    pub past-row : slice_index places (k + 1) < x → interp p (rows_after places limits k (n - (k + 1))) x ≡ interp (row_at places limits (k + 1)) (rows_after places limits (k + 1) (n - (k + 1 + 1))) x
    past-row r = rw rows-next (past p _ _ x l r)

-- between two rows the value stands on their line: it goes from the first limit as the place goes from the first place
pub on_line : (p q : Row) (x : ℕ) → p.at ≤ x → x ≤ q.at → (segment p q x).num + p.limit * (x - p.at) ≡ p.limit * (segment p q x).den + q.limit * (x - p.at)
on_line p q x h k =
    let e : q.at - p.at ≡ (q.at - x) + (x - p.at) = omega arith in
    rw e (omega arith)

-- a blend is the interpolation over its two rows, times the gap
pub blend-interp : (at y : List ℕ) (x : ℕ) → slice_index at 0 < slice_index at 1 → blend at y x * (interp (row (slice_index at 0) (slice_index y 0)) (row (slice_index at 1) (slice_index y 1) ∷ []) x).den ≡ (interp (row (slice_index at 0) (slice_index y 0)) (row (slice_index at 1) (slice_index y 1) ∷ []) x).num * gap at
unfolding blend
blend-interp at y x r = go (dec_le x (slice_index at 0)) (dec_le x (slice_index at 1))
  where
    p : Row
    p = row (slice_index at 0) (slice_index y 0)

    q : Row
    q = row (slice_index at 1) (slice_index y 1)

    nothing : (a : ℕ) → a - a ≡ 0
    nothing a = omega arith

    low : x ≤ slice_index at 0 → clamp at x ≡ slice_index at 0
    low h = omega arith

    within : slice_index at 0 < x → x ≤ slice_index at 1 → clamp at x ≡ x
    within h k = omega arith

    high : slice_index at 1 < x → clamp at x ≡ slice_index at 1
    high h = omega arith

    go : Dec (x ≤ slice_index at 0) → Dec (x ≤ slice_index at 1) → blend at y x * (interp p (q ∷ []) x).den ≡ (interp p (q ∷ []) x).num * gap at
    go (yes h) k = rw (up_to p q [] x h, low h, nothing (slice_index at 0)) (omega arith)
    go (no h) (yes k) = rw (inside p q [] x (omega arith) k, within (omega arith) k) refl
    go (no h) (no k) = rw (past p q [] x (omega arith) (omega arith), alone q x, high (omega arith), nothing (slice_index at 1)) (omega arith)
