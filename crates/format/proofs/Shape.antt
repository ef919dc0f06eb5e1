-- Laws of a line's end and shape.
use Prim.Native.Nat.{ℕ, suc, ◌+◌, ◌*◌, ◌≤◌, ◌<◌}
use native.Mathlib.Omega.{arith}
use native.Mathlib.Numerals.{add-one}
use mathlib.Core.Bool.{Bool, true, false, cond, not, ◌&&◌, and-false}
use mathlib.Core.List.{List, [], ◌∷◌}
use mathlib.Core.Path.{◌≡◌, refl, ap, sym, ◌∙◌}
use lib.Dec.{ltb, eqb}
use lib.ListN.{length, drop, get_or, length-drop}
use lib.Seq.{drop-cons}
use borrow.Author.Tests.{eqb-true, eq-eqb, ne_eqb, ltb-true, ltb-false}
use Rattle.std.specs.Prelude.{Option, Some, None, unwrap_or}
use Rattle.std.specs.List.{position_or_len}
use Rattle.records.specs.Notation.{pick}
use Rattle.records.specs.Records.{fields}
use Rattle.format.specs.Lines.{tag_byte, line_end, shaped, framed}
use Rattle.records.specs.declared.Kind.{Kind}
use Rattle.records.proofs.Below.{and_left, and_right}

module _ (l : List ℕ) (i : ℕ) where
  pub end-here : i < length l → get_or l i 0 ≡ 10 → line_end (drop i l) ≡ 0
  unfolding line_end
  end-here h e = rw (drop-cons l i 0 h, eq-eqb _ _ e)

  pub end_later : i < length l → (get_or l i 0 ≡ 10 → ⊥) → line_end (drop i l) ≡ line_end (drop (i + 1) l) + 1
  unfolding line_end
  end_later h ne = rw (drop-cons l i 0 h, ne_eqb _ _ ne, add-one i) (sym (add-one _))

-- the place of the first LF, where there is one
end-more : (t : Bool) (e : ℕ) → pick t 0 (suc e) ≡ cond (not t) (1 + e) 0
end-more true e = refl
end-more false e = omega arith

end-place : (l : List ℕ) → line_end l ≡ position_or_len (λ b. eqb b 10) l
unfolding line_end
end-place [] = refl
end-place (b ∷ l) = end-more (eqb b 10) (line_end l) ∙ ap (λ (e : ℕ). cond (not (eqb b 10)) (1 + e) 0) (end-place l)

step-most : (t : Bool) (e n : ℕ) → e ≤ n → pick t 0 (suc e) ≤ suc n
step-most true e n h = omega arith
step-most false e n h = omega arith

end-most : (l : List ℕ) → line_end l ≤ length l
unfolding line_end
end-most [] = omega arith
end-most (b ∷ l) = step-most (eqb b 10) (line_end l) (length l) (end-most l)

or-all : (t : Bool) (e n : ℕ) → ltb e n ≡ t → e ≤ n → unwrap_or (cond t (Some e) None) n ≡ e
or-all true e n q h = refl
or-all false e n q h = omega (arith, ltb-false e n q)

pub end-found : (l : List ℕ) (o : Option ℕ) (r : ℕ) → o ≡ cond (ltb (position_or_len (λ b. eqb b 10) l) (length l)) (Some (position_or_len (λ b. eqb b 10) l)) None → r ≡ unwrap_or o (length l) → r ≡ line_end l
end-found l o r e f =
    let p = end-place l in
    f ∙ rw (e, ← p) (or-all (ltb (line_end l) (length l)) (line_end l) (length l) refl (end-most l))

-- a line of the expected shape lies within the file
pub shaped-fits : (t : Kind) (s : List ℕ) (at : ℕ) → shaped t (drop at s) ≡ true → at + 2 + 8 * fields t ≤ length s
unfolding shaped
shaped-fits t s at e =
    let a = and_right (eqb (get_or (drop at s) 0 0) (tag_byte t)) _ e in
    let b = ltb-true (8 * fields t + 1) (length (drop at s)) (and_right (eqb (line_end (drop at s)) (8 * fields t + 1)) _ a) in
    omega (arith, length-drop at s)

-- and ends after its fields
pub shaped-end : (t : Kind) (s : List ℕ) (at : ℕ) → shaped t (drop at s) ≡ true → line_end (drop at s) ≡ 8 * fields t + 1
unfolding shaped
shaped-end t s at e =
    let a = and_right (eqb (get_or (drop at s) 0 0) (tag_byte t)) _ e in
    eqb-true (line_end (drop at s)) (8 * fields t + 1) (and_left (eqb (line_end (drop at s)) (8 * fields t + 1)) _ a)

-- an LF stands where the first one is found
end-by : (t : Bool) (b : ℕ) (l : List ℕ) → eqb b 10 ≡ t → (line_end l < length l → get_or l (line_end l) 0 ≡ 10) → pick t 0 (suc (line_end l)) < suc (length l) → get_or (b ∷ l) (pick t 0 (suc (line_end l))) 0 ≡ 10
end-by true b l e f h = eqb-true b 10 e
end-by false b l e f h = f (omega arith)

end-is : (l : List ℕ) → line_end l < length l → get_or l (line_end l) 0 ≡ 10
unfolding line_end
end-is [] h = absurd (omega arith)
end-is (b ∷ l) h = end-by (eqb b 10) b l refl (end-is l) h

shape-tests : (long tag lf first : Bool) → (long ≡ true → first ≡ true → lf ≡ true) → ((long && (tag && lf)) && first) ≡ (tag && (first && long))
shape-tests true true lf true f = rw (f refl refl)
shape-tests true true lf false f = and-false lf
shape-tests true false lf first f = refl
shape-tests false tag lf first f = simp and-false

-- a line of the expected shape has its tag and its LF where they must stand, and no LF before that one
pub framed_first : (t : Kind) (l : List ℕ) → (framed t l && eqb (line_end l) (8 * fields t + 1)) ≡ shaped t l
unfolding shaped
framed_first t l =
    shape-tests (ltb (8 * fields t + 1) (length l)) (eqb (get_or l 0 0) (tag_byte t)) (eqb (get_or l (8 * fields t + 1) 0) 10) (eqb (line_end l) (8 * fields t + 1)) (λ h e.
    let p = eqb-true (line_end l) (8 * fields t + 1) e in
    let b = ltb-true (8 * fields t + 1) (length l) h in
    eq-eqb _ _ (rw p at (end-is l (omega (arith, p, b)))))
