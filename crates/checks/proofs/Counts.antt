-- The counts of some storeys taken one after another from the rows still left.
use Prim.Native.Nat.{ℕ, ◌+◌, ◌-◌, ◌≤◌, ◌<◌}
use native.Mathlib.Omega.{arith}
use mathlib.Core.List.{List, [], ◌∷◌}
use mathlib.Core.Path.{◌≡◌, sym}
use lib.Dec.{eqb}
use denote.Param.Members.{Mut}
use denote.Ref.{Bor}
use borrow.Author.Tests.{ne_eqb}
use Rattle.std.specs.Prelude.{Option, None, Some, MatchOption}
use Rattle.std.specs.Option.{SomeIff, option_eq}
use Rattle.std.specs.Fn.{Called}
use Rattle.std.specs.List.{FoldsTo}
use Rattle.std.specs.Iterator.{Yields, TryFoldTurn}
use Rattle.std.specs.Slice.Iter.{iter_rest, iter_steps}
use Rattle.std.specs.declared.slice.Iter.{Iter}
use Rattle.std.specs.ControlFlow.{continue_value}
use Rattle.std.specs.declared.ops.ControlFlow.{ControlFlow}
use Rattle.std.proofs.lemmas.Bool.Decides.{nat_tests}
use Rattle.std.proofs.lemmas.List.{nil_from_length}
use Rattle.records.specs.Notation.{total}
use Rattle.records.specs.declared.Storey.{Storey}

abbrev pub counts : List Storey → ℕ
counts ss = total (λ s. s.count) ss

-- what is left of so many rows; none where the counts are more
abbrev pub Left : List Storey → ℕ → Option ℕ → Type 0
Left ss rows r = MatchOption r (rows < counts ss) (λ left. left + counts ss ≡ rows)

pub fits : (ss : List Storey) (rows : ℕ) (r : Option ℕ) → Left ss rows r → option_eq eqb r (Some 0) ≡ eqb (counts ss) rows
fits ss rows None l = sym (ne_eqb (counts ss) rows (λ e. let z : ⊥ = omega (arith, e, l) in absurd z))
fits ss rows (Some left) l = grind (arith, nat_tests)

-- one storey's count more
one_more : (ss : List Storey) (count rows left : ℕ) (v r : Option ℕ) → SomeIff v (count ≤ rows) (rows - count) → v ≡ Some left → Left ss left r
    → MatchOption r (rows < count + counts ss) (λ a. a + (count + counts ss) ≡ rows)
one_more ss count rows left v None i e l = let k : (count ≤ rows) × (left ≡ rows - count) = rw e at i in omega (arith, k.0, k.1, l)
one_more ss count rows left v (Some a) i e l = let k : (count ≤ rows) × (left ≡ rows - count) = rw e at i in omega (arith, k.0, k.1, l)

too_many : (ss : List Storey) (count rows : ℕ) (v : Option ℕ) → SomeIff v (count ≤ rows) (rows - count) → v ≡ None → rows < count + counts ss
too_many ss count rows v i e = let k : (count ≤ rows) → ⊥ = rw e at i in omega (arith, k)

module _ {F : Type 0} (E : Type 0) (g : Mut F (ℕ × (Bor Storey × Unit {0})) (Option ℕ)) (f : F)
    (each : (b : ℕ) (x : Bor Storey) (v : Option ℕ) (q : F) → Called g f (b, (x, tt)) v q → (q ≡ f) × SomeIff v (x.now.count ≤ b) (b - x.now.count)) where
  abbrev Turn : F × ℕ → Bor Storey → F × ℕ → Type 0
  Turn = TryFoldTurn g (λ (v : Option ℕ) (c : ControlFlow E ℕ). v ≡ continue_value c)

  -- no storey is left, or a count is more than the rows
  abbrev Ends : Option (Bor Storey) → F × ℕ → Option ℕ → Type 0
  Ends o z r = MatchOption o (r ≡ Some z.1) (λ x. (v : Option ℕ) × (h : F) × (e : E) × Called g z.0 (z.1, (x, tt)) v h × (v ≡ None) × (r ≡ None))

  -- so a fold from so many rows ends with what is left of them
  pub left : (xs : List (Bor Storey)) (s t u : Iter Storey) (o : Option (Bor Storey)) (p z : F × ℕ) (r : Option ℕ) → p.0 ≡ f
      → Yields iter_steps s xs t → iter_steps t o u → FoldsTo Turn p xs z → Ends o z r → Left (iter_rest s) p.1 r
  unfolding total
  left [] s t u None p z r e y n c h = rw (h, c, y, nil_from_length (iter_rest t) n.0) (omega arith)
  left [] s t u (Some x) p z r e y n c h =
      let a = each p.1 x h.0 h.1 (rw (← c, e) at h.3) in
      rw (h.5, y, n) (too_many (iter_rest u) x.now.count p.1 h.0 a.1 h.4)
  left (x ∷ xs) s t u o p z r e y n c h =
      let a = each p.1 x c.1.0 c.0.0 (rw e at c.1.1) in
      rw y.1 (one_more (iter_rest y.0) x.now.count p.1 c.0.1 c.1.0 r a.1 c.1.2 (left xs y.0 t u o c.0 z r a.0 y.2 n c.2 h))
