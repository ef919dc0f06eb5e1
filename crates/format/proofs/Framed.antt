-- A line whose tag and LF stand where they must and whose fields are not refused has its shape.
use Prim.Native.Nat.{ℕ, ◌+◌, ◌*◌, ◌<◌}
use native.Mathlib.Omega.{arith}
use mathlib.Core.Bool.{true}
use mathlib.Core.List.{List}
use mathlib.Core.Path.{◌≡◌, ap, sym, ◌∙◌}
use lib.Dec.{ltb, eqb}
use lib.ListN.{length, drop, get_or, length-drop}
use lib.Seq.{get_or-drop}
use borrow.Author.Tests.{eqb-true, eqb-false, ltb-true, eq-eqb, lt-ltb}
use Rattle.records.specs.Records.{fields}
use Rattle.format.specs.Lines.{tag_byte, line_end, shaped, value_at, fields_fault, framed}
use Rattle.records.specs.declared.Kind.{Kind}
use Rattle.records.proofs.Below.{and_left, and_right}
use Rattle.records.proofs.Lines.{numbers}
use Rattle.format.proofs.Held.{length-numbers}
use Rattle.format.proofs.LineText.{fields-text}
use Rattle.format.proofs.Shape.{end-here, end_later}
use Rattle.format.proofs.Typed.{end-fields, tag-other}

module _ (kind : Kind) (s : List ℕ) (at : ℕ) (w : fields_fault kind s at ≡ 0) (e : framed kind (drop at s) ≡ true) where
  inside : 8 * fields kind + 1 < length (drop at s)
  inside = ltb-true (8 * fields kind + 1) (length (drop at s)) (and_left (ltb (8 * fields kind + 1) (length (drop at s))) _ e)

  first_byte : eqb (get_or (drop at s) 0 0) (tag_byte kind) ≡ true
  first_byte = and_left (eqb (get_or (drop at s) 0 0) (tag_byte kind)) _ (and_right (ltb (8 * fields kind + 1) (length (drop at s))) _ e)

  last_byte : get_or (drop at s) (8 * fields kind + 1) 0 ≡ 10
  last_byte = eqb-true (get_or (drop at s) (8 * fields kind + 1) 0) 10 (and_right (eqb (get_or (drop at s) 0 0) (tag_byte kind)) _ (and_right (ltb (8 * fields kind + 1) (length (drop at s))) _ e))

  tag_is : get_or s at 0 ≡ tag_byte kind
  tag_is = let o : at + 0 ≡ at = omega arith in ap (λ (k : ℕ). get_or s k 0) (sym o) ∙ sym (get_or-drop at s 0 0) ∙ eqb-true (get_or (drop at s) 0 0) (tag_byte kind) first_byte

  lf-is : get_or s (at + 1 + 8 * fields kind) 0 ≡ 10
  lf-is = let o : at + 1 + 8 * fields kind ≡ at + (8 * fields kind + 1) = omega arith in ap (λ (k : ℕ). get_or s k 0) o ∙ sym (get_or-drop at s (8 * fields kind + 1) 0) ∙ last_byte

  fields-end : line_end (drop (at + 1) s) ≡ 8 * fields kind
  fields-end =
      let l = length-drop at s in
      let vs = numbers (value_at kind s at) 0 (fields kind) in
      let i : at + 1 ≡ at + 1 + 8 * 0 = omega arith in
      let z : 0 + fields kind ≡ fields kind = omega arith in
      let t = rw z at (fields-text kind s at w (fields kind) 0 (omega arith)) in
      ap (λ (k : ℕ). line_end (drop k s)) i ∙ ap line_end t ∙ end-fields kind 0 vs (drop (at + 1 + 8 * fields kind) s)
      ∙ omega (arith, length-numbers (value_at kind s at) 0 (fields kind), end-here s (at + 1 + 8 * fields kind) (omega (arith, l, inside)) lf-is)

  line-ends : line_end (drop at s) ≡ 8 * fields kind + 1
  line-ends =
      end_later s at (omega (arith, length-drop at s, inside)) (λ e. eqb-false (tag_byte kind) 10 (tag-other kind) (sym tag_is ∙ e)) ∙ omega (arith, fields-end)

  pub framed-shaped : shaped kind (drop at s) ≡ true
  unfolding shaped
  framed-shaped = rw (first_byte, eq-eqb _ _ line-ends, lt-ltb _ _ inside)
