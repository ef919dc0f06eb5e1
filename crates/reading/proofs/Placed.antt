-- Laws of the rows that a loop fills, one after the other.
use Prim.Native.Nat.{ℕ, zero, suc, ◌+◌, ◌-◌, ◌≤◌, ◌<◌}
use native.Mathlib.Omega.{arith}
use native.Mathlib.Numerals.{add-one}
use mathlib.Core.List.{List, ◌++◌, append_assoc, append-nil}
use mathlib.Core.Path.{◌≡◌, refl, sym, ◌∙◌}
use borrow.Rule.Slice.PartMut.{put_mid}
use lib.ListN.{length, take, drop, get_or, set, length-append, length-drop, take-append-drop, drop_of_length-le}
use lib.Seq.{drop-cons, set_at, drop-drop, length-take-le}
use Rattle.records.specs.Notation.{listed}
use Rattle.reading.specs.Filling.{placed}
use Rattle.reading.proofs.Numbers.{length-listed}

module _ {A : Type 0} (f : ℕ → A) (k : ℕ) (rows : List A) where
  pub placed-none : rows ≡ placed f k 0 rows
  unfolding placed
  placed-none = refl

  pub placed-step : (n i : ℕ) (now : List A) (r : A) → now ≡ placed f k n rows → r ≡ f n → i ≡ k + n → set now i r ≡ placed f k (n + 1) rows
  unfolding placed
  placed-step n i now r e g h = rw (add-one, e, g, h)

-- a part of the rows has as many as it was to have
pub part-length : {A : Type 0} (k n : ℕ) (rows : List A) → k + n ≤ length rows → length (take ((k + n) - k) (drop k rows)) ≡ n
part-length k n rows h =
    let q : (k + n) - k ≡ n = omega arith in
    rw q (length-take-le n (drop k rows) (rw (length-drop k rows) (omega arith)))

-- ---- filled rows, and those after them
module _ {A : Type 0} (f : ℕ → A) (d : A) where
  pub placed-listed : (k n : ℕ) (rows : List A) → k + n ≤ length rows → placed f k n rows ≡ take k rows ++ listed f n ++ drop (k + n) rows
  unfolding placed listed
  placed-listed k zero rows h = let e : k + 0 ≡ k = omega arith in rw (e, append-nil (take k rows)) (sym (take-append-drop k rows))
  placed-listed k (suc n) rows h =
      let l : k + n < length rows = omega arith in
      let p : length (take k rows ++ listed f n) ≡ k + n = rw (length-append (take k rows) (listed f n), length-take-le k rows (omega arith), length-listed f n) in
      let q : k + suc n ≡ suc (k + n) = omega arith in
      rw (placed-listed k n rows (omega arith), drop-cons rows (k + n) d l, set_at (take k rows ++ listed f n) (get_or rows (k + n) d) (drop (suc (k + n)) rows) (f n) (k + n) p, q)
      (simp append_assoc)

  placed-front : (n : ℕ) (rows : List A) → n ≤ length rows → placed f 0 n rows ≡ listed f n ++ drop n rows
  placed-front n rows h = let z : 0 + n ≡ n = omega arith in rw z at (placed-listed 0 n rows (omega arith))

  -- all rows
  pub placed-all : (n : ℕ) (rows : List A) → n ≡ length rows → placed f 0 n rows ≡ listed f n
  placed-all n rows h =
      let l : length rows ≤ n = omega arith in
      placed-front n rows (omega arith) ∙ rw (drop_of_length-le rows l) (append-nil (listed f n))

  -- rows written by a part of them
  pub placed-part : (k n : ℕ) (rows part : List A) → k + n ≤ length rows → part ≡ listed f (length (take ((k + n) - k) (drop k rows))) → put_mid k ((k + n) - k) rows part ≡ placed f k n rows
  placed-part k n rows part h e =
      let q : (k + n) - k ≡ n = omega arith in
      let w : part ≡ listed f n = rw (part-length k n rows h) at e in
      rw (q, w, placed-listed k n rows h, drop-drop n k rows) (sym (append_assoc (take k rows) (listed f n) (drop (k + n) rows)))
