-- Laws of bytes put in the place of others, and of the lines' lengths.
use Prim.Native.Nat.{ℕ, suc, ◌+◌, ◌*◌, ◌≤◌}
use native.Mathlib.Omega.{arith}
use native.Mathlib.Numerals.{add-one}
use mathlib.Core.Bool.{Bool, true, false}
use mathlib.Core.List.{List, [], ◌∷◌, ◌++◌, append_assoc}
use mathlib.Core.Path.{◌≡◌, refl, ap, sym, ◌∙◌}
use lib.Dec.{leb}
use lib.ListN.{length, take, drop, set, length-set, length-append}
use lib.Seq.{drop-drop, take-set-le, drop-set-lt, sets, sets-eq}
use borrow.Author.Tests.{le-leb, leb-true}
use borrow.Rule.Slice.PartMut.{put_mid}
use Rattle.records.specs.Notation.{pick}
use Rattle.format.specs.Spelling.{spelled}
use Rattle.format.proofs.Typed.{length-spelled}
use Rattle.columns.specs.Line.{printed_numbers, line, at_front}
use Rattle.columns.specs.Bytes.{stamped, put_at, place_after}

pub length-stamped : (xs bytes : List ℕ) (at : ℕ) → length (stamped bytes at xs) ≡ length bytes
unfolding stamped
length-stamped [] bytes at = refl
length-stamped (x ∷ xs) bytes at = length-stamped xs (set bytes at x) (at + 1) ∙ length-set bytes at x

pub kept-length : (out bytes : List ℕ) (at : ℕ) (xs : List ℕ) → out ≡ stamped bytes at xs → length out ≡ length bytes
kept-length out bytes at xs e = ap length e ∙ length-stamped xs bytes at

pub stamped-none : (bytes : List ℕ) (at : ℕ) → stamped bytes at [] ≡ bytes
unfolding stamped
stamped-none bytes at = refl

-- one text after another
pub stamped-both : (xs ys bytes : List ℕ) (at next : ℕ) → next ≡ at + length xs → stamped (stamped bytes at xs) next ys ≡ stamped bytes at (xs ++ ys)
unfolding stamped
stamped-both [] ys bytes at next e = let q : next ≡ at = omega arith in rw q
stamped-both (x ∷ xs) ys bytes at next e = stamped-both xs ys (set bytes at x) (at + 1) next (omega arith)

-- the bytes before a text that is put, and those after it
pub before_text : (xs bytes : List ℕ) (n at : ℕ) → n ≤ at → take n (stamped bytes at xs) ≡ take n bytes
unfolding stamped
before_text [] bytes n at h = refl
before_text (x ∷ xs) bytes n at h = before_text xs (set bytes at x) n (at + 1) (omega arith) ∙ take-set-le n bytes at x h

pub after_text : (xs bytes : List ℕ) (n at : ℕ) → at + length xs ≤ n → drop n (stamped bytes at xs) ≡ drop n bytes
unfolding stamped
after_text [] bytes n at h = refl
after_text (x ∷ xs) bytes n at h = after_text xs (set bytes at x) n (at + 1) (omega arith) ∙ drop-set-lt n bytes at x (omega arith)

-- the library's words for the same
stamped-sets : (xs bytes : List ℕ) (at : ℕ) → stamped bytes at xs ≡ sets bytes at xs
unfolding stamped
stamped-sets [] bytes at = refl
stamped-sets (x ∷ xs) bytes at = rw add-one (stamped-sets xs (set bytes at x) (suc at))

-- a text that fits: the bytes before it, the text, and the bytes after it
pub stamped-parts : (xs bytes : List ℕ) (at : ℕ) → at + length xs ≤ length bytes → stamped bytes at xs ≡ take at bytes ++ (xs ++ drop (at + length xs) bytes)
stamped-parts xs bytes at h = stamped-sets xs bytes at ∙ sets-eq xs bytes at h ∙ append_assoc (take at bytes) xs (drop (at + length xs) bytes)

pub stamped-front : (xs bytes : List ℕ) → length xs ≤ length bytes → stamped bytes 0 xs ≡ xs ++ drop (length xs) bytes
stamped-front xs bytes h = let z : 0 + length xs ≡ length xs = omega arith in rw z at (stamped-parts xs bytes 0 (omega arith))

-- so many bytes from a place on, which become the text
pub stamped-part : (xs part bytes : List ℕ) (at n : ℕ) → part ≡ xs → length xs ≡ n → at + n ≤ length bytes → put_mid at n bytes part ≡ stamped bytes at xs
stamped-part xs part bytes at n e l h = rw (e, ← l, drop-drop) (sym (stamped-parts xs bytes at (omega arith)))

-- a text put from the front
module _ (text bytes : List ℕ) where
  put-front-by : (t : Bool) → leb (length text) (length bytes) ≡ t → pick t (stamped bytes 0 text) bytes ≡ pick t (text ++ drop (length text) bytes) bytes
  put-front-by true e = stamped-front text bytes (leb-true (length text) (length bytes) e)
  put-front-by false e = refl

  pub put_front : put_at text 0 bytes ≡ at_front text bytes
  put_front = let z : 0 + length text ≡ length text = omega arith in rw z (put-front-by (leb (length text) (length bytes)) refl)

-- a text that fits from a place on
module _ (text bytes : List ℕ) (at : ℕ) where
  pub put-fits : at + length text ≤ length bytes → put_at text at bytes ≡ stamped bytes at text
  put-fits h = rw (le-leb _ _ h)

  pub place-fits : at + length text ≤ length bytes → place_after text at (length bytes) ≡ at + length text
  place-fits h = rw (le-leb _ _ h)

-- ---- the loops

pub length-printed-numbers : (ns : List ℕ) → length (printed_numbers ns) ≡ 12 * length ns
unfolding printed_numbers
length-printed-numbers [] = refl
length-printed-numbers (n ∷ ns) = omega (arith, length-append (spelled 12 32 n) (printed_numbers ns), length-spelled 12 32 n, length-printed-numbers ns)

pub length-line : (tag ns : List ℕ) → length (line tag ns) ≡ length tag + (12 * length ns + 1)
unfolding line
length-line tag ns = omega (arith, length-append tag (printed_numbers ns ++ (10 ∷ [])), length-append (printed_numbers ns) (10 ∷ []), length-printed-numbers ns)
