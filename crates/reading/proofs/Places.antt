-- The sizes and places of lines in a form.
use Prim.Native.Nat.{ℕ, ◌+◌, ◌*◌, ◌≤◌}
use native.Mathlib.Omega.{arith}
use native.Mathlib.Nat.{mul-le-mul}
use mathlib.Core.Bool.{Bool, true, false}
use mathlib.Core.Path.{◌≡◌, refl}
use Rattle.records.specs.Records.{in_cases, storey_kind}
use Rattle.records.specs.declared.Kind.TheVariants.{B}
use Rattle.format.specs.Lines.{line_size, case_lines, member_size}
use Rattle.reading.specs.Survey.{line_start, line_number}

-- ---- sizes
case-lines-by : (t : Bool) (form : ℕ) → in_cases form ≡ t → case_lines form ≤ 4
case-lines-by true form e = rw e (omega arith)
case-lines-by false form e = rw e (omega arith)

pub case-lines-most : (form : ℕ) → case_lines form ≤ 4
case-lines-most form = case-lines-by (in_cases form) form refl

-- ---- places are small
module _ (form i m : ℕ) (h : i ≤ 11) (g : m ≤ 2200) where
  pub lines-small : (1 + case_lines form) * m ≤ 11_000
  lines-small = let k : 1 + case_lines form ≤ 5 = omega (arith, case-lines-most form) in omega (arith, mul-le-mul k g)

  pub number_small : line_number form i m ≤ 20_000
  number_small = omega (arith, lines-small)

-- ---- the next place: the products are of any sizes
one_more : (k a b i m : ℕ) → k + a * (i + 1) + b * m ≡ (k + a * i + b * m) + a
one_more k a b i m = omega arith

so-many : (k a b i m c : ℕ) → k + a * i + b * (m + c) ≡ (k + a * i + b * m) + b * c
so-many k a b i m c = omega arith

pub next-storey : (form i m : ℕ) → line_start form (i + 1) m ≡ line_start form i m + line_size (storey_kind form)
next-storey form i m = one_more (line_size B) (line_size (storey_kind form)) (member_size form) i m

pub next-members : (form i m c : ℕ) → line_start form i (m + c) ≡ line_start form i m + member_size form * c
next-members form i m c = so-many (line_size B) (line_size (storey_kind form)) (member_size form) i m c
