-- The loop over a storey's M lines with their D lines: what holds after j of them, and one turn.
use Prim.Native.Nat.{ℕ, zero, suc, ◌+◌, ◌≤◌, ◌<◌}
use native.Mathlib.Omega.{arith}
use native.Mathlib.Nat.{not-suc-le-zero}
use native.Mathlib.Numerals.{add-one}
use mathlib.Core.Bool.{Bool}
use mathlib.Core.List.{List}
use mathlib.Core.Path.{◌≡◌, refl, ap, sym, ◌∙◌}
use lib.Dec.{ltb, eqb}
use lib.ListN.{length, take, get_or, set, length-set}
use lib.Seq.{get_or-set_same, get_or-set_other, get_or-take, length-take-le, take_all}
use borrow.Author.Count.{below_more}
use Rattle.std.specs.List.{list_any}
use Rattle.std.proofs.lemmas.List.Folds.{list_any_more}
use Rattle.records.specs.Notation.{pick, any_below}
use Rattle.records.specs.Records.{member_kind, repeated}
use Rattle.format.specs.Lines.{value_at, member_at}
use Rattle.reading.specs.Survey.{line_start, line_number, members_before, storey, member_start, member, member_line_fault, no_fault, at-line, first_fault, cases_fault, member_lines_fault, members_fault}
use Rattle.reading.specs.Checks.{repeats, member_first, MembersDue}
use Rattle.reading.specs.Survey.{Fault}
use Rattle.records.specs.declared.refusal.Refusal.{Refusal}
use Rattle.records.specs.Refusals.{refusal_number}
use Rattle.records.proofs.Refusals.{number-positive}
use Rattle.reading.proofs.Turns.{Plain, line_plain, else-plain, else-here, else-later, begins, goes_on, stops, first_plain}
use Rattle.reading.proofs.Cases.{cases-plain}

pub any_same : (p q : ℕ → Bool) (n : ℕ) → ((e : ℕ) → e < n → p e ≡ q e) → any_below p n ≡ any_below q n
unfolding any_below
any_same p q zero h = refl
any_same p q (suc n) h = rw (any_same p q n (λ e l. h e (omega arith)), h n (omega arith))

-- some of the numbers of a list passes a test
any-listed : (p : ℕ → Bool) (xs : List ℕ) (n : ℕ) → n ≤ length xs → any_below (λ e. p (get_or xs e 0)) n ≡ list_any p (take n xs)
unfolding any_below
any-listed p xs zero h = refl
any-listed p xs (suc n) h = rw (any-listed p xs n (omega arith), ← list_any_more p xs n 0 (omega arith), add-one)

pub repeats_listed : (before : List ℕ) (number : ℕ) → repeats before number ≡ pick (list_any (λ y. eqb y number) before) 5 0
repeats_listed before number =
    let l : length before ≤ length before = omega arith in
    ap (λ (t : Bool). pick t 5 0) (any-listed (λ y. eqb y number) before (length before) l ∙ rw (take_all (length before) before l))

pub record Turn (form : ℕ) (s : List ℕ) (rows i m count : ℕ) (numbers : List ℕ) (j : ℕ) : Type 0 where
  pub size : length numbers ≡ 200
  pub held : (e : ℕ) → e < j → get_or numbers e 0 ≡ (member form s i e).number
  pub clear : (first_fault (member_lines_fault form s rows i) j).number ≡ 0

-- a number is repeated among the first j where it is one of theirs
pub repeats-first : (numbers : List ℕ) (number : ℕ → ℕ) (j v : ℕ) → j ≤ length numbers → ((e : ℕ) → e < j → get_or numbers e 0 ≡ number e) → v ≡ number j → repeats (take j numbers) v ≡ repeated number j
repeats-first numbers number j v h f e =
    let l = length-take-le j numbers h in
    rw l (ap (λ (t : Bool). pick t 5 0) (any_same _ _ j (λ k g. rw (get_or-take j numbers k 0 g, f k g, e))))

module _ (form : ℕ) (s : List ℕ) (rows i m count : ℕ) (due : MembersDue form s i m count) where
  abbrev lines : ℕ → Fault
  lines = member_lines_fault form s rows i

  pub turn-first : (numbers : List ℕ) → length numbers ≡ 200 → Turn form s rows i m count numbers 0
  turn-first numbers z = record { size = z; held = λ e l. absurd (not-suc-le-zero l); clear = begins lines }

  module _ (numbers : List ℕ) (j : ℕ) (u : Turn form s rows i m count numbers j) (h : j < count) (x : ℕ) (o : x ≡ member_first form s (line_start form (i + 1) (m + j)) (ltb (m + j) rows) (take j numbers)) where
    fault-is : x ≡ member_line_fault form s rows i j
    unfolding member_line_fault member_at
    fault-is =
        let b = due.before in
        let c = due.count_most in
        let r = repeats-first numbers (λ e. (member form s i e).number) j _ (omega (arith, u.size, c)) u.held refl in
        o ∙ rw (b, r)

    -- the M line is refused
    pub turn-stops : (r : Refusal) → x ≡ refusal_number r → record { number = refusal_number r; line = line_number form (i + 1) (m + j) } ≡ members_fault form s rows i
    unfolding members_fault member_lines_fault
    turn-stops r q =
        let line = line_number form (i + 1) (m + j) in
        let p = number-positive r in
        let ne : refusal_number r ≡ 0 → ⊥ = λ z. omega (arith, p, z) in
        stops lines j u.clear (storey form s i).count (record { number = refusal_number r; line = line }) (omega (arith, due.held))
        (rw (← fault-is, q, ← due.before) (else-here line (refusal_number r) _ ne)) ne

    module _ (z : x ≡ 0) (g : Fault) (gi : g ≡ cases_fault form s (line_start form (i + 1) (m + j)) (line_number form (i + 1) (m + j))) where
      later-is : lines j ≡ g
      unfolding member_lines_fault
      later-is = rw (← fault-is, ← due.before, ← gi) (else-later (line_number form (i + 1) (m + j)) x g z)

      -- a D line is refused
      pub cases-refused : (g.number ≡ 0 → ⊥) → g ≡ members_fault form s rows i
      unfolding members_fault
      cases-refused ne = stops lines j u.clear (storey form s i).count g (omega (arith, due.held)) later-is ne

      pub turn-next : (v : ℕ) → v ≡ value_at (member_kind form) s (line_start form (i + 1) (m + j)) 0 → g.number ≡ 0 → Turn form s rows i m count (set numbers j v) (j + 1)
      unfolding member_at
      turn-next v q y =
          record {
            size = length-set numbers j v ∙ u.size;
            held =
                below_more _ j (λ e g. get_or-set_other numbers j e v 0 (λ p. let y : ⊥ = omega arith in absurd y) ∙ u.held e g)
                (get_or-set_same numbers j v 0 (omega (arith, u.size, due.count_most)) ∙ q ∙ rw due.before);
            clear = goes_on lines j u.clear (ap (λ (e : Fault). e.number) later-is ∙ y);
          }

  lines-plain : (j : ℕ) → Plain (lines j)
  unfolding member_lines_fault
  lines-plain j =
      else-plain (at-line (line_number form (i + 1) (members_before form s i + j)) (member_line_fault form s rows i j)) _ (line_plain _ (member_line_fault form s rows i j)) (cases-plain form s (member_start form s i j) _)

  pub turn_last : (numbers : List ℕ) (j : ℕ) → Turn form s rows i m count numbers j → j ≡ count → no_fault ≡ members_fault form s rows i
  unfolding members_fault
  turn_last numbers j u h =
      let e : j ≡ (storey form s i).count = omega (arith, due.held) in
      sym (first_plain lines lines-plain (storey form s i).count (rw e at u.clear))
