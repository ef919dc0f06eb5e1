-- The loop over the S lines: what holds after i of them, and one turn.
use Prim.Native.Nat.{ℕ, ◌+◌, ◌*◌, ◌≤◌, ◌<◌}
use native.Mathlib.Omega.{arith}
use native.Mathlib.Nat.{not-suc-le-zero}
use native.Mathlib.Numerals.{add-one}
use mathlib.Core.List.{List}
use mathlib.Core.Path.{◌≡◌, refl, ap, sym, ◌∙◌}
use lib.Dec.{ltb}
use lib.ListN.{length, take, get_or, set, length-set}
use lib.Seq.{get_or-set_same, get_or-set_other}
use borrow.Author.Count.{below_more}
use borrow.Author.Tests.{ne_eqb}
use Rattle.records.specs.Records.{storey_kind}
use Rattle.format.specs.Lines.{fields_fault, storey_at}
use Rattle.reading.specs.Survey.{line_start, line_number, members_before, storey, storey_line_fault, first_fault, members_fault, storeys_fault, lines_fault}
use Rattle.reading.specs.Checks.{storey_first, MembersDue}
use Rattle.records.specs.declared.Storey.{Storey}
use Rattle.reading.specs.Survey.{Fault}
use Rattle.records.specs.declared.refusal.Refusal.{Refusal}
use Rattle.records.specs.Refusals.{refusal_number}
use Rattle.records.proofs.Refusals.{number-positive}
use Rattle.checks.proofs.Refusals.{one, rest}
use Rattle.records.proofs.Validity.{count_most}
use Rattle.reading.proofs.Lines.{storey-good}
use Rattle.reading.proofs.Turns.{else-here, else-later, begins, goes_on, stops}
use Rattle.reading.proofs.Accepted.{storey-checks}
use Rattle.reading.proofs.Storeys.{repeats-first}

pub record Begun (form : ℕ) (s : List ℕ) (srows mrows : ℕ) (numbers : List ℕ) (i m : ℕ) : Type 0 where
  pub size : length numbers ≡ 10
  pub before : m ≡ members_before form s i
  pub most : m ≤ 200 * i
  pub held : (e : ℕ) → e < i → get_or numbers e 0 ≡ (storey form s e).number
  pub clear : (first_fault (storeys_fault form s srows mrows) i).number ≡ 0

module _ (form : ℕ) (s : List ℕ) (n srows mrows : ℕ) (few : n ≤ 10) where
  abbrev lines : ℕ → Fault
  lines = storeys_fault form s srows mrows

  pub begun_first : (numbers : List ℕ) → length numbers ≡ 10 → Begun form s srows mrows numbers 0 0
  unfolding members_before
  begun_first numbers z =
      record { size = z; before = refl; most = omega arith; held = λ e l. absurd (not-suc-le-zero l); clear = begins lines }

  -- a refusal of a storey is the file's
  file-stops : (r : Fault) → r ≡ first_fault lines n → (r.number ≡ 0 → ⊥) → r ≡ lines_fault form s srows mrows n
  file-stops r e ne = rw (← e) (sym (simp (ne_eqb r.number 0 ne)))

  module _ (numbers : List ℕ) (i m : ℕ) (u : Begun form s srows mrows numbers i m) (h : i < n) (x : ℕ) (o : x ≡ storey_first form s (line_start form i m) (ltb i srows) (take i numbers)) where
    fault-is : x ≡ storey_line_fault form s srows i
    unfolding storey_line_fault
    fault-is =
        let b = u.before in
        let r = repeats-first numbers (λ e. (storey form s e).number) i _ (omega (arith, u.size, few)) u.held refl in
        o ∙ rw (b, r)

    -- the S line is refused
    pub storey-stops : (r : Refusal) → x ≡ refusal_number r → record { number = refusal_number r; line = line_number form i m } ≡ lines_fault form s srows mrows n
    unfolding storeys_fault
    storey-stops r q =
        let line = line_number form i m in
        let p = number-positive r in
        let ne : refusal_number r ≡ 0 → ⊥ = λ z. omega (arith, p, z) in
        file-stops _ (stops lines i u.clear n (record { number = refusal_number r; line = line }) h (rw (← fault-is, q, ← u.before) (else-here line (refusal_number r) _ ne)) ne) ne

    module _ (z : x ≡ 0) (st : Storey) (is : st ≡ storey_at form s (line_start form i m)) where
      storey-is : st ≡ storey form s i
      storey-is = is ∙ rw u.before

      fields-clear : fields_fault (storey_kind form) s (line_start form i (members_before form s i)) ≡ 0
      fields-clear = one (rest (rest (storey-checks form s srows i (sym fault-is ∙ z))))

      pub is-due : (count : ℕ) → count ≡ st.count → MembersDue form s i m count
      is-due count e =
          let q : count ≡ (storey form s i).count = e ∙ ap (λ (b : Storey). b.count) storey-is in
          let v = storey-good form s (line_start form i (members_before form s i)) fields-clear in
          record {
            storeys = omega (arith, few);
            before = u.before;
            most = omega (arith, u.most, few, q, count_most form (storey form s i) v);
            held = q;
            count_most = omega (arith, count_most form (storey form s i) v);
          }

      later-is : (g : Fault) → g ≡ members_fault form s mrows i → lines i ≡ g
      unfolding storeys_fault
      later-is g e = rw (← fault-is, ← e) (else-later _ x g z)

      -- an M line or a D line is refused
      pub members-stop : (g : Fault) → g ≡ members_fault form s mrows i → (g.number ≡ 0 → ⊥) → g ≡ lines_fault form s srows mrows n
      members-stop g e ne = file-stops g (stops lines i u.clear n g h (later-is g e) ne) ne

      pub begun-next : (g : Fault) (count : ℕ) → g ≡ members_fault form s mrows i → g.number ≡ 0 → count ≡ st.count → Begun form s srows mrows (set numbers i st.number) (i + 1) (m + count)
      unfolding members_before
      begun-next g count e y q =
          let d = is-due count q in
          record {
            size = length-set numbers i st.number ∙ u.size;
            before = rw (add-one i, u.before, d.held);
            most = omega (arith, u.most, d.count_most);
            held =
                below_more _ i (λ e g. get_or-set_other numbers i e st.number 0 (λ p. let w : ⊥ = omega arith in absurd w) ∙ u.held e g)
                (get_or-set_same numbers i st.number 0 (omega (arith, u.size, few)) ∙ ap (λ (b : Storey). b.number) storey-is);
            clear = goes_on lines i u.clear (ap (λ (r : Fault). r.number) (later-is g e) ∙ y);
          }
