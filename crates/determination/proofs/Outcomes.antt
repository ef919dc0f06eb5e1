-- What the answers of the reading call and the report call come to, by the outcome of reading.
use Prim.Native.Nat.{ℕ, ◌<◌, ◌≤◌}
use native.Mathlib.Omega.{arith}
use mathlib.Core.Bool.{Bool, true, false}
use mathlib.Core.List.{List, [], ◌++◌}
use mathlib.Core.Path.{◌≡◌, refl, sym, ◌∙◌}
use lib.Dec.{leb, eqb}
use lib.ListN.{length, take, drop}
use lib.Seq.{take-append_seam}
use borrow.Author.Tests.{eq-eqb, eqb-true, ne_eqb, le-leb, lt-leb}
use Rattle.records.specs.declared.Header.{Header}
use Rattle.records.specs.declared.Storey.{Storey}
use Rattle.records.specs.declared.Member.{Member}
use Rattle.reading.specs.Survey.{Outcome, accepted, refused, survey}
use Rattle.reading.specs.Answer.{filled, refusal, told, storeys_after_call, members_after_call}
use Rattle.columns.specs.Line.{at_front, put_length}
use Rattle.report.specs.Sheet.{sheet, refusal_line_of, report_fault, report_answer, buffer_after}
use Rattle.std.specs.Prelude.{Ok, Err}
use Rattle.records.specs.Notation.{pick}
use Rattle.records.specs.Records.{Survey, survey_of}
use Rattle.report.proofs.Called.{sheet-fits}
use Rattle.determination.specs.Determination.{input_most, storey_rows, member_rows, text, printed}

-- the records of an outcome
abbrev pub storeys_in : Outcome → List Storey
storeys_in (accepted a) = a.storeys
storeys_in (refused n line) = []

abbrev pub members_in : Outcome → List Member
members_in (accepted a) = a.members
members_in (refused n line) = []

-- "a longer input prints `E` with 8 and 0"
pub too_long : (input : List ℕ) (room : ℕ) → input_most < length input → refusal_line_of 8 0 ≡ printed input room
unfolding printed
too_long input room h = rw (lt-leb _ _ h)

pub not-too-long : (input : List ℕ) (room : ℕ) → length input ≤ input_most → text (survey input storey_rows member_rows) room ≡ printed input room
unfolding printed
not-too-long input room h = rw (le-leb _ _ h)

-- ---- what reading tells, told of an outcome
module _ (h : Header) (n m : ℕ) (sb sa : List Storey) (mb ma : List Member) where
  pub rows-filled : (o : Outcome) → filled h n m ≡ told o → sa ≡ storeys_after_call o sb → ma ≡ members_after_call o mb → o ≡ accepted (survey_of h (take n sa) (take m ma))
  rows-filled (accepted a) t e f =
      let s : take (length a.storeys) (a.storeys ++ drop (length a.storeys) sb) ≡ a.storeys = take-append_seam a.storeys (drop (length a.storeys) sb) in
      let g : take (length a.members) (a.members ++ drop (length a.members) mb) ≡ a.members = take-append_seam a.members (drop (length a.members) mb) in
      let x : h ≡ a.header = cc in
      let y : n ≡ length a.storeys = cc in
      let z : m ≡ length a.members = cc in
      rw (e, f, x, y, z, s, g) refl
  rows-filled (refused r line) t e f = let z : ◌≡◌ {A = ℕ} 0 1 = cc in absurd (omega arith)

pub line-refused : (o : Outcome) (n line : ℕ) → refusal n line ≡ told o → o ≡ refused n line
line-refused (accepted a) n line t = let z : ◌≡◌ {A = ℕ} 0 1 = cc in absurd (omega arith)
line-refused (refused r l) n line t = cc

pub is-refused : (input : List ℕ) (room : ℕ) → length input ≤ input_most → (n line : ℕ) → refusal n line ≡ told (survey input storey_rows member_rows) → printed input room ≡ refusal_line_of n line
unfolding text
is-refused input room few n line t = sym (not-too-long input room few) ∙ rw (line-refused (survey input storey_rows member_rows) n line t) refl

-- ---- what the report call answers on the records of an accepted file
module _ (input : List ℕ) (b : Survey) (out : List ℕ) (few : length input ≤ input_most) (o : survey input storey_rows member_rows ≡ accepted b) where
  is-text : printed input (length out) ≡ pick (eqb (report_fault b (length out)) 0) (sheet b) (refusal_line_of (report_fault b (length out)) 0)
  unfolding text
  is-text = sym (not-too-long input (length out) few) ∙ rw o refl

  -- a length only where nothing is refused, a number only of what is
  ok-none : (n : ℕ) → Ok n ≡ report_answer b (length out) → (report_fault b (length out) ≡ 0) × (n ≡ length (sheet b))
  unfolding report_answer
  ok-none n e = by-fault (eqb (report_fault b (length out)) 0) refl (e)
    where
      by-fault : (t : Bool) → eqb (report_fault b (length out)) 0 ≡ t → Ok n ≡ pick t (Ok (length (sheet b))) (Err (report_fault b (length out))) → (report_fault b (length out) ≡ 0) × (n ≡ length (sheet b))
      by-fault true q g = (eqb-true _ 0 q, cc)
      by-fault false q g = let z : ◌≡◌ {A = ℕ} 0 1 = cc in absurd (omega arith)

  err-some : (n : ℕ) → Err n ≡ report_answer b (length out) → n ≡ report_fault b (length out)
  unfolding report_answer
  err-some n e = by-fault (eqb (report_fault b (length out)) 0) (e)
    where
      by-fault : (t : Bool) → Err n ≡ pick t (Ok (length (sheet b))) (Err (report_fault b (length out))) → n ≡ report_fault b (length out)
      by-fault true g = let z : ◌≡◌ {A = ℕ} 0 1 = cc in absurd (omega arith)
      by-fault false g = cc

  pub sheet-written : (n : ℕ) → Ok n ≡ report_answer b (length out) → (n ≡ put_length (printed input (length out)) (length out)) × (buffer_after b out ≡ at_front (printed input (length out)) out)
  unfolding buffer_after
  sheet-written n e =
      let k = ok-none n e in
      let fits : leb (length (sheet b)) (length out) ≡ true = le-leb _ _ (sheet-fits b (length out) k.0) in
      let p : printed input (length out) ≡ sheet b = is-text ∙ rw (eq-eqb _ _ k.0) refl in
      (rw (p, fits) k.1, rw (p, fits, eq-eqb _ _ k.0) refl)

  pub sheet-refused : (n : ℕ) → 0 < n → Err n ≡ report_answer b (length out) → (buffer_after b out ≡ out) × (printed input (length out) ≡ refusal_line_of n 0)
  unfolding buffer_after
  sheet-refused n p e =
      let k = err-some n e in
      let off : eqb (report_fault b (length out)) 0 ≡ false = ne_eqb _ _ (λ z. let q : ⊥ = omega arith in absurd q) in
      (rw off refl, is-text ∙ rw (off, k) refl)
