-- The loops over rows: what a turn needs, and what it leaves.
use Prim.Native.Nat.{ℕ, zero, suc, ◌+◌, ◌≤◌, ◌<◌}
use native.Mathlib.Omega.{arith}
use native.Mathlib.Numerals.{add-one}
use mathlib.Core.Bool.{Bool, true, false, ◌||◌}
use mathlib.Core.List.{List, [], ◌∷◌}
use mathlib.Core.Path.{◌≡◌, refl, ap, sym, ◌∙◌}
use lib.Dec.{eqb}
use lib.ListN.{length, take, get_or}
use Rattle.std.specs.List.{list_any}
use Rattle.std.proofs.lemmas.List.{get_or_default}
use Rattle.std.proofs.lemmas.List.Folds.{list_any_more}
use Rattle.records.specs.Notation.{pick, any_below, in_order}
use Rattle.records.specs.Records.{member_fault, storey_fault, repeated, header_fault, survey_of}
use Rattle.records.specs.declared.{Header.Header, Storey.Storey, Member.Member}
use Rattle.records.proofs.Firsts.{first_fault, first-stops, first-goes_on, in-order-last, pick-zero, pick_other, last_of}
use Rattle.records.specs.Blank.{no_member, no_storey}
use Rattle.checks.specs.Rows.{member_in, row_fault, member_rows_fault, storey_in, members_of, storey_rows_fault, counts_fault, records_fault}
use borrow.Author.Tests.{eq-eqb, ne_eqb}
use Rattle.checks.proofs.Counts.{counts}
use Rattle.checks.proofs.RowsInTurn.{Given, IsStorey}

-- ---- a number among those before: of the first n of some records, and of the records by place
pub some-before : {A : Type 0} (p : A → Bool) (xs : List A) (d : A) (n : ℕ) → n ≤ length xs → list_any p (take n xs) ≡ any_below (λ e. p (get_or xs e d)) n
unfolding any_below
some-before p xs d zero h = search arith
some-before p xs d (suc n) h = rw add-one at (list_any_more p xs n d (omega arith)) ∙ ap (λ b. b || p (get_or xs n d)) (some-before p xs d n (omega arith))

-- a member's refusals
pub row-is : (form : ℕ) (rows : List Member) (j x : ℕ) (m : Member) → j < length rows → m ≡ member_in rows j
    → x ≡ in_order (member_fault form m ∷ pick (list_any (λ (e : Member). eqb e.number m.number) (take j rows)) 5 0 ∷ []) → x ≡ row_fault form rows j
unfolding row_fault
row-is form rows j x m h d e = (rw d at e) ∙ rw (some-before (λ (e : Member). eqb e.number (member_in rows j).number) rows no_member j (omega arith)) refl

-- ---- a storey's refusals, and its members', where the storeys before it have none
module _ (form : ℕ) {ss : List Storey} {ms : List Member} {i : ℕ} {given : Given} (is : IsStorey ss ms i given) where
  abbrev own : List ℕ
  own = storey_fault form (storey_in ss i) ∷ repeated (λ e. (storey_in ss e).number) i ∷ []

  storey-row : storey_rows_fault form ss ms i ≡ pick (eqb (in_order own) 0) (member_rows_fault form (members_of ss ms i)) (in_order own)
  unfolding storey_rows_fault
  storey-row = in-order-last own (member_rows_fault form (members_of ss ms i))

  module _ (none : first_fault (storey_rows_fault form ss ms) i ≡ 0) (x : ℕ) (e : x ≡ in_order (storey_fault form given.0.now ∷ pick (list_any (λ (e : Storey). eqb e.number given.0.now.number) (take i ss)) 5 0 ∷ [])) where
    own-is : x ≡ in_order own
    own-is = (rw is.storey at e) ∙ rw (some-before (λ (e : Storey). eqb e.number (storey_in ss i).number) ss no_storey i (omega (arith, is.within))) refl

    pub storey-stops : 0 < x → x ≡ first_fault (storey_rows_fault form ss ms) (length ss)
    storey-stops p = first-stops _ _ i x none is.within (sym (storey-row ∙ rw (← own-is) (pick_other x _ (λ z. let q : ⊥ = omega arith in absurd q)))) p

    module _ (passed : 0 ≡ x) (r : ℕ) (f : r ≡ member_rows_fault form given.1.now) where
      row-of-members : r ≡ storey_rows_fault form ss ms i
      row-of-members = f ∙ sym (storey-row ∙ rw (← own-is, ← is.own) (pick-zero x _ (sym passed)))

      pub members-stop-rows : 0 < r → r ≡ first_fault (storey_rows_fault form ss ms) (length ss)
      members-stop-rows p = first-stops _ _ i r none is.within row-of-members p

      pub storey-passes : 0 ≡ r → first_fault (storey_rows_fault form ss ms) (i + 1) ≡ 0
      storey-passes p = first-goes_on (storey_rows_fault form ss ms) i none (p ∙ row-of-members)

-- ---- all the refusals: of the counts, of the header, of the rows
module _ (h : Header) (ss : List Storey) (ms : List Member) where
  abbrev pub rows-refused : ℕ
  rows-refused = first_fault (storey_rows_fault h.form ss ms) (length ss)

  pub uncounted : (h.count ≡ length ss → ⊥) → 1 ≡ records_fault (survey_of h ss ms)
  unfolding records_fault counts_fault
  uncounted n = rw (ne_eqb _ _ n) refl

  pub total-off : h.count ≡ length ss → false ≡ eqb (counts ss) (length ms) → 1 ≡ records_fault (survey_of h ss ms)
  unfolding records_fault counts_fault
  total-off c e = rw (eq-eqb _ _ c, ← e) refl

  module _ (c : h.count ≡ length ss) (e : true ≡ eqb (counts ss) (length ms)) where
    after-counts : records_fault (survey_of h ss ms) ≡ pick (eqb (header_fault h) 0) (in_order (rows-refused ∷ [])) (header_fault h)
    unfolding records_fault counts_fault
    after-counts = rw (eq-eqb _ _ c, ← e) refl

    pub header-refused : (r : ℕ) → 0 < r → r ≡ header_fault h → r ≡ records_fault (survey_of h ss ms)
    header-refused r p g = sym (after-counts ∙ rw (← g) (pick_other r _ (λ z. let q : ⊥ = omega arith in absurd q)))

    pub rows-decide : 0 ≡ header_fault h → rows-refused ≡ records_fault (survey_of h ss ms)
    rows-decide g = sym (after-counts ∙ rw (← g) (last_of rows-refused))

-- ---- a record as a loop over the rows gives it
pub storey-at : (ss : List Storey) (i : ℕ) (d : Storey) → i < length ss → get_or ss i d ≡ storey_in ss i
storey-at ss i d h = get_or_default ss i d no_storey h

pub member-at : (ms : List Member) (j : ℕ) (d : Member) → j < length ms → get_or ms j d ≡ member_in ms j
member-at ms j d h = get_or_default ms j d no_member h

module _ (form : ℕ) (rows : List Member) where
  pub members-stop : (j r : ℕ) → first_fault (row_fault form rows) j ≡ 0 → j < length rows → r ≡ row_fault form rows j → 0 < r → r ≡ member_rows_fault form rows
  unfolding member_rows_fault
  members-stop = first-stops (row_fault form rows) (length rows)

  pub members-pass : (j : ℕ) → first_fault (row_fault form rows) j ≡ 0 → j ≤ length rows → length rows ≤ j → 0 ≡ member_rows_fault form rows
  unfolding member_rows_fault
  members-pass j e h g = let z : j ≡ length rows = omega arith in sym (rw z at e)
