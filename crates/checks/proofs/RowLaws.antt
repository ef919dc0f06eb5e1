-- The members of a storey among the rows.
use Prim.Native.Nat.{ℕ, zero, suc, ◌+◌, ◌*◌, ◌≤◌, ◌<◌}
use native.Mathlib.Omega.{arith}
use mathlib.Core.List.{List, [], ◌∷◌}
use mathlib.Core.Path.{◌≡◌, refl, ◌∙◌}
use lib.ListN.{length, drop, length-take, length-drop}
use Rattle.records.specs.declared.Storey.{Storey}
use Rattle.records.specs.declared.Member.{Member}
use Rattle.records.specs.Notation.{total, first}
use Rattle.checks.specs.Rows.{member_in, row_fault, storey_in, members_before, members_of, count_fault, counts_fault, storey_rows_fault, member_rows_fault, records_fault}
use Rattle.records.specs.Records.{header_fault, storey_fault, member_fault, repeated, survey_of}
use Rattle.records.specs.declared.Header.{Header}
use Rattle.records.proofs.Validity.{count_most, ten-storeys}
use Rattle.checks.proofs.Refusals.{None, one, rest, in-order-clear, first-clear, count-clear}

-- the members of a storey lie within the rows
before-none : (i : ℕ) → members_before [] i ≡ 0
unfolding members_before
before-none zero = refl
before-none (suc i) = rw (before-none i)

pub before-next : (s : Storey) (ss : List Storey) (i : ℕ) → members_before (s ∷ ss) (suc i) ≡ s.count + members_before ss i
unfolding members_before
before-next s ss zero = omega arith
before-next s ss (suc i) = omega (arith, before-next s ss i)

pub before-within : (ss : List Storey) (i : ℕ) → members_before ss i ≤ total (λ s. s.count) ss
unfolding total members_before
before-within [] i = rw (before-none i) (omega arith)
before-within (s ∷ ss) zero = omega arith
before-within (s ∷ ss) (suc i) = omega (arith, before-next s ss i, before-within ss i)

pub before-all : (ss : List Storey) → members_before ss (length ss) ≡ total (λ s. s.count) ss
unfolding total members_before
before-all [] = refl
before-all (s ∷ ss) = omega (arith, before-next s ss (length ss), before-all ss)

pub members-counted : (ss : List Storey) (ms : List Member) (i : ℕ) → total (λ s. s.count) ss ≡ length ms → (storey_in ss i).count ≡ length (members_of ss ms i)
unfolding members_of members_before
members-counted ss ms i e =
    let b = members_before ss i in
    omega (arith, e, length-take (storey_in ss i).count (drop b ms), length-drop b ms, before-within ss (suc i))

-- ---- a storey's members without a refusal
pub row-good : (form : ℕ) (rows : List Member) → member_rows_fault form rows ≡ 0 → (j : ℕ) → j < length rows → None (member_fault form (member_in rows j) ∷ repeated (λ e. (member_in rows e).number) j ∷ [])
unfolding member_rows_fault row_fault
row-good form rows e j l = in-order-clear _ (first-clear (row_fault form rows) (length rows) e j l)

-- ---- records without a refusal
module _ (h : Header) (ss : List Storey) (ms : List Member) (none : records_fault (survey_of h ss ms) ≡ 0) where
  checks : None (counts_fault (survey_of h ss ms) ∷ header_fault h ∷ first 0 (λ n. n) (storey_rows_fault h.form ss ms) (length ss) ∷ [])
  unfolding records_fault
  checks = in-order-clear _ none

  counts : None (count_fault h.count (length ss) ∷ count_fault (total (λ s. s.count) ss) (length ms) ∷ [])
  unfolding counts_fault
  counts = in-order-clear _ (one checks)

  pub storeys-counted : h.count ≡ length ss
  storeys-counted = count-clear h.count (length ss) (one counts)

  pub total-counted : total (λ s. s.count) ss ≡ length ms
  total-counted = count-clear (total (λ s. s.count) ss) (length ms) (one (rest counts))

  pub header-good : header_fault h ≡ 0
  header-good = one (rest checks)

  pub rows-good : first 0 (λ n. n) (storey_rows_fault h.form ss ms) (length ss) ≡ 0
  rows-good = one (rest (rest checks))

  pub rows : (i : ℕ) → i < length ss → None (storey_fault h.form (storey_in ss i) ∷ repeated (λ j. (storey_in ss j).number) i ∷ member_rows_fault h.form (members_of ss ms i) ∷ [])
  unfolding storey_rows_fault
  rows i l = in-order-clear _ (first-clear (storey_rows_fault h.form ss ms) (length ss) rows-good i l)

  -- ---- how many there are
  pub storeys-most : length ss ≤ 10
  storeys-most = omega (arith, storeys-counted, ten-storeys h header-good)

  pub before-end : members_before ss (length ss) ≡ length ms
  before-end = before-all ss ∙ total-counted

  before-most : (i : ℕ) → i ≤ length ss → members_before ss i ≤ 200 * i
  unfolding members_before
  before-most zero l = omega arith
  before-most (suc i) l = omega (arith, before-most i (omega arith), count_most h.form (storey_in ss i) (one (rows i (omega arith))))

  pub members-most : length ms ≤ 2_000
  members-most = omega (arith, before-end, before-most (length ss) (omega arith), storeys-most)
