-- The loops over a line's fields, what holds after j of them and one turn; and fields that bring no refusal.
use Prim.Native.Nat.{ℕ, ◌+◌, ◌*◌, ◌≤◌, ◌<◌}
use native.Mathlib.Omega.{arith}
use native.Mathlib.Nat.{not-suc-le-zero}
use native.Mathlib.Numerals.{add-one}
use mathlib.Core.Bool.{Bool, true, false, ◌&&◌}
use mathlib.Core.List.{List}
use mathlib.Core.Path.{◌≡◌, refl, ap, sym, ◌∙◌}
use lib.Dec.{ltb}
use lib.ListN.{length, get_or, set, length-set}
use lib.Seq.{get_or-set_same, get_or-set_other}
use borrow.Author.Count.{below_more}
use borrow.Author.Tests.{le-leb, lt-ltb}
use Rattle.std.specs.Prelude.{Option, Some, None, is_some, unwrap_or, Result, Ok, Err, ok_or}
use Rattle.records.specs.Notation.{pick, every_below, first}
use Rattle.records.specs.Records.{Allowed, allows, never, ranges, fields, in_range}
use Rattle.records.specs.declared.refusal.Refusal.{Refusal, TheVariants.Spelling}
use Rattle.records.specs.Refusals.{refusal_number}
use Rattle.format.specs.Lines.{field_at, is_written, value_at, fault_in, field_fault, fields_fault, holds_fields, written_fault, number_held, FieldsOf}
use Rattle.records.specs.declared.Kind.{Kind}
use Rattle.records.specs.declared.Kind.TheVariants.{M}
use Rattle.records.proofs.Firsts.{first-none, first_next, first-kept, first-clear, first-zero}
use Rattle.records.proofs.Validity.{clear}
use Rattle.records.proofs.Below.{every-none, every_more, every-fails, every-at, every_of, every-same}
use Rattle.records.proofs.Allowing.{three-fields}
use Rattle.records.proofs.Lines.{InRanges}

-- ---- what the cursor tells of a field
given : (o : Option ℕ) (v : ℕ) → Ok v ≡ ok_or o Spelling → o ≡ Some v
given (Some w) v e = cc
given None v e = let z : ◌≡◌ {A = ℕ} 0 1 = cc in absurd (omega arith)

missed : (o : Option ℕ) (r : Refusal) → Err r ≡ ok_or o Spelling → (o ≡ None) × (refusal_number r ≡ 2)
missed (Some w) r e = let z : ◌≡◌ {A = ℕ} 0 1 = cc in absurd (omega arith)
missed None r e = let q : r ≡ Spelling = cc in (refl, ap refusal_number q)

abbrev pub written_at : Kind → List ℕ → ℕ → ℕ → Bool
written_at t s at j = is_written (field_at t s at j)

-- ---- the numbers of the fields
pub record Sofar (t : Kind) (s : List ℕ) (at : ℕ) (values : List ℕ) (j : ℕ) : Type 0 where
  pub size : length values ≡ fields M
  pub most : j ≤ fields t
  pub all-written : every_below (written_at t s at) j ≡ true
  pub held : (k : ℕ) → k < j → get_or values k 0 ≡ value_at t s at k

module _ (t : Kind) (s : List ℕ) (at : ℕ) where
  pub at_first : (values : List ℕ) → length values ≡ fields M → Sofar t s at values 0
  at_first values g =
      record {
        size = g;
        most = omega arith;
        all-written = every-none (written_at t s at);
        held = λ k l. absurd (not-suc-le-zero l);
      }

  module _ (values : List ℕ) (j : ℕ) (so : Sofar t s at values j) (h : j < fields t) (f : Result ℕ Refusal) (e : f ≡ ok_or (field_at t s at j) Spelling) where
    -- a field that is not written as it must be
    pub unwritten : (r : Refusal) → f ≡ Err r → refusal_number r ≡ written_fault t s at
    unwritten r q =
        let m = missed (field_at t s at j) r (sym q ∙ e) in
        m.1 ∙ rw (every-fails (written_at t s at) (fields t) j h (ap is_written m.0))

    pub after : (v : ℕ) → f ≡ Ok v → fields t ≤ fields M → Sofar t s at (set values j v) (j + 1)
    after v q most =
        let o = given (field_at t s at j) v (sym q ∙ e) in
        record {
          size = length-set values j v ∙ so.size;
          most = omega (arith, h);
          all-written = every_more (written_at t s at) j so.all-written (ap is_written o);
          held =
              below_more _ j (λ k l. get_or-set_other values j k v 0 (λ p. let z : ⊥ = omega arith in absurd z) ∙ so.held k l)
              (get_or-set_same values j v 0 (omega (arith, so.size)) ∙ sym (ap (λ (o : Option ℕ). unwrap_or o 0) o));
        }

-- each line has a third field
pub third_value : (t : Kind) (s : List ℕ) (at : ℕ) → unwrap_or (pick (ltb 2 (fields t)) (field_at t s at 2) None) 0 ≡ value_at t s at 2
third_value t s at = rw (lt-ltb 2 (fields t) (three-fields t))

-- ---- the first refusal among the fields
pub record Looked (t : Kind) (s : List ℕ) (at j : ℕ) : Type 0 where
  pub most : j ≤ fields t
  pub clear : first 0 (λ r. r) (field_fault t s at) j ≡ 0

module _ (t : Kind) (s : List ℕ) (at : ℕ) where
  pub looks-first : Looked t s at 0
  looks-first = record { most = omega arith; clear = first-none 0 (λ r. r) (field_fault t s at) }

  module _ (j storeys : ℕ) (so : Looked t s at j) (h : j < fields t) (f : Result ℕ Refusal) (e : f ≡ ok_or (field_at t s at j) Spelling) (q : storeys ≡ value_at t s at 2) where
    next-is : first 0 (λ r. r) (field_fault t s at) (j + 1) ≡ field_fault t s at j
    next-is = first_next 0 (λ r. r) (field_fault t s at) j so.clear

    stops : (x : ℕ) → x ≡ field_fault t s at j → 0 < x → x ≡ fields_fault t s at
    stops x g p =
        let k = next-is ∙ sym g in
        sym (first-kept 0 (λ r. r) (field_fault t s at) (j + 1) (fields t) (omega arith) (λ z. omega (arith, k, z, p)) ∙ k)

    -- the field is not written as it must be
    pub unwritten-stops : (r : Refusal) → f ≡ Err r → refusal_number r ≡ fields_fault t s at
    unfolding field_fault
    unwritten-stops r g =
        let m = missed (field_at t s at j) r (sym g ∙ e) in
        stops (refusal_number r) (m.1 ∙ rw m.0) (omega (arith, m.1))

    module _ (v : ℕ) (g : f ≡ Ok v) where
      fault-by : (b : Bool) → b ≡ allows (get_or (ranges t storeys) j never) v → field_fault t s at j ≡ pick b 0 3
      unfolding field_fault
      fault-by b p = rw (given (field_at t s at j) v (sym g ∙ e), ← q, ← p)

      -- the field is outside its range
      pub outside-stops : (b : Bool) → b ≡ allows (get_or (ranges t storeys) j never) v → b ≡ false → 3 ≡ fields_fault t s at
      outside-stops b p z = stops 3 (sym (fault-by b p ∙ rw z)) (omega arith)

      pub looks_on : (b : Bool) → b ≡ allows (get_or (ranges t storeys) j never) v → b ≡ true → Looked t s at (j + 1)
      looks_on b p z = record { most = omega (arith, h); clear = next-is ∙ fault-by b p ∙ rw z }

-- ---- all written and in their ranges: no refusal
no-fault : (o : Option ℕ) (a : Allowed) → is_written o ≡ true → allows a (unwrap_or o 0) ≡ true → fault_in o a ≡ 0
no-fault (Some v) a w e = rw e
no-fault None a w e = let z : ◌≡◌ {A = ℕ} 0 1 = cc in absurd (omega arith)

pub all-clear : (t : Kind) (s : List ℕ) (at : ℕ) (vs : List ℕ) → ((j : ℕ) → j < fields t → get_or vs j 0 ≡ value_at t s at j) → every_below (in_range t vs) (fields t) ≡ true → every_below (written_at t s at) (fields t) ≡ true → fields_fault t s at ≡ 0
unfolding field_fault
all-clear t s at vs held r w =
    first-zero 0 (λ r. r) (field_fault t s at) (fields t) refl
    (λ j h. no-fault (field_at t s at j) _ (every-at (written_at t s at) (fields t) j w h) (rw (← held 2 (three-fields t), ← held j h) (every-at (in_range t vs) (fields t) j r h)))

-- and no refusal: all in their ranges
allowed : (o : Option ℕ) (a : Allowed) → fault_in o a ≡ 0 → allows a (unwrap_or o 0) ≡ true
allowed (Some v) a e = (clear (allows a v) 0 3 e (omega arith)).0
allowed None a e = let z : ⊥ = omega (arith, e) in absurd z

pub in-ranges : (t : Kind) (s : List ℕ) (at : ℕ) → fields_fault t s at ≡ 0 → InRanges t (value_at t s at)
unfolding field_fault
in-ranges t s at e j h = allowed (field_at t s at j) _ (first-clear 0 (λ r. r) (field_fault t s at) (fields t) j e h)

-- and all written
noted : (o : Option ℕ) (a : Allowed) → fault_in o a ≡ 0 → is_written o ≡ true
noted (Some v) a e = refl
noted None a e = let z : ⊥ = omega (arith, e) in absurd z

pub written-clear : (t : Kind) (s : List ℕ) (at : ℕ) → fields_fault t s at ≡ 0 → written_fault t s at ≡ 0
unfolding field_fault
written-clear t s at e =
    let w = every_of (written_at t s at) (fields t) (λ j h. noted (field_at t s at j) _ (first-clear 0 (λ r. r) (field_fault t s at) (fields t) j e h)) in
    rw w

pub clear-written : (t : Kind) (s : List ℕ) (at : ℕ) → written_fault t s at ≡ 0 → every_below (written_at t s at) (fields t) ≡ true
clear-written t s at e = (clear (every_below (written_at t s at) (fields t)) 0 2 e (omega arith)).0

-- ---- the fields of any bytes
module _ (t : Kind) (s : List ℕ) (at : ℕ) where
  pub fault-held : (v : ℕ) → v ≡ pick (holds_fields t s at) (fields_fault t s at) 1 → at + 1 + 8 * fields t ≤ length s → v ≡ fields_fault t s at
  fault-held v e h = e ∙ rw (le-leb (at + 1 + 8 * fields t) (length s) h)

  pub read-fits : (v : ℕ) → v ≡ pick (holds_fields t s at) (written_fault t s at) 1 → at + 1 + 8 * fields t ≤ length s → v ≡ written_fault t s at
  read-fits v e h = e ∙ rw (le-leb (at + 1 + 8 * fields t) (length s) h)

-- ---- the number of each field, and whether all are written
pub record Told (t : Kind) (s : List ℕ) (at : ℕ) (values : List ℕ) (written : Bool) (j : ℕ) : Type 0 where
  pub size : length values ≡ fields M
  pub all-written : written ≡ every_below (λ k. is_written (number_held t s at k)) j
  pub told : (k : ℕ) → k < j → get_or values k 0 ≡ unwrap_or (number_held t s at k) 0

next-written : (p : ℕ → Bool) (j : ℕ) → every_below p (j + 1) ≡ (every_below p j && p j)
unfolding every_below
next-written p j = rw add-one

some-written : (o : Option ℕ) → is_some o ≡ is_written o
some-written (Some v) = refl
some-written None = refl

module _ (t : Kind) (s : List ℕ) (at : ℕ) where
  abbrev held_at : ℕ → Bool
  held_at k = is_written (number_held t s at k)

  pub told-first : (values : List ℕ) → length values ≡ fields M → Told t s at values true 0
  told-first values g = record { size = g; all-written = sym (every-none held_at); told = λ k l. absurd (not-suc-le-zero l) }

  pub told-next : (values : List ℕ) (written : Bool) (j : ℕ) → Told t s at values written j → j < fields M → (o : Option ℕ) → o ≡ number_held t s at j → Told t s at (set values j (unwrap_or o 0)) (written && is_some o) (j + 1)
  told-next values written j so h o e =
      record {
        size = length-set values j (unwrap_or o 0) ∙ so.size;
        all-written = rw (so.all-written, some-written o, e) (sym (next-written held_at j));
        told =
            below_more _ j (λ k l. get_or-set_other values j k (unwrap_or o 0) 0 (λ p. let z : ⊥ = omega arith in absurd z) ∙ so.told k l)
            (get_or-set_same values j (unwrap_or o 0) 0 (omega (arith, h, so.size)) ∙ ap (λ (o : Option ℕ). unwrap_or o 0) e);
      }

  held-by : (b : Bool) → holds_fields t s at ≡ b → (j : ℕ) → j < fields t → number_held t s at j ≡ pick b (field_at t s at j) None
  held-by true e j h = rw (e, lt-ltb j (fields t) h)
  held-by false e j h = rw e

  written-by : (b : Bool) → holds_fields t s at ≡ b → every_below held_at (fields t) ≡ (b && every_below (written_at t s at) (fields t))
  written-by true e = every-same held_at (written_at t s at) (fields t) (λ j h. ap is_written (held-by true e j h))
  written-by false e =
      let h : 0 < fields t = omega (arith, three-fields t) in
      every-fails held_at (fields t) 0 h (ap is_written (held-by false e 0 h))

  value-by : (b : Bool) → holds_fields t s at ≡ b → (j : ℕ) → j < fields t → unwrap_or (number_held t s at j) 0 ≡ pick b (value_at t s at j) 0
  value-by true e j h = ap (λ (o : Option ℕ). unwrap_or o 0) (held-by true e j h)
  value-by false e j h = ap (λ (o : Option ℕ). unwrap_or o 0) (held-by false e j h)

  pub told-all : (values : List ℕ) (written : Bool) → Told t s at values written (fields t) → FieldsOf t s at (record { written = written; values = values })
  told-all values written so =
      record {
        written = so.all-written ∙ written-by (holds_fields t s at) refl;
        values = λ j h. so.told j h ∙ value-by (holds_fields t s at) refl j h;
      }
