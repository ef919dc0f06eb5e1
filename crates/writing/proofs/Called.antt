-- The writing call: its refusals in their order, and what it gives and leaves in the buffer.
use Prim.Native.Nat.{ℕ, ◌≤◌, ◌<◌}
use native.Mathlib.Omega.{arith}
use mathlib.Core.List.{List, [], ◌∷◌, ◌++◌}
use mathlib.Core.Path.{◌≡◌, sym, ◌∙◌}
use Rattle.std.specs.Prelude.{Result, Ok, Err}
use lib.ListN.{length, drop}
use borrow.Author.Tests.{eq-eqb, ne_eqb, le-leb, lt-leb}
use Rattle.records.specs.Records.{Survey}
use Rattle.records.specs.Refusals.{refusal_number}
use Rattle.records.specs.declared.refusal.Refusal.{Refusal}
use Rattle.records.proofs.Refusals.{refused-first}
use Rattle.checks.specs.Rows.{records_fault}
use Rattle.columns.specs.Writer.{Written}
use Rattle.columns.specs.declared.writer.ColumnWriter.{ColumnWriter}
use Rattle.columns.proofs.Stamps.{stamped-front}
use Rattle.writing.specs.File.{file_text}
use Rattle.writing.specs.Writing.{file_length_fault, file_fault, file_answer, file_after_call}

module _ (a : Survey) (room : ℕ) where
  -- ---- the first refusal
  pub fault_first : (r : Refusal) → refusal_number r ≡ records_fault a → refusal_number r ≡ file_fault a room
  unfolding file_fault
  fault_first r e = refused-first r (records_fault a) (file_length_fault (length (file_text a)) room ∷ []) e

  pub fault-long : records_fault a ≡ 0 → room < length (file_text a) → 11 ≡ file_fault a room
  unfolding file_fault
  fault-long none h = rw (none, lt-leb (length (file_text a)) room h)

  pub fault-none : records_fault a ≡ 0 → length (file_text a) ≤ room → file_fault a room ≡ 0
  unfolding file_fault
  fault-none none h = rw (none, le-leb (length (file_text a)) room h)

  -- ---- the answer
  pub answer-refused : (n : ℕ) → 0 < n → n ≡ file_fault a room → ◌≡◌ {A = Result ℕ ℕ} (Err n) (file_answer a room)
  unfolding file_answer
  answer-refused n h e = rw (← e, ne_eqb n 0 (λ z. let absurd_zero : ⊥ = omega (arith, z) in absurd_zero))

  pub answer-written : (n : ℕ) → file_fault a room ≡ 0 → n ≡ length (file_text a) → ◌≡◌ {A = Result ℕ ℕ} (Ok n) (file_answer a room)
  unfolding file_answer
  answer-written n z e = rw (eq-eqb _ _ z, e)

-- ---- the buffer
module _ (a : Survey) (before : List ℕ) where
  pub buffer-refused : (n : ℕ) → 0 < n → n ≡ file_fault a (length before) → before ≡ file_after_call a before
  unfolding file_after_call
  buffer-refused n h e = rw (← e, ne_eqb n 0 (λ z. let absurd_zero : ⊥ = omega (arith, z) in absurd_zero))

  pub buffer-filled : file_fault a (length before) ≡ 0 → file_after_call a before ≡ file_text a ++ drop (length (file_text a)) before
  unfolding file_after_call
  buffer-filled z = rw (eq-eqb _ _ z)

  pub buffer-written : file_fault a (length before) ≡ 0 → length (file_text a) ≤ length before → (w end : ColumnWriter) → w.bytes.now ≡ before → w.at ≡ 0 → Written (file_text a) w end → end.bytes.now ≡ file_after_call a before
  buffer-written z h w end b p put = put.bytes ∙ rw (b, p) (stamped-front (file_text a) before h ∙ sym (buffer-filled z))
