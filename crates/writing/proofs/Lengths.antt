-- How long the texts of a survey file are.
use Prim.Native.Nat.{ℕ, ◌+◌, ◌-◌, ◌*◌}
use native.Mathlib.Omega.{arith}
use mathlib.Core.List.{List, [], ◌∷◌}
use mathlib.Core.Path.{◌≡◌, ap, sym, ◌∙◌}
use lib.ListN.{length, take, drop, length-append, length-drop}
use lib.Seq.{length-take-le}
use Rattle.records.specs.Notation.{total}
use Rattle.records.specs.Records.{Survey, storey_kind, header_values, storey_values}
use Rattle.records.specs.declared.Storey.{Storey}
use Rattle.records.specs.declared.Member.{Member}
use Rattle.records.specs.declared.Kind.TheVariants.{B}
use Rattle.checks.specs.Rows.{records_fault}
use Rattle.checks.proofs.RowLaws.{total-counted}
use Rattle.format.specs.Lines.{line_size, member_size}
use Rattle.format.specs.Text.{line_text, member_text}
use Rattle.format.proofs.Typed.{length-line, length-storey-line, length-member-text}
use Rattle.writing.specs.File.{members_text, storey_text, storeys_text, file_text}
use Rattle.writing.specs.Sizes.{file_size}

module _ (form : ℕ) where
  pub length-members : (ms : List Member) → length (members_text form ms) ≡ member_size form * length ms
  unfolding members_text
  length-members [] = omega arith
  length-members (m ∷ ms) = omega (arith, length-append (member_text form m) (members_text form ms), length-member-text form m, length-members ms)

  length-storey : (st : Storey) (ms : List Member) → length (storey_text form st ms) ≡ line_size (storey_kind form) + member_size form * length ms
  unfolding storey_text
  length-storey st ms = omega (arith, length-append (line_text (storey_kind form) (storey_values form st)) (members_text form ms), length-storey-line form st, length-members ms)

  length-storeys : (ss : List Storey) (ms : List Member) → total (λ (st : Storey). st.count) ss ≡ length ms → length (storeys_text form ss ms) ≡ line_size (storey_kind form) * length ss + member_size form * length ms
  unfolding storeys_text total
  length-storeys [] ms e = let z : length ms ≡ 0 = sym e in rw z (omega arith)
  length-storeys (st ∷ ss) ms e =
      let part = take st.count ms in
      let left = drop st.count ms in
      let l : length left ≡ length ms - st.count = length-drop st.count ms in
      let n : length ms ≡ length part + length left = omega (arith, e, l, length-take-le st.count ms (omega (arith, e))) in
      rw n
      (omega (arith, length-append (storey_text form st part) (storeys_text form ss left), length-storey st part, length-storeys ss left (omega (arith, e, l))))

-- the file of good records
length-file : (a : Survey) → records_fault a ≡ 0 → length (file_text a) ≡ file_size a.header.form (length a.storeys) (length a.members)
unfolding file_text
length-file a none =
    omega (arith, length-append (line_text B (header_values a.header)) (storeys_text a.header.form a.storeys a.members), length-line B (header_values a.header), length-storeys a.header.form a.storeys a.members (total-counted a.header a.storeys a.members none))

-- its size as it is counted, from the form that its checks gave
pub counted-size : (a : Survey) → 0 ≡ records_fault a → (form n : ℕ) → form ≡ a.header.form → n ≡ file_size form (length a.storeys) (length a.members) → n ≡ length (file_text a)
counted-size a none form n f e = e ∙ ap (λ (k : ℕ). file_size k (length a.storeys) (length a.members)) f ∙ sym (length-file a (sym none))
