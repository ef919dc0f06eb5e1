-- Writing what was read gives the bytes: an accepted file is the text of its records.
use Prim.Native.Nat.{ℕ, zero, suc, ◌+◌, ◌≤◌, ◌<◌}
use native.Mathlib.Omega.{arith}
use native.Mathlib.Nat.{le_refl}
use mathlib.Core.List.{List, [], ◌∷◌, ◌++◌, append_assoc, append-nil}
use mathlib.Core.Path.{◌≡◌, refl, sym, ◌∙◌}
use lib.Dec.{eqb}
use lib.ListN.{length, drop, length-drop, drop_of_length-le}
use lib.Seq.{take_all, take-append-le, drop-append-le}
use borrow.Author.Tests.{eqb-true}
use Rattle.records.specs.Notation.{listed, total}
use Rattle.records.specs.Records.{storey_kind, storey_values, Survey}
use Rattle.records.specs.declared.Storey.{Storey}
use Rattle.records.specs.declared.Member.{Member}
use Rattle.records.specs.declared.Kind.TheVariants.{B}
use Rattle.format.specs.Lines.{line_size, member_size, header_at}
use Rattle.format.specs.Text.{line_text, member_text}
use Rattle.format.proofs.LineText.{header-text, storey-text, member-text}
use Rattle.reading.specs.Survey.{form_of, line_start, members_before, storey, member_start, member, lines_fault, survey_fault, first_members, survey_in, accepted, survey}
use Rattle.reading.proofs.Accepted.{header-clean, lines_clear, storey-clean, member-clean, nothing-after}
use Rattle.reading.proofs.Numbers.{form-is, length-listed, length-members}
use Rattle.reading.proofs.Passed.{total-all, of-accepted}
use Rattle.writing.specs.File.{members_text, storey_text, storeys_text, file_text}

-- ---- one more record at the end
module _ (form : ℕ) where
  members-more : (ms xs : List Member) → members_text form (ms ++ xs) ≡ members_text form ms ++ members_text form xs
  unfolding members_text
  members-more [] xs = refl
  members-more (m ∷ ms) xs = rw (members-more ms xs) (sym (append_assoc (member_text form m) (members_text form ms) (members_text form xs)))

  module _ (st : Storey) (xs : List Member) (e : st.count ≡ length xs) where
    storeys-more : (ss : List Storey) (ms : List Member) → total (λ (t : Storey). t.count) ss ≡ length ms → storeys_text form (ss ++ (st ∷ [])) (ms ++ xs) ≡ storeys_text form ss ms ++ (line_text (storey_kind form) (storey_values form st) ++ members_text form xs)
    unfolding storey_text storeys_text total
    storeys-more [] [] h = rw (take_all st.count xs (omega arith)) (simp append-nil)
    storeys-more [] (m ∷ ms) h = let z : ⊥ = omega arith in absurd z
    storeys-more (x ∷ ss) ms h =
        let l : x.count ≤ length ms = omega arith in
        rw (take-append-le x.count ms xs l, drop-append-le x.count ms xs l, storeys-more ss (drop x.count ms) (omega (arith, length-drop x.count ms)))
        (simp append_assoc)

-- ---- the lines after the B line of an accepted file with n storeys
module _ (form : ℕ) (s : List ℕ) (srows mrows n : ℕ) (z : (lines_fault form s srows mrows n).number ≡ 0) where
  members-text : (i c : ℕ) → i < n → c ≤ (storey form s i).count → drop (member_start form s i 0) s ≡ members_text form (listed (member form s i) c) ++ drop (member_start form s i c) s
  unfolding listed members_text
  members-text i zero h l = refl
  members-text i (suc c) h l =
      let p : member_start form s i c + member_size form ≡ member_start form s i (suc c) = omega arith in
      members-text i c h (omega arith)
      ∙ rw (member-text form s (member_start form s i c) (member-clean form s srows mrows n z i h c l), p, members-more form (listed (member form s i) c) (member form s i c ∷ [])) (simp (append_assoc, append-nil))

  storeys-text : (i : ℕ) → i ≤ n → drop (line_size B) s ≡ storeys_text form (listed (storey form s) i) (first_members form s i) ++ drop (line_start form i (members_before form s i)) s
  unfolding listed first_members members_before storeys_text
  storeys-text zero h = let p : line_start form 0 0 ≡ line_size B = omega arith in rw p
  storeys-text (suc i) h =
      let p : line_start form i (members_before form s i) + line_size (storey_kind form) ≡ member_start form s i 0 = omega arith in
      let q : member_start form s i (storey form s i).count ≡ line_start form (suc i) (members_before form s i + (storey form s i).count) = omega arith in
      storeys-text i (omega arith)
      ∙ rw (
        storey-text form s (line_start form i (members_before form s i)) (storey-clean form s srows mrows n z i h),
        p,
        members-text i (storey form s i).count h (le_refl _),
        q,
        storeys-more form (storey form s i) (listed (member form s i) (storey form s i).count) (sym (length-listed (member form s i) (storey form s i).count)) (listed (storey form s) i) (first_members form s i) (total-all form s i ∙ sym (length-members form s i)),
      )
      (simp append_assoc)

  lines-text : drop (line_size B) s ≡ storeys_text form (listed (storey form s) n) (first_members form s n)
  lines-text = storeys-text n (le_refl _) ∙ rw (drop_of_length-le s (nothing-after form s srows mrows n z)) (simp append-nil)

-- ---- the file
module _ (s : List ℕ) (srows mrows : ℕ) (z : (survey_fault s srows mrows).number ≡ 0) where
  abbrev n : ℕ
  n = (header_at (form_of s) s 0).count

  file-text : s ≡ file_text (survey_in (form_of s) s n)
  unfolding file_text
  file-text =
      header-text (form_of s) s 0 (header-clean s srows mrows z)
      ∙ rw (form-is (form_of s) s 0, lines-text (form_of s) s srows mrows n (lines_clear s srows mrows z))

-- writing what was read gives the bytes
pub resent : (s : List ℕ) (srows mrows : ℕ) (a : Survey) → survey s srows mrows ≡ accepted a → s ≡ file_text a
unfolding survey
resent s srows mrows a e =
    let q = of-accepted (eqb (survey_fault s srows mrows).number 0) _ a _ _ e in
    rw q.1 at (file-text s srows mrows (eqb-true _ 0 q.0))
