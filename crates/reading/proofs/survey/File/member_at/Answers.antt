use mathlib.Core.List.{map}
use mathlib.Core.Path.{refl, ◌∙◌}
use Rattle.std.proofs.Common.{rules, tests, ◌≡◌, ℕ, List, true}
use Rattle.std.specs.List.{range_with_len}
use Rattle.records.specs.Records.{in_cases}
use Rattle.records.specs.declared.LoadCase.{LoadCase}
use Rattle.records.specs.Forms.{form_number}
use Rattle.records.proofs.Made.{made_list}
use Rattle.format.specs.Lines.{case_start, case_at, cases_at}
use Rattle.format.proofs.Held.{old-cases-held, member-held}
use Rattle.reading.specs.Checks.{start_of}
use Rattle.reading.proofs.survey.File.member_at.Goals as goal

-- D lines 1 to 4
four-cases : (form : ℕ) (s : List ℕ) (at : ℕ) (cases : List LoadCase) → in_cases form ≡ true → cases ≡ map (λ k. case_at s (case_start at k)) (range_with_len 0 4) → cases ≡ cases_at form s at
four-cases form s at cases q e = e ∙ rw q refl

pub returns-in-Old : goal.returns-in-Old
returns-in-Old c =
    let s = c.args.self.now in
    let at = start_of (form_number s.form) c.args.place in
    let f = c.in-Old.is in
    let v = rw (c.line_start.ensures, c.member_kind.ensures) at c.sound_fields-vs.ensures in
    member-held s.bytes.now at c.sound_fields-vs.result (form_number s.form) c.of.result _ v (old-cases-held s.bytes.now at c.sound_fields-vs.result (form_number s.form) (rw f) v) (rw f c.of.ensures)

pub returns-in-FourCases : goal.returns-in-FourCases
returns-in-FourCases c =
    let s = c.args.self.now in
    let at = start_of (form_number s.form) c.args.place in
    let f = c.in-FourCases.is in
    let v = rw (c.line_start.ensures, c.member_kind.ensures) at c.sound_fields-vs.ensures in
    member-held s.bytes.now at c.sound_fields-vs.result (form_number s.form) c.with_cases.result c.from_fn-cases.result v
    (four-cases (form_number s.form) s.bytes.now at c.from_fn-cases.result (rw f)
    (made_list _ _ (λ k. case_at s.bytes.now (case_start at k)) c.from_fn-cases.result 4 c.from_fn-cases.ensures.items (λ x y q w. search (rules, tests))))
    (rw f c.with_cases.ensures)
