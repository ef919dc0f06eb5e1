use Rattle.std.proofs.Common.{◌∙◌, sym, ap, refl, Bool, ◌&&◌}
use Rattle.records.specs.Forms.{form_number}
use Rattle.records.specs.Records.{line_in_range, member_values}
use Rattle.records.specs.declared.Kind.TheVariants.{M4}
use Rattle.records.proofs.Lines.{fits-both}
use Rattle.validity.proofs.member_fits.Goals as goal

pub returns-then-cases_fit : goal.returns-then-cases_fit
returns-then-cases_fit c =
    let line = c.line_in_ranges.ensures ∙ ap (line_in_range M4) c.values.ensures in
    let both = fits-both (form_number c.args.form) c.args.m.now c.cases_fit.ensures.four c.cases_fit.result c.line_in_ranges.result c.cases_fit.ensures.value line in
    sym (ap (λ (b : Bool). b && c.line_in_ranges.result) c.if-cases_fit.true) ∙ both

pub returns-else-cases_fit : goal.returns-else-cases_fit
returns-else-cases_fit c =
    let x = line_in_range M4 (member_values c.args.m.now) in
    let both = fits-both (form_number c.args.form) c.args.m.now c.cases_fit.ensures.four c.cases_fit.result x c.cases_fit.ensures.value refl in
    c.if-cases_fit.false ∙ sym (ap (λ (b : Bool). b && x) c.if-cases_fit.false) ∙ both
