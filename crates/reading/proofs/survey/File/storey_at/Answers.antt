use Rattle.records.specs.Forms.{form_number}
use Rattle.format.proofs.Held.{storey-held}
use Rattle.reading.specs.Checks.{start_of}
use Rattle.reading.proofs.survey.File.storey_at.Goals as goal

pub returns : goal.returns
returns c =
    let a = c.args.self.now in
    storey-held a.bytes.now (start_of (form_number a.form) c.args.place) c.sound_fields-vs.result (form_number a.form) _ (rw (c.line_start.ensures, c.storey_kind.ensures) at c.sound_fields-vs.ensures) c.of.ensures
