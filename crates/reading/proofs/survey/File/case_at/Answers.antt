use Rattle.format.proofs.Held.{case-held}
use Rattle.reading.proofs.survey.File.case_at.Goals as goal

pub returns : goal.returns
returns c = case-held c.args.self.now.bytes.now c.args.at c.sound_fields.result _ c.sound_fields.ensures c.of.ensures
