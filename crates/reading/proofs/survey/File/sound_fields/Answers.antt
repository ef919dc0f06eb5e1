use Rattle.reading.proofs.Lines.{sound-read}
use Rattle.reading.proofs.survey.File.sound_fields.Goals as goal

pub unwrap-requires : goal.unwrap-requires
unwrap-requires c = let l = c.line.ensures in sound-read c.args.kind c.args.self.now.bytes.now c.args.at c.requires _ (rw (l.file, l.at, l.kind) at c.read_fields.ensures.fault)
