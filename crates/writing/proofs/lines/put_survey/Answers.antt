use Rattle.checks.specs.RowChecks.{records_of}
use Rattle.columns.proofs.Written.{both-written, part-fits, after-fits}
use Rattle.writing.proofs.Parts.{file-parts}
use Rattle.writing.proofs.lines.put_survey.Goals as goal

pub put_header-requires : goal.put_header-requires
put_header-requires c =
    let s = c.args.survey.now in
    part-fits _ _ c.args.writer.now (rw (file-parts (records_of s)) at c.requires.1)

pub put_storeys-requires : goal.put_storeys-requires
put_storeys-requires c =
    let s = c.args.survey.now in
    let room = rw (file-parts (records_of s)) at c.requires.1 in
    rw c.requires.0 (after-fits _ _ _ _ room c.put_header.ensures)

pub returns : goal.returns
returns c =
    let s = c.args.survey.now in
    rw (file-parts (records_of s)) (both-written _ _ _ _ _ c.put_header.ensures (rw c.requires.0 at c.put_storeys.ensures))
