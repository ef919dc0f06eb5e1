use Rattle.columns.proofs.Written.{both-written, part-fits, after-fits}
use Rattle.format.specs.Text.{cases_text}
use Rattle.writing.proofs.Parts.{old-parts, four-parts}
use Rattle.writing.proofs.lines.put_member.Goals as goal

pub put_line-requires : goal.put_line-requires
put_line-requires c = rw (c.values.ensures, c.in_case.ensures) (rw (old-parts c.args.m.now _ c.in-Old.is) at c.requires)

pub put_line-requires-in-FourCases : goal.put_line-requires-in-FourCases
put_line-requires-in-FourCases c =
    let a = c.args in
    rw c.values-in-FourCases.ensures (part-fits _ (cases_text a.m.now 0 4) a.writer.now (rw (four-parts a.m.now _ c.in-FourCases.is) at c.requires))

pub put_cases-requires : goal.put_cases-requires
put_cases-requires c =
    after-fits _ _ _ _ (rw (four-parts c.args.m.now _ c.in-FourCases.is) at c.requires) (rw c.values-in-FourCases.ensures at c.put_line-in-FourCases.ensures)

pub returns-in-Old : goal.returns-in-Old
returns-in-Old c = rw (old-parts c.args.m.now _ c.in-Old.is) (rw (c.values.ensures, c.in_case.ensures) at c.put_line.ensures)

pub returns-in-FourCases : goal.returns-in-FourCases
returns-in-FourCases c =
    rw (four-parts c.args.m.now _ c.in-FourCases.is)
    (both-written _ _ _ _ _ (rw c.values-in-FourCases.ensures at c.put_line-in-FourCases.ensures) c.put_cases.ensures)
