use Rattle.writing.proofs.Parts.{fields-fit, line-put}
use Rattle.writing.proofs.lines.put_line.Goals as goal

pub put_numbers-requires : goal.put_numbers-requires
put_numbers-requires c = let a = c.args in fields-fit a.kind a.values.now _ _ c.requires _ c.tag_byte.ensures c.text.ensures

pub returns : goal.returns
returns c = let a = c.args in line-put a.kind a.values.now _ _ c.requires _ c.tag_byte.ensures c.text.ensures _ _ c.put_numbers.ensures c.text-2.ensures
