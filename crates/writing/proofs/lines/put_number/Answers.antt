use Rattle.writing.proofs.Parts.{number_put, compression-put, tension-put}
use Rattle.writing.proofs.lines.put_number.Goals as goal

pub returns-then-not-force : goal.returns-then-not-force
returns-then-not-force c = let a = c.args in number_put a.force a.v _ _ c.requires c.if-not-force.true c.field.ensures.written

pub returns-then-v-lt-ZERO_FORCE : goal.returns-then-v-lt-ZERO_FORCE
returns-then-v-lt-ZERO_FORCE c = let a = c.args in tension-put a.force a.v _ _ c.requires c.if-not-force.false c.if-v-lt-ZERO_FORCE.true c.field-then-v-lt-ZERO_FORCE.ensures.written

pub returns-else-v-lt-ZERO_FORCE : goal.returns-else-v-lt-ZERO_FORCE
returns-else-v-lt-ZERO_FORCE c = let a = c.args in compression-put a.force a.v _ _ c.requires c.if-not-force.false c.if-v-lt-ZERO_FORCE.false c.field-else-v-lt-ZERO_FORCE.ensures.written
