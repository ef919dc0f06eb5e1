-- What the generator prints at a place is the library's entry there.
use mathlib.Core.Path.{sym, ◌∙◌}
use Rattle.site_table.specs.Same.{SameEntry}

pub same-entry : SameEntry
same-entry k printed held p h = p.value ∙ sym h.value
