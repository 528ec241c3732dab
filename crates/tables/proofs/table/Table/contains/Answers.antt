use Rattle.std.proofs.Common.{◌∙◌}
use Rattle.tables.proofs.Tabling as tabling
use Rattle.tables.proofs.table.Table.contains.Goals as goal

pub returns : goal.returns
returns g c = c.is_some.ensures ∙ tabling.listed_there g.R.Row.same g.R.Row.wide _ _ _ c.position.ensures.value
