use Rattle.std.proofs.Common.{sym}
use Rattle.records.proofs.Rows.{numbered_sound}
use Rattle.records.proofs.fields.read_field.Goals as goal

pub read-requires : goal.read-requires
read-requires c = numbered_sound c.args.sort c.args.number c.in-Some.field (sym c.in-Some.ensures.value)
