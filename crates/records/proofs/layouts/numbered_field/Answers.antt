use Rattle.std.proofs.Common.{rules, ◌≡◌}
use Rattle.records.specs.Layouts.{numbered}
use Rattle.records.proofs.Rows.{numbered_inside}
use Rattle.records.proofs.layouts.numbered_field.Goals as goal

pub returns-clause-inside : goal.returns-clause-inside
returns-clause-inside c =
    let is : c.copied.result ≡ numbered c.args.sort c.args.number = search rules in
    numbered_inside c.args.sort c.args.number c.copied.result is
