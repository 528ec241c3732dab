use Rattle.std.proofs.Common.{sym, ◌∙◌}
use Rattle.zengin.proofs.Grouping.{group_asks, group_only}
use Rattle.zengin.proofs.groups.group_closed_by.Goals as goal

pub returns : goal.returns
returns c =
    let is = c.closed_group.ensures in
    record {
      answer = is;
      asks = λ s n g at few. is ∙ group_asks c.args.file.now c.args.trailer s n g at few;
      only = λ g lawful e. group_only c.args.file.now c.args.trailer g lawful (sym is ∙ e);
    }
