use Rattle.std.proofs.Common.{rules}
use Rattle.carrier.proofs.Lines.{lines_more}
use Rattle.carrier.proofs.put_lines.Goals as goal

pub loop-index-preserved : goal.loop-index-preserved
loop-index-preserved c = search (rules, lines_more)
