use Rattle.std.proofs.Common.{vec_items, ap, arith}
use Rattle.std.specs.List.{sum_by}
use Rattle.hosts.specs.Sheets.{figure}
use Rattle.hosts.specs.SheetsLemmas.{small_sum}
use Rattle.hosts.proofs.sheet.SheetHost.tell_taken.Goals as goal

pub figure_of-requires : goal.figure_of-requires
figure_of-requires c = omega (arith, ap (sum_by (figure c.args.account)) c.counted.ensures, small_sum c.args.account (vec_items c.args.self.now.rows))
