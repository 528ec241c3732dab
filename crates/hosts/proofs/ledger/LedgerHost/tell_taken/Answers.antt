use Rattle.std.proofs.Common.{vec_items}
use Rattle.hosts.specs.LedgersLemmas as ledgers
use Rattle.hosts.proofs.ledger.LedgerHost.tell_taken.Goals as goal

pub returns-in_default : goal.returns-in_default
returns-in_default c = ledgers.no_figure (vec_items c.args.self.now.rows) c.args.account c.in_default.ensures.value

pub returns : goal.returns
returns c = ledgers.figure (vec_items c.args.self.now.rows) c.args.account _ _ c.in-Some.ensures.value c.index.ensures
