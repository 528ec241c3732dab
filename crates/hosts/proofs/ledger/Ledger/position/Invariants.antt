use Rattle.std.proofs.Common.{◌≡◌, drop, vec_items}
use Rattle.std.specs.List.{position_from}
use Rattle.hosts.specs.Ledgers.{of_account}
use Rattle.hosts.proofs.ledger.Ledger.position.Given as goal

abbrev pub invariant-loop-i : goal.invariant-loop-i
invariant-loop-i l = position_from (of_account l.account) 0 (vec_items l.self.rows) ≡ position_from (of_account l.account) l.i (drop l.i (vec_items l.self.rows))
