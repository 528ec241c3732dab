use Rattle.afternoon.specs.contracts.desk.fn.Desk.list.change as closure
use Rattle.afternoon.specs.Staff.{list_in}
use Rattle.afternoon.proofs.desk.Desk.list.Given as goal

abbrev pub ghost-change : goal.ghost-change
ghost-change a = λ l. list_in l (closure.captures a.change).entry
