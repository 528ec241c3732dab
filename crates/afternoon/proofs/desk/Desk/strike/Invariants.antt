use Rattle.afternoon.specs.contracts.desk.fn.Desk.strike.change as closure
use Rattle.afternoon.specs.Staff.{strike_in}
use Rattle.afternoon.proofs.desk.Desk.strike.Given as goal

abbrev pub ghost-change : goal.ghost-change
ghost-change a = λ l. strike_in l (closure.captures a.change).entry
