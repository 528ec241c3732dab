-- What each command of a script makes of what the program holds, and its answer.
use Rattle.std.specs.Prelude.{◌+◌, Bool, true, false, cond, length}
use Rattle.afternoon.specs.declared.commands.Command.{Command}
use Rattle.afternoon.specs.declared.commands.Command.TheVariants as command
use Rattle.afternoon.specs.declared.commands.Answer.{Answer}
use Rattle.afternoon.specs.declared.commands.Answer.TheVariants as answer
use Rattle.afternoon.specs.Told.{change_told, code_told}
use Rattle.afternoon.specs.Staff.{list_in, strike_in}
use Rattle.afternoon.specs.Desk.{Standing, added_to_ledger, added_to_sheet, used_bottom, put_on, taken_off, any_register, changed_at, change_answer, asked, debited, figure_of}

-- the commands that add a row or a register
abbrev pub needs_memory : Command → Bool
needs_memory (command.Ledger row) = true
needs_memory (command.Sheet row) = true
needs_memory (command.Use u) = false
needs_memory (command.Put k) = true
needs_memory command.Off = false
needs_memory (command.List n e) = false
needs_memory (command.Strike n e) = false
needs_memory (command.Inquire c) = false
needs_memory (command.Debit c) = false
needs_memory (command.Taken a) = false

abbrev pub performed : Standing → Command → Standing
performed s (command.Ledger row) = added_to_ledger row s
performed s (command.Sheet row) = added_to_sheet row s
performed s (command.Use u) = used_bottom u s
performed s (command.Put k) = put_on k s
performed s command.Off = taken_off s
performed s (command.List n e) = changed_at (λ l. list_in l e) n s
performed s (command.Strike n e) = changed_at (λ l. strike_in l e) n s
performed s (command.Inquire c) = s
performed s (command.Debit c) = debited c s
performed s (command.Taken a) = s

abbrev pub off_told : Bool → Answer
off_told b = cond b answer.Done answer.Absent

abbrev pub answer_to : Standing → Command → Answer
answer_to s (command.Ledger row) = answer.Done
answer_to s (command.Sheet row) = answer.Done
answer_to s (command.Use u) = answer.Done
answer_to s (command.Put k) = answer.Register (length s.registers + 1)
answer_to s command.Off = off_told (any_register s)
answer_to s (command.List n e) = change_told (change_answer (λ l. list_in l e) n s.registers)
answer_to s (command.Strike n e) = change_told (change_answer (λ l. strike_in l e) n s.registers)
answer_to s (command.Inquire c) = code_told (asked c s)
answer_to s (command.Debit c) = code_told (asked c s)
answer_to s (command.Taken a) = answer.Taken (figure_of a s)
