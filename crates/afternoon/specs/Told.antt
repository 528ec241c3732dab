-- The answers to a change of a register, and to an inquiry or a debit.
use Rattle.std.specs.Prelude.{Some, None, Ok, Err, Option, Result}
use Rattle.denials.specs.declared.Denial.{Denial}
use Rattle.claims.specs.declared.codes.ResultCode.{ResultCode}
use Rattle.afternoon.specs.declared.commands.Answer.{Answer}
use Rattle.afternoon.specs.declared.commands.Answer.TheVariants as answer

abbrev pub change_told : Option (Result (Unit {0}) Denial) → Answer
change_told None = answer.Absent
change_told (Some (Ok done)) = answer.Done
change_told (Some (Err d)) = answer.Denied d

abbrev pub code_told : Result ResultCode Denial → Answer
code_told (Ok k) = answer.Code k
code_told (Err d) = answer.Denied d
