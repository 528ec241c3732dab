-- How the answers of a script print.
use Rattle.std.specs.Prelude.{ℕ, List, ◌++◌, codes}
use Rattle.std.specs.Fmt.{decimal}
use Rattle.denials.specs.Printed.{denial_text}
use Rattle.claims.specs.Printed.{code_text}
use Rattle.afternoon.specs.declared.commands.Answer.{Answer}
use Rattle.afternoon.specs.declared.commands.Answer.TheVariants as answer

abbrev pub answer_text : Answer → List ℕ
answer_text answer.Done = codes "OK"
answer_text answer.Absent = codes "NONE"
answer_text (answer.Register n) = codes "REGISTER " ++ decimal n
answer_text (answer.Code k) = codes "CODE " ++ code_text k
answer_text (answer.Taken figure) = codes "TAKEN " ++ decimal figure
answer_text (answer.Denied d) = codes "DENIED " ++ denial_text d
