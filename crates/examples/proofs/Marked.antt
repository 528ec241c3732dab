-- The rules are computed on each marked file, and what they answer is what the list says.
use Rattle.std.proofs.Common.{◌≡◌, List, [], ◌∷◌, map, Ok, Err, Result, refl, subst}
use Rattle.std.specs.List.{AllByRecursion}
use Rattle.denials.specs.declared.Denial.{Denial}
use Rattle.denials.specs.Denials.{told}
use Rattle.records.specs.Fields.{Bytes, first_wrong_byte, number}
use Rattle.zengin.specs.declared.totals.Figures.{Figures}
use Rattle.zengin.specs.Judged.{summed}
use Rattle.zengin.proofs.Judging.{passes_lawful, denies_first}
use Rattle.examples.specs.Marked.{Answer, lawful, denied, Marked, marked, Answered, MarkedAnswered}

-- what the check's answer says of a file
abbrev answer_of : Result Figures Denial → Answer
answer_of (Ok figures) = lawful
answer_of (Err d) = denied (told d).number (told d).layer (told d).«record» (told d).column

by_result : (b : Bytes) (r : Result Figures Denial) → r ≡ summed b → Answered b (answer_of r)
by_result b (Ok figures) e = record { figures = figures; asking = passes_lawful b (Ok figures) e figures refl }
by_result b (Err d) e = record { denial = d; first = denies_first b (Err d) e d refl; tells_so = refl }

each : (ms : List Marked) → map (λ m. answer_of (summed m.file)) ms ≡ map (λ m. m.answer) ms → AllByRecursion (λ m. Answered m.file m.answer) ms
each [] e = tt
each (m ∷ ms) e =
    let here : answer_of (summed m.file) ≡ m.answer = cc in
    let later : map (λ m. answer_of (summed m.file)) ms ≡ map (λ m. m.answer) ms = cc in
    (subst (Answered m.file) here (by_result m.file (summed m.file) refl), each ms later)

pub marked_answered : MarkedAnswered
unfolding MarkedAnswered first_wrong_byte number
marked_answered = each marked refl
