use Rattle.std.proofs.Common.{◌≡◌, ap, ◌∙◌, rules}
use Rattle.zengin.specs.Judged.{passed}
use Rattle.zengin.proofs.Judging.{check_passes, check_lawful, check_first, placed}
use Rattle.zengin.proofs.Naming.{first_named}
use Rattle.zengin.proofs.check.check.Goals as goal

pub returns : goal.returns
returns c =
    let b = c.args.file.now in
    let s = c.summary.result in
    let is = c.summary.ensures.answer in
    let r = c.map.result in
    let e : r ≡ passed s = search rules in
    let first = check_first b s is r e in
    record { answer = e ∙ ap passed is; passes = check_passes b s is r e; lawful = check_lawful b s is r e; first = first; named = λ d n. e ∙ ap passed (first_named b s is d n); placed = λ d p. placed b d (first d p) }
