use Rattle.zengin.proofs.Judging.{passes_lawful, lawful_passes, denies_first}
use Rattle.zengin.proofs.Naming.{first_named}
use Rattle.zengin.proofs.check.summary.Goals as goal

pub returns : goal.returns
returns c =
    let b = c.args.file.now in
    let r = c.figures_of.result in
    let is = c.figures_of.ensures in
    record { answer = is; passes = passes_lawful b r is; lawful = lawful_passes b r is; first = denies_first b r is; named = first_named b r is }
