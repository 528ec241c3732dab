use Rattle.examples.proofs.Marked.{marked_answered}
use Rattle.examples.proofs.marked_files_are_answered.Goals as goal

pub returns : goal.returns
returns c = marked_answered
