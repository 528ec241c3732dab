use Rattle.std.proofs.Common.{vec_items}
use Rattle.registers.specs.Piles.{listings}
use Rattle.books.specs.Books.{rows_of}
use Rattle.afternoon.proofs.Steps as steps
use Rattle.afternoon.proofs.desk.Desk.debit.Goals as goal

pub returns-clause-desk : goal.returns-clause-desk
returns-clause-desk c =
    let q = rows_of c.args.self.now.pile.below in
    let ls = listings (vec_items c.args.self.now.pile.layer) in
    steps.desk_debited _ c.args.terms c.in_ok-claim.ensures q ls _ _ (steps.by_rows rows_of _ _ _ _ _ _ _ c.debit.ensures.once)
