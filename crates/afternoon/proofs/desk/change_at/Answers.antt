use Rattle.std.proofs.Common.{slice_index_or, refl}
use Rattle.std.specs.Fn.{FnOnceReturnsAtMut}
use Rattle.afternoon.proofs.Steps as steps
use Rattle.afternoon.proofs.desk.change_at.Goals as goal

pub returns : goal.returns
returns g c =
    let x = slice_index_or c.args.registers.now c.in_ok-i.i c.index-registers-i.result in
    let call : FnOnceReturnsAtMut g.F.FnOnce c.args.change x c.change.result c.change.new.arg2 = record { shown = _; shows = refl; left = _; met = c.change.ensures; leaves = refl } in
    let h = c.requires.1.1 _ _ _ call in
    record {
      rows = steps.changed g.meaning c.args.number c.args.registers.now _ c.in_ok-i.ensures.value c.in_ok-i.ensures.within _ _ h.1;
      answer = steps.answered g.meaning c.args.number c.args.registers.now _ c.in_ok-i.ensures.value c.in_ok-i.ensures.within _ _ h.0;
    }
