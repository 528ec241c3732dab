use Rattle.std.proofs.Common.{◌≡◌, Some, option_map, sym, ap, ◌∙◌, arith, rules}
use Rattle.zengin.specs.Shown.{record_numbered}
use Rattle.zengin.proofs.Numbered.{shown_field_lem}
use Rattle.zengin.proofs.shown.shown_field.Goals as goal

pub returns : goal.returns
returns c =
    let x = c.in_ok-bytes.bytes.now in
    let there : Some x ≡ record_numbered c.args.file.now c.args.record = sym (ap (option_map (λ y. y.now)) c.in_ok-bytes.was) ∙ c.numbered_record.ensures in
    let inside = c.in_ok-first.ensures.inside in
    shown_field_lem c.args.file.now c.args.record c.args.number x c.if-file-ne0.false there c.in_ok-sort.sort c.in_ok-first.field-0 _ _ (search rules) c.in_ok-first.ensures.value inside (omega (arith, inside.begins)) (omega (arith, inside.begins, inside.goes))
