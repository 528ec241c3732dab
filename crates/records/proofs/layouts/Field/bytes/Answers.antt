use Rattle.std.proofs.Common.{◌≡◌, ◌+◌, ◌-◌, ◌≤◌, length, take, drop, ap, ◌∙◌, arith, rules}
use Rattle.records.specs.Layouts.{first, last, class, width}
use Rattle.records.specs.Fields.{wrong_from, spelled}
use Rattle.records.proofs.Columns.{wrong_cut, number_cut}
use Rattle.records.proofs.Rows.{sound_inside}
use Rattle.records.proofs.layouts.Field.bytes.Goals as goal

pub returns : goal.returns
returns c =
    let f = c.args.self in
    let x = c.args.record.now in
    let inside = sound_inside f c.requires in
    let wide : last f - (first f - 1) ≡ width f = omega (arith, inside.begins, inside.goes) in
    let within : first f + width f ≤ length x + 1 = omega (arith, inside.begins, inside.goes, inside.ends) in
    record {
      len = search rules;
      wrong = ap (λ n. wrong_from (class f) (first f) (take n (drop (first f - 1) x))) wide ∙ wrong_cut (class f) x (first f) (width f) inside.begins within;
      spelled = ap (λ n. spelled 0 (take n (drop (first f - 1) x))) wide ∙ number_cut x (first f) (width f) inside.begins within;
    }
