use Rattle.std.proofs.Common.{◌≡◌, ◌+◌, is_some, sym, ap, ◌∙◌, rules}
use Rattle.std.specs.Prelude.{option_map}
use Rattle.records.specs.Layouts.{covers, covered_by}
use Rattle.records.proofs.Places.{from_place}
use Rattle.records.proofs.Tiles.{column_covered, tables_tile}
use Rattle.records.proofs.layouts.field_covering.Goals as goal

pub returns : goal.returns
returns c =
    let more : c.map.result ≡ option_map (λ i. i + 1) c.covering_index.result = search rules in
    let is =
    more
    ∙ ap (option_map (λ i. i + 1)) c.covering_index.ensures.value
    ∙ sym (from_place (λ f. covers f c.args.column) 1 c.layout.result.now)
    ∙ ap (covered_by c.args.column 1) c.layout.ensures in
    record { answer = is; covers = λ low high. ap is_some is ∙ column_covered c.args.sort c.args.column low high; tiles = tables_tile c.args.sort }
