use Rattle.std.proofs.Common.{vec_items, ◌∙◌}
use Rattle.hosts.specs.SheetsLemmas as sheets
use Rattle.hosts.proofs.sheet.SheetHost.inquire.Goals as goal

pub index-requires : goal.index-requires
index-requires c = sheets.inside (vec_items c.args.self.now.rows) _ _ c.in-Some.ensures.within c.args.self.now.rows.ok.0

pub returns-in_default : goal.returns-in_default
returns-in_default c = (sheets.missing (vec_items c.args.self.now.rows) _ _ c.terms.ensures.value c.in_default.ensures.value).0

pub returns : goal.returns
returns c = c.result.ensures ∙ sheets.says (vec_items c.args.self.now.rows) _ _ c.terms.ensures.value _ _ c.in-Some.ensures.value c.in-Some.ensures.within c.index.ensures
