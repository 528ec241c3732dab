use Rattle.std.proofs.Common.{rules, tests, length, filter, map, refl, ◌∙◌}
use Rattle.std.proofs.lemmas.Fn.{fold_over, serves_by, fronts}
use Rattle.std.proofs.lemmas.Iterator.{YieldsList-from_slice}
use Rattle.std.proofs.lemmas.Iterator.Consumers.{YieldsList-so_far, YieldsList-turn}
use Rattle.std.proofs.lemmas.List.{map_push}
use Rattle.carrier.specs.Carrier.{is_kept, is_line_end}
use Rattle.carrier.proofs.Kept.{Front, Turn, Walk, kept_more, room}
use Rattle.carrier.proofs.fill.Goals as goal

pub fold-requires-clause-callable : goal.fold-requires-clause-callable
fold-requires-clause-callable c = serves_by _ (λ xs q. Front c.args.out.now (filter is_kept (map (λ y. y.now) xs)) q.1)
    (λ xs q x v j r.
    let t : Turn (is_line_end x.now) x.now q.1 v.1 = search (rules, tests) in
    rw (map_push (λ y. y.now) xs x) (kept_more c.args.out.now (map (λ y. y.now) xs) x.now q.1 v.1 j t))
    _ _ _ _ (λ k. (refl, refl)) (λ xs t q x u y e j.
    let chain = YieldsList-from_slice c.args.body.now (cc) in
    let r = room c.args.body.now c.args.out.now _ (length xs) x.now q.1 c.requires j (YieldsList-so_far chain xs t y) (YieldsList-turn chain xs t y _ u x refl e) in
    search rules)

pub returns : goal.returns
returns c =
    let k = fold_over fronts (λ y. y.now) _ (Walk c.args.out.now _) _ (λ ys a x b f' j k.
    let t : Turn (is_line_end x.now) x.now a b = search (rules, tests) in
    ((kept_more c.args.out.now ys x.now a b j.0 t, t.0 ∙ j.1), search rules))
    _ _ _ _ (YieldsList-from_slice c.args.body.now (cc)).runs ((λ k. (refl, refl)), refl) c.fold.ensures.ran in
    record { same_reference = k.1; bytes = (k.0 c.requires).1 }
