-- Bytes written one after the other over the front of a buffer.
use Rattle.std.proofs.Common.{◌≡◌, ℕ, ◌+◌, ◌<◌, [], ◌∷◌, ◌++◌, length, get_or, drop, set, sym, refl, ap, ◌∙◌}
use Rattle.std.proofs.lemmas.List.{append_assoc, drop_at, drop-drop, drop_more, length-append, length_push, set_at, take_at}
use Rattle.records.specs.Fields.{Bytes}
use Rattle.carrier.specs.Carrier.{over, put}

-- one byte more
pub over_push : (new old : Bytes) (x : ℕ) → length new < length old → set (over new old) (length new) x ≡ over (new ++ x ∷ []) old
over_push new old x h =
    let rest = drop_more old (length new) 0 h in
    let long = length_push new x in
    rw rest (set_at new (get_or old (length new) 0) (drop (length new + 1) old) x (length new) refl ∙ sym (rw long (append_assoc new (x ∷ []) (drop (length new + 1) old))))

-- some bytes more
pub over_put : (new more old : Bytes) (at : ℕ) → length new ≡ at → put at more (over new old) ≡ over (new ++ more) old
over_put new more old at here =
    let beyond = ap (drop (length more)) (drop_at new (drop (length new) old) at here) ∙ drop-drop (length more) (length new) old ∙ ap (λ n. drop n old) (sym (length-append new more)) in
    (λ i. take_at new (drop (length new) old) at here i ++ (more ++ beyond i)) ∙ sym (append_assoc new more (drop (length (new ++ more)) old))
