-- The bytes that unpacking keeps, written one by one.
use Rattle.std.proofs.Common.{◌≡◌, ℕ, ◌+◌, ◌<◌, ◌≤◌, Bool, true, false, not, cond, [], ◌∷◌, ◌++◌, length, get_or, take, drop, filter, set, sym, ap, ◌∙◌, arith, MutBor}
use Rattle.std.specs.Bool.{MatchBool}
use Rattle.std.proofs.lemmas.List.{append-nil, length-append, length-drop, length_push, take-append-drop}
use Rattle.std.proofs.lemmas.List.Elements.{filter-append}
use Rattle.std.proofs.lemmas.List.Filters.{length-filter_more}
use Rattle.records.specs.Fields.{Bytes}
use Rattle.carrier.specs.Carrier.{is_line_end, is_kept, over}
use Rattle.carrier.proofs.Buffers.{over_push}

-- a place, and a buffer with these bytes over the front of it, if it has room for them
abbrev pub Front : Bytes → Bytes → ℕ × MutBor Bytes → Type 0
Front old new a = length new ≤ length old → (a.0 ≡ length new) × (a.1.now ≡ over new old)

-- a byte that is passed by, or put at the place, in the same buffer
abbrev pub Turn : Bool → ℕ → ℕ × MutBor Bytes → ℕ × MutBor Bytes → Type 0
Turn passed x a b = (b.1.ghost_name ≡ a.1.ghost_name) × MatchBool passed ((b.0 ≡ a.0) × (b.1.now ≡ a.1.now)) ((b.0 ≡ a.0 + 1) × (b.1.now ≡ set a.1.now a.0 x))

-- the same buffer all the while
abbrev pub Walk : Bytes → ℕ → Bytes → ℕ × MutBor Bytes → Type 0
Walk old name ys a = Front old (filter is_kept ys) a × (a.1.ghost_name ≡ name)

turn : (old new : Bytes) (passed : Bool) (x : ℕ) (a b : ℕ × MutBor Bytes) → Front old new a → Turn passed x a b → Front old (new ++ cond (not passed) (x ∷ []) []) b
turn old new true x a b j t = rw (append-nil new) (λ room. (t.1.0 ∙ (j room).0, t.1.1 ∙ (j room).1))
turn old new false x a b j t = λ room.
    let one = length_push new x in
    let here = j (omega (arith, one, room)) in
    (omega (arith, t.1.0, here.0, one), t.1.1 ∙ (λ i. set (here.1 i) (here.0 i) x) ∙ over_push new old x (omega (arith, one, room)))

-- one byte more of a walk
pub kept_more : (old ys : Bytes) (x : ℕ) (a b : ℕ × MutBor Bytes) → Front old (filter is_kept ys) a → Turn (is_line_end x) x a b → Front old (filter is_kept (ys ++ x ∷ [])) b
kept_more old ys x a b j t = rw (filter-append is_kept ys (x ∷ [])) (turn old (filter is_kept ys) (is_line_end x) x a b j t)

-- a byte that is kept has room
pub room : (all old ys : Bytes) (n x : ℕ) (a : ℕ × MutBor Bytes) → length (filter is_kept all) ≤ length old → Front old (filter is_kept ys) a → ys ≡ take n all → (n < length all) × (x ≡ get_or all n x) → is_line_end x ≡ false → a.0 < length a.1.now
room all old ys n x a fits j e t kept =
    let front = filter is_kept ys in
    let more = length-filter_more is_kept all n x t.0 in
    let one : ◌≡◌ {A = ℕ} (cond (is_kept (get_or all n x)) 1 0) 1 = (λ i. cond (is_kept (sym t.1 i)) 1 0) ∙ ap (λ b. cond (not b) 1 0) kept in
    let so_far : length front ≡ length (filter is_kept (take n all)) = ap (λ l. length (filter is_kept l)) e in
    let whole : length (filter is_kept all) ≡ length (filter is_kept (take (n + 1) all)) + length (filter is_kept (drop (n + 1) all)) =
    ap (λ l. length (filter is_kept l)) (sym (take-append-drop (n + 1) all)) ∙ ap length (filter-append is_kept (take (n + 1) all) (drop (n + 1) all)) ∙ length-append (filter is_kept (take (n + 1) all)) (filter is_kept (drop (n + 1) all)) in
    let here = j (omega (arith, more, one, so_far, whole, fits)) in
    let long : length a.1.now ≡ length front + length (drop (length front) old) = ap length here.1 ∙ length-append front (drop (length front) old) in
    omega (arith, here.0, more, one, so_far, whole, fits, long, length-drop (length front) old)
